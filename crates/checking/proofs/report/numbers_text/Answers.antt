use Rattle.std.proofs.Common.{◌≡◌, ◌++◌, ◌∷◌, [], rules, Some, slice_get, decimal}
use Rattle.std.specs.Prelude.{string_bytes}
use Rattle.std.proofs.lemmas.List.{append_assoc}
use Rattle.mill_outputs.proofs.ReportLaws.{one_more_number}
use Rattle.checking.proofs.report.numbers_text.Goals as goal

pub loop-k-preserved : goal.loop-k-preserved
loop-k-preserved c =
    let n = c.at.result.now in
    let here : slice_get c.args.group.now c.loop-k.k ≡ Some n = c.at.ensures in
    let added : string_bytes c.push_str.new.self ≡ (string_bytes c.loop-k.text ++ 32 ∷ []) ++ decimal n = search (rules, append_assoc) in
    one_more_number c.args.group.now c.loop-k.k n [] _ _ here c.loop-k.invariant added
