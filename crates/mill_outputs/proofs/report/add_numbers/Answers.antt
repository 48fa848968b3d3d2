use Rattle.std.proofs.Common.{◌≡◌, ◌++◌, ◌∷◌, [], rules, Some, slice_get, decimal, ap, sym, ◌∙◌}
use Rattle.std.proofs.lemmas.Option.{slice_get-get_or}
use Rattle.mill_outputs.proofs.ReportLaws.{one_more_number}
use Rattle.mill_outputs.proofs.report.add_numbers.Goals as goal

pub loop-k-preserved : goal.loop-k-preserved
loop-k-preserved c =
    let n = c.at.result.now in
    let here : slice_get c.args.group.now c.loop-k.k ≡ Some n = c.at.ensures in
    let added : c.extend_from_slice.new.self.items ≡ (c.loop-k.bytes.items ++ 32 ∷ []) ++ decimal n = search rules in
    one_more_number c.args.group.now c.loop-k.k n c.args.bytes.now.items _ _ here c.loop-k.invariant added
