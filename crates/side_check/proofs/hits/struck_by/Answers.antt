use Rattle.std.proofs.Common.{rules}
use Rattle.std.proofs.lemmas.Int.{to_z-of_z}
use mir.Val.{SFits}
use mir.Syntax.{w64}
use Rattle.side_check.proofs.StrikeLaws.{struck_match}
use Rattle.side_check.proofs.hits.struck_by.Goals as goal

pub returns : goal.returns
returns c =
    let d : SFits w64 c.args.d = search rules in
    let safe : SFits w64 c.args.safe = search rules in
    struck_match c.args.bench.now c.args.d c.args.safe c.args.m.now c.under.result c.under-2.result c.first_struck.result c.under.ensures c.under-2.ensures
    ((simp to_z-of_z at c.is_low.ensures).0 c.if-not-is_low.false) (simp to_z-of_z at c.first_struck.ensures)
