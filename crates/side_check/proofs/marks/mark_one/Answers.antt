use Rattle.std.proofs.Common.{rules}
use Rattle.std.proofs.lemmas.Int.{to_z-of_z}
use mir.Val.{SFits}
use mir.Syntax.{w64}
use Rattle.mill_program.specs.Probes.{surface}
use Rattle.side_check.proofs.MarkLaws.{deep_marked}
use Rattle.side_check.proofs.marks.mark_one.Goals as goal

pub returns-then-is_deep : goal.returns-then-is_deep
returns-then-is_deep c =
    let d : SFits w64 c.args.d = search rules in
    let work : SFits w64 c.args.work = search rules in
    deep_marked (surface c.args.grid.now c.args.answers.now.items) c.args.work c.args.d c.args.m.now c.under.result c.under-then-is_deep.result c.args.bench.now c.mark_swept.new.bench
    c.under.ensures c.under-then-is_deep.ensures ((simp to_z-of_z at c.is_deep.ensures).0 c.if-is_deep.true) c.mark_swept.ensures.rest (simp to_z-of_z at c.mark_swept.ensures.marks)
