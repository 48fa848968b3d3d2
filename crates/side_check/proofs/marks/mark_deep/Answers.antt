use Rattle.std.proofs.Common.{rules, ◌<◌, ◌≤◌, List, length, get_or, ap, subst}
use Rattle.std.proofs.lemmas.Int.{to_z-of_z}
use mir.Val.{SFits}
use mir.Syntax.{w64}
use Rattle.board_base.specs.declared.places.Move.{Move}
use Rattle.mill_program.specs.Probes.{surface}
use Rattle.side_check.proofs.StrikeLaws.{no_move}
use Rattle.side_check.proofs.MarkLaws.{none_marked, next_marked, all_marked}
use Rattle.side_check.proofs.marks.mark_deep.Goals as goal

pub loop-m-init : goal.loop-m-init
loop-m-init c =
    let d : SFits w64 c.args.d = search rules in
    let work : SFits w64 c.args.work = search rules in
    simp to_z-of_z (none_marked (surface c.args.grid.now c.args.answers.now.items) c.args.work c.args.d c.args.bench.now)

pub loop-m-preserved : goal.loop-m-preserved
loop-m-preserved c =
    let d : SFits w64 c.args.d = search rules in
    let work : SFits w64 c.args.work = search rules in
    let small : c.loop-m.m-index < length c.args.moves.now.items = subst (λ (xs : List Move). c.loop-m.m-index < length xs) c.deref-m-items.ensures.value c.loop-m-test.true in
    simp to_z-of_z (next_marked (surface c.args.grid.now c.args.answers.now.items) c.args.work c.args.d c.args.bench.now c.args.moves.now.items c.loop-m.m-index no_move (get_or c.deref-m-items.result.now c.loop-m.m-index no_move)
    c.loop-m.bench c.mark_one.new.bench small (ap (λ (xs : List Move). get_or xs c.loop-m.m-index no_move) c.deref-m-items.ensures.value) (simp to_z-of_z at c.loop-m.invariant) (simp to_z-of_z at c.mark_one.ensures))

pub returns : goal.returns
returns c =
    let d : SFits w64 c.args.d = search rules in
    let work : SFits w64 c.args.work = search rules in
    let all : length c.args.moves.now.items ≤ c.loop-m.m-index = subst (λ (xs : List Move). length xs ≤ c.loop-m.m-index) c.deref-m-items.ensures.value c.loop-m-test.false in
    all_marked (surface c.args.grid.now c.args.answers.now.items) c.args.work c.args.d c.args.bench.now c.args.moves.now.items c.loop-m.m-index c.loop-m.bench all (simp to_z-of_z at c.loop-m.invariant)
