use Rattle.std.proofs.Common.{rules, ◌<◌, ◌≤◌, List, length, get_or, ap, subst}
use Rattle.std.proofs.lemmas.Int.{to_z-of_z}
use mir.Val.{SFits}
use mir.Syntax.{w64}
use Rattle.board_base.specs.declared.places.Move.{Move}
use Rattle.side_check.proofs.StrikeLaws.{no_move, next_harmless, all_harmless, strike_found}
use Rattle.side_check.proofs.hits.first_strike.Goals as goal

pub returns-in-Some : goal.returns-in-Some
returns-in-Some c =
    let d : SFits w64 c.args.d = search rules in
    let safe : SFits w64 c.args.safe = search rules in
    let small : c.loop-m.m-index < length c.args.moves.now.items = subst (λ (xs : List Move). c.loop-m.m-index < length xs) c.deref-m-items.ensures.value c.loop-m-test.true in
    let struck = simp to_z-of_z at c.in-Some.ensures in
    strike_found c.args.bench.now c.args.d c.args.safe c.args.moves.now.items c.loop-m.m-index no_move (get_or c.deref-m-items.result.now c.loop-m.m-index no_move) c.in-Some.cell small
    (ap (λ (xs : List Move). get_or xs c.loop-m.m-index no_move) c.deref-m-items.ensures.value) (simp to_z-of_z at c.loop-m.invariant) struck.0 struck.1

pub loop-m-preserved : goal.loop-m-preserved
loop-m-preserved c =
    let d : SFits w64 c.args.d = search rules in
    let safe : SFits w64 c.args.safe = search rules in
    let small : c.loop-m.m-index < length c.args.moves.now.items = subst (λ (xs : List Move). c.loop-m.m-index < length xs) c.deref-m-items.ensures.value c.loop-m-test.true in
    simp to_z-of_z (next_harmless c.args.bench.now c.args.d c.args.safe c.args.moves.now.items c.loop-m.m-index no_move (get_or c.deref-m-items.result.now c.loop-m.m-index no_move) small
    (ap (λ (xs : List Move). get_or xs c.loop-m.m-index no_move) c.deref-m-items.ensures.value) (simp to_z-of_z at c.loop-m.invariant) (simp to_z-of_z at c.in_default.ensures))

pub returns : goal.returns
returns c =
    let d : SFits w64 c.args.d = search rules in
    let safe : SFits w64 c.args.safe = search rules in
    let all : length c.args.moves.now.items ≤ c.loop-m.m-index = subst (λ (xs : List Move). length xs ≤ c.loop-m.m-index) c.deref-m-items.ensures.value c.loop-m-test.false in
    all_harmless c.args.bench.now c.args.d c.args.safe c.args.moves.now.items c.loop-m.m-index all (simp to_z-of_z at c.loop-m.invariant)
