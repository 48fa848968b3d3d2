use Rattle.std.proofs.Common.{rules, arith}
use Rattle.std.proofs.lemmas.Int.{to_z-of_z}
use mir.Val.{SFits}
use mir.Syntax.{w64}
use Rattle.side_check.specs.Struck.{is_struck}
use Rattle.side_check.proofs.StrikeLaws.{struck_inside, window_struck}
use Rattle.side_check.proofs.RowLaws.{rows_begun, rows_next, rows_found, rows_ended}
use Rattle.side_check.proofs.hits.first_struck.Goals as goal

pub loop-y-init : goal.loop-y-init
loop-y-init c =
    let d : SFits w64 c.args.d = search rules in
    let all = window_struck c.args.bench.now c.frame.result c.args.a c.args.b c.args.d c.window_near-window.result c.frame.ensures.value (simp to_z-of_z at c.window_near-window.ensures.each) in
    simp to_z-of_z (rows_begun c.args.bench.now.frame (is_struck c.args.bench.now c.args.a c.args.b c.args.d) (struck_inside c.args.bench.now c.args.a c.args.b c.args.d) c.window_near-window.result.rows (λ e t. (all e t).row))

pub struck_in_row-requires-clause-all : goal.struck_in_row-requires-clause-all
struck_in_row-requires-clause-all c =
    let d : SFits w64 c.args.d = search rules in
    let all = window_struck c.args.bench.now c.frame.result c.args.a c.args.b c.args.d c.window_near-window.result c.frame.ensures.value (simp to_z-of_z at c.window_near-window.ensures.each) in
    simp to_z-of_z (λ e t. (all e t).column)

pub returns-in-Some : goal.returns-in-Some
returns-in-Some c =
    let d : SFits w64 c.args.d = search rules in
    let found = simp to_z-of_z at c.in-Some.ensures in
    rows_found c.args.bench.now.frame (is_struck c.args.bench.now c.args.a c.args.b c.args.d) (struck_inside c.args.bench.now c.args.a c.args.b c.args.d) c.loop-y.y c.in-Some.c (simp to_z-of_z at c.loop-y.invariant)
    found.0 found.1

pub loop-y-preserved : goal.loop-y-preserved
loop-y-preserved c =
    let d : SFits w64 c.args.d = search rules in
    simp to_z-of_z (rows_next c.args.bench.now.frame (is_struck c.args.bench.now c.args.a c.args.b c.args.d) (struck_inside c.args.bench.now c.args.a c.args.b c.args.d) c.loop-y.y (simp to_z-of_z at c.loop-y.invariant)
    (simp to_z-of_z at c.in_default.ensures))

pub returns : goal.returns
returns c =
    let d : SFits w64 c.args.d = search rules in
    let all = window_struck c.args.bench.now c.frame.result c.args.a c.args.b c.args.d c.window_near-window.result c.frame.ensures.value (simp to_z-of_z at c.window_near-window.ensures.each) in
    rows_ended c.args.bench.now.frame (is_struck c.args.bench.now c.args.a c.args.b c.args.d) (struck_inside c.args.bench.now c.args.a c.args.b c.args.d) c.window_near-window.result.rows c.loop-y.y (λ e t. (all e t).row)
    (omega (arith, c.loop-y-test.false)) (simp to_z-of_z at c.loop-y.invariant)
