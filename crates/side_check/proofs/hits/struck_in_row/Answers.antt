use Rattle.std.proofs.Common.{rules, ◌≡◌, pos, ◌+ℤ◌, sym, subst, ◌∙◌, arith}
use Rattle.std.proofs.lemmas.Int.{to_z-of_z}
use mir.Val.{SFits}
use mir.Syntax.{w64}
use Rattle.cell_grid.specs.declared.frames.Frame.{Frame}
use Rattle.cell_grid.specs.Place.{InFrame}
use Rattle.side_check.specs.Struck.{is_struck}
use Rattle.side_check.proofs.StrikeLaws.{struck_inside}
use Rattle.side_check.proofs.RowLaws.{row_begun, row_next, row_found, row_ended}
use Rattle.side_check.proofs.hits.struck_in_row.Goals as goal

pub loop-x-init : goal.loop-x-init
loop-x-init c =
    let d : SFits w64 c.args.d = search rules in
    simp to_z-of_z (row_begun c.args.bench.now.frame (is_struck c.args.bench.now c.args.a c.args.b c.args.d) (struck_inside c.args.bench.now c.args.a c.args.b c.args.d) c.args.columns c.args.y c.requires.all)

pub is_struck-requires-clause-centre : goal.is_struck-requires-clause-centre
is_struck-requires-clause-centre c =
    c.requires.centres c.cell_at-c.result (subst (λ (f : Frame). InFrame f c.cell_at-c.result) c.frame-frame.ensures.value c.cell_at-c.ensures.inside)

pub loop-x-preserved : goal.loop-x-preserved
loop-x-preserved c =
    let d : SFits w64 c.args.d = search rules in
    simp to_z-of_z (row_next c.args.bench.now.frame (is_struck c.args.bench.now c.args.a c.args.b c.args.d) (struck_inside c.args.bench.now c.args.a c.args.b c.args.d) c.args.y c.loop-x.x c.cell_at-c.result
    (simp to_z-of_z at c.loop-x.invariant)
    (subst (λ (f : Frame). c.cell_at-c.result.i ≡ f.i0 +ℤ pos c.loop-x.x) c.frame-frame.ensures.value c.cell_at-c.ensures.column)
    (subst (λ (f : Frame). c.cell_at-c.result.j ≡ f.j0 +ℤ pos c.args.y) c.frame-frame.ensures.value c.cell_at-c.ensures.row)
    (sym (simp to_z-of_z at c.is_struck.ensures) ∙ c.if-is_struck.false))

pub returns-then-is_struck : goal.returns-then-is_struck
returns-then-is_struck c =
    let d : SFits w64 c.args.d = search rules in
    let row = subst (λ (f : Frame). c.cell_at-c.result.j ≡ f.j0 +ℤ pos c.args.y) c.frame-frame.ensures.value c.cell_at-c.ensures.row in (
      row,
      row_found c.args.bench.now.frame (is_struck c.args.bench.now c.args.a c.args.b c.args.d) (struck_inside c.args.bench.now c.args.a c.args.b c.args.d) c.args.y c.loop-x.x c.cell_at-c.result
          (simp to_z-of_z at c.loop-x.invariant)
          (subst (λ (f : Frame). c.cell_at-c.result.i ≡ f.i0 +ℤ pos c.loop-x.x) c.frame-frame.ensures.value c.cell_at-c.ensures.column)
          row
          (sym (simp to_z-of_z at c.is_struck.ensures) ∙ c.if-is_struck.true),
    )

pub returns : goal.returns
returns c =
    let d : SFits w64 c.args.d = search rules in
    row_ended c.args.bench.now.frame (is_struck c.args.bench.now c.args.a c.args.b c.args.d) (struck_inside c.args.bench.now c.args.a c.args.b c.args.d) c.args.columns c.args.y c.loop-x.x c.requires.all
    (omega (arith, c.loop-x-test.false)) (simp to_z-of_z at c.loop-x.invariant)
