use Rattle.std.proofs.Common.{rules, subst, sym, ◌∙◌, arith}
use Rattle.std.proofs.lemmas.Int.{to_z-of_z}
use mir.Val.{SFits}
use mir.Syntax.{w64}
use Rattle.board_base.specs.Places.{IsNearPlace}
use Rattle.board_base.specs.Lattice.{centre_of}
use Rattle.cell_grid.specs.declared.frames.Frame.{Frame}
use Rattle.cell_grid.specs.Place.{InFrame}
use Rattle.separation_check.proofs.Sweeping.{rows_begun, row_begun, row_ended, rows_ended, marking_set, marking_off}
use Rattle.separation_check.proofs.sweeps.mark_swept.Goals as goal
use Rattle.separation_check.proofs.sweeps.mark_swept.Goals.{then-is_near, else-is_near}

pub rows-init : goal.rows-init
rows-init c = rows_begun _ _ _ _ _ _ c.window_near-window.ensures.each c.frame-frame.ensures.value c.frame-frame.ensures.valid c.frame-frame.ensures.sized

pub cells-init : goal.cells-init
cells-init c = row_begun _ _ _ _ _ _ c.window_near-window.ensures.each _ _ c.rows.invariant

pub is_near-requires-clause-cell : goal.is_near-requires-clause-cell
is_near-requires-clause-cell c =
    let e = c.frame-frame.ensures.value in
    let k : InFrame c.args.bench.now.frame c.cell_at-c.result = subst (λ (f : Frame). InFrame f c.cell_at-c.result) e c.cell_at-c.ensures.inside in
    subst (λ (f : Frame). IsNearPlace (centre_of f.pitch c.cell_at-c.result)) (sym e) (c.requires.centres c.cell_at-c.result k)

pub cells-preserved : goal.cells-preserved
cells-preserved c =
    let p = c.cells.invariant in
    let k = c.cell_at-c.ensures in
    elim c.if-is_near.branch [
      | then-is_near w ↦ marking_set _ _ _ _ _ _ _ _ _ _ p k.inside k.column k.row (sym c.is_near.ensures ∙ w.if-is_near.true) (w.bench-is ∙ w.set.ensures)
      | else-is_near w ↦ marking_off _ _ _ _ _ _ _ _ _ _ p k.inside k.column k.row (sym c.is_near.ensures ∙ w.if-is_near.false) w.bench-is
    ]

pub rows-preserved : goal.rows-preserved
rows-preserved c = row_ended _ _ _ _ _ _ c.window_near-window.ensures.each _ _ _ (omega (arith, c.cells-test.false)) c.cells.invariant

pub returns-clause-marks : goal.returns-clause-marks
returns-clause-marks c = λ e h.
    let d : SFits w64 c.args.d = search rules in
    simp to_z-of_z at (rows_ended _ _ _ _ _ _ c.window_near-window.ensures.each _ _ (omega (arith, c.rows-test.false)) c.rows.invariant e h)
