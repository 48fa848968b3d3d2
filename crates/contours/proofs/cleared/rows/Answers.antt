use Rattle.std.proofs.Common.{◌≡◌, ℕ, ◌+◌, ◌*◌, ◌&&◌, Bool, set, sym, ap, ◌∙◌, arith}
use Rattle.std.proofs.Math.Nat.{mul_comm}
use Rattle.board_base.specs.declared.places.Cell.{Cell}
use Rattle.cell_grid.specs.declared.frames.Frame.{Frame}
use Rattle.cell_grid.specs.Place.{place_of}
use Rattle.contours.specs.Contour.{added_to}
use Rattle.contours.specs.Rows.{is_cleared_row, is_cleared_column}
use Rattle.contours.proofs.Traces.{one_traced, its_frame, zero_more}
use Rattle.contours.proofs.RowLaws.{row_is, same_allowed, all_cleared}
use Rattle.contours.proofs.cleared.rows.Goals as goal

pub cells-init : goal.cells-init
cells-init c = (zero_more _ _ _ _ _ _ c.rows.invariant, c.is_cleared_row-cleared.ensures ∙ ap (is_cleared_row c.args.stride c.args.inner) c.west_of.ensures.row)

pub cells-preserved : goal.cells-preserved
cells-preserved c =
    let p = c.cells.invariant.0 in
    let f = c.frame-frame.result in
    let g = c.cells.bench in
    let d = c.cell_at-c.result in
    let on = c.is_cleared-on.result in
    let n = c.rows.y * f.width + c.cells.x in
    let next : c.rows.y * f.width + (c.cells.x + 1) ≡ n + 1 = omega arith in
    let spot : place_of g.frame d ≡ n = ap (λ (h : Frame). place_of h d) (its_frame _ _ _ _ _ _ p) ∙ c.cell_at-c.ensures.place in
    let row = c.cells.invariant.1 ∙ ap (is_cleared_row c.args.stride c.args.inner) (sym c.cell_at-c.ensures.row) in
    let tested = c.is_cleared-on.ensures ∙ ap (λ (m : Cell → Bool). c.is_cleared_row-cleared.result && is_cleared_column c.args.inner m d) (same_allowed _ _ _ _ _ _ p) in (
      one_traced _ _ _ _ _ _ _ n _ d on p c.cell_at-c.ensures.inside c.cell_at-c.ensures.place next (row_is c.args.bench.now f c.args.stride c.args.inner d c.is_cleared_row-cleared.result on row tested)
          (c.trace-count.ensures.written ∙ ap (λ (k : ℕ). record g { pass = set g.pass k on; visited = added_to g.visited k on }) spot)
          (ap (λ (k : ℕ). c.cells.count + k) c.trace-count.ensures.count),
      c.cells.invariant.1,
    )

pub returns-clause-rows : goal.returns-clause-rows
returns-clause-rows c =
    let e : c.rows.y ≡ c.frame-frame.result.height = omega arith in
    all_cleared _ _ _ _ _ _ _ c.rows.invariant (ap (λ (x : ℕ). x * c.frame-frame.result.width) e ∙ mul_comm _ _)
