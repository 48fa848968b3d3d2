use Rattle.std.proofs.Common.{◌≡◌, ℕ, ◌+◌, ◌*◌, true, set, sym, ap, ◌∙◌, arith}
use Rattle.std.proofs.Math.Nat.{mul_comm}
use Rattle.cell_sets.proofs.CellLaws.{same_cell}
use Rattle.cell_grid.specs.declared.frames.Frame.{Frame}
use Rattle.cell_grid.specs.Place.{place_of}
use Rattle.cell_grid.specs.Cells.{is_above}
use Rattle.contours.specs.Contour.{on_contour, added_to}
use Rattle.contours.proofs.Traces.{one_traced, its_frame, zero_more, found_row, blank_past}
use Rattle.contours.proofs.ContourLaws.{all_traced}
use Rattle.contours.proofs.traced.contour.Goals as goal

pub cells-init : goal.cells-init
cells-init c =
    let e = c.next_on-x.ensures in
    found_row c.args.bench.now c.rows.bench c.frame-frame.result c.args.g c.rows.size 0 c.rows.y c.next_on-x.result (zero_more _ _ _ _ _ _ c.rows.invariant.traced) (λ k h. c.rows.invariant.blank k (omega arith)) c.rows-test.true e.low e.high e.passed
    e.found

pub cells-preserved : goal.cells-preserved
cells-preserved c =
    let start = c.args.bench.now in
    let f = c.frame-frame.result in
    let g = c.cells.bench in
    let new = c.trace-size.new.bench in
    let d = c.cell_at.result in
    let x = c.cells.x in
    let y = c.rows.y in
    let n = y * f.width + x in
    let i = c.cells.invariant in
    let p = i.traced in
    let e = c.next_on-x-in-cells.ensures in
    let test = on_contour (is_above start.frame start.clearances c.args.g) in
    let next : y * f.width + (x + 1) ≡ n + 1 = omega arith in
    let spot : place_of g.frame d ≡ n = ap (λ (h : Frame). place_of h d) (its_frame _ _ _ _ _ _ p) ∙ c.cell_at.ensures.place in
    let written : new ≡ record g { pass = set g.pass n true; visited = added_to g.visited n true } =
    c.trace-size.ensures.written ∙ ap (λ (k : ℕ). record g { pass = set g.pass k true; visited = added_to g.visited k true }) spot in
    let on : true ≡ test d = sym (ap test (same_cell d.i d.j _ _ c.cell_at.ensures.column c.cell_at.ensures.row) ∙ i.on c.cells-test.true) in
    let more = one_traced start g new f test c.cells.size _ n (y * f.width + (x + 1)) d true p c.cell_at.ensures.inside c.cell_at.ensures.place next on written (ap (λ (k : ℕ). c.cells.size + k) c.trace-size.ensures.count) in
    found_row start new f c.args.g _ (x + 1) y c.next_on-x-in-cells.result more (λ k h. blank_past g new n true _ i.blank written k (omega arith)) c.rows-test.true e.low e.high e.passed e.found

pub returns-clause-contour : goal.returns-clause-contour
returns-clause-contour c =
    let e : c.rows.y ≡ c.frame-frame.result.height = omega arith in
    all_traced _ _ _ _ _ _ c.rows.invariant.traced (ap (λ (x : ℕ). x * c.frame-frame.result.width) e ∙ mul_comm _ _) c.requires.border
