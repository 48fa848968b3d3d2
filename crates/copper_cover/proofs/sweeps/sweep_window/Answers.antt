use Rattle.std.proofs.Common.{◌≡◌, ℕ, ◌<◌, ◌≤◌, ◌+◌, ◌-◌, ◌*◌, length, set, refl, sym, ap, subst, ◌∙◌, arith, rules, List}
use Rattle.std.proofs.lemmas.Int.{to_z-of_z}
use mir.Val.{SFits}
use mir.Syntax.{w64}
use Rattle.cell_grid.specs.declared.frames.Frame.{Frame}
use Rattle.cell_grid.specs.Place.{InFrame, place_of, cells_of}
use Rattle.board_base.specs.Places.{IsNearPlace}
use Rattle.board_base.specs.Lattice.{IsPitch, centre_of}
use Rattle.shape_parts.specs.declared.shape.Piece.{Piece}
use Rattle.shape_parts.specs.Shapes.{shape_touches, shape_covers}
use Rattle.cell_grid.specs.Windows.{IsWindowOf}
use Rattle.copper_cover.specs.Rows.{centre_in}
use Rattle.copper_cover.proofs.Painting.{none_painted, one_painted, all_painted, painted_as, outside, rows_before, columns_before, columns_after, rows_after, its_frame, in_next}
use Rattle.copper_cover.proofs.SweepLaws.{StartsAt, row_is, centre_is, by_bits}
use Rattle.copper_cover.proofs.sweeps.sweep_window.Goals as goal

pub rows-init : goal.rows-init
rows-init c =
    let f = c.frame-frame.result in
    let same = c.frame-frame.ensures.value in
    rows_before _ _ f _ c.args.window (subst (λ (z : Frame). IsWindowOf z c.args.window) (sym same) c.requires.inside) (outside _ f c.args.window c.args.object.now same c.requires.round)
    (none_painted _ f _ same c.frame-frame.ensures.valid c.frame-frame.ensures.sized)

pub fill-requires-clause-row : goal.fill-requires-clause-row
fill-requires-clause-row c =
    let f = c.frame-frame.result in
    let same = c.frame-frame.ensures.value in
    let inside = subst (λ (z : Frame). IsWindowOf z c.args.window) (sym same) c.requires.inside in
    let a : SFits w64 f.pitch = search rules in
    let b : SFits w64 c.args.h = c.ranges.h in
    let r = c.row_from-row.ensures in
    let s : StartsAt f c.args.window.columns.from c.rows.y c.args.h c.row_from-row.result =
    record { column = r.column; row_is = r.row; height = r.height; pitch = r.pitch; reach = simp to_z-of_z at r.h } in
    let some : 0 < length c.rows.touched = search rules in
    let wide : c.args.window.columns.from + length c.rows.touched ≤ f.width = omega (arith, c.rows.auto.touched, c.requires.touched, inside.east) in
    let high : c.rows.y < f.height = omega (arith, c.rows-test.true, inside.north) in
    row_is f c.args.window.columns.from c.rows.y (length c.rows.touched) c.args.h c.row_from-row.result s c.frame-frame.ensures.valid (subst (λ (z : Frame). IsPitch z.pitch) (sym same) c.requires.pitch) some wide high
    c.requires.reach.low c.requires.reach.high (λ d i. subst (λ (z : Frame). IsNearPlace (centre_of z.pitch d)) (sym same) (c.requires.centres d (subst (λ (z : Frame). InFrame z d) same i)))

pub cells-init : goal.cells-init
cells-init c =
    let f = c.frame-frame.result in
    let same = c.frame-frame.ensures.value in (
      columns_before _ _ f _ c.args.window (subst (λ (z : Frame). IsWindowOf z c.args.window) (sym same) c.requires.inside) (outside _ f c.args.window c.args.object.now same c.requires.round)
          c.rows.y _ refl c.rows.invariant,
      omega (arith, (subst (λ (z : Frame). IsWindowOf z c.args.window) (sym same) c.requires.inside).west),
    )

pub cells-preserved : goal.cells-preserved
cells-preserved c =
    let f = c.frame-frame.result in
    let same = c.frame-frame.ensures.value in
    let inside = subst (λ (z : Frame). IsWindowOf z c.args.window) (sym same) c.requires.inside in
    let a : SFits w64 f.pitch = search rules in
    let b : SFits w64 c.args.h = c.ranges.h in
    let r = c.row_from-row.ensures in
    let s : StartsAt f c.args.window.columns.from c.rows.y c.args.h c.row_from-row.result =
    record { column = r.column; row_is = r.row; height = r.height; pitch = r.pitch; reach = simp to_z-of_z at r.h } in
    let g = c.cells.bench in
    let d = c.cell_at-c.result in
    let n = c.rows.y * f.width + c.cells.x in
    let from = c.args.window.columns.from in
    let k = c.cells.x - from in
    let row = c.row_from-row.result in
    let o = c.args.object.now in
    let split : c.cells.x ≡ from + k = search rules in
    let in_touched : k < length c.fill.new.touched = search rules in
    let in_covered : k < length c.fill.new.covered = search rules in
    let next : c.rows.y * f.width + (c.cells.x + 1) ≡ n + 1 = omega arith in
    let spot : place_of g.frame d ≡ n = ap (λ (z : Frame). place_of z d) (its_frame _ _ _ _ _ c.cells.invariant.0) ∙ c.cell_at-c.ensures.place in
    let centre = centre_is f from c.rows.y k c.cells.x c.args.h c.args.bench.now.frame.pitch row d s (ap (λ (z : Frame). z.pitch) (sym same)) split c.cell_at-c.ensures.column c.cell_at-c.ensures.row in
    let by = by_bits (centre_in row k) row.h o c.get-was.result _ _ c.bit_after-kept.result (c.fill.ensures.touched k in_touched ∙ ap (λ (xs : List Piece). shape_touches (centre_in row k) row.h xs) c.pieces.ensures.value)
    (c.fill.ensures.covered k in_covered ∙ ap (λ (xs : List Piece). shape_covers (centre_in row k) row.h xs) c.pieces.ensures.value) c.bit_after-kept.ensures in
    let on_is = painted_as _ _ f _ n d o c.args.bench.now.frame.pitch row.h (centre_in row k) c.get-was.result c.bit_after-kept.result c.cells.invariant.0 spot c.get-was.ensures centre (s.reach ∙ c.requires.h) by in (
      one_painted _ _ _ f _ n _ d c.bit_after-kept.result c.cells.invariant.0 c.cell_at-c.ensures.inside c.cell_at-c.ensures.place next on_is
          (c.set.ensures ∙ ap (λ (k : ℕ). record g { kept = set g.kept k c.bit_after-kept.result }) spot),
      omega (arith, inside.east, c.cells-test.true),
    )

pub rows-preserved : goal.rows-preserved
rows-preserved c =
    let f = c.frame-frame.result in
    let same = c.frame-frame.ensures.value in
    let inside = subst (λ (z : Frame). IsWindowOf z c.args.window) (sym same) c.requires.inside in
    columns_after _ _ f _ c.args.window inside (outside _ f c.args.window c.args.object.now same c.requires.round) c.cells.x c.rows.y _ _ refl refl c.cells-test.false (in_next c.rows.y c.cells.x f.width c.cells.invariant.1) c.cells.invariant.0

pub returns-clause-kept : goal.returns-clause-kept
returns-clause-kept c =
    let f = c.frame-frame.result in
    let same = c.frame-frame.ensures.value in
    let inside = subst (λ (z : Frame). IsWindowOf z c.args.window) (sym same) c.requires.inside in
    let n = c.rows.y * f.width in
    let p = rows_after _ _ f _ c.args.window inside (outside _ f c.args.window c.args.object.now same c.requires.round) c.rows.y n (n + cells_of f) refl c.rows-test.false (omega arith) c.rows.invariant in
    all_painted _ _ f _ _ p (omega arith)
