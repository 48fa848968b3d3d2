use Rattle.std.proofs.Common.{◌≡◌, ℕ, ◌+◌, ◌*◌, set, refl, sym, ap, subst, ◌∙◌, arith, rules}
use Rattle.std.proofs.lemmas.Int.{to_z-of_z}
use mir.Val.{SFits}
use mir.Syntax.{w64}
use Rattle.board_base.specs.declared.places.Point.{Point}
use Rattle.board_base.specs.Places.{IsNearPlace}
use Rattle.board_base.specs.Lattice.{centre_of}
use Rattle.cell_grid.specs.declared.frames.Frame.{Frame}
use Rattle.cell_grid.specs.Place.{InFrame, place_of, cells_of}
use Rattle.cell_grid.specs.Windows.{IsWindowOf}
use Rattle.copper_cover.proofs.Painting.{none_painted, one_painted, all_painted, painted_as, outside, rows_before, columns_before, columns_after, rows_after, its_frame, in_next}
use Rattle.copper_cover.proofs.cells.paint_window.Goals as goal

pub rows-init : goal.rows-init
rows-init c =
    let f = c.frame-frame.result in
    let same = c.frame-frame.ensures.value in
    rows_before _ _ f _ c.args.window (subst (λ (z : Frame). IsWindowOf z c.args.window) (sym same) c.requires.inside) (outside _ f c.args.window c.args.object.now same c.requires.round)
    (none_painted _ f _ same c.frame-frame.ensures.valid c.frame-frame.ensures.sized)

pub cells-init : goal.cells-init
cells-init c =
    let f = c.frame-frame.result in
    let same = c.frame-frame.ensures.value in (
      columns_before _ _ f _ c.args.window (subst (λ (z : Frame). IsWindowOf z c.args.window) (sym same) c.requires.inside) (outside _ f c.args.window c.args.object.now same c.requires.round)
          c.rows.y _ refl c.rows.invariant,
      omega (arith, (subst (λ (z : Frame). IsWindowOf z c.args.window) (sym same) c.requires.inside).west),
    )

pub kept_after-kept-requires-clause-c : goal.kept_after-kept-requires-clause-c
kept_after-kept-requires-clause-c c =
    let f = c.frame-frame.result in
    let same = c.frame-frame.ensures.value in
    let a : SFits w64 f.pitch = search rules in
    let d = c.cell_at-c.result in
    subst (λ (q : Point). IsNearPlace q) (sym (simp to_z-of_z at c.centre.ensures))
    (subst (λ (z : Frame). IsNearPlace (centre_of z.pitch d)) (sym same) (c.requires.centres d (subst (λ (z : Frame). InFrame z d) same c.cell_at-c.ensures.inside)))

pub cells-preserved : goal.cells-preserved
cells-preserved c =
    let f = c.frame-frame.result in
    let same = c.frame-frame.ensures.value in
    let inside = subst (λ (z : Frame). IsWindowOf z c.args.window) (sym same) c.requires.inside in
    let a : SFits w64 f.pitch = search rules in
    let b : SFits w64 c.args.h = c.ranges.h in
    let g = c.cells.bench in
    let d = c.cell_at-c.result in
    let n = c.rows.y * f.width + c.cells.x in
    let next : c.rows.y * f.width + (c.cells.x + 1) ≡ n + 1 = omega arith in
    let spot : place_of g.frame d ≡ n = ap (λ (z : Frame). place_of z d) (its_frame _ _ _ _ _ c.cells.invariant.0) ∙ c.cell_at-c.ensures.place in
    let centre : c.centre.result ≡ centre_of c.args.bench.now.frame.pitch d = (simp to_z-of_z at c.centre.ensures) ∙ ap (λ (z : Frame). centre_of z.pitch d) same in
    let on_is = painted_as _ _ f _ n d c.args.object.now c.args.bench.now.frame.pitch c.args.h c.centre.result c.get-was.result c.kept_after-kept.result c.cells.invariant.0 spot c.get-was.ensures centre c.requires.h
    (simp to_z-of_z at c.kept_after-kept.ensures) in (
      one_painted _ _ _ f _ n _ d c.kept_after-kept.result c.cells.invariant.0 c.cell_at-c.ensures.inside c.cell_at-c.ensures.place next on_is
          (c.set.ensures ∙ ap (λ (k : ℕ). record g { kept = set g.kept k c.kept_after-kept.result }) spot),
      omega (arith, inside.east),
    )

pub rows-preserved : goal.rows-preserved
rows-preserved c =
    let f = c.frame-frame.result in
    let same = c.frame-frame.ensures.value in
    let inside = subst (λ (z : Frame). IsWindowOf z c.args.window) (sym same) c.requires.inside in
    columns_after _ _ f _ c.args.window inside (outside _ f c.args.window c.args.object.now same c.requires.round) c.cells.x c.rows.y _ _ refl refl c.cells-test.false (in_next c.rows.y c.cells.x f.width c.cells.invariant.1) c.cells.invariant.0

pub returns-clause-kept : goal.returns-clause-kept
returns-clause-kept c =
    let f = c.frame-frame.result in
    let same = c.frame-frame.ensures.value in
    let inside = subst (λ (z : Frame). IsWindowOf z c.args.window) (sym same) c.requires.inside in
    let n = c.rows.y * f.width in
    let p = rows_after _ _ f _ c.args.window inside (outside _ f c.args.window c.args.object.now same c.requires.round) c.rows.y n (n + cells_of f) refl c.rows-test.false (omega arith) c.rows.invariant in
    all_painted _ _ f _ _ p (omega arith)
