use Rattle.std.proofs.Common.{◌≡◌, ◌≢◌, inl, inr, ℕ, ◌+◌, ◌<◌, ℤ, pos, ◌+ℤ◌, ◌-ℤ◌, unsigned_abs, true, cond, nat_lt, set, sym, ap, subst, ◌∙◌, arith, get_or-set_other}
use borrow.Author.Differences.{ints}
use Rattle.board_base.specs.declared.places.Cell.{Cell}
use Rattle.cell_grid.specs.declared.frames.Frame.{Frame}
use Rattle.cell_grid.specs.Grid.{Grid}
use Rattle.cell_grid.specs.Place.{InFrame, place_of, column_of, row_of}
use Rattle.cell_grid.specs.Cells.{in_frame, is_above, IsOnBorder}
use Rattle.cell_grid.proofs.PlaceLaws.{place_same}
use Rattle.cell_grid.proofs.CellsLaws.{in_frame_is}
use Rattle.grid_tests.proofs.traces.lower.Goals as goal

-- a cell that isn't on the border is not a cell of the border
other_place : (f : Frame) (c d : Cell) (x y : ℕ) → IsOnBorder f c → InFrame f d → d.i ≡ f.i0 +ℤ pos x → d.j ≡ f.j0 +ℤ pos y → 0 < x → x + 1 < f.width → 0 < y → y + 1 < f.height → place_of f c ≢ place_of f d
other_place f c d x y h k ei ej a b s n e =
    let same = place_same f c d (in_frame_is f c h.inside) k e in
    let column : column_of f c ≡ x = ap (λ (z : Cell). column_of f z) same ∙ from d.i f.i0 x ei in
    let row : row_of f c ≡ y = ap (λ (z : Cell). row_of f z) same ∙ from d.j f.j0 y ej in
    elim h.edge as (λ _. ⊥) [
      | inl w ↦ absurd (omega arith)
      | inr r ↦ elim r as (λ _. ⊥) [
        | inl w ↦ absurd (omega arith)
        | inr q ↦ elim q as (λ _. ⊥) [ inl w ↦ absurd (omega arith) | inr w ↦ absurd (omega arith) ]
      ]
    ]
  where
    from : (i a : ℤ) (x : ℕ) → i ≡ a +ℤ pos x → unsigned_abs (i -ℤ a) ≡ x
    from i a x e = omega (arith, ints)

still_above : (g h : Grid) (d : Cell) (v : ℕ) → h ≡ record g { clearances = set g.clearances (place_of g.frame d) v } → ((c : Cell) → IsOnBorder g.frame c → place_of g.frame c ≢ place_of g.frame d)
    → ((c : Cell) → IsOnBorder g.frame c → is_above g.frame g.clearances 8 c ≡ true) → (c : Cell) → IsOnBorder h.frame c → is_above h.frame h.clearances 8 c ≡ true
still_above g h d v e other border =
    subst (λ (z : Grid). (c : Cell) → IsOnBorder z.frame c → is_above z.frame z.clearances 8 c ≡ true) (sym e)
    (λ c b. ap (λ (n : ℕ). cond (in_frame g.frame c) (nat_lt 8 n) true) (get_or-set_other g.clearances (place_of g.frame d) (place_of g.frame c) v 0 (other c b)) ∙ border c b)

pub returns-clause-border : goal.returns-clause-border
returns-clause-border c =
    let f = c.frame.result in
    let same = c.frame.ensures.value in
    let d = c.cell_at-c.result in
    still_above c.args.bench.now _ d _ c.set_clearance.ensures
    (λ b h.
    subst (λ (z : Frame). place_of z b ≢ place_of z d) same
    (other_place f b d c.args.x c.args.y (subst (λ (z : Frame). IsOnBorder z b) (sym same) h) c.cell_at-c.ensures.inside c.cell_at-c.ensures.column c.cell_at-c.ensures.row c.requires.west
    (subst (λ (z : Frame). c.args.x + 1 < z.width) (sym same) c.requires.east) c.requires.south (subst (λ (z : Frame). c.args.y + 1 < z.height) (sym same) c.requires.north)))
    c.requires.border
