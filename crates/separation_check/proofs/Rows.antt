-- The order of rows, and the order of places.
use Rattle.std.proofs.Common.{◌≡◌, inl, inr, ℕ, ◌+◌, ◌*◌, ◌<◌, ℤ, ◌-ℤ◌, ◌<ℤ◌, unsigned_abs, ap, arith}
use Rattle.std.proofs.lemmas.Nat.{mul-add-lt}
use Rattle.std.proofs.Math.Nat.{mul_comm}
use borrow.Author.Differences.{ints}
use Rattle.board_base.specs.declared.places.Cell.{Cell}
use Rattle.cell_grid.specs.declared.frames.Frame.{Frame}
use Rattle.cell_grid.specs.Place.{InFrame, IsBetween, place_of, row_of, column_of}
use Rattle.cell_grid.proofs.PlaceLaws.{column_below}
use Rattle.cell_sets.specs.Chains.{IsBefore}

-- a lower row has lower places
row_less : (w r s x y : ℕ) → r < s → x < w → r * w + x < s * w + y
row_less w r s x y l h =
    let m : r * w + x < w * s = mul-add-lt r w x s l h in
    let e : w * s ≡ s * w = mul_comm w s in
    omega (arith, m, e)

pub before_less : (f : Frame) (c d : Cell) → InFrame f c → InFrame f d → IsBefore c d → place_of f c < place_of f d
unfolding place_of
before_less f c d h k s =
    elim s as (λ _. row_of f c * f.width + column_of f c < row_of f d * f.width + column_of f d) [
      | inl l ↦ row_less f.width (row_of f c) (row_of f d) (column_of f c) (column_of f d) (less c.j d.j f.j0 h.row k.row l) (column_below f c h)
      | inr r ↦
          let e : row_of f c * f.width ≡ row_of f d * f.width = ap (λ (v : ℤ). unsigned_abs (v -ℤ f.j0) * f.width) r.0 in
          omega (arith, e, less c.i d.i f.i0 h.column k.column r.1)
    ]
  where
    less : (i i' i0 : ℤ) {w : ℕ} {v : ℕ} → IsBetween i i0 w → IsBetween i' i0 v → i <ℤ i' → unsigned_abs (i -ℤ i0) < unsigned_abs (i' -ℤ i0)
    less i i' i0 p q l = omega (arith, ints)
