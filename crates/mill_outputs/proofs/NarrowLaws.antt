-- The sides of a frame are at most a metre and a millimetre long.
use Rattle.std.proofs.Common.{◌≡◌, ℕ, ◌*◌, ◌≤◌, ℤ, pos, neg_ℤ, ◌+ℤ◌, ◌-ℤ◌, ◌*ℤ◌, ◌≤ℤ◌, unsigned_abs, List, [], ◌∷◌, Option, Some, None, Result, Ok, MatchOption, refl, sym, ap, subst, ◌∙◌, arith}
use Rattle.std.proofs.lemmas.Int.{unsigned_abs-mul}
use borrow.Author.Differences.{ints}
use Rattle.number_laws.proofs.Ring.{var, num, add, sub, mul, ring}
use Rattle.board_base.specs.declared.places.Bounds.{Bounds}
use Rattle.board_base.specs.declared.places.CellBox.{CellBox}
use Rattle.board_base.specs.Lattice.{IsPitch, half_of, middle}
use Rattle.board_base.specs.Places.{IsCoordinate}
use Rattle.cell_grid.specs.declared.frames.Frame.{Frame}
use Rattle.cell_grid.specs.declared.frames.GridError.{GridError}
use Rattle.cell_grid.specs.Boxes.{no_cells, IsFramed}
use Rattle.shape_parts.specs.declared.shape.Painted.{Painted}
use Rattle.copper_cover.specs.Kept.{dark_rectangle}
use Rattle.mill_plan.specs.declared.cutting.Cutting.{Cutting}
use Rattle.mill_plan.specs.Frame.{IsFrameOf}
use Rattle.mill_plan.proofs.FrameLaws.{IsRoundOrNone, no_columns, no_rows, round, round_or_none, same_frame}
use Rattle.tile_steps.specs.Steps.{IsNarrow}

-- ---- one side

-- from the middle of the first cell to that of the last it is so far, and a cell more
sides : (p a b : ℤ) (n : ℕ) → a +ℤ pos n ≡ b +ℤ pos 1 → pos n *ℤ p ≡ (middle p b -ℤ middle p a) +ℤ p
unfolding middle
sides p a b n e =
    ap (λ v. v *ℤ p) (by a b (pos n) e)
    ∙ ring (a ∷ b ∷ p ∷ half_of p ∷ [])
    (mul (sub (add (var 1) (num (pos 1))) (var 0)) (var 2))
    (add (sub (add (mul (var 1) (var 2)) (var 3)) (add (mul (var 0) (var 2)) (var 3))) (var 2))
    refl
  where
    by : (a b v : ℤ) → a +ℤ v ≡ b +ℤ pos 1 → v ≡ (b +ℤ pos 1) -ℤ a
    by a b v e = omega (arith, ints)

narrow_side : (p a b : ℤ) (n : ℕ) → IsPitch p → a +ℤ pos n ≡ b +ℤ pos 1 → IsCoordinate (middle p a) → IsCoordinate (middle p b) → n * unsigned_abs p ≤ 1001000000
narrow_side p a b n pitch e from to =
    subst (λ m. m ≤ 1001000000) (unsigned_abs-mul (pos n) p)
    (by (middle p a) (middle p b) p (pos n *ℤ p) (sides p a b n e) from.low from.high to.low to.high pitch.low pitch.high)
  where
    by : (x y p v : ℤ) → v ≡ (y -ℤ x) +ℤ p → neg_ℤ (pos 500000000) ≤ℤ x → x ≤ℤ pos 500000000 → neg_ℤ (pos 500000000) ≤ℤ y → y ≤ℤ pos 500000000 → pos 250 ≤ℤ p → p ≤ℤ pos 200000
        → unsigned_abs v ≤ 1001000000
    by x y p v e xl xh yl yh pl ph = omega (arith, ints)

-- ---- a frame

none_narrow : (p : ℤ) → IsNarrow p (no_cells p)
none_narrow p = record { wide = none (unsigned_abs p); high = none (unsigned_abs p) }
  where
    none : (n : ℕ) → 0 * n ≤ 1001000000
    none n = omega arith

round_narrow : (p : ℤ) (m : ℕ) (c : CellBox) (f : Frame) → IsPitch p → IsRoundOrNone p m c f → IsNarrow p f
round_narrow p m c f pitch (no_columns h e) = subst (IsNarrow p) (sym e) (none_narrow p)
round_narrow p m c f pitch (no_rows h e) = subst (IsNarrow p) (sym e) (none_narrow p)
round_narrow p m c f pitch (round across up r) = record {
  wide = narrow_side p (c.i0 -ℤ pos m) (c.i1 +ℤ pos m) f.width pitch (ap (λ v. v +ℤ pos f.width) (sym r.west) ∙ r.east) r.reach_west r.reach_east;
  high = narrow_side p (c.j0 -ℤ pos m) (c.j1 +ℤ pos m) f.height pitch (ap (λ v. v +ℤ pos f.height) (sym r.south) ∙ r.north) r.reach_south r.reach_north;
}

framed_narrow : (p : ℤ) (m : ℕ) (box : Option Bounds) (f : Frame) → IsPitch p → MatchOption box (◌≡◌ {A = Result Frame GridError} (Ok f) (Ok (no_cells p))) (λ b. IsFramed p m b (Ok f)) → IsNarrow p f
framed_narrow p m None f pitch e = subst (IsNarrow p) (sym (same_frame f (no_cells p) e)) (none_narrow p)
framed_narrow p m (Some b) f pitch framed = round_narrow p m framed.cells f pitch (round_or_none p m framed.cells f framed.answer_is)

-- the frame of an image
pub frame_narrow : (k : Cutting) (painted : List Painted) (f : Frame) → IsPitch k.pitch → IsFrameOf k painted (Ok f) → IsNarrow k.pitch f
frame_narrow k painted f pitch framed = framed_narrow k.pitch framed.margin (dark_rectangle painted) f pitch framed.frame
