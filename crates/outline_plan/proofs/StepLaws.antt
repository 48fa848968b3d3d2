-- Steps between allowed cells that are neighbours keep off the board.
use Rattle.std.proofs.Common.{◌≡◌, ℕ, zero, suc, ◌≤◌, ℤ, pos, neg_ℤ, ◌+ℤ◌, ◌-ℤ◌, ◌*ℤ◌, ◌≤ℤ◌, true, List, [], ◌∷◌, refl, sym, subst, arith}
use borrow.Author.Differences.{ints}
use Rattle.number_laws.proofs.Ring.{var, num, add, sub, mul, ring}
use Rattle.number_laws.proofs.Squares.{square_within}
use Rattle.board_base.specs.declared.places.Cell.{Cell}
use Rattle.board_base.specs.declared.places.Point.{Point}
use Rattle.board_base.specs.Lattice.{IsHalfDiagonal, IsBeside, half_of, middle, centre_of, half_diagonal_of}
use Rattle.board_base.specs.Near.{near_of}
use Rattle.board_base.proofs.LatticeLaws.{diagonal_nonneg}
use Rattle.cell_sets.specs.Contour.{IsAllowed}
use Rattle.plane_geom.proofs.HalfStep.{on_lattice, near_run}
use Rattle.shape_parts.specs.declared.shape.Painted.{Painted}
use Rattle.shape_parts.specs.Cover.{is_dark, CoverLaw}
use Rattle.mill_plan.specs.declared.cutting.Cutting.{Cutting}
use Rattle.mill_plan.specs.Cutting.{IsCutting, bite_of, guard, kept_by}
use Rattle.mill_plan.proofs.MillsLaws.{bite_low, dark_apart}

-- the step from a cell to another, as a run of one step
at_start : (p : ℤ) (a b : Cell) → on_lattice (centre_of p a) p (b.i -ℤ a.i) (b.j -ℤ a.j) (pos 0) ≡ centre_of p a
unfolding middle
at_start p a b = λ t. record { x = axis a.i b.i t; y = axis a.j b.j t }
  where
    axis : (c d : ℤ) → (c *ℤ p +ℤ half_of p) +ℤ pos 0 *ℤ (p *ℤ (d -ℤ c)) ≡ c *ℤ p +ℤ half_of p
    axis c d = ring (c ∷ d ∷ p ∷ half_of p ∷ []) (add (add (mul (var 0) (var 2)) (var 3)) (mul (num (pos 0)) (mul (var 2) (sub (var 1) (var 0))))) (add (mul (var 0) (var 2)) (var 3)) refl

at_end : (p : ℤ) (a b : Cell) → on_lattice (centre_of p a) p (b.i -ℤ a.i) (b.j -ℤ a.j) (pos 1) ≡ centre_of p b
unfolding middle
at_end p a b = λ t. record { x = axis a.i b.i t; y = axis a.j b.j t }
  where
    axis : (c d : ℤ) → (c *ℤ p +ℤ half_of p) +ℤ pos 1 *ℤ (p *ℤ (d -ℤ c)) ≡ d *ℤ p +ℤ half_of p
    axis c d = ring (c ∷ d ∷ p ∷ half_of p ∷ []) (add (add (mul (var 0) (var 2)) (var 3)) (mul (num (pos 1)) (mul (var 2) (sub (var 1) (var 0))))) (add (mul (var 1) (var 2)) (var 3)) refl

unit : (c d : ℤ) → (c -ℤ d) ≤ℤ pos 1 → (d -ℤ c) ≤ℤ pos 1 → ((d -ℤ c) *ℤ (d -ℤ c)) ≤ℤ pos 1
unit c d back on = square_within (pos 1) (d -ℤ c) (low c d back) on
  where
    low : (c d : ℤ) → (c -ℤ d) ≤ℤ pos 1 → neg_ℤ (pos 1) ≤ℤ (d -ℤ c)
    low c d h = omega (arith, ints)

-- no dark point is within the bite of a step from an allowed cell to itself or a neighbour
pub step_off : (k : Cutting) (painted : List Painted) (a b : Cell) (q : Point) → IsCutting k → IsHalfDiagonal k.pitch (half_diagonal_of k.pitch) → CoverLaw
    → IsAllowed (kept_by k painted) (guard k 0) a → IsAllowed (kept_by k painted) (guard k 0) b → IsBeside a b → is_dark q painted ≡ true
    → near_of q (centre_of k.pitch a) (centre_of k.pitch b) (pos 2 *ℤ bite_of k) ≡ true → ⊥
step_off k painted a b q ok diagonal cover allowed_a allowed_b beside dark near =
    let p : ℤ = k.pitch in
    let h : ℤ = half_diagonal_of p in
    let found = near_run p h (pos 2 *ℤ bite_of k) q (centre_of p a) (b.i -ℤ a.i) (b.j -ℤ a.j) 1 diagonal.enough (diagonal_nonneg p) (twice (bite_of k) (bite_low k ok))
    (unit a.i b.i beside.west beside.east) (unit a.j b.j beside.south beside.north)
    (subst (λ (e : Point). near_of q (centre_of p a) e (pos 2 *ℤ bite_of k) ≡ true) (sym (at_end p a b)) near) in
    by found.at found.early found.near
  where
    twice : (b : ℤ) → pos 0 ≤ℤ b → pos 0 ≤ℤ (pos 2 *ℤ b)
    twice b h = omega (arith, ints)

    widths : (b h : ℤ) → pos 2 *ℤ b +ℤ pos 2 *ℤ h ≡ pos 2 *ℤ (b +ℤ h)
    widths b h = ring (b ∷ h ∷ []) (add (mul (num (pos 2)) (var 0)) (mul (num (pos 2)) (var 1))) (mul (num (pos 2)) (add (var 0) (var 1))) refl

    at : (c : Cell) (e : Point) → e ≡ centre_of k.pitch c → IsAllowed (kept_by k painted) (guard k 0) c → near_of q e e (pos 2 *ℤ bite_of k +ℤ pos 2 *ℤ half_diagonal_of k.pitch) ≡ true → ⊥
    at c e is allowed close =
        dark_apart k painted c q ok diagonal cover allowed dark
        (subst (λ d. near_of q (centre_of k.pitch c) (centre_of k.pitch c) d ≡ true) (widths (bite_of k) (half_diagonal_of k.pitch))
        (subst (λ (x : Point). near_of q x x (pos 2 *ℤ bite_of k +ℤ pos 2 *ℤ half_diagonal_of k.pitch) ≡ true) is close))

    by : (t : ℕ) → t ≤ 1
        → near_of q (on_lattice (centre_of k.pitch a) k.pitch (b.i -ℤ a.i) (b.j -ℤ a.j) (pos t)) (on_lattice (centre_of k.pitch a) k.pitch (b.i -ℤ a.i) (b.j -ℤ a.j) (pos t)) (pos 2 *ℤ bite_of k +ℤ pos 2 *ℤ half_diagonal_of k.pitch) ≡ true → ⊥
    by zero few close = at a _ (at_start k.pitch a b) allowed_a close
    by (suc zero) few close = at b _ (at_end k.pitch a b) allowed_b close
    by (suc (suc t)) few close = omega (arith, few)
