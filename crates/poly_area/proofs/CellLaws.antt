-- The centres of a row of cells.
use Rattle.std.proofs.Common.{◌≡◌, ℕ, ℤ, pos, ◌+ℤ◌, [], ◌∷◌, refl}
use Rattle.number_laws.proofs.Ring.{var, add, mul, ring}
use Rattle.board_base.specs.Lattice.{middle, half_of}
use Rattle.poly_area.specs.Rows.{column_x, CellsLaw}

column_middle : (p i : ℤ) (k : ℕ) → column_x (middle p i) p k ≡ middle p (i +ℤ pos k)
unfolding column_x middle
column_middle p i k =
    let P = var 0 in let I = var 1 in let K = var 2 in let H = var 3 in
    ring (p ∷ i ∷ pos k ∷ half_of p ∷ []) (add (add (mul I P) H) (mul K P)) (add (mul (add I K) P) H) refl

pub cells_law_holds : CellsLaw
cells_law_holds p c k = λ t. record { x = column_middle p c.i k t; y = middle p c.j }
