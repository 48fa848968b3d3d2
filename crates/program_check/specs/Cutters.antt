-- The cutters with which a program may be checked.
use Rattle.std.specs.Prelude.{◌≤ℤ◌}
use Rattle.board_base.specs.Lattice.{IsPitch, IsHalfDiagonal, half_diagonal_of}
use Rattle.mill_plan.specs.declared.cutting.Cutting.{Cutting}

-- the tolerance is no more than the radius, and the radius no less than half of a cell's diagonal
pub record IsCutter (k : Cutting) : Type 0 where
  pub pitch : IsPitch k.pitch
  pub diagonal : IsHalfDiagonal k.pitch (half_diagonal_of k.pitch)
  pub some : k.tolerance ≤ℤ k.radius
  pub fine : half_diagonal_of k.pitch ≤ℤ k.radius
