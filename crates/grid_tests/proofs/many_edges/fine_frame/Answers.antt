use Rattle.std.proofs.Common.{ℤ, pos, negsuc, arith}
use borrow.Author.Differences.{ints}
use Rattle.board_base.specs.Places.{IsNearCoordinate}
use Rattle.board_base.specs.Lattice.{half_of, middle}
use Rattle.cell_grid.specs.Place.{IsBetween}
use Rattle.grid_tests.proofs.many_edges.fine_frame.Goals as goal

near : (i : ℤ) → IsBetween i (negsuc 1) 2004 → IsNearCoordinate (middle (pos 20000) i)
unfolding middle half_of
near i h = record { low = omega (arith, ints); high = omega (arith, ints) }

pub returns-clause-centres : goal.returns-clause-centres
returns-clause-centres c d h = record { x_in = near d.i h.column; y_in = near d.j h.row }
