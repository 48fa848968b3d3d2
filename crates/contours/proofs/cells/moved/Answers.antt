use Rattle.std.proofs.Common.{◌+ℤ◌, arith}
use borrow.Author.Differences.{ints}
use Rattle.board_base.proofs.LatticeLaws.{same_cell}
use Rattle.contours.specs.Contour.{moved}
use Rattle.contours.proofs.cells.moved.Goals as goal

pub returns : goal.returns
unfolding moved
returns c = record { value = same_cell _ _ c.args.c.i (c.args.c.j +ℤ c.args.rows) (omega (arith, ints)) (omega (arith, ints)) }
