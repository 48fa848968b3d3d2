use Rattle.std.proofs.Common.{◌≡◌, ℤ, ◌+ℤ◌, arith}
use borrow.Author.Differences.{ints}
use Rattle.board_base.specs.declared.places.Cell.{Cell}
use Rattle.islands.specs.Ways.{east_of, north_of, neighbour_of}
use Rattle.islands.proofs.ways.step.Goals as goal

same_cell : (i j i' j' : ℤ) → i ≡ i' → j ≡ j' → ◌≡◌ {A = Cell} (record { i = i; j = j }) (record { i = i'; j = j' })
same_cell i j i' j' e f = cc

pub returns : goal.returns
unfolding neighbour_of
returns c = same_cell _ _ (c.args.c.i +ℤ east_of c.args.way) (c.args.c.j +ℤ north_of c.args.way) (omega (arith, ints)) (omega (arith, ints))
