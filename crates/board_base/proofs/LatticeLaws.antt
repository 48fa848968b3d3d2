-- Facts of places, pitches and cells that many proofs take up.
use Rattle.std.proofs.Common.{◌≡◌, ◌≤◌, ℕ, ℤ, pos, ◌≤ℤ◌, ◌<ℤ◌, unsigned_abs, true, arith}
use Rattle.std.specs.Prelude.{nat_le}
use Rattle.std.proofs.lemmas.Grind.{common_steps}
use borrow.Author.Differences.{ints}
use Rattle.board_base.specs.declared.places.Cell.{Cell}
use Rattle.board_base.specs.declared.places.Point.{Point}
use Rattle.board_base.specs.Lattice.{IsPitch, half_diagonal_of}
use Rattle.board_base.specs.Places.{IsPlace, IsCoordinate, IsNearPlace, IsNearCoordinate, is_coordinate}

-- a pitch is above 0
pub pitch_positive : (p : ℤ) → IsPitch p → pos 0 <ℤ p
pitch_positive p pitch = omega (arith, ints, pitch.low)

pub pitch_nonneg : (p : ℤ) → IsPitch p → pos 0 ≤ℤ p
pitch_nonneg p pitch = omega (arith, ints, pitch.low)

-- half the diagonal of a cell is not below 0
pub diagonal_nonneg : (p : ℤ) → pos 0 ≤ℤ half_diagonal_of p
unfolding half_diagonal_of
diagonal_nonneg p = omega (arith, ints)

-- a place is a near place
pub near_coordinate : (v : ℤ) → IsCoordinate v → IsNearCoordinate v
near_coordinate v h = record { low = omega (arith, ints, h.low); high = omega (arith, ints, h.high) }

pub near_place : (p : Point) → IsPlace p → IsNearPlace p
near_place p h = record { x_in = near_coordinate p.x h.x; y_in = near_coordinate p.y h.y }

-- the test of a coordinate, both ways
pub to_coordinate : (v : ℤ) → is_coordinate v ≡ true → IsCoordinate v
to_coordinate v e = let n = within (unsigned_abs v) e in record { low = omega (arith, ints); high = omega (arith, ints) }
  where
    within : (n : ℕ) → nat_le n 500000000 ≡ true → n ≤ 500000000
    within n h = grind (arith, common_steps)

pub of_coordinate : (v : ℤ) → IsCoordinate v → is_coordinate v ≡ true
of_coordinate v h = within (unsigned_abs v) (omega (arith, ints))
  where
    within : (n : ℕ) → n ≤ 500000000 → nat_le n 500000000 ≡ true
    within n h = grind (arith, common_steps)

-- a cell by its column and its row
abbrev pub cell : ℤ → ℤ → Cell
cell i j = record { i = i; j = j }

pub same_cell : (i j i' j' : ℤ) → i ≡ i' → j ≡ j' → cell i j ≡ cell i' j'
same_cell i j i' j' e f = cc
