-- Points in the range are places, and places are in the range.
use Rattle.std.proofs.Common.{◌≡◌, ℤ, true, ◌≤◌, ℕ, arith}
use Rattle.std.specs.Prelude.{unsigned_abs, nat_le, ◌&&◌}
use borrow.Author.Differences.{ints}
use Rattle.number_laws.proofs.Tests.{both, first_of, second_of, is_up_to, up_to}
use Rattle.board_base.specs.Places.{IsCoordinate, IsPlace}
use Rattle.board_base.specs.declared.places.Point.{Point}
use Rattle.plane_arcs.specs.Turned.{in_range}

pub coordinate_inside : (v : ℤ) → IsCoordinate v → in_range v ≡ true
unfolding in_range
coordinate_inside v h = up_to (unsigned_abs v) 500000000 (omega (arith, ints, h.low, h.high))

pub inside_coordinate : (v : ℤ) → in_range v ≡ true → IsCoordinate v
unfolding in_range
inside_coordinate v e = let n = is_up_to (unsigned_abs v) 500000000 e in record { low = omega (arith, ints); high = omega (arith, ints) }

pub place_inside : (p : Point) → IsPlace p → (in_range p.x && in_range p.y) ≡ true
place_inside p h = both (in_range p.x) (in_range p.y) (coordinate_inside p.x h.x) (coordinate_inside p.y h.y)

pub inside_place : (p : Point) → (in_range p.x && in_range p.y) ≡ true → IsPlace p
inside_place p e = record { x = inside_coordinate p.x (first_of (in_range p.x) (in_range p.y) e); y = inside_coordinate p.y (second_of (in_range p.x) (in_range p.y) e) }
