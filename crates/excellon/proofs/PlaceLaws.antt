-- Points in the range.
use Rattle.std.proofs.Common.{◌≡◌, refl, ℤ, unsigned_abs, Bool, true, false, not, Option, Some, None, MatchOption, arith}
use Rattle.std.specs.Prelude.{◌&&◌, cond}
use Rattle.std.proofs.lemmas.Int.{ints}
use Rattle.board_base.specs.declared.places.Point.{Point}
use Rattle.board_base.specs.Places.{IsPlace, IsCoordinate}
use Rattle.plane_arcs.proofs.RangeLaws.{inside_place}
use Rattle.plane_arcs.specs.Turned.{in_range, point_at, is_far}

chosen : (p : Point) (b : Bool) → (in_range p.x && in_range p.y) ≡ b → (r : Option Point) → r ≡ cond b (Some p) None
    → MatchOption r (not b ≡ true) (λ q. (not b ≡ false) × (q ≡ p) × IsPlace q)
chosen p true e (Some q) f = let same : q ≡ p = cc in (refl, same, rw same (inside_place p e))
chosen p true e None f = absurd cc
chosen p false e (Some q) f = absurd cc
chosen p false e None f = refl

pub point_law : (x y : ℤ) (r : Option Point) → r ≡ point_at x y → MatchOption r (is_far (record { x = x; y = y }) ≡ true) (λ q. (is_far (record { x = x; y = y }) ≡ false) × (q ≡ record { x = x; y = y }) × IsPlace q)
point_law x y r e = chosen (record { x = x; y = y }) (in_range x && in_range y) refl r e
