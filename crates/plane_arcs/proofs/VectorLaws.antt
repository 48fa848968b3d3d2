-- The lengths of vectors.
use Rattle.std.proofs.Common.{◌≡◌, refl, ℕ, ◌+◌, ◌*◌, ◌<◌, ◌≤◌, ℤ, pos, negsuc, ◌+ℤ◌, ◌*ℤ◌, arith, ap, ◌∙◌, ◌⊎◌, inl, inr}
use Rattle.std.specs.Prelude.{unsigned_abs}
use Rattle.std.proofs.lemmas.Bool.{cases_lt}
use Rattle.std.proofs.lemmas.Nat.{mul-le}
use Rattle.board_base.specs.declared.places.Point.{Point}
use Rattle.fixed_num.specs.Rounding.{root, IsNearest}
use Rattle.fixed_num.proofs.RootLaws.{root_is, under_root}
use Rattle.plane_arcs.specs.Vectors.{IsUpTo, dot, vector_length}

-- the square of the length
pub dot_self : (v : Point) → unsigned_abs (dot v v) ≡ unsigned_abs v.x * unsigned_abs v.x + unsigned_abs v.y * unsigned_abs v.y
unfolding dot
dot_self v = squares v.x v.y
  where
    squares : (x y : ℤ) → unsigned_abs (x *ℤ x +ℤ y *ℤ y) ≡ unsigned_abs x * unsigned_abs x + unsigned_abs y * unsigned_abs y
    squares (pos x) (pos y) = refl
    squares (pos x) (negsuc y) = refl
    squares (negsuc x) (pos y) = refl
    squares (negsuc x) (negsuc y) = refl

-- the length of a vector
pub length_is : (v : Point) (n r : ℕ) → n ≡ unsigned_abs (dot v v) → r * r ≤ n → n < (r + 1) * (r + 1) → r ≡ vector_length v
unfolding vector_length
length_is v n r e low high = root_is r n low high ∙ ap root e

-- no coordinate is larger
pub sides_within : (v : Point) (n r : ℕ) → n ≡ unsigned_abs (dot v v) → n < (r + 1) * (r + 1) → IsUpTo r v
sides_within v n r same high =
    let e = dot_self v in
    record {
      x = under_root (unsigned_abs v.x) r n (omega arith) high;
      y = under_root (unsigned_abs v.y) r n (omega arith) high;
    }

-- the radius of an arc
pub radius_small : (v : Point) (r : ℕ) → IsUpTo 60000000000000 v → r * r ≤ unsigned_abs (dot v v) → r ≤ 100000000000000
radius_small v r far low =
    let e = dot_self v in
    let x = mul-le (unsigned_abs v.x) (unsigned_abs v.x) 60000000000000 60000000000000 far.x far.x in
    let y = mul-le (unsigned_abs v.y) (unsigned_abs v.y) 60000000000000 60000000000000 far.y far.y in
    under_root r 100000000000000 (unsigned_abs (dot v v)) low (omega arith)

-- a coordinate that isn't larger than the length is brought to at most the new length
pub scaled_within : (r l n : ℕ) (a q : ℤ) → 0 < l → n ≤ l → unsigned_abs a ≡ n * r → IsNearest a (pos l) q → unsigned_abs q ≤ r
scaled_within r l n a q some inside e near = by_place (unsigned_abs q) near.below (cases_lt r (unsigned_abs q))
  where
    by_place : (q : ℕ) → 2 * (q * l) ≤ 2 * unsigned_abs a + l → (r < q) ⊎ (q ≤ r) → q ≤ r
    by_place q below (inr h) = h
    by_place q below (inl h) = absurd (omega (arith, e, below, mul-le (r + 1) l q l (omega arith) (omega arith), mul-le n r l r inside (omega arith)))
