-- The values of a macro's primitives, and their pieces one after another.
use Rattle.std.proofs.Common.{◌≡◌, ℕ, ◌+◌, ◌*◌, ◌<◌, ◌≤◌, ◌⊎◌, inl, inr, ℤ, pos, List, [], ◌∷◌, ◌++◌, map, arith, ap, sym, ◌∙◌}
use Rattle.std.specs.Prelude.{unsigned_abs}
use Rattle.std.specs.List.{All, AllByRecursion, range_with_len}
use borrow.Author.Differences.{ints}
use Rattle.std.proofs.lemmas.Bool.{cases_lt}
use Rattle.std.proofs.lemmas.Nat.{mul-le}
use Rattle.std.proofs.lemmas.List.Elements.{All-from_recursion, All-weaker}
use Rattle.std.proofs.lemmas.List.FromFn.{map-range_with_len_more}
use Rattle.board_base.specs.declared.places.Point.{Point}
use Rattle.board_base.specs.Places.{IsPlace}
use Rattle.fixed_num.specs.Rounding.{IsNearest}
use Rattle.fixed_num.proofs.RootLaws.{under_root}
use Rattle.plane_arcs.specs.Vectors.{IsUpTo, dot}
use Rattle.plane_arcs.proofs.VectorLaws.{dot_self}
use Rattle.shape_parts.specs.Parts.{IsPart, IsPiece}
use Rattle.shape_parts.specs.declared.shape.Part.{Part}
use Rattle.shape_parts.specs.declared.shape.Part.TheVariants.{Disc, Capsule, Area}
use Rattle.shape_parts.specs.declared.shape.Piece.{Piece}
use Rattle.apertures.specs.Figures.{IsBounded, IsBoundedPiece}
use Rattle.macro_eval.specs.Values.{IsValue}
use Rattle.macro_eval.specs.Primitives.{IsWhole}
use Rattle.macro_eval.specs.declared.machine.Primitive.{Primitive}
use Rattle.apertures.specs.Primitives.{HasValues}

-- the primitives that a macro gives have such values
pub have_values : (ps : List Primitive) → AllByRecursion IsWhole ps → All HasValues ps
have_values ps all = All-weaker IsWhole HasValues (λ p whole. All-from_recursion IsValue p.values whole.values) ps (All-from_recursion IsWhole ps all)

-- one point more
pub next_point : (f : ℕ → Point) (k : ℕ) (old new : List Point) (p : Point) → old ≡ map f (range_with_len 0 k) → p ≡ f k → new ≡ old ++ p ∷ [] → new ≡ map f (range_with_len 0 (k + 1))
next_point f k old new p first e more =
    more ∙ ap (λ l. l ++ p ∷ []) first ∙ ap (λ q. map f (range_with_len 0 k) ++ q ∷ []) e ∙ sym (map-range_with_len_more f 0 k k (omega arith))

-- a coordinate of the side of a line is at most half of its width, rounded
pub side_within : (l n w : ℕ) (a q : ℤ) → 0 < l → n ≤ l → w ≤ 1000000000 → unsigned_abs a ≡ n * w → IsNearest a (pos (2 * l)) q → unsigned_abs q ≤ 1000000000
side_within l n w a q some inside wide e near = by_place (unsigned_abs q) near.below (cases_lt 1000000000 (unsigned_abs q))
  where
    by_place : (q : ℕ) → 2 * (q * (2 * l)) ≤ 2 * unsigned_abs a + 2 * l → (1000000000 < q) ⊎ (q ≤ 1000000000) → q ≤ 1000000000
    by_place q below (inr h) = h
    by_place q below (inl h) = absurd (omega (arith, e, below, mul-le 1000000001 (2 * l) q (2 * l) (omega arith) (omega arith), mul-le n w l 1000000000 inside wide))

-- the length of a way between two points that were read
pub length_small : (v : Point) (r : ℕ) → IsUpTo 60000000000000000 v → r * r ≤ unsigned_abs (dot v v) → r ≤ 100000000000000000
length_small v r far low =
    let e = dot_self v in
    let x = mul-le (unsigned_abs v.x) (unsigned_abs v.x) 60000000000000000 60000000000000000 far.x far.x in
    let y = mul-le (unsigned_abs v.y) (unsigned_abs v.y) 60000000000000000 60000000000000000 far.y far.y in
    under_root r 100000000000000000 (unsigned_abs (dot v v)) low (omega arith)

-- a place is near enough to the origin to be moved
pub place_short : (p : Point) → IsPlace p → IsUpTo 1000000000 p
place_short p h = record { x = omega (arith, ints, h.x.low, h.x.high); y = omega (arith, ints, h.y.low, h.y.high) }

pub place_up_to : (p : Point) → IsPlace p → IsUpTo 30000000000000000 p
place_up_to p h = let short = place_short p h in record { x = omega (arith, short.x); y = omega (arith, short.y) }

-- pieces of bounded parts may stand in a shape
pub may_stand : (ps : List Piece) → All IsBoundedPiece ps → All IsPiece ps
may_stand ps all = All-weaker IsBoundedPiece IsPiece (λ p h. part p.part h) ps all
  where
    part : (p : Part) → IsBounded p → IsPart p
    part (Disc c d) h = h
    part (Capsule a b d) h = h
    part (Area loops) h = tt
