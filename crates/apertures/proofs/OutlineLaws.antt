-- The outlines of rectangles and polygons, point by point.
use Rattle.std.proofs.Common.{◌≡◌, ℕ, ◌+◌, ℤ, List, [], ◌∷◌, ◌++◌, map, arith, ap, sym, ◌∙◌}
use Rattle.std.specs.List.{All, range_with_len}
use Rattle.std.proofs.lemmas.List.Elements.{All-append, All-cons, All-nil}
use Rattle.std.proofs.lemmas.List.FromFn.{map-range_with_len_more}
use Rattle.board_base.specs.declared.places.Point.{Point}
use Rattle.board_base.specs.Places.{IsPlace}
use Rattle.apertures.specs.Outlines.{vertex}

-- four points that are places
pub four : (a b c d : Point) → IsPlace a → IsPlace b → IsPlace c → IsPlace d → All IsPlace (a ∷ b ∷ c ∷ d ∷ [])
four a b c d p q r s =
    All-cons IsPlace a (b ∷ c ∷ d ∷ []) p (All-cons IsPlace b (c ∷ d ∷ []) q (All-cons IsPlace c (d ∷ []) r (All-cons IsPlace d [] s (All-nil IsPlace))))

-- the first k vertices, which are places
abbrev pub FirstVertices : ℤ → ℕ → ℕ → ℕ → List Point → Type 0
FirstVertices d n turn k points = (points ≡ map (vertex d n turn) (range_with_len 0 k)) × All IsPlace points

-- one vertex more
pub one_more : (d : ℤ) (n turn k : ℕ) (old new : List Point) (p : Point) → FirstVertices d n turn k old → p ≡ vertex d n turn k → IsPlace p → new ≡ old ++ p ∷ []
    → FirstVertices d n turn (k + 1) new
one_more d n turn k old new p first e place more = rw more (
  ap (λ l. l ++ p ∷ []) first.0 ∙ ap (λ q. map (vertex d n turn) (range_with_len 0 k) ++ q ∷ []) e ∙ sym (map-range_with_len_more (vertex d n turn) 0 k k (omega arith)),
  All-append IsPlace old (p ∷ []) first.1 (All-cons IsPlace p [] place (All-nil IsPlace)),
)
