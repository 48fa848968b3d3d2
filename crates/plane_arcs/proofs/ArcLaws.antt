-- Chains of an arc's pieces.
use Rattle.std.proofs.Common.{◌≡◌, refl, ℕ, zero, suc, ◌+◌, ◌-◌, ◌<◌, ◌≤◌, Bool, true, false, ◌&&◌, List, [], ◌∷◌, ◌++◌, Ok, Err, arith, ap, ◌∙◌, subst, ◌⊎◌, inl, inr, add-one, add-zero}
use Rattle.std.specs.List.{All}
use Rattle.std.proofs.lemmas.List.{append_assoc, map-append}
use Rattle.std.proofs.lemmas.List.Folds.{list_all-append}
use Rattle.std.specs.Prelude.{pos, if◌then◌else◌}
use Rattle.std.proofs.lemmas.List.Elements.{All-weaker}
use Rattle.std.proofs.lemmas.List.Sums.{AllPass-from_list_all}
use Rattle.board_base.specs.Places.{IsPlace}
use Rattle.board_base.specs.declared.places.Point.{Point}
use Rattle.plane_arcs.proofs.RangeLaws.{place_inside, inside_place}
use Rattle.plane_arcs.specs.declared.arcs.Arc.{Arc}
use Rattle.plane_arcs.specs.declared.arcs.ArcError.{ArcError}
use Rattle.plane_arcs.specs.declared.arcs.ArcError.TheVariants.{OpenArc, PastRange, Memory}
use Rattle.plane_arcs.specs.Vectors.{vector, vector_length, added, turned, quarter_on}
use Rattle.plane_arcs.specs.Arcs.{bisected, quarters, points_round, round_to, is_open, is_inside, all_inside, start_of, end_of, chain_points, chain_of, Stops}

-- one quarter more
pub next_quarter : (ccw : Bool) (u q next : Point) (k : ℕ) → q ≡ turned k ccw u → next ≡ quarter_on ccw q → next ≡ turned (k + 1) ccw u
next_quarter ccw u q next k here e = rw add-one (e ∙ ap (quarter_on ccw) here)

more : (n r : ℕ) (ccw : Bool) (u q next : Point) (k : ℕ) → q ≡ turned k ccw u → next ≡ quarter_on ccw q → quarters n r ccw u (k + 1) ≡ quarters n r ccw u k ++ bisected n r q next
more n r ccw u q next k here e =
    let there : next ≡ quarter_on ccw (turned k ccw u) = e ∙ ap (quarter_on ccw) here in
    rw (add-one, here, there)

-- the points so far, and those of one quarter more
pub more_points : (centre : Point) (n r : ℕ) (ccw : Bool) (u q next : Point) (k : ℕ) (before old new : List Point)
    → q ≡ turned k ccw u → next ≡ quarter_on ccw q
    → old ≡ before ++ points_round centre (quarters n r ccw u k)
    → new ≡ old ++ points_round centre (bisected n r q next)
    → new ≡ before ++ points_round centre (quarters n r ccw u (k + 1))
more_points centre n r ccw u q next k before old new here e was is =
    let m = more n r ccw u q next k here e in
    let split = map-append (added centre) (quarters n r ccw u k) (bisected n r q next) in
    let all = append_assoc before (points_round centre (quarters n r ccw u k)) (points_round centre (bisected n r q next)) in
    cc

-- whether they are in the range
pub more_inside : (centre : Point) (n r : ℕ) (ccw : Bool) (u q next : Point) (k : ℕ)
    → q ≡ turned k ccw u → next ≡ quarter_on ccw q
    → all_inside (points_round centre (quarters n r ccw u (k + 1))) ≡ (all_inside (points_round centre (quarters n r ccw u k)) && all_inside (points_round centre (bisected n r q next)))
more_inside centre n r ccw u q next k here e =
    ap (λ vs. all_inside (points_round centre vs)) (more n r ccw u q next k here e)
    ∙ ap all_inside (map-append (added centre) (quarters n r ccw u k) (bisected n r q next))
    ∙ list_all-append is_inside (points_round centre (quarters n r ccw u k)) (points_round centre (bisected n r q next))

-- a point past the range in the first quarters is one in more of them
stays_out : (centre : Point) (n r : ℕ) (ccw : Bool) (u : Point) (j d : ℕ) → all_inside (points_round centre (quarters n r ccw u j)) ≡ false → all_inside (points_round centre (quarters n r ccw u (j + d))) ≡ false
stays_out centre n r ccw u j zero e = rw add-zero e
stays_out centre n r ccw u j (suc d) e =
    let before = stays_out centre n r ccw u j d e in
    let next = more_inside centre n r ccw u (turned (j + d) ccw u) (quarter_on ccw (turned (j + d) ccw u)) (j + d) refl refl in
    let place : j + suc d ≡ (j + d) + 1 = omega arith in
    rw (place, next, before)

-- what stops the points of a quarter stops those of all quarters
pub quarter_stops : (centre : Point) (n r : ℕ) (ccw : Bool) (u q next : Point) (k count : ℕ) (e : ArcError)
    → q ≡ turned k ccw u → next ≡ quarter_on ccw q → k < count
    → Stops (points_round centre (bisected n r q next)) e → Stops (points_round centre (quarters n r ccw u count)) e
quarter_stops centre n r ccw u q next k count e here there less (inl memory) = inl memory
quarter_stops centre n r ccw u q next k count e here there less (inr (past, out)) =
    let more = more_inside centre n r ccw u q next k here there in
    let first = more ∙ ap (λ b. all_inside (points_round centre (quarters n r ccw u k)) && b) out ∙ never (all_inside (points_round centre (quarters n r ccw u k))) in
    let place : k + 1 + (count - (k + 1)) ≡ count = omega arith in
    inr (past, subst (λ m. all_inside (points_round centre (quarters n r ccw u m)) ≡ false) place (stays_out centre n r ccw u (k + 1) (count - (k + 1)) first))
  where
    never : (b : Bool) → (b && false) ≡ false
    never true = refl
    never false = refl

-- the points of a chain in the range are places
pub chain_places : (arc : Arc) (points : List Point) → chain_of arc ≡ Ok points → All IsPlace points
unfolding chain_of
chain_places arc points e = by_tests (is_open (start_of arc) (end_of arc)) (all_inside (chain_points arc)) refl e
  where
    by_tests : (open_ends inside : Bool) → all_inside (chain_points arc) ≡ inside
        → (if open_ends then Err (OpenArc (pos (vector_length (start_of arc))) (pos (vector_length (end_of arc)))) else if inside then Ok (chain_points arc) else Err PastRange) ≡ Ok points
        → All IsPlace points
    by_tests true inside h e = absurd cc
    by_tests false false h e = absurd cc
    by_tests false true h e =
        let same : chain_points arc ≡ points = cc in
        subst (All IsPlace) same (All-weaker (λ p. is_inside p ≡ true) IsPlace inside_place (chain_points arc) (AllPass-from_list_all is_inside (chain_points arc) h))

-- a list that is begun with one point
pub begun : (none kept points rest : List Point) (p : Point) → none ≡ [] → kept ≡ none ++ p ∷ [] → points ≡ kept ++ rest → points ≡ p ∷ rest
begun none kept points rest p e k is = is ∙ ap (λ xs. xs ++ rest) (k ∙ ap (λ xs. xs ++ p ∷ []) e)

module _ (arc : Arc) (u v : Point) (place : IsPlace arc.start) (begins : u ≡ vector arc.centre arc.start) (ends : v ≡ vector arc.centre arc.end) (closed : is_open u v ≡ false) where
  -- the chain's points in the range
  pub chain_is : (points : List Point) → points ≡ arc.start ∷ points_round arc.centre (round_to arc.ccw u v)
      → all_inside (points_round arc.centre (round_to arc.ccw u v)) ≡ true → chain_of arc ≡ Ok points
  unfolding chain_of chain_points
  chain_is points same inside =
      let start = place_inside arc.start place in
      rw (← begins, ← ends, closed, start, inside, same)

  -- a point past the range, or no memory
  pub chain_stops : (e : ArcError) → Stops (points_round arc.centre (round_to arc.ccw u v)) e → (e ≡ Memory) ⊎ (chain_of arc ≡ Err e)
  unfolding chain_of chain_points
  chain_stops e (inl memory) = inl memory
  chain_stops e (inr (past, out)) =
      let start = place_inside arc.start place in
      inr (rw (← begins, ← ends, closed, start, out, past))
