-- What holds of every chain.
use Rattle.std.proofs.Common.{◌≡◌, refl, ℕ, zero, suc, Bool, true, false, List, [], ◌∷◌, ◌++◌, map, Ok, Err, arith, ap, sym, ◌∙◌}
use Rattle.std.specs.Prelude.{ℤ, pos, ◌+ℤ◌, ◌-ℤ◌, if◌then◌else◌}
use Rattle.std.proofs.lemmas.List.{append_assoc, map-append}
use borrow.Author.Differences.{ints}
use Rattle.board_base.specs.declared.places.Point.{Point}
use Rattle.plane_arcs.specs.declared.arcs.Arc.{Arc}
use Rattle.plane_arcs.specs.declared.arcs.ArcError.TheVariants.{OpenArc, PastRange}
use Rattle.plane_arcs.specs.Vectors.{vector, added, is_zero, between, turned, vector_length, last_quarter}
use Rattle.plane_arcs.specs.Arcs.{bisections, bisected, quarters, pieces, round_to, points_round, is_open, all_inside, start_of, end_of, chain_points, chain_of}
use Rattle.plane_arcs.specs.Chains.{ChainLaw}
use Rattle.plane_arcs.proofs.QuarterLaws.{quarter_holds}

-- a list that ends with this one
abbrev EndsWith : {X : Type 0} → X → List X → Type 0
EndsWith {X} x xs = (inner : List X) × (xs ≡ inner ++ x ∷ [])

behind : {X : Type 0} (x : X) (xs ys : List X) → EndsWith x ys → EndsWith x (xs ++ ys)
behind x xs ys e = (xs ++ e.0, ap (λ zs. xs ++ zs) e.1 ∙ sym (append_assoc xs e.0 (x ∷ [])))

bisected_end : (n r : ℕ) (a c : Point) → EndsWith c (bisected n r a c)
bisected_end zero r a c = ([], refl)
bisected_end (suc n) r a c = behind c (bisected n r a (between r a c)) (bisected n r (between r a c) c) (bisected_end n r (between r a c) c)

round_end : (ccw : Bool) (u v : Point) → EndsWith v (round_to ccw u v)
unfolding round_to
round_end ccw u v = by_test (is_zero u)
  where
    by_test : (b : Bool) → EndsWith v (if b then v ∷ [] else pieces (bisections (vector_length u)) (vector_length u) ccw u (last_quarter ccw u v) v)
    by_test true = ([], refl)
    by_test false =
        behind v (quarters (bisections (vector_length u)) (vector_length u) ccw u (last_quarter ccw u v)) (bisected (bisections (vector_length u)) (vector_length u) (turned (last_quarter ccw u v) ccw u) v)
        (bisected_end (bisections (vector_length u)) (vector_length u) (turned (last_quarter ccw u v) ccw u) v)

-- back from the centre
back : (centre p : Point) → added centre (vector centre p) ≡ p
unfolding added vector
back centre p = rw (there centre.x p.x, there centre.y p.y)
  where
    there : (c x : ℤ) → c +ℤ (x -ℤ c) ≡ x
    there c x = omega (arith, ints)

points_end : (centre p : Point) (vectors : List Point) → EndsWith (vector centre p) vectors → EndsWith p (points_round centre vectors)
points_end centre p vectors e = (
  map (added centre) e.0,
  ap (map (added centre)) e.1 ∙ map-append (added centre) e.0 (vector centre p ∷ []) ∙ ap (λ q. map (added centre) e.0 ++ q ∷ []) (back centre p),
)

chain_ends : (arc : Arc) (points : List Point) → chain_of arc ≡ Ok points → (inner : List Point) × (points ≡ arc.start ∷ inner ++ arc.end ∷ [])
unfolding chain_of chain_points
chain_ends arc points e = by_tests (is_open (start_of arc) (end_of arc)) (all_inside (chain_points arc)) e
  where
    by_tests : (open_ends inside : Bool)
        → (if open_ends then Err (OpenArc (pos (vector_length (start_of arc))) (pos (vector_length (end_of arc)))) else if inside then Ok (chain_points arc) else Err PastRange) ≡ Ok points
        → (inner : List Point) × (points ≡ arc.start ∷ inner ++ arc.end ∷ [])
    by_tests true inside e = absurd cc
    by_tests false false e = absurd cc
    by_tests false true e =
        let same : points ≡ chain_points arc = cc in
        let last = points_end arc.centre arc.end (round_to arc.ccw (start_of arc) (end_of arc)) (round_end arc.ccw (start_of arc) (end_of arc)) in
        (last.0, same ∙ ap (λ ps. arc.start ∷ ps) last.1)

pub chain_law : ChainLaw
chain_law = record { ends = chain_ends; quarter = quarter_holds }
