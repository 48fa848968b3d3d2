-- Two boards of one outline have one rectangle.
use Rattle.std.proofs.Common.{◌≡◌, ℕ, zero, suc, ◌+◌, ◌<◌, Bool, true, false, cond, ◌⊎◌, inl, inr, List, [], ◌∷◌, ◌++◌, refl, sym, ap, ◌∙◌, subst, arith}
use Rattle.std.specs.List.{Contains, count_by}
use Rattle.std.proofs.lemmas.List.Elements.{Contains-append_left, Contains-append_right, Contains-append_cases}
use Rattle.std.proofs.lemmas.List.Sums.{sum_by-cons}
use Rattle.board_base.specs.declared.places.Point.{Point}
use Rattle.poly_area.specs.declared.edges.Edge.{Edge}
use Rattle.poly_area.specs.Area.{edges_along, loop_edges, edges_of}
use Rattle.shape_parts.specs.declared.shape.Painted.{Painted}
use Rattle.copper_cover.specs.Kept.{dark_rectangle}
use Rattle.outline_loops.specs.Segments.{joins, is_segment}
use Rattle.outline_loops.specs.Board.{area_loops, AreSegments, IsBoard}
use Rattle.outline_loops.proofs.PointLaws.{ends_are, are_there}
use Rattle.outline_loops.proofs.TracedLaws.{edges-append}
use Rattle.outline_plan.specs.CutOut.{board_of}
use Rattle.outline_plan.proofs.BoxLaws.{HasFrom, same_box}

-- ---- counts

one_more : {X : Type 0} (p : X → Bool) (x : X) (xs : List X) → count_by p (x ∷ xs) ≡ cond (p x) 1 0 + count_by p xs
one_more p x xs = sum_by-cons (λ y. cond (p y) 1 0) x xs

-- a member that passes counts
some_counted : {X : Type 0} (p : X → Bool) (xs : List X) (x : X) → Contains xs x → p x ≡ true → 0 < count_by p xs
some_counted p [] x there e = absurd (omega (arith, there.1))
some_counted p (y ∷ xs) x (zero, inside, here) e = by (p y) (count_by p xs) (ap p here ∙ e) (one_more p y xs)
  where
    by : (t : Bool) (n : ℕ) → t ≡ true → count_by p (y ∷ xs) ≡ cond t 1 0 + n → 0 < count_by p (y ∷ xs)
    by true n f g = omega (arith, g)
    by false n f g = absurd (cc)
some_counted p (y ∷ xs) x (suc k, inside, here) e =
    let n : 0 < count_by p xs = some_counted p xs x (k, omega (arith, inside), here) e in
    let m = one_more p y xs in
    omega (arith, n, m)

-- where some are counted, a member passes
record IsMember {X : Type 0} (p : X → Bool) (xs : List X) : Type 0 where
  it : X
  there : Contains xs it
  passes : p it ≡ true

member : {X : Type 0} (p : X → Bool) (xs : List X) → 0 < count_by p xs → IsMember p xs
member p [] some = absurd (omega (arith, some))
member p (x ∷ xs) some = by (p x) refl (λ more. member p xs more)
  where
    left : (t : Bool) (n : ℕ) → t ≡ false → count_by p (x ∷ xs) ≡ cond t 1 0 + n → 0 < n
    left true n f g = absurd (cc)
    left false n f g = omega (arith, g, some)

    later : IsMember p xs → IsMember p (x ∷ xs)
    later m = record { it = m.it; there = (let c = m.there in (suc c.0, omega (arith, c.1), c.2)); passes = m.passes }

    by : (t : Bool) → p x ≡ t → (0 < count_by p xs → IsMember p xs) → IsMember p (x ∷ xs)
    by true e rest = record { it = x; there = (0, omega arith, refl); passes = e }
    by false e rest = later (rest (left (p x) (count_by p xs) e (one_more p x xs)))

-- ---- edges of loops

from_left : (es fs : List Edge) (p : Point) → HasFrom es p → HasFrom (es ++ fs) p
from_left es fs p h = record { edge = h.edge; there = Contains-append_left es fs h.edge h.there; is = h.is }

from_right : (es fs : List Edge) (p : Point) → HasFrom fs p → HasFrom (es ++ fs) p
from_right es fs p h = record { edge = h.edge; there = Contains-append_right es fs h.edge h.there; is = h.is }

from_first : (f v : Point) (vs : List Point) → HasFrom (edges_along f v vs) v
from_first f v [] = record { edge = record { from = v; to = f; last = true }; there = (0, omega arith, refl); is = refl }
from_first f v (w ∷ vs) = record { edge = record { from = v; to = w; last = false }; there = (0, omega arith, refl); is = refl }

from_later : (e : Edge) (es : List Edge) (p : Point) → HasFrom es p → HasFrom (e ∷ es) p
from_later e es p h = record { edge = h.edge; there = (let m = h.there in (suc m.0, omega (arith, m.1), m.2)); is = h.is }

-- where an edge leads, another begins, or the loop is closed
along_on : (f u : Point) (us : List Point) (e : Edge) → Contains (edges_along f u us) e → (f ≡ e.to) ⊎ HasFrom (edges_along f u us) e.to
along_on f u [] e (zero, inside, here) = inl (ap (λ (g : Edge). g.to) here)
along_on f u [] e (suc k, inside, here) = absurd (omega (arith, inside))
along_on f u (v ∷ vs) e (zero, inside, here) =
    inr (subst (HasFrom (edges_along f u (v ∷ vs))) (ap (λ (g : Edge). g.to) here) (from_later (record { from = u; to = v; last = false }) (edges_along f v vs) v (from_first f v vs)))
along_on f u (v ∷ vs) e (suc k, inside, here) = by (along_on f v vs e (k, omega (arith, inside), here))
  where
    by : (f ≡ e.to) ⊎ HasFrom (edges_along f v vs) e.to → (f ≡ e.to) ⊎ HasFrom (edges_along f u (v ∷ vs)) e.to
    by (inl is) = inl is
    by (inr h) = inr (from_later (record { from = u; to = v; last = false }) (edges_along f v vs) e.to h)

loop_on : (points : List Point) (e : Edge) → Contains (loop_edges points) e → HasFrom (loop_edges points) e.to
loop_on [] e there = absurd (omega (arith, there.1))
loop_on (u ∷ us) e there = by (along_on u u us e there)
  where
    by : (u ≡ e.to) ⊎ HasFrom (edges_along u u us) e.to → HasFrom (edges_along u u us) e.to
    by (inl is) = subst (HasFrom (edges_along u u us)) is (from_first u u us)
    by (inr h) = h

edges_on : (loops : List (List Point)) (e : Edge) → Contains (edges_of loops) e → HasFrom (edges_of loops) e.to
edges_on [] e there = absurd (omega (arith, there.1))
edges_on (points ∷ loops) e there = by (λ m. edges_on loops e m) (Contains-append_cases (loop_edges points) (edges_of loops) e there)
  where
    by : (Contains (edges_of loops) e → HasFrom (edges_of loops) e.to) → Contains (loop_edges points) e ⊎ Contains (edges_of loops) e → HasFrom (loop_edges points ++ edges_of loops) e.to
    by rest (inl m) = from_left (loop_edges points) (edges_of loops) e.to (loop_on points e m)
    by rest (inr m) = from_right (loop_edges points) (edges_of loops) e.to (rest m)

-- ---- ends of segments

-- a segment ends at the point
record IsEnd (painted : List Painted) (p : Point) : Type 0 where
  other : Point
  segment : is_segment painted p other ≡ true

end_of : (painted : List Painted) (edges : List Edge) (p : Point) → AreSegments painted edges → HasFrom edges p → IsEnd painted p
end_of painted edges p are h =
    let e : Edge = h.edge in
    record { other = e.to; segment = subst (λ (q : Point). is_segment painted q e.to ≡ true) h.is (by (is_segment painted e.from e.to) (are e.from e.to) (some_counted (joins e.from e.to) edges e h.there (are_there e.from e.to))) }
  where
    by : (t : Bool) → count_by (joins (h.edge).from (h.edge).to) edges ≡ cond t 1 0 → 0 < count_by (joins (h.edge).from (h.edge).to) edges → t ≡ true
    by true e some = refl
    by false e some = absurd (omega (arith, e, some))

of_end : (painted : List Painted) (loops : List (List Point)) (p : Point) → AreSegments painted (edges_of loops) → IsEnd painted p → HasFrom (edges_of loops) p
of_end painted loops p are end =
    let m = member (joins p end.other) (edges_of loops) (some (is_segment painted p end.other) end.segment (are p end.other)) in
    by m.it m.there (ends_are p end.other (m.it).from (m.it).to m.passes)
  where
    some : (t : Bool) → t ≡ true → count_by (joins p end.other) (edges_of loops) ≡ cond t 1 0 → 0 < count_by (joins p end.other) (edges_of loops)
    some true e f = omega (arith, f)
    some false e f = absurd (cc)

    by : (e : Edge) → Contains (edges_of loops) e → ((p ≡ e.from) × (end.other ≡ e.to)) ⊎ ((p ≡ e.to) × (end.other ≡ e.from)) → HasFrom (edges_of loops) p
    by e there (inl (is, k)) = record { edge = e; there = there; is = sym is }
    by e there (inr (is, k)) = subst (HasFrom (edges_of loops)) (sym is) (edges_on loops e there)

-- ---- boards

from_board : (painted : List Painted) (ls ms : List (List Point)) → IsBoard painted ls → IsBoard painted ms → (p : Point) → HasFrom (edges_of ls) p → HasFrom (edges_of ms) p
from_board painted ls ms a b p h =
    let whole : edges_of ls ≡ edges_of (area_loops painted) ++ edges_of a.traced = ap (λ (l : List (List Point)). edges_of l) a.all ∙ edges-append (area_loops painted) a.traced in
    let other : edges_of ms ≡ edges_of (area_loops painted) ++ edges_of b.traced = ap (λ (l : List (List Point)). edges_of l) b.all ∙ edges-append (area_loops painted) b.traced in
    subst (λ (es : List Edge). HasFrom es p) (sym other) (by h.edge h.is (Contains-append_cases (edges_of (area_loops painted)) (edges_of a.traced) h.edge (subst (λ (es : List Edge). Contains es h.edge) whole h.there)))
  where
    by : (e : Edge) → e.from ≡ p → Contains (edges_of (area_loops painted)) e ⊎ Contains (edges_of a.traced) e → HasFrom (edges_of (area_loops painted) ++ edges_of b.traced) p
    by e is (inl m) = from_left (edges_of (area_loops painted)) (edges_of b.traced) p (record { edge = e; there = m; is = is })
    by e is (inr m) =
        from_right (edges_of (area_loops painted)) (edges_of b.traced) p
        (of_end painted b.traced p b.segments (end_of painted (edges_of a.traced) p a.segments (record { edge = e; there = m; is = is })))

pub one_rectangle : (painted : List Painted) (ls ms : List (List Point)) → IsBoard painted ls → IsBoard painted ms → dark_rectangle (board_of ls) ≡ dark_rectangle (board_of ms)
one_rectangle painted ls ms a b = same_box (edges_of ls) (edges_of ms) (from_board painted ls ms a b) (from_board painted ms ls b a)
