-- Two boards of one outline keep the same cells.
use Rattle.std.proofs.Common.{◌≡◌, ◌≢◌, ℕ, ◌+◌, ℤ, pos, ◌-ℤ◌, ◌*ℤ◌, ◌≤ℤ◌, Bool, true, false, cond, ◌&&◌, ◌||◌, ◌⊎◌, inl, inr, List, [], ◌∷◌, refl, sym, ap, ◌∙◌, arith}
use Rattle.std.specs.List.{count_by, list_any}
use Rattle.std.proofs.lemmas.Bool.{or_cases, or_left, or_right}
use Rattle.std.proofs.lemmas.Bool.Decides.{same_from_decides}
use Rattle.std.proofs.lemmas.List.Folds.{list_any-append}
use Rattle.std.proofs.lemmas.List.Sums.{sum_by-cons}
use borrow.Author.Differences.{ints}
use Rattle.number_laws.proofs.Tests.{by_bool}
use Rattle.number_laws.proofs.Ring.{var, num, sub, mul, ring}
use Rattle.board_base.specs.declared.places.Cell.{Cell}
use Rattle.board_base.specs.declared.places.Point.{Point}
use Rattle.board_base.specs.Lattice.{centre_of, half_diagonal_of}
use Rattle.board_base.specs.Near.{near_of}
use Rattle.plane_geom.proofs.Segment.{gap}
use Rattle.plane_geom.proofs.NearLaws.{near_from_reached}
use Rattle.plane_geom.proofs.Axis.{reached_of}
use Rattle.poly_area.specs.declared.edges.Edge.{Edge}
use Rattle.poly_area.specs.Area.{edges_of, is_near, area_near}
use Rattle.shape_parts.specs.declared.shape.Part.TheVariants.{Area}
use Rattle.shape_parts.specs.declared.shape.Painted.{Painted}
use Rattle.shape_parts.specs.Cover.{is_kept}
use Rattle.shape_parts.specs.Parts.{twice, part_touches}
use Rattle.copper_cover.specs.Kept.{keeps}
use Rattle.outline_loops.specs.Segments.{joins}
use Rattle.outline_loops.specs.Board.{area_loops, AreSegments, IsBoard}
use Rattle.outline_loops.proofs.PointLaws.{ends_are, are_there}
use Rattle.outline_loops.proofs.TracedLaws.{edges-append}
use Rattle.outline_loops.proofs.AnswerLaws.{one_board}
use Rattle.mill_plan.proofs.UnitLaws.{gap_ex}
use Rattle.outline_plan.specs.CutOut.{board_of}

-- ---- segments turned round

-- what is near a segment is near it the other way
near_turned : (q a b : Point) (d : ℤ) → near_of q a b d ≡ true → near_of q b a d ≡ true
near_turned q a b d near =
    let p = reached_of q a b d near in
    near_from_reached q b a d (record {
      m = p.n -ℤ p.m;
      n = p.n;
      n_pos = p.n_pos;
      m_low = left p.m p.n p.m_high;
      m_high = right p.m p.n p.m_low;
      within =
          let e : pos 4 *ℤ gap (a.x -ℤ b.x) (a.y -ℤ b.y) (q.x -ℤ b.x) (q.y -ℤ b.y) (p.n -ℤ p.m) p.n ≡ pos 4 *ℤ gap (b.x -ℤ a.x) (b.y -ℤ a.y) (q.x -ℤ a.x) (q.y -ℤ a.y) p.m p.n =
          ring (a.x ∷ a.y ∷ b.x ∷ b.y ∷ q.x ∷ q.y ∷ p.m ∷ p.n ∷ [])
          (mul (num (pos 4)) (gap_ex (sub (var 0) (var 2)) (sub (var 1) (var 3)) (sub (var 4) (var 2)) (sub (var 5) (var 3)) (sub (var 7) (var 6)) (var 7)))
          (mul (num (pos 4)) (gap_ex (sub (var 2) (var 0)) (sub (var 3) (var 1)) (sub (var 4) (var 0)) (sub (var 5) (var 1)) (var 6) (var 7))) refl in
          rw e p.within;
    })
  where
    left : (m n : ℤ) → m ≤ℤ n → pos 0 ≤ℤ (n -ℤ m)
    left m n h = omega (arith, ints)

    right : (m n : ℤ) → pos 0 ≤ℤ m → (n -ℤ m) ≤ℤ n
    right m n h = omega (arith, ints)

-- an edge between the ends of another is as near
joined_near : (q : Point) (d : ℤ) (e f : Edge) → is_near q d e ≡ true → joins e.from e.to f ≡ true → is_near q d f ≡ true
joined_near q d e f near joined = by (ends_are e.from e.to f.from f.to joined)
  where
    by : ((e.from ≡ f.from) × (e.to ≡ f.to)) ⊎ ((e.from ≡ f.to) × (e.to ≡ f.from)) → is_near q d f ≡ true
    by (inl (from, to)) = (λ t. near_of q (sym from t) (sym to t) d) ∙ near
    by (inr (from, to)) = (λ t. near_of q (sym to t) (sym from t) d) ∙ near_turned q e.from e.to d near

-- ---- edges that are near

-- what an edge adds to the count of those that pass
abbrev counted : (Edge → Bool) → Edge → ℕ
counted p e = cond (p e) 1 0

-- an edge of a list is near, and counts there
record IsNearIn (q : Point) (d : ℤ) (es : List Edge) : Type 0 where
  edge : Edge
  near : is_near q d edge ≡ true
  counts : count_by (joins edge.from edge.to) es ≢ 0

near_in : (q : Point) (d : ℤ) (es : List Edge) → list_any (is_near q d) es ≡ true → IsNearIn q d es
near_in q d [] any = absurd cc
near_in q d (e ∷ es) any =
    elim (or_cases (is_near q d e) (list_any (is_near q d) es) any) as (λ _. IsNearIn q d (e ∷ es)) [
      | inl here ↦ record { edge = e; near = here; counts = λ none. first (joins e.from e.to e) (count_by (joins e.from e.to) es) (are_there e.from e.to) (sym (sum_by-cons (counted (joins e.from e.to)) e es) ∙ none) }
      | inr later ↦ (
          let n : IsNearIn q d es = near_in q d es later in
          record { edge = n.edge; near = n.near; counts = λ none. n.counts (behind (joins (n.edge).from (n.edge).to e) (count_by (joins (n.edge).from (n.edge).to) es) (sym (sum_by-cons (counted (joins (n.edge).from (n.edge).to)) e es) ∙ none)) })
    ]
  where
    first : (t : Bool) (n : ℕ) → t ≡ true → cond t 1 0 + n ≡ 0 → ⊥
    first true n e f = omega (arith, f)
    first false n e f = absurd cc

    behind : (t : Bool) (n : ℕ) → cond t 1 0 + n ≡ 0 → n ≡ 0
    behind true n f = omega (arith, f)
    behind false n f = omega (arith, f)

-- where some members pass one test, and each that does passes another, some pass the other
counted_any : (p r : Edge → Bool) (es : List Edge) → ((e : Edge) → p e ≡ true → r e ≡ true) → count_by p es ≢ 0 → list_any r es ≡ true
counted_any p r [] to some = absurd (some refl)
counted_any p r (e ∷ es) to some =
    by_bool (p e)
    (λ yes. or_left (r e) (list_any r es) (to e yes))
    (λ no. or_right (r e) (list_any r es) (counted_any p r es to (λ none. some (sum_by-cons (counted p) e es ∙ nothing (p e) (count_by p es) no none))))
  where
    nothing : (t : Bool) (n : ℕ) → t ≡ false → n ≡ 0 → cond t 1 0 + n ≡ 0
    nothing true n e f = absurd cc
    nothing false n e f = omega (arith, f)

module _ (painted : List Painted) (q : Point) (d : ℤ) where
  -- where an edge of the segments in one list is near, one of the other is
  near_there : (es fs : List Edge) → AreSegments painted es → AreSegments painted fs → list_any (is_near q d) es ≡ true → list_any (is_near q d) fs ≡ true
  near_there es fs a b any =
      let n : IsNearIn q d es = near_in q d es any in
      let u : Point = (n.edge).from in
      let v : Point = (n.edge).to in
      counted_any (joins u v) (is_near q d) fs (λ f joined. joined_near q d n.edge f n.near joined) (λ none. n.counts (a u v ∙ sym (b u v) ∙ none))

  near_board : (ls : List (List Point)) (a : IsBoard painted ls) → area_near q d ls ≡ (list_any (is_near q d) (edges_of (area_loops painted)) || list_any (is_near q d) (edges_of a.traced))
  near_board ls a =
      ap (λ (ks : List (List Point)). list_any (is_near q d) (edges_of ks)) a.all ∙ ap (list_any (is_near q d)) (edges-append (area_loops painted) a.traced)
      ∙ list_any-append (is_near q d) (edges_of (area_loops painted)) (edges_of a.traced)

  one_near : (ls ms : List (List Point)) → IsBoard painted ls → IsBoard painted ms → area_near q d ls ≡ area_near q d ms
  one_near ls ms a b =
      near_board ls a
      ∙ ap (λ (t : Bool). list_any (is_near q d) (edges_of (area_loops painted)) || t)
      (same (list_any (is_near q d) (edges_of a.traced)) (list_any (is_near q d) (edges_of b.traced)) (near_there (edges_of a.traced) (edges_of b.traced) a.segments b.segments) (near_there (edges_of b.traced) (edges_of a.traced) b.segments a.segments))
      ∙ sym (near_board ms b)
    where
      same : (s t : Bool) → (s ≡ true → t ≡ true) → (t ≡ true → s ≡ true) → s ≡ t
      same s t f g = same_from_decides s t ((λ e. e), (λ e. e)) (g, f)

-- ---- cells that are kept

-- a board of one area keeps what the area touches
kept_board : (c : Point) (h : ℤ) (ls : List (List Point)) → is_kept c h (board_of ls) ≡ part_touches c h (Area ls)
kept_board c h ls = plain (part_touches c h (Area ls))
  where
    plain : (b : Bool) → ((((b && true) || false) && true) || false) ≡ b
    plain true = refl
    plain false = refl

pub one_kept : (painted : List Painted) (pitch : ℤ) (ls ms : List (List Point)) → IsBoard painted ls → IsBoard painted ms → (c : Cell) → keeps pitch (board_of ls) c ≡ keeps pitch (board_of ms) c
unfolding keeps
one_kept painted pitch ls ms a b c =
    let near = one_near painted (centre_of pitch c) (twice (half_diagonal_of pitch)) ls ms a b in
    let holds = one_board painted ls ms (centre_of pitch c) a b in
    kept_board (centre_of pitch c) (half_diagonal_of pitch) ls ∙ (λ t. near t || holds t) ∙ sym (kept_board (centre_of pitch c) (half_diagonal_of pitch) ms)
