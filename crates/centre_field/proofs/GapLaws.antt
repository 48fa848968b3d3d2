-- A row that is finished gap by gap.
use Rattle.std.proofs.Common.{◌≡◌, ◌≢◌, ℕ, ◌<◌, ◌≤◌, ◌+◌, ◌-◌, ◌*◌, ◌==◌, ◌⊎◌, inl, inr, Bool, true, false, not, nat_le, ◌&&◌, get_or, refl, sym, ap, subst, ◌∙◌, arith}
use Rattle.std.proofs.lemmas.Bool.{cases_lt}
use Rattle.std.proofs.lemmas.Bool.Decides.{nat_tests}
use Rattle.std.specs.Int.{abs_diff}
use Rattle.cell_grid.specs.Grid.{Grid}
use Rattle.centre_field.specs.Distances.{none, square_gap}
use Rattle.centre_field.specs.Columns.{number_at}
use Rattle.centre_field.specs.Rows.{value_at, has_distance, square_in, AreDistances, has_distance_from, AreDistancesFrom, IsLeastInRow, IsLeastInSpan, WritesSpan, FinishesRow}
use Rattle.centre_field.proofs.ListingLaws.{some_distance, part_from}
use Rattle.centre_field.proofs.SpanLaws.{span_is_row}

-- the columns before x have their least values, and the others are as they were
pub record IsFinishedTo (start : Grid) (y : ℕ) (g : Grid) (x : ℕ) : Type 0 where
  pub rest : g ≡ record start { clearances = g.clearances; scratch = g.scratch }
  pub width : start.frame.width ≡ g.frame.width
  pub height : start.frame.height ≡ g.frame.height
  pub low : x ≤ start.frame.width
  pub before : (k : ℕ) → k < y * start.frame.width → get_or g.clearances k 0 ≡ get_or start.clearances k 0
  pub after : (k : ℕ) → y * start.frame.width + start.frame.width ≤ k → get_or g.clearances k 0 ≡ get_or start.clearances k 0
  pub done : (a : ℕ) → a < x → IsLeastInRow start y a (number_at g a y)
  pub later : (a : ℕ) → x ≤ a → a < start.frame.width → number_at g a y ≡ number_at start a y
  pub edge : 0 < x → x < start.frame.width → number_at start x y ≡ 0

pub none_finished_yet : (start : Grid) (y : ℕ) → IsFinishedTo start y start 0
none_finished_yet start y = record {
  rest = refl;
  width = refl;
  height = refl;
  low = omega arith;
  before = λ k h. refl;
  after = λ k h. refl;
  done = λ a h. absurd (omega arith);
  later = λ a h l. refl;
  edge = λ h l. absurd (omega arith);
}

pub row_is_finished : (start g : Grid) (y x : ℕ) → IsFinishedTo start y g x → start.frame.width ≤ x → FinishesRow start g y
row_is_finished start g y x p e = record { rest = p.rest; before = p.before; after = p.after; least = λ a a_in. p.done a (omega arith) }

no_gap : (x : ℕ) → square_gap x x ≡ 0
unfolding square_gap
no_gap x = let z : abs_diff x x ≡ 0 = omega arith in ap (λ (i : ℕ). i * i) z

-- a kept cell's number is its least
kept_least : (g : Grid) (y a v : ℕ) → a < g.frame.width → number_at g a y ≡ 0 → v ≡ 0 → IsLeastInRow g y a v
unfolding value_at
kept_least g y a v a_in e z = record {
  bound = λ b b_in on. omega (arith, z);
  reached = inl (a, (a_in, (some_distance (number_at g a y) (omega (arith, e)), own)));
}
  where
    own : v ≡ value_at (square_in g y) a a
    own = let s : number_at g a y * number_at g a y ≡ 0 = ap (λ (i : ℕ). i * i) e in omega (arith, z, s, no_gap a)

-- the span's least is the same where its columns are
span_same : (g start : Grid) (y from to x v : ℕ) → to ≤ start.frame.width → ((a : ℕ) → from ≤ a → a < start.frame.width → number_at g a y ≡ number_at start a y)
    → IsLeastInSpan g y from to x v → IsLeastInSpan start y from to x v
unfolding value_at
span_same g start y from to x v to_in same p = record {
  bound = λ a h on.
      let late = part_from from a (has_distance start y a) on in
      let e = same a late (omega arith) in
      let d : value_at (square_in g y) x a ≡ value_at (square_in start y) x a = ap (λ (i : ℕ). square_gap x a + i * i) e in
      let b = p.bound a h (test a late h ∙ on) in
      omega arith;
  reached = elim p.reached as (λ _. ((a : ℕ) × ((a < to) × ((has_distance_from start y from a ≡ true) × (v ≡ value_at (square_in start y) x a)))) ⊎ ((v ≡ none) × ((a : ℕ) → a < to → has_distance_from start y from a ≡ false))) [
    | inl w ↦
        let late = part_from from w.0 (has_distance g y w.0) w.1.1.0 in
        let low = w.1.0 in
        inl (w.0, (w.1.0, (sym (test w.0 late w.1.0) ∙ w.1.1.0, w.1.1.1 ∙ ap (λ (i : ℕ). square_gap x w.0 + i * i) (same w.0 late (omega arith)))))
    | inr w ↦ inr (
      w.0,
      λ a h. elim (cases_lt a from) as (λ _. has_distance_from start y from a ≡ false) [
        | inl early ↦ is_early from a (has_distance start y a) early
        | inr late ↦ sym (test a late h) ∙ w.1 a h
      ],
    )
  ];
}
  where
    test : (a : ℕ) → from ≤ a → a < to → has_distance_from g y from a ≡ has_distance_from start y from a
    test a late h = ap (λ (i : ℕ). nat_le from a && not (i == none)) (same a late (omega arith))

    is_early : (m a : ℕ) (h : Bool) → a < m → (nat_le m a && h) ≡ false
    is_early m a h l = grind (arith, nat_tests)

zero_value : (g : Grid) (y a v : ℕ) → number_at g a y ≡ 0 → v ≤ value_at (square_in g y) a a → v ≡ 0
unfolding value_at
zero_value g y a v z h = let s : number_at g a y * number_at g a y ≡ 0 = ap (λ (i : ℕ). i * i) z in omega (arith, h, s, no_gap a)

-- one gap further, with what was kept before it
module _ (start g : Grid) (y x gap end : ℕ) (p : IsFinishedTo start y g x) (low : x ≤ gap) (order : gap ≤ end) (high : end ≤ g.frame.width)
    (kept : (a : ℕ) → x ≤ a → a < gap → number_at g a y ≡ 0) (found : end < g.frame.width → number_at g end y ≡ 0) where
  edge_there : end < start.frame.width → number_at start end y ≡ 0
  edge_there h = sym (p.later end (omega arith) h) ∙ found (omega (arith, p.width))

  done_before : (a v : ℕ) → a < gap → v ≡ number_at g a y → IsLeastInRow start y a v
  done_before a v h e =
      elim (cases_lt a x) as (λ _. IsLeastInRow start y a v) [
        | inl early ↦ subst (IsLeastInRow start y a) (sym e) (p.done a early)
        | inr late ↦
            let z = kept a late h in
            let a_in : a < start.frame.width = omega (arith, p.width) in
            kept_least start y a v a_in (sym (p.later a late a_in) ∙ z) (e ∙ z)
      ]

  pub no_gap_left : end ≤ gap → IsFinishedTo start y g end
  no_gap_left none_left = record {
    rest = p.rest;
    width = p.width;
    height = p.height;
    low = omega (arith, p.width);
    before = p.before;
    after = p.after;
    done = λ a h. done_before a (number_at g a y) (omega arith) refl;
    later = λ a h l. p.later a (omega arith) l;
    edge = λ _ h. edge_there h;
  }

  pub gap_filled : (g' : Grid) (from to : ℕ) → g' ≡ record g { clearances = g'.clearances; scratch = g'.scratch } → WritesSpan (IsLeastInSpan g y from to) g g' y from to → gap < end
      → x ≤ from → from ≤ gap → gap ≤ from + 1 → (0 < from → from < gap) → end ≤ to → to ≤ end + 1 → to ≤ g.frame.width → (to < g.frame.width → to ≡ end + 1) → IsFinishedTo start y g' end
  gap_filled g' from to rest q some from_late from_in from_near from_kept to_late to_near to_in to_kept = record {
    rest = rest ∙ ap (λ (h : Grid). record h { clearances = g'.clearances; scratch = g'.scratch }) p.rest;
    width = p.width ∙ sym (ap (λ (h : Grid). h.frame.width) rest);
    height = p.height ∙ sym (ap (λ (h : Grid). h.frame.height) rest);
    low = omega (arith, p.width);
    before = λ k h. q.before k (omega (arith, row_start)) ∙ p.before k h;
    after = λ k h. q.after k (omega (arith, row_start, p.width)) ∙ p.after k h;
    done = λ a h. elim (cases_lt a from) as (λ _. IsLeastInRow start y a (number_at g' a y)) [
      | inl early ↦ done_before a (number_at g' a y) (omega arith) (q.west a early)
      | inr late ↦ in_span a late (omega arith)
    ];
    later = λ a h l. elim (cases_lt a to) as (λ _. number_at g' a y ≡ number_at start a y) [
      | inl last ↦
          let is : a ≡ end = omega arith in
          let z : number_at start a y ≡ 0 = ap (λ (i : ℕ). number_at start i y) is ∙ edge_there (omega arith) in
          let least = in_span a (omega arith) last in
          let b = least.bound a l (some_distance (number_at start a y) (omega (arith, z))) in
          zero_value start y a (number_at g' a y) z b ∙ sym z
      | inr past ↦ q.east a past (omega (arith, p.width)) ∙ p.later a (omega arith) l
    ];
    edge = λ _ h. edge_there h;
  }
    where
      row_start : y * start.frame.width ≡ y * g.frame.width
      row_start = ap (λ (w : ℕ). y * w) p.width

      at_from : 0 < from → number_at start from y ≡ 0
      at_from h = sym (p.later from from_late (omega (arith, p.width))) ∙ kept from from_late (from_kept h)

      at_to : to < start.frame.width → number_at start (to - 1) y ≡ 0
      at_to h = let is : to - 1 ≡ end = omega (arith, to_kept (omega (arith, p.width))) in ap (λ (i : ℕ). number_at start i y) is ∙ edge_there (omega arith)

      in_span : (a : ℕ) → from ≤ a → a < to → IsLeastInRow start y a (number_at g' a y)
      in_span a late early =
          span_is_row start y from to (omega arith) (omega (arith, p.width)) at_from at_to a (number_at g' a y) late early
          (span_same g start y from to a (number_at g' a y) (omega (arith, p.width)) (λ b h l. p.later b (omega arith) l) (q.written a late early))

-- the columns to come still have distances
pub distances_left : (start g : Grid) (y x from : ℕ) → IsFinishedTo start y g x → x ≤ from → AreDistances start y → AreDistancesFrom g y from
distances_left start g y x from p late far a a_late a_in =
    let a_in' : a < start.frame.width = omega (arith, p.width) in
    subst (λ (i : ℕ). (i ≡ none) ⊎ (i < 32768)) (sym (p.later a (omega arith) a_in')) (far a a_in')

-- past a kept cell a gap starts later
pub after_edge : (start g : Grid) (y x gap : ℕ) → IsFinishedTo start y g x → x ≤ gap → gap < g.frame.width → (gap < g.frame.width → number_at g gap y ≢ 0) → 0 < x → x < gap
after_edge start g y x gap p low gap_in found pos =
    elim (cases_lt x gap) as (λ _. x < gap) [
      | inl h ↦ h
      | inr h ↦
          let x_in : x < start.frame.width = omega (arith, p.width) in
          let is : gap ≡ x = omega arith in
          absurd (found gap_in (ap (λ (i : ℕ). number_at g i y) is ∙ p.later x (omega arith) x_in ∙ p.edge pos x_in))
    ]

-- the column before a gap is past what is finished
pub before_gap : (x gap from : ℕ) → (0 < x → x < gap) → gap ≤ from + 1 → x ≤ from
before_gap x gap from later near =
    elim (cases_lt 0 x) as (λ _. x ≤ from) [
      | inl pos ↦ let h = later pos in omega arith
      | inr none_yet ↦ omega arith
    ]
