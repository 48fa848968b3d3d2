-- Spans of a row of least values: written, and bounded by kept cells.
use Rattle.std.proofs.Common.{◌≡◌, ℕ, suc, ◌<◌, ◌≤◌, ◌+◌, ◌-◌, ◌*◌, ◌⊎◌, inl, inr, Bool, true, false, nat_le, List, get_or, set, refl, sym, ap, subst, ◌∙◌, arith}
use Rattle.std.proofs.lemmas.Bool.{cases_lt}
use Rattle.std.proofs.lemmas.Nat.{mul-le}
use Rattle.std.specs.Int.{abs_diff}
use Rattle.cell_grid.specs.declared.frames.Frame.{Frame}
use Rattle.cell_grid.specs.Grid.{Grid, IsSized}
use Rattle.cell_grid.specs.Place.{IsFrame}
use Rattle.centre_field.specs.Distances.{none, square_gap}
use Rattle.centre_field.specs.Columns.{number_at}
use Rattle.centre_field.specs.Rows.{value_at, column_at, start_at, square_at, IsShort, has_distance, has_distance_from, square_in, IsListing, IsLeastInRow, IsLeastInSpan, WritesSpan}
use Rattle.centre_field.proofs.ListingLaws.{part_on, part_has, some_distance}
use Rattle.centre_field.proofs.RowLaws.{is_none}
use Rattle.centre_field.proofs.WrittenLaws.{IsRowWritten, row_more, row_from}

-- a number of the row is as it was before the span, and the least of the span in it
abbrev pub IsWrittenAs : Grid → ℕ → ℕ → ℕ → ℕ → ℕ → Type 0
IsWrittenAs start y from to a v = (a < from → v ≡ number_at start a y) × (from ≤ a → IsLeastInSpan start y from to a v)

-- the values before column x are written, and column k of the list starts no later
pub record IsWritingSpan (start : Grid) (frame : Frame) (y from to n k : ℕ) (g : Grid) (x : ℕ) : Type 0 where
  pub row : IsRowWritten (IsWrittenAs start y from to) start frame y g x
  pub at_k : k < n
  pub started : start_at start.scratch k ≤ x

pub writing_begun : (start : Grid) (frame : Frame) (y from to n : ℕ) → frame ≡ start.frame → IsFrame frame → IsSized start → 0 < n → IsListing start y from start.scratch n to
    → IsWritingSpan start frame y from to n 0 start from
writing_begun start frame y from to n e v s some p = record {
  row = row_from (IsWrittenAs start y from to) start frame y from e v s (λ a h. (λ _. ap (λ (f : Frame). get_or start.clearances (y * f.width + a) 0) e, λ k. absurd (omega arith)));
  at_k = some;
  started = let f = p.envelope.first some in omega arith;
}

pub few_listed : (start g : Grid) (y from to n : ℕ) → g ≡ record start { clearances = g.clearances } → to ≤ start.frame.width → IsListing start y from start.scratch n to → n ≤ g.frame.width
few_listed start g y from to n e to_in p = let w : g.frame.width ≡ start.frame.width = ap (λ (h : Grid). h.frame.width) e in let f = p.envelope.few in omega arith

pub short_now : (start g : Grid) (y from to n : ℕ) → g ≡ record start { clearances = g.clearances } → IsListing start y from start.scratch n to
    → (j : ℕ) → j < n → IsShort g.frame.width g.scratch j
short_now start g y from to n e p j h = subst (λ (i : Grid). IsShort i.frame.width i.scratch j) (sym e) (p.short j h)

pub started_now : (start g : Grid) (k x : ℕ) → g ≡ record start { clearances = g.clearances } → start_at start.scratch k ≤ x → start_at g.scratch k ≤ x
started_now start g k x e h = subst (λ (i : Grid). start_at i.scratch k ≤ x) (sym e) h

-- one more value
pub written_value : (start g g' : Grid) (frame : Frame) (y from to n k k' x v c q : ℕ) → IsWritingSpan start frame y from to n k g x → IsListing start y from start.scratch n to
    → k' < n → start_at g.scratch k' ≤ x → (suc k' < n → x < start_at g.scratch (suc k')) → from ≤ x → x < frame.width → y < frame.height
    → v ≡ square_gap x c + q → c ≡ column_at g.scratch k' → q ≡ square_at g.scratch k' → g' ≡ record g { clearances = set g.clearances (y * frame.width + x) v }
    → IsWritingSpan start frame y from to n k' g' (x + 1)
unfolding value_at
written_value start g g' frame y from to n k k' x v c q p list inside started next x_late x_in y_in value column square written = record {
  row = row_more (IsWrittenAs start y from to) start g g' frame y x (y * frame.width + x) v p.row x_in y_in refl (λ h. absurd (omega arith), λ _. least) written;
  at_k = inside;
  started = omega (arith, start_now);
}
  where
    same : g.scratch ≡ start.scratch
    same = ap (λ (h : Grid). h.scratch) p.row.rest

    start_now : start_at start.scratch k' ≤ x
    start_now = subst (λ (xs : List ℕ). start_at xs k' ≤ x) same started

    next_now : suc k' < n → x < start_at start.scratch (suc k')
    next_now = subst (λ (xs : List ℕ). suc k' < n → x < start_at xs (suc k')) same next

    x_low : x < start.frame.width
    x_low = omega (arith, ap (λ (f : Frame). f.width) p.row.same_frame)

    at : v ≡ value_at (square_in start y) x (column_at start.scratch k')
    at =
        let cs : c ≡ column_at start.scratch k' = column ∙ ap (λ (xs : List ℕ). column_at xs k') same in
        let qs : q ≡ square_in start y (column_at start.scratch k') = square ∙ ap (λ (xs : List ℕ). square_at xs k') same ∙ list.squares_listed k' inside in
        value ∙ ap (λ (i : ℕ). square_gap x i + q) cs ∙ ap (λ (i : ℕ). square_gap x (column_at start.scratch k') + i) qs

    least : IsLeastInSpan start y from to x v
    least = record {
      bound = λ e e_in on. subst (λ (i : ℕ). i ≤ value_at (square_in start y) x e) (sym at) (list.envelope.best x k' e x_low inside start_now next_now e_in on);
      reached = inl (column_at start.scratch k', (list.envelope.listed k' inside, (list.envelope.parts k' inside, at)));
    }

pub span_written : (start g : Grid) (frame : Frame) (y from to n k x : ℕ) → IsWritingSpan start frame y from to n k g x → x ≡ to → to ≤ start.frame.width
    → WritesSpan (IsLeastInSpan start y from to) start g y from to
span_written start g frame y from to n k x p e to_in = record {
  before = λ i h. p.row.before i (omega (arith, row_start));
  after = λ i h. p.row.after i (omega (arith, row_start, width));
  west = λ a h. elim (cases_lt a x) as (λ _. number_at g a y ≡ number_at start a y) [
    | inl done ↦ here a ∙ (p.row.done a done).0 h
    | inr left ↦ untouched a left
  ];
  east = λ a h _. untouched a (omega arith);
  written = λ a h l. subst (IsLeastInSpan start y from to a) (sym (here a)) ((p.row.done a (omega arith)).1 h);
}
  where
    row_start : y * frame.width ≡ y * start.frame.width
    row_start = ap (λ (f : Frame). y * f.width) p.row.same_frame

    width : frame.width ≡ start.frame.width
    width = ap (λ (f : Frame). f.width) p.row.same_frame

    here : (a : ℕ) → number_at g a y ≡ get_or g.clearances (y * frame.width + a) 0
    here a = ap (λ (w : ℕ). get_or g.clearances (y * w + a) 0) (sym p.row.width)

    untouched : (a : ℕ) → x ≤ a → number_at g a y ≡ number_at start a y
    untouched a h = here a ∙ p.row.after (y * frame.width + a) (omega arith) ∙ ap (λ (w : ℕ). get_or start.clearances (y * w + a) 0) width

not_true : (b : Bool) → (b ≡ true → ⊥) → b ≡ false
not_true true h = absurd (h refl)
not_true false h = refl

never_both : {b : Bool} → b ≡ true → b ≡ false → ⊥
never_both p q = cc

-- a kept column on the way is no farther
on_the_way : (x l a z q : ℕ) → abs_diff x l ≤ abs_diff x a → z ≡ 0 → square_gap x l + z * z ≤ square_gap x a + q
unfolding square_gap
on_the_way x l a z q h e = let m = mul-le (abs_diff x l) (abs_diff x l) (abs_diff x a) (abs_diff x a) h h in let s : z * z ≡ 0 * 0 = ap (λ (i : ℕ). i * i) e in omega arith

-- between kept cells, or ends of the row, the least of the span is that of the row
module _ (g : Grid) (y from to : ℕ) (order : from < to) (to_in : to ≤ g.frame.width) (west : 0 < from → number_at g from y ≡ 0)
    (east : to < g.frame.width → number_at g (to - 1) y ≡ 0) where
  kept_part : (b : ℕ) → from ≤ b → number_at g b y ≡ 0 → has_distance_from g y from b ≡ true
  kept_part b h e = part_on from b (has_distance g y b) h (some_distance (number_at g b y) (omega (arith, e)))

  bound_in : (x v a : ℕ) → from ≤ x → x < to → IsLeastInSpan g y from to x v → a < g.frame.width → has_distance g y a ≡ true → v ≤ value_at (square_in g y) x a
  unfolding value_at
  bound_in x v a late early p a_in on =
      elim (cases_lt a from) as (λ _. v ≤ value_at (square_in g y) x a) [
        | inl before ↦
            let e = west (omega arith) in
            let b = p.bound from order (kept_part from (omega arith) e) in
            let c = on_the_way x from a (number_at g from y) (square_in g y a) (omega arith) e in
            omega arith
        | inr since ↦ elim (cases_lt a to) as (λ _. v ≤ value_at (square_in g y) x a) [
          | inl inner ↦ p.bound a inner (part_on from a (has_distance g y a) since on)
          | inr after ↦
              let e = east (omega arith) in
              let b = p.bound (to - 1) (omega arith) (kept_part (to - 1) (omega arith) e) in
              let c = on_the_way x (to - 1) a (number_at g (to - 1) y) (square_in g y a) (omega arith) e in
              omega arith
        ]
      ]

  none_in : ((a : ℕ) → a < to → has_distance_from g y from a ≡ false) → (a : ℕ) → a < g.frame.width → has_distance g y a ≡ true → ⊥
  none_in off a a_in on =
      elim (cases_lt a from) as (λ _. ⊥) [
        | inl before ↦ never_both (kept_part from (omega arith) (west (omega arith))) (off from order)
        | inr since ↦ elim (cases_lt a to) as (λ _. ⊥) [
          | inl inner ↦ never_both (part_on from a (has_distance g y a) since on) (off a inner)
          | inr after ↦ never_both (kept_part (to - 1) (omega arith) (east (omega arith))) (off (to - 1) (omega arith))
        ]
      ]

  pub span_is_row : (x v : ℕ) → from ≤ x → x < to → IsLeastInSpan g y from to x v → IsLeastInRow g y x v
  span_is_row x v late early p = record {
    bound = λ a a_in on. bound_in x v a late early p a_in on;
    reached = elim p.reached as (λ _. ((a : ℕ) × ((a < g.frame.width) × ((has_distance g y a ≡ true) × (v ≡ value_at (square_in g y) x a)))) ⊎ ((v ≡ none) × ((a : ℕ) → a < g.frame.width → has_distance g y a ≡ false))) [
      | inl w ↦ let low = w.1.0 in inl (w.0, (omega arith, (part_has (nat_le from w.0) (has_distance g y w.0) w.1.1.0, w.1.1.1)))
      | inr w ↦ inr (w.0, λ a a_in. not_true (has_distance g y a) (none_in w.1 a a_in))
    ];
  }

-- no column of the span is listed: its numbers stand
none_in_span : (g : Grid) (y from to : ℕ) (xs : List ℕ) → IsListing g y from xs 0 to → (x : ℕ) → from ≤ x → x < to → IsLeastInSpan g y from to x (number_at g x y)
none_in_span g y from to xs p x late early = record {
  bound = λ a h on. absurd (let k = p.envelope.some a h on in omega arith);
  reached = inr (is_none (number_at g x y) (not_true (has_distance g y x) (λ on. never_both (part_on from x (has_distance g y x) late on) (off x early))), off);
}
  where
    off : (a : ℕ) → a < to → has_distance_from g y from a ≡ false
    off a h = not_true (has_distance_from g y from a) (λ on. let k = p.envelope.some a h on in omega arith)

pub finished_none : (g0 g1 : Grid) (y from to n : ℕ) → g1 ≡ record g0 { scratch = g1.scratch } → IsListing g0 y from g1.scratch n to → n ≡ 0 → WritesSpan (IsLeastInSpan g0 y from to) g0 g1 y from to
finished_none g0 g1 y from to n e p z =
    let same : g1.clearances ≡ g0.clearances = ap (λ (h : Grid). h.clearances) e in
    record {
      before = λ k h. ap (λ (cs : List ℕ). get_or cs k 0) same;
      after = λ k h. ap (λ (cs : List ℕ). get_or cs k 0) same;
      west = λ x h. ap (λ (h : Grid). number_at h x y) e;
      east = λ x h l. ap (λ (h : Grid). number_at h x y) e;
      written = λ x late early. subst (IsLeastInSpan g0 y from to x) (sym (ap (λ (h : Grid). number_at h x y) e))
          (none_in_span g0 y from to g1.scratch (subst (λ (m : ℕ). IsListing g0 y from g1.scratch m to) z p) x late early);
    }

pub finished_some : (g0 g1 g2 : Grid) (y from to : ℕ) → g1 ≡ record g0 { scratch = g1.scratch } → WritesSpan (IsLeastInSpan g1 y from to) g1 g2 y from to → WritesSpan (IsLeastInSpan g0 y from to) g0 g2 y from to
finished_some g0 g1 g2 y from to e p =
    let q = subst (λ (h : Grid). WritesSpan (IsLeastInSpan h y from to) h g2 y from to) e p in
    record { before = q.before; after = q.after; west = q.west; east = q.east; written = q.written }

-- only clearances and scratch numbers changed
pub span_rest : (g0 g1 g2 : Grid) → g1 ≡ record g0 { scratch = g1.scratch } → g2 ≡ record g1 { clearances = g2.clearances } → g2 ≡ record g0 { clearances = g2.clearances; scratch = g2.scratch }
span_rest g0 g1 g2 e f =
    let scratch : g2.scratch ≡ g1.scratch = ap (λ (h : Grid). h.scratch) f in
    f ∙ ap (λ (h : Grid). record h { clearances = g2.clearances }) e ∙ ap (λ (xs : List ℕ). record g0 { clearances = g2.clearances; scratch = xs }) (sym scratch)

pub span_rest_none : (g0 g1 : Grid) → g1 ≡ record g0 { scratch = g1.scratch } → g1 ≡ record g0 { clearances = g1.clearances; scratch = g1.scratch }
span_rest_none g0 g1 e = e ∙ ap (λ (cs : List ℕ). record g0 { clearances = cs; scratch = g1.scratch }) (sym (ap (λ (h : Grid). h.clearances) e))

pub listing_after : (g0 g1 : Grid) (y from n b : ℕ) → g1 ≡ record g0 { scratch = g1.scratch } → IsListing g0 y from g1.scratch n b → IsListing g1 y from g1.scratch n b
listing_after g0 g1 y from n b e p = subst (λ (h : Grid). IsListing h y from g1.scratch n b) (sym e) p
