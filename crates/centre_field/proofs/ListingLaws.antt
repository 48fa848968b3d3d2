-- The list of columns, one column further.
use Rattle.std.proofs.Common.{◌≡◌, ◌≢◌, ℕ, suc, ◌<◌, ◌≤◌, ◌+◌, ◌-◌, ◌*◌, ◌==◌, inl, inr, Bool, true, false, not, nat_le, ◌&&◌, List, length, get_or, set, refl, sym, ap, subst, ◌∙◌, arith, get_or-set_other, get_or-set_same}
use Rattle.std.proofs.lemmas.Bool.{cases_eq}
use Rattle.std.proofs.lemmas.Bool.Decides.{nat_tests}
use Rattle.std.proofs.lemmas.List.{length-set}
use Rattle.std.proofs.lemmas.Nat.{mul-le}
use Rattle.cell_grid.specs.Grid.{Grid}
use Rattle.cell_grid.specs.Place.{scratch_of}
use Rattle.centre_field.specs.Distances.{none, square_gap}
use Rattle.centre_field.specs.Columns.{number_at}
use Rattle.centre_field.specs.Rows.{value_at, start_from, column_at, start_at, square_at, listed_at, IsShort, has_distance, has_distance_from, square_in, IsListing}
use Rattle.centre_field.proofs.Parabola.{start_of, started, not_started}
use Rattle.centre_field.proofs.Entering.{entered, late, skipped}

-- what is read after a column is listed
module _ (xs : List ℕ) (m b s q : ℕ) where
  new_column : 3 * m + 2 < length xs → column_at (listed_at xs m b s q) m ≡ b
  unfolding listed_at
  new_column h =
      get_or-set_other (set (set xs (3 * m) b) (3 * m + 1) s) (3 * m + 2) (3 * m) q 0 (omega arith)
      ∙ get_or-set_other (set xs (3 * m) b) (3 * m + 1) (3 * m) s 0 (omega arith)
      ∙ get_or-set_same xs (3 * m) b 0 (omega arith)

  new_start : 3 * m + 2 < length xs → start_at (listed_at xs m b s q) m ≡ s
  unfolding listed_at
  new_start h =
      get_or-set_other (set (set xs (3 * m) b) (3 * m + 1) s) (3 * m + 2) (3 * m + 1) q 0 (omega arith)
      ∙ get_or-set_same (set xs (3 * m) b) (3 * m + 1) s 0 (let l : length (set xs (3 * m) b) ≡ length xs = simp length-set in omega arith)

  new_square : 3 * m + 2 < length xs → square_at (listed_at xs m b s q) m ≡ q
  unfolding listed_at
  new_square h =
      let l : length (set (set xs (3 * m) b) (3 * m + 1) s) ≡ length xs = simp length-set in
      get_or-set_same (set (set xs (3 * m) b) (3 * m + 1) s) (3 * m + 2) q 0 (omega arith)

  other : (k : ℕ) → k ≢ 3 * m → k ≢ 3 * m + 1 → k ≢ 3 * m + 2 → get_or (listed_at xs m b s q) k 0 ≡ get_or xs k 0
  unfolding listed_at
  other k h i j =
      get_or-set_other (set (set xs (3 * m) b) (3 * m + 1) s) (3 * m + 2) k q 0 j
      ∙ get_or-set_other (set xs (3 * m) b) (3 * m + 1) k s 0 i
      ∙ get_or-set_other xs (3 * m) k b 0 h

  old_column : (j : ℕ) → j < m → column_at (listed_at xs m b s q) j ≡ column_at xs j
  old_column j h = other (3 * j) (omega arith) (omega arith) (omega arith)

  old_start : (j : ℕ) → j < m → start_at (listed_at xs m b s q) j ≡ start_at xs j
  old_start j h = other (3 * j + 1) (omega arith) (omega arith) (omega arith)

  old_square : (j : ℕ) → j < m → square_at (listed_at xs m b s q) j ≡ square_at xs j
  old_square j h = other (3 * j + 2) (omega arith) (omega arith) (omega arith)

-- the columns that stay, as `staying` tells them
pub record IsStaying (g : Grid) (y : ℕ) (xs : List ℕ) (n b m : ℕ) : Type 0 where
  pub few : m ≤ n
  pub gone : (j : ℕ) → m ≤ j → j < n → start_of (square_in g y) (column_at xs j) b ≤ start_at xs j
  pub top : (k : ℕ) → suc k ≡ m → start_at xs k < start_of (square_in g y) (column_at xs k) b

pub stay : (g : Grid) (y from : ℕ) (xs : List ℕ) (n b m q : ℕ) → IsListing g y from xs n b → q ≡ square_in g y b → m ≤ n
    → ((j : ℕ) → m ≤ j → j < n → square_gap (start_at xs j) b + q < square_gap (start_at xs j) (column_at xs j) + square_at xs j)
    → ((k : ℕ) → suc k ≡ m → square_gap (start_at xs k) (column_at xs k) + square_at xs k ≤ square_gap (start_at xs k) b + q) → IsStaying g y xs n b m
unfolding value_at
stay g y from xs n b m q p e few gone top = record {
  few = few;
  gone = λ j h k. started (square_in g y) (column_at xs j) b (start_at xs j) (p.envelope.listed j k) (let l = gone j h k in let s = p.squares_listed j k in omega arith);
  top = λ k h.
      let l = top k h in
      let s = p.squares_listed k (omega arith) in
      not_started (square_in g y) (column_at xs k) b (start_at xs k) (p.envelope.listed k (omega arith)) (omega arith);
}

-- the square of a distance
pub square_small : (d q : ℕ) → d < 32768 → q ≡ d * d → q ≤ 1073676289
square_small d q h e = let s = mul-le d d 32767 32767 (omega arith) (omega arith) in omega arith

pub some_distance : (v : ℕ) → v < 32768 → not (v == none) ≡ true
some_distance v h = grind (arith, nat_tests)

pub part_on : (from a : ℕ) (h : Bool) → from ≤ a → h ≡ true → (nat_le from a && h) ≡ true
part_on from a h late on = grind (arith, nat_tests)

pub part_from : (from a : ℕ) (h : Bool) → (nat_le from a && h) ≡ true → from ≤ a
part_from from a h on = grind (arith, nat_tests)

part_off : (n h : Bool) → h ≡ false → (n && h) ≡ false
part_off true h e = e
part_off false h e = refl

no_false : false ≡ true → ⊥
no_false e = cc

pub part_has : (n h : Bool) → (n && h) ≡ true → h ≡ true
part_has true h e = e
part_has false h e = absurd (no_false e)

room : (g : Grid) (m : ℕ) (xs : List ℕ) → length xs ≡ scratch_of g.frame → m < g.frame.width → 3 * m + 2 < length xs
room g m xs e h = omega arith

-- column b enters behind the m columns that stay
pub entering : (g : Grid) (y from : ℕ) (xs : List ℕ) (n b m s d q : ℕ) → from ≤ b → IsListing g y from xs n b → IsStaying g y xs n b m → b < g.frame.width → length xs ≡ scratch_of g.frame → d ≡ number_at g b y → d < 32768 → q ≡ d * d
    → ((k : ℕ) → suc k ≡ m → s ≡ start_of (square_in g y) (column_at xs k) b) → (m ≡ 0 → s ≡ 0) → s < g.frame.width → IsListing g y from (listed_at xs m b s q) (m + 1) (b + 1)
entering g y from xs n b m s d q late_b p st b_in sized d_is d_small q_is start first s_in =
    let few = p.envelope.few in
    let m_in : m < g.frame.width = let f = st.few in omega arith in
    let r = room g m xs sized m_in in
    let on : has_distance_from g y from b ≡ true = part_on from b (has_distance g y b) late_b (ap (λ (v : ℕ). not (v == none)) (sym d_is) ∙ some_distance d d_small) in
    let q_in : q ≡ square_in g y b = q_is ∙ ap (λ (v : ℕ). v * v) d_is in
    let ys = listed_at xs m b s q in
    record {
      envelope = entered (has_distance_from g y from) (square_in g y) g.frame.width (column_at xs) (start_at xs) (column_at ys) (start_at ys) n b m s p.envelope st.few st.gone on
          (λ k h. (st.top k h, start k h)) first (new_column xs m b s q r) (new_start xs m b s q r) (old_column xs m b s q) (old_start xs m b s q);
      squares_listed = λ j h. elim (cases_eq j m) as (λ _. square_at ys j ≡ square_in g y (column_at ys j)) [
        | inl same ↦ subst (λ (i : ℕ). square_at ys i ≡ square_in g y (column_at ys i)) (sym same) (new_square xs m b s q r ∙ q_in ∙ ap (square_in g y) (sym (new_column xs m b s q r)))
        | inr other ↦ old_square xs m b s q j (omega arith) ∙ p.squares_listed j (let f = st.few in omega arith) ∙ ap (square_in g y) (sym (old_column xs m b s q j (omega arith)))
      ];
      short = λ j h. elim (cases_eq j m) as (λ _. IsShort g.frame.width ys j) [
        | inl same ↦ subst (IsShort g.frame.width ys) (sym same) (record {
          column = let e = new_column xs m b s q r in omega arith;
          start = let e = new_start xs m b s q r in omega arith;
          square = let e = new_square xs m b s q r in let z = square_small d q d_small q_is in omega arith;
        })
        | inr other ↦
            let i : j < m = omega arith in
            let z = p.short j (let f = st.few in omega arith) in
            record {
              column = let e = old_column xs m b s q j i in let k = z.column in omega arith;
              start = let e = old_start xs m b s q j i in let k = z.start in omega arith;
              square = let e = old_square xs m b s q j i in let k = z.square in omega arith;
            }
      ];
    }

-- column b would take over past the row's end
pub passing : (g : Grid) (y from : ℕ) (xs : List ℕ) (n b m s d : ℕ) → from ≤ b → IsListing g y from xs n b → IsStaying g y xs n b m → d ≡ number_at g b y → d < 32768
    → ((k : ℕ) → suc k ≡ m → s ≡ start_of (square_in g y) (column_at xs k) b) → 0 < m → g.frame.width ≤ s → IsListing g y from xs m (b + 1)
passing g y from xs n b m s d late_b p st d_is d_small start some past =
    let on : has_distance_from g y from b ≡ true = part_on from b (has_distance g y b) late_b (ap (λ (v : ℕ). not (v == none)) (sym d_is) ∙ some_distance d d_small) in
    record {
      envelope = late (has_distance_from g y from) (square_in g y) g.frame.width (column_at xs) (start_at xs) n b m s p.envelope st.few st.gone on (λ k h. (st.top k h, start k h)) some past;
      squares_listed = λ j h. p.squares_listed j (let f = st.few in omega arith);
      short = λ j h. p.short j (let f = st.few in omega arith);
    }

-- column b has no kept cell
pub leaving_out : (g : Grid) (y from : ℕ) (xs : List ℕ) (n b : ℕ) → IsListing g y from xs n b → number_at g b y ≡ none → IsListing g y from xs n (b + 1)
leaving_out g y from xs n b p e = record {
  envelope = skipped (has_distance_from g y from) (square_in g y) g.frame.width (column_at xs) (start_at xs) n b p.envelope (part_off (nat_le from b) (has_distance g y b) (ap (λ (v : ℕ). not (v == none)) e));
  squares_listed = p.squares_listed;
  short = p.short;
}

pub nothing_listed : (g : Grid) (y from : ℕ) (xs : List ℕ) → IsListing g y from xs 0 from
nothing_listed g y from xs = record {
  envelope = record {
    few = omega arith;
    listed = λ j h. absurd (omega arith);
    parts = λ j h. absurd (omega arith);
    rising = λ j h. absurd (omega arith);
    first = λ h. absurd (omega arith);
    some = λ e h on. absurd (let late = part_from from e (has_distance g y e) on in omega arith);
    best = λ x j e x_in j_in. absurd (omega arith);
  };
  squares_listed = λ j h. absurd (omega arith);
  short = λ j h. absurd (omega arith);
}

-- the start after the last column that stays
pub start_is : (g : Grid) (y from : ℕ) (xs : List ℕ) (n b m s c u q d : ℕ) → IsListing g y from xs n b → m ≤ n → 0 < m → c ≡ column_at xs (m - 1) → u ≡ square_at xs (m - 1) → d ≡ number_at g b y → q ≡ d * d
    → s ≡ start_from c u b q → (k : ℕ) → suc k ≡ m → s ≡ start_of (square_in g y) (column_at xs k) b
start_is g y from xs n b m s c u q d p few some c_is u_is d_is q_is s_is k h =
    let i : m - 1 ≡ k = omega arith in
    let e : c ≡ column_at xs k = c_is ∙ ap (column_at xs) i in
    let f : u ≡ square_in g y (column_at xs k) = u_is ∙ ap (square_at xs) i ∙ p.squares_listed k (omega arith) in
    let o : q ≡ square_in g y b = q_is ∙ ap (λ (v : ℕ). v * v) d_is in
    s_is ∙ ap (λ (x : ℕ). start_from x u b q) e ∙ ap (λ (x : ℕ). start_from (column_at xs k) x b q) f ∙ ap (λ (x : ℕ). start_from (column_at xs k) (square_in g y (column_at xs k)) b x) o
