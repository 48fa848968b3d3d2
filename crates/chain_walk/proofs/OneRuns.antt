-- A set of cells has one list of its runs.
use Rattle.std.proofs.Common.{◌≡◌, ℕ, zero, suc, ◌+◌, ◌-◌, ◌<◌, ℤ, pos, ◌+ℤ◌, ◌-ℤ◌, ◌≤ℤ◌, ◌<ℤ◌, unsigned_abs, Bool, List, [], ◌∷◌, length, get_or, inl, inr, refl, sym, ap, subst, ◌∙◌, arith}
use Rattle.std.specs.List.{Contains}
use Rattle.std.proofs.lemmas.Bool.{cases_order, false≢true}
use Rattle.std.proofs.lemmas.Int.{by_lt_z}
use Rattle.std.proofs.lemmas.List.{get_or_default}
use borrow.Author.Differences.{ints}
use Rattle.board_base.specs.declared.places.Cell.{Cell}
use Rattle.cell_sets.specs.Chains.{IsBefore}
use Rattle.cell_sets.proofs.CellLaws.{same_cell}
use Rattle.board_base.specs.Lattice.{east_by}
use Rattle.chain_walk.specs.Walk.{entry}
use Rattle.chain_walk.specs.RowRuns.{west_of, run_of, IsRowRun, AreRowRuns, OneRowRuns}
use Rattle.chain_walk.proofs.Chaining.{not_both}
use Rattle.chain_walk.proofs.RowRunLaws.{no_column, in_run, of_run}

-- ---- a taken cell lies in one run

module _ (taken : Cell → Bool) (x y : List Cell) (p : IsRowRun taken x) (q : IsRowRun taken y) where
  -- two runs with a cell in common: the second doesn't begin farther east
  not_east : (k l : ℕ) → k < p.size → east_by p.west k ≡ east_by q.west l → p.west.i <ℤ q.west.i → ⊥
  not_east k l k_in e less =
      let n : ℕ = unsigned_abs (q.west.i -ℤ p.west.i) - 1 in
      let row : p.west.j ≡ q.west.j = ap (λ (c : Cell). c.j) e in
      let n_in : n < p.size = short p.west.i q.west.i k l p.size (ap (λ (c : Cell). c.i) e) less k_in in
      let there : west_of q.west ≡ east_by p.west n = same_cell (q.west.i -ℤ pos 1) q.west.j (p.west.i +ℤ pos n) p.west.j (at p.west.i q.west.i less) (sym row) in
      false≢true (sym q.begins ∙ ap taken there ∙ p.inside n n_in)
    where
      short : (i i' : ℤ) (k l m : ℕ) → i +ℤ pos k ≡ i' +ℤ pos l → i <ℤ i' → k < m → unsigned_abs (i' -ℤ i) - 1 < m
      short i i' k l m e h b = omega (arith, ints)

      at : (i i' : ℤ) → i <ℤ i' → i' -ℤ pos 1 ≡ i +ℤ pos (unsigned_abs (i' -ℤ i) - 1)
      at i i' h = omega (arith, ints)

  -- two runs that begin at one cell: the second isn't longer
  not_longer : p.west ≡ q.west → p.size < q.size → ⊥
  not_longer e less = false≢true (sym p.ends ∙ ap (λ (c : Cell). taken (east_by c p.size)) e ∙ q.inside p.size less)

one_run : (taken : Cell → Bool) (x y : List Cell) (c : Cell) → IsRowRun taken x → IsRowRun taken y → Contains x c → Contains y c → x ≡ y
one_run taken x y c p q x_has y_has =
    let at = of_run p.west p.size c (subst (λ (z : List Cell). Contains z c) p.is x_has) in
    let there = of_run q.west q.size c (subst (λ (z : List Cell). Contains z c) q.is y_has) in
    let e : east_by p.west at.0 ≡ east_by q.west there.0 = sym at.1.1 ∙ there.1.1 in
    let column : p.west.i ≡ q.west.i =
    by_lt_z p.west.i q.west.i (λ l. absurd (not_east taken x y p q at.0 there.0 at.1.0 e l))
    (λ l. by_lt_z q.west.i p.west.i (λ m. absurd (not_east taken y x q p there.0 at.0 there.1.0 (sym e) m)) (λ m. level p.west.i q.west.i l m)) in
    let west : p.west ≡ q.west = same_cell p.west.i p.west.j q.west.i q.west.j column (ap (λ (d : Cell). d.j) e) in
    let size : p.size ≡ q.size = elim (cases_order p.size q.size) as (λ _. p.size ≡ q.size) [
      | inl same ↦ same
      | inr other ↦ elim other as (λ _. p.size ≡ q.size) [
        | inl less ↦ absurd (not_longer taken x y p q west less)
        | inr more ↦ absurd (not_longer taken y x q p (sym west) more)
      ]
    ] in
    p.is ∙ ap (λ (d : Cell). run_of d p.size) west ∙ ap (run_of q.west) size ∙ sym q.is
  where
    level : (a b : ℤ) → b ≤ℤ a → a ≤ℤ b → a ≡ b
    level a b h k = omega (arith, ints)

-- ---- lists in a strict order with the same members are one list

module _ {X : Type 0} (R : X → X → Type 0) (not_both : (x y : X) → R x y → R y x → ⊥) where
  -- the first stands before all others
  abbrev IsAhead : X → List X → Type 0
  IsAhead x [] = Unit {0}
  IsAhead x (y ∷ ys) = R x y × IsAhead x ys

  abbrev IsRising : List X → Type 0
  IsRising [] = Unit {0}
  IsRising (x ∷ xs) = IsAhead x xs × IsRising xs

  ahead_of : (x y : X) (xs : List X) → IsAhead x xs → Contains xs y → R x y
  ahead_of x y [] h (k, l, e) = absurd (omega (arith, l))
  ahead_of x y (z ∷ xs) h (zero, l, e) = subst (R x) e h.0
  ahead_of x y (z ∷ xs) h (suc k, l, e) = ahead_of x y xs h.1 (k, omega (arith, l), e)

  -- a member is the first one or stands behind it
  first_or : {P : Type 0} (x y : X) (ys : List X) → Contains (y ∷ ys) x → (y ≡ x → P) → (Contains ys x → P) → P
  first_or x y ys (zero, l, e) f g = f e
  first_or x y ys (suc k, l, e) f g = g (k, omega (arith, l), e)

  later : (x y : X) (xs : List X) → Contains xs y → Contains (x ∷ xs) y
  later x y xs (k, l, e) = (suc k, omega (arith, l), e)

  -- the members behind one first are members behind the other
  behind : (x y : X) (xs ys : List X) → x ≡ y → IsAhead x xs → ((z : X) → Contains (x ∷ xs) z → Contains (y ∷ ys) z) → (z : X) → Contains xs z → Contains ys z
  behind x y xs ys e h all z there =
      first_or z y ys (all z (later x z xs there))
      (λ same. (let r : R x z = ahead_of x z xs h there in let s : R z z = subst (λ (v : X). R v z) (e ∙ same) r in absurd (not_both z z s s)))
      (λ c. c)

  first_in : (x : X) (xs : List X) → Contains (x ∷ xs) x
  first_in x xs = (0, omega arith, refl)

  pub one_list : (xs ys : List X) → IsRising xs → IsRising ys → ((z : X) → Contains xs z → Contains ys z) → ((z : X) → Contains ys z → Contains xs z) → xs ≡ ys
  one_list [] [] p q to back = refl
  one_list [] (y ∷ ys) p q to back = absurd (none y (back y (first_in y ys)))
    where
      none : (y : X) → Contains [] y → ⊥
      none y (k, l, e) = omega (arith, l)
  one_list (x ∷ xs) [] p q to back = absurd (none x (to x (first_in x xs)))
    where
      none : (x : X) → Contains [] x → ⊥
      none x (k, l, e) = omega (arith, l)
  one_list (x ∷ xs) (y ∷ ys) p q to back =
      let e : x ≡ y = first_or x y ys (to x (first_in x xs)) (λ same. sym same)
      (λ c. first_or y x xs (back y (first_in y ys)) (λ same. same) (λ d. absurd (not_both x y (ahead_of x y xs p.0 d) (ahead_of y x ys q.0 c)))) in
      ap (λ (v : X). v ∷ xs) e ∙ ap (λ (v : List X). y ∷ v) (one_list xs ys p.1 q.1 (behind x y xs ys e p.0 to) (behind y x ys xs (sym e) q.0 back))

  module _ (trans : (x y z : X) → R x y → R y z → R x z) where
    farther_ahead : (x y : X) (ys : List X) → R x y → IsAhead y ys → IsAhead x ys
    farther_ahead x y [] r h = tt
    farther_ahead x y (z ∷ ys) r h = (trans x y z r h.0, farther_ahead x y ys r h.1)

    -- each stands before the next one
    pub rising : (d : X) (xs : List X) → ((k : ℕ) → k + 1 < length xs → R (get_or xs k d) (get_or xs (k + 1) d)) → IsRising xs
    rising d [] h = tt
    rising d (x ∷ []) h = (tt, tt)
    rising d (x ∷ y ∷ xs) h =
        let r : R x y = h 0 (omega arith) in
        let rest : IsRising (y ∷ xs) = rising d (y ∷ xs) (λ k l. (let e : suc k + 1 ≡ suc (k + 1) = omega arith in subst (λ (m : ℕ). R (get_or (y ∷ xs) k d) (get_or (x ∷ y ∷ xs) m d)) e (h (suc k) (omega (arith, l))))) in
        ((r, farther_ahead x y xs r rest.0), rest)

-- ---- the lists of runs

pub before_trans : (a b c : Cell) → IsBefore a b → IsBefore b c → IsBefore a c
before_trans a b c (inl x) (inl y) = inl (omega (arith, ints))
before_trans a b c (inl x) (inr y) = inl (omega (arith, ints, y.0))
before_trans a b c (inr x) (inl y) = inl (omega (arith, ints, x.0))
before_trans a b c (inr x) (inr y) = inr (x.0 ∙ y.0, omega (arith, ints, x.1, y.1))

-- the first run stands before the second
abbrev pub Stands : List Cell → List Cell → Type 0
Stands x y = IsBefore (entry x 0) (entry y 0)

rising_runs : (taken : Cell → Bool) (runs : List (List Cell)) → AreRowRuns taken runs → IsRising Stands (λ x y. not_both (entry x 0) (entry y 0)) runs
rising_runs taken runs p = rising Stands (λ x y. not_both (entry x 0) (entry y 0)) (λ x y z. before_trans (entry x 0) (entry y 0) (entry z 0)) [] runs p.order

-- each run of one list is in the other
among : (taken : Cell → Bool) (runs others : List (List Cell)) → AreRowRuns taken runs → AreRowRuns taken others → (x : List Cell) → Contains runs x → Contains others x
among taken runs others p q x (k, l, e) =
    let run : IsRowRun taken x = subst (IsRowRun taken) (get_or_default runs k [] x l ∙ e) (p.each k l) in
    let found = q.whole run.west (ap taken (sym (no_column run.west)) ∙ run.inside 0 run.some) in
    let has : Contains x run.west = subst (λ (z : List Cell). Contains z run.west) (sym run.is) (subst (Contains (run_of run.west run.size)) (no_column run.west) (in_run run.west run.size 0 run.some)) in
    (found.0, found.1.0, get_or_default others found.0 x [] found.1.0 ∙ one_run taken (get_or others found.0 []) x run.west (q.each found.0 found.1.0) run found.1.1 has)

pub one_row_runs : OneRowRuns
one_row_runs taken runs others p q =
    one_list Stands (λ x y. not_both (entry x 0) (entry y 0)) runs others (rising_runs taken runs p) (rising_runs taken others q) (among taken runs others p q) (among taken others runs q p)
