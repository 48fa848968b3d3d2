-- One stretch tried after another.
use Rattle.std.proofs.Common.{◌≡◌, ℕ, suc, ◌+◌, ◌-◌, ◌<◌, ◌≤◌, Bool, true, false, List, length, inl, inr, refl, sym, ap, subst, ◌∙◌, arith}
use Rattle.std.specs.List.Sorted.{IsPermutation}
use Rattle.std.proofs.lemmas.List.Sorted.{IsPermutation-refl, IsPermutation-trans, length_permutation, All-permutation}
use Rattle.std.proofs.lemmas.Bool.{cases_eq, false≢true}
use Rattle.board_base.specs.declared.places.Point.{Point}
use Rattle.path_order.specs.Tours.{way_of, turned, tried, tries, rows, swept}
use Rattle.path_order.specs.Trials.{AreIndices, IsTried, IsQuietRow, IsQuiet}

module _ (points : List Point) where
  pub still_indices : (old new : List ℕ) (any : Bool) → AreIndices points old → IsTried points old new any → AreIndices points new
  still_indices old new any h t = All-permutation (λ k. k < length points) old new t.moved h

  pub still_long : (old new : List ℕ) (any : Bool) → IsTried points old new any → length new ≡ length old
  still_long old new any t = length_permutation old new t.moved

  pub none_tried : (order : List ℕ) → IsTried points order order false
  none_tried order = record { moved = IsPermutation-refl order; shorter = λ z. absurd (false≢true z); same = λ _. refl }

  both_moved : (a b c : List ℕ) (s t : Bool) → IsTried points a b s → IsTried points b c t → IsPermutation a c
  both_moved a b c s t p q = IsPermutation-trans a b c p.moved q.moved

  no_longer : (a b : List ℕ) (s : Bool) → IsTried points a b s → way_of points b ≤ way_of points a
  no_longer a b true t = let l = t.shorter refl in omega (arith, l)
  no_longer a b false t = let e : way_of points b ≡ way_of points a = ap (way_of points) (t.same refl) in omega (arith, e)

  -- one that was turned round, and one that wasn't
  pub one_turned : (a b c : List ℕ) (s : Bool) → IsTried points a b s → IsTried points b c true → IsTried points a c true
  one_turned a b c s p q = record {
    moved = both_moved a b c s true p q;
    shorter = λ _. (let l = q.shorter refl in let k = no_longer a b s p in omega (arith, l, k));
    same = λ z. absurd (false≢true (sym z));
  }

  pub none_turned : (a b c : List ℕ) (s : Bool) → IsTried points a b s → IsTried points b c false → IsTried points a c s
  none_turned a b c s p q = subst (λ (x : List ℕ). IsTried points a x s) (sym (q.same refl)) p

  -- the stretches that begin at i, as far as j
  pub record IsInRow (i : ℕ) (start order : List ℕ) (any : Bool) (j : ℕ) : Type 0 where
    pub indices : AreIndices points start
    pub left : tries points i j (length start - j) order ≡ tries points i (i + 1) (length start - (i + 1)) start
    pub change : IsTried points start order any
    pub quiet : any ≡ false → IsQuietRow points start i j
    pub late : i < j

  pub row_begun : (i : ℕ) (start : List ℕ) (j : ℕ) → j ≡ i + 1 → AreIndices points start → IsInRow i start start false j
  row_begun i start j e h = subst (IsInRow i start start false) (sym e) (record { indices = h; left = refl; change = none_tried start; quiet = λ _ k l m. absurd (omega (arith, l, m)); late = omega arith })

  row_left : (i : ℕ) (start order : List ℕ) (any : Bool) (j : ℕ) → IsInRow i start order any j → j < length start → tries points i (j + 1) (length start - (j + 1)) (tried points i j order) ≡ tries points i (i + 1) (length start - (i + 1)) start
  row_left i start order any j q l = let e : length start - j ≡ suc (length start - (j + 1)) = omega (arith, l) in sym (ap (λ (n : ℕ). tries points i j n order) e) ∙ q.left

  pub row_on : (i : ℕ) (start order order' : List ℕ) (any : Bool) (j j' : ℕ) → IsInRow i start order any j → j < length order → j' ≡ j + 1 → order' ≡ tried points i j order → IsTried points order order' true → IsInRow i start order' true j'
  row_on i start order order' any j j' q l next e t =
      let n = still_long start order any q.change in
      subst (IsInRow i start order' true) (sym next) (record {
        indices = q.indices;
        left = ap (tries points i (j + 1) (length start - (j + 1))) e ∙ row_left i start order any j q (omega (arith, l, n));
        change = one_turned start order order' any q.change t;
        quiet = λ z. absurd (false≢true (sym z));
        late = omega (arith, q.late);
      })

  pub row_off : (i : ℕ) (start order order' : List ℕ) (any : Bool) (j j' : ℕ) → IsInRow i start order any j → j < length order → j' ≡ j + 1 → order' ≡ tried points i j order → IsTried points order order' false
      → way_of points order ≤ way_of points (turned i j order) → IsInRow i start order' any j'
  row_off i start order order' any j j' q l next e t calm =
      let n = still_long start order any q.change in
      subst (IsInRow i start order' any) (sym next) (record {
        indices = q.indices;
        left = ap (tries points i (j + 1) (length start - (j + 1))) e ∙ row_left i start order any j q (omega (arith, l, n));
        change = none_turned start order order' any q.change t;
        quiet = λ z k h m. elim (cases_eq k j) as (λ _. way_of points start ≤ way_of points (turned i k start)) [
          | inl y ↦ subst (λ (x : ℕ). way_of points start ≤ way_of points (turned i x start)) (sym y) (subst (λ (x : List ℕ). way_of points x ≤ way_of points (turned i j x)) (q.change.same z) calm)
          | inr ne ↦ q.quiet z k h (omega (arith, ne, m))
        ];
        late = omega (arith, q.late);
      })

  pub row_done : (i : ℕ) (start order : List ℕ) (any : Bool) (j : ℕ) → IsInRow i start order any j → length start ≤ j → order ≡ tries points i (i + 1) (length start - (i + 1)) start
  row_done i start order any j q past = let e : length start - j ≡ 0 = omega (arith, past) in sym (ap (λ (n : ℕ). tries points i j n order) e) ∙ q.left

  pub row_quiet : (i : ℕ) (start order : List ℕ) (any : Bool) (j : ℕ) → IsInRow i start order any j → length start ≤ j → any ≡ false → IsQuietRow points start i (length start)
  row_quiet i start order any j q past z k h m = q.quiet z k h (omega (arith, m, past))

  -- the stretches that begin before i
  pub record IsInSweep (start order : List ℕ) (any : Bool) (i : ℕ) : Type 0 where
    pub indices : AreIndices points start
    pub left : rows points (length start) i (length start - i) order ≡ rows points (length start) 0 (length start) start
    pub change : IsTried points start order any
    pub quiet : any ≡ false → IsQuiet points start i

  pub sweep_begun : (start : List ℕ) → AreIndices points start → IsInSweep start start false 0
  sweep_begun start h = record { indices = h; left = (let e : length start - 0 ≡ length start = omega arith in ap (λ (n : ℕ). rows points (length start) 0 n start) e); change = none_tried start; quiet = λ _ i l. absurd (omega (arith, l)) }

  sweep_left : (start order : List ℕ) (any : Bool) (i : ℕ) → IsInSweep start order any i → i < length start
      → rows points (length start) (i + 1) (length start - (i + 1)) (tries points i (i + 1) (length start - (i + 1)) order) ≡ rows points (length start) 0 (length start) start
  sweep_left start order any i q l = let e : length start - i ≡ suc (length start - (i + 1)) = omega (arith, l) in sym (ap (λ (n : ℕ). rows points (length start) i n order) e) ∙ q.left

  sweep_step : (start order order' : List ℕ) (any : Bool) (i : ℕ) → IsInSweep start order any i → i < length start → length order ≡ length start → order' ≡ tries points i (i + 1) (length order - (i + 1)) order
      → rows points (length start) (i + 1) (length start - (i + 1)) order' ≡ rows points (length start) 0 (length start) start
  sweep_step start order order' any i q l n e =
      ap (rows points (length start) (i + 1) (length start - (i + 1))) (e ∙ ap (λ (m : ℕ). tries points i (i + 1) (m - (i + 1)) order) n) ∙ sweep_left start order any i q l

  pub sweep_on : (start order order' : List ℕ) (any : Bool) (i : ℕ) → IsInSweep start order any i → i < length order → order' ≡ tries points i (i + 1) (length order - (i + 1)) order → IsTried points order order' true
      → IsInSweep start order' true (i + 1)
  sweep_on start order order' any i q l e t =
      let n = still_long start order any q.change in
      record {
        indices = q.indices;
        left = sweep_step start order order' any i q (omega (arith, l, n)) n e;
        change = one_turned start order order' any q.change t;
        quiet = λ z. absurd (false≢true (sym z));
      }

  pub sweep_off : (start order order' : List ℕ) (any : Bool) (i : ℕ) → IsInSweep start order any i → i < length order → order' ≡ tries points i (i + 1) (length order - (i + 1)) order → IsTried points order order' false
      → IsQuietRow points order i (length order) → IsInSweep start order' any (i + 1)
  sweep_off start order order' any i q l e t calm =
      let n = still_long start order any q.change in
      record {
        indices = q.indices;
        left = sweep_step start order order' any i q (omega (arith, l, n)) n e;
        change = none_turned start order order' any q.change t;
        quiet = λ z k m. elim (cases_eq k i) as (λ _. IsQuietRow points start k (length start)) [
          | inl y ↦ subst (λ (x : ℕ). IsQuietRow points start x (length start)) (sym y) (subst (λ (x : List ℕ). IsQuietRow points x i (length x)) (q.change.same z) calm)
          | inr ne ↦ q.quiet z k (omega (arith, ne, m))
        ];
      }

  pub sweep_done : (start order : List ℕ) (any : Bool) (i : ℕ) → IsInSweep start order any i → length start ≤ i → order ≡ swept points start
  unfolding swept
  sweep_done start order any i q past = let e : length start - i ≡ 0 = omega (arith, past) in sym (ap (λ (n : ℕ). rows points (length start) i n order) e) ∙ q.left

  pub sweep_quiet : (start order : List ℕ) (any : Bool) (i : ℕ) → IsInSweep start order any i → length start ≤ i → any ≡ false → IsQuiet points start (length start)
  sweep_quiet start order any i q past z k l = q.quiet z k (omega (arith, l, past))
