-- The nearest order, one index after another.
use Rattle.std.proofs.Common.{◌≡◌, ◌≢◌, ℕ, zero, suc, ◌+◌, ◌<◌, ◌≤◌, cond, Bool, true, false, List, [], ◌∷◌, ◌++◌, length, set, get_or, replicate, append_assoc, inl, inr, refl, sym, ap, subst, ◌∙◌, arith, get_or-set_other}
use Rattle.std.specs.List.{range_with_len, All}
use Rattle.std.specs.List.Sorted.{IsPermutation}
use Rattle.std.proofs.lemmas.List.{append-nil, length-set, length_push, length-replicate}
use Rattle.std.proofs.Math.ListN.{get_or-append}
use Rattle.std.proofs.Math.Seq.{get_or-append_seam}
use Rattle.std.proofs.lemmas.List.Sorted.{IsPermutation-refl, IsPermutation-trans, IsPermutation-cons, IsPermutation-middle, IsPermutation-append_right, length_permutation, All-permutation}
use Rattle.std.proofs.lemmas.List.Elements.{All-nil, All-cons}
use Rattle.std.proofs.lemmas.Bool.{cases_eq, false≢true}
use Rattle.number_laws.proofs.Tests.{false_from_ne_true}
use Rattle.board_base.specs.declared.places.Point.{Point}
use Rattle.path_order.specs.Orders.{point_at, place_before, IsNearer, IsNearestOrder, IsOrder}
use Rattle.path_order.specs.Trials.{is_used, IsNearestUnused}

-- the unused of the indices from k on
abbrev pub unused_from : ℕ → List Bool → List ℕ
unused_from k [] = []
unused_from k (u ∷ used) = cond u (unused_from (k + 1) used) (k ∷ unused_from (k + 1) used)

all_unused : (k n : ℕ) → unused_from k (replicate n false) ≡ range_with_len k n
all_unused k zero = refl
all_unused k (suc n) = ap (λ (l : List ℕ). k ∷ l) (all_unused (k + 1) n)

-- an index that is used now
one_used : (k : ℕ) (used : List Bool) (i : ℕ) → i < length used → is_used used i ≡ false → IsPermutation (unused_from k used) ((k + i) ∷ unused_from k (set used i true))
one_used k [] i l e = absurd (omega (arith, l))
one_used k (true ∷ used) zero l e = absurd (false≢true (sym e))
one_used k (false ∷ used) zero l e =
    let n : k ≡ k + 0 = omega arith in
    subst (λ (m : ℕ). IsPermutation (k ∷ unused_from (k + 1) used) (m ∷ unused_from (k + 1) used)) n (IsPermutation-refl (k ∷ unused_from (k + 1) used))
one_used k (true ∷ used) (suc i) l e =
    let n : k + 1 + i ≡ k + suc i = omega arith in
    subst (λ (m : ℕ). IsPermutation (unused_from (k + 1) used) (m ∷ unused_from (k + 1) (set used i true))) n (one_used (k + 1) used i (omega (arith, l)) e)
one_used k (false ∷ used) (suc i) l e =
    let n : k + 1 + i ≡ k + suc i = omega arith in
    let rest : List ℕ = unused_from (k + 1) (set used i true) in
    subst (λ (m : ℕ). IsPermutation (k ∷ unused_from (k + 1) used) (m ∷ k ∷ rest)) n
    (IsPermutation-trans (k ∷ unused_from (k + 1) used) (k ∷ (k + 1 + i) ∷ rest) ((k + 1 + i) ∷ k ∷ rest)
    (IsPermutation-cons k (unused_from (k + 1) used) ((k + 1 + i) ∷ rest) (one_used (k + 1) used i (omega (arith, l)) e))
    (IsPermutation-middle (k ∷ []) (k + 1 + i) rest))

none_left : (k : ℕ) (used : List Bool) → ((i : ℕ) → i < length used → is_used used i ≡ true) → unused_from k used ≡ []
none_left k [] all = refl
none_left k (u ∷ used) all =
    ap (λ (b : Bool). cond b (unused_from (k + 1) used) (k ∷ unused_from (k + 1) used)) (all 0 (omega arith)) ∙ none_left (k + 1) used (λ i l. all (suc i) (omega (arith, l)))

module _ (points : List Point) (from : Point) where
  -- the order so far, and the place where it is
  pub record IsOrdering (used : List Bool) (order : List ℕ) (place : Point) : Type 0 where
    pub len : length used ≡ length points
    pub left : IsPermutation (range_with_len 0 (length points)) (order ++ unused_from 0 used)
    pub among : (k : ℕ) → is_used used k ≡ true → k < length points → (i : ℕ) × ((i < length order) × (get_or order i 0 ≡ k))
    pub here : place ≡ place_before points from order (length order)
    pub nearest : (k other : ℕ) → k < length order → other < length points → ((i : ℕ) → i < k → get_or order i 0 ≢ other) → IsNearer points (place_before points from order k) (get_or order k 0) other

  off : (n i : ℕ) → i < n → is_used (replicate n false) i ≡ false
  off zero i l = absurd (omega (arith, l))
  off (suc n) zero l = refl
  off (suc n) (suc i) l = off n i (omega (arith, l))

  pub ordering_begun : (used : List Bool) (order : List ℕ) → used ≡ replicate (length points) false → order ≡ [] → IsOrdering used order from
  ordering_begun used order e f =
      subst (λ (x : List Bool). IsOrdering x order from) (sym e) (subst (λ (x : List ℕ). IsOrdering (replicate (length points) false) x from) (sym f) (record {
        len = length-replicate (length points) false;
        left = subst (IsPermutation (range_with_len 0 (length points))) (sym (all_unused 0 (length points))) (IsPermutation-refl (range_with_len 0 (length points)));
        among = λ k u l. absurd (false≢true (sym (off (length points) k l) ∙ u));
        here = refl;
        nearest = λ k other l. absurd (omega (arith, l));
      }))

  place_kept : (order : List ℕ) (k m : ℕ) → m ≤ length order → place_before points from (order ++ k ∷ []) m ≡ place_before points from order m
  place_kept order k zero l = refl
  place_kept order k (suc m) l = ap (point_at points) (get_or-append order (k ∷ []) 0 m (omega (arith, l)))

  pub ordering_on : (used used' : List Bool) (order order' : List ℕ) (place place' : Point) (k : ℕ) → IsOrdering used order place → IsNearestUnused points used place (length points) k → used' ≡ set used k true
      → order' ≡ order ++ k ∷ [] → place' ≡ point_at points k → IsOrdering used' order' place'
  ordering_on used used' order order' place place' k q b e f g =
      subst (λ (x : List Bool). IsOrdering x order' place') (sym e) (subst (λ (x : List ℕ). IsOrdering (set used k true) x place') (sym f) (record {
        len = length-set used k true ∙ q.len;
        left =
            IsPermutation-trans (range_with_len 0 (length points)) (order ++ unused_from 0 used) ((order ++ k ∷ []) ++ unused_from 0 (set used k true)) q.left
            (subst (IsPermutation (order ++ unused_from 0 used)) (sym (append_assoc order (k ∷ []) (unused_from 0 (set used k true))))
            (IsPermutation-append_right order (unused_from 0 used) (k ∷ unused_from 0 (set used k true))
            (subst (λ (m : ℕ). IsPermutation (unused_from 0 used) (m ∷ unused_from 0 (set used k true))) zeroth (one_used 0 used k k_in b.unused))));
        among = λ c u l. elim (cases_eq c k) as (λ _. (i : ℕ) × ((i < length (order ++ k ∷ [])) × (get_or (order ++ k ∷ []) i 0 ≡ c))) [
          | inl z ↦ (length order, (omega (arith, more), seam ∙ sym z))
          | inr ne ↦ (let found = q.among c (sym (get_or-set_other used k c true true ne) ∙ u) l in (found.0, (omega (arith, found.1.0, more), get_or-append order (k ∷ []) 0 found.0 found.1.0 ∙ found.1.1)))
        ];
        here = g ∙ sym (ap (place_before points from (order ++ k ∷ [])) more_suc ∙ ap (point_at points) seam);
        nearest = λ c other l inside new. elim (cases_eq c (length order)) as (λ _. IsNearer points (place_before points from (order ++ k ∷ []) c) (get_or (order ++ k ∷ []) c 0) other) [
          | inl z ↦
              subst (λ (x : ℕ). IsNearer points (place_before points from (order ++ k ∷ []) x) (get_or (order ++ k ∷ []) x 0) other) (sym z)
              (subst (λ (x : Point). IsNearer points x (get_or (order ++ k ∷ []) (length order) 0) other) (sym (place_kept order k (length order) (omega arith) ∙ sym q.here))
              (subst (λ (x : ℕ). IsNearer points place x other) (sym seam) (b.least other inside (unused_at c other z inside new))))
          | inr ne ↦ (
              let c_in : c < length order = omega (arith, ne, l, more) in
              subst (λ (x : Point). IsNearer points x (get_or (order ++ k ∷ []) c 0) other) (sym (place_kept order k c (omega (arith, c_in))))
              (subst (λ (x : ℕ). IsNearer points (place_before points from order c) x other) (sym (get_or-append order (k ∷ []) 0 c c_in))
              (q.nearest c other c_in inside (λ i less same. new i less (get_or-append order (k ∷ []) 0 i (omega (arith, less, c_in)) ∙ same)))))
        ];
      }))
    where
      k_in : k < length used
      k_in = omega (arith, b.inside, q.len)

      zeroth : 0 + k ≡ k
      zeroth = omega arith

      more : length (order ++ k ∷ []) ≡ length order + 1
      more = length_push order k

      more_suc : length (order ++ k ∷ []) ≡ suc (length order)
      more_suc = omega (arith, more)

      seam : get_or (order ++ k ∷ []) (length order) 0 ≡ k
      seam = get_or-append_seam order k [] 0

      unused_at : (c other : ℕ) → c ≡ length order → other < length points → ((i : ℕ) → i < c → get_or (order ++ k ∷ []) i 0 ≢ other) → is_used used other ≡ false
      unused_at c other z inside new =
          false_from_ne_true (is_used used other) (λ u. (let found = q.among other u inside in new found.0 (omega (arith, found.1.0, z)) (get_or-append order (k ∷ []) 0 found.0 found.1.0 ∙ found.1.1)))

  pub fewer_unused : (used used' : List Bool) (order : List ℕ) (place : Point) (k : ℕ) → IsOrdering used order place → IsNearestUnused points used place (length points) k → used' ≡ set used k true
      → length (unused_from 0 used') + 1 ≡ length (unused_from 0 used)
  fewer_unused used used' order place k q b e =
      let n = length_permutation (unused_from 0 used) ((0 + k) ∷ unused_from 0 (set used k true)) (one_used 0 used k (omega (arith, b.inside, q.len)) b.unused) in
      let same : length (unused_from 0 used') ≡ length (unused_from 0 (set used k true)) = ap (λ (x : List Bool). length (unused_from 0 x)) e in
      omega (arith, n, same)

  pub ordered : (used : List Bool) (order : List ℕ) (place : Point) → IsOrdering used order place → ((k : ℕ) → k < length points → is_used used k ≡ true) → IsNearestOrder points from order
  ordered used order place q all = record {
    order_of = subst (IsPermutation (range_with_len 0 (length points))) (ap (λ (x : List ℕ). order ++ x) (none_left 0 used (λ i l. all i (omega (arith, l, q.len)))) ∙ append-nil order) q.left;
    nearest = q.nearest;
  }

-- the indices of an order
pub indices_of : (n : ℕ) (order : List ℕ) → IsOrder n order → All (λ k. k < n) order
indices_of n order h = All-permutation (λ k. k < n) (range_with_len 0 n) order h (below 0 n (omega arith))
  where
    below : (a m : ℕ) → a + m ≡ n → All (λ k. k < n) (range_with_len a m)
    below a zero e = All-nil (λ k. k < n)
    below a (suc m) e = All-cons (λ k. k < n) a (range_with_len (a + 1) m) (omega (arith, e)) (below (a + 1) m (omega (arith, e)))
