-- There is one nearest order of given points, and one tour.
use Rattle.std.proofs.Common.{◌≡◌, ◌≢◌, ℕ, zero, suc, ◌+◌, ◌<◌, ◌≤◌, false, List, length, get_or, inl, inr, refl, sym, ap, subst, ◌∙◌, arith}
use Rattle.std.specs.List.{range_with_len, IsDistinct, AllByRecursion}
use Rattle.std.proofs.Math.Dec.{eqb}
use Rattle.std.proofs.lemmas.Bool.Decides.{eqb_tells}
use Rattle.std.proofs.lemmas.Grind.{same_number_lists}
use Rattle.std.proofs.lemmas.List.FromFn.{length-range_with_len}
use Rattle.std.proofs.lemmas.List.Sorted.{length_permutation}
use Rattle.std.proofs.lemmas.Map.Keys.{IsDistinct-IsPermutation, apart_from_distinct}
use Rattle.std.proofs.lemmas.Bool.{cases_eq, cases_lt, eq-eqb, false≢true}
use Rattle.number_laws.proofs.Tests.{by_bool}
use Rattle.board_base.specs.declared.places.Point.{Point}
use Rattle.board_base.specs.Places.{origin}
use Rattle.path_order.specs.declared.tours.Sweeps.{Sweeps}
use Rattle.path_order.specs.Orders.{point_at, place_before, IsOrder, IsNearer, IsNearestOrder, OneOrder}
use Rattle.path_order.specs.Tours.{way_of, swept_times, swept, IsTour, OneTour}
use Rattle.path_order.proofs.Ordering.{indices_of}

-- numbers in a row differ
later_differ : (x a n : ℕ) → x < a → AllByRecursion (λ y. eqb x y ≡ false) (range_with_len a n)
later_differ x a zero l = tt
later_differ x a (suc n) l =
    (elim (eqb_tells x a) as (λ _. eqb x a ≡ false) [ inl same ↦ absurd (omega (arith, l, same.1)) | inr apart ↦ apart.0 ], later_differ x (a + 1) n (omega (arith, l)))

range_differs : (a n : ℕ) → IsDistinct eqb (range_with_len a n)
unfolding IsDistinct
range_differs a zero = tt
range_differs a (suc n) = (later_differ a (a + 1) n (omega arith), range_differs (a + 1) n)

eqb_flips : (x y : ℕ) → eqb x y ≡ eqb y x
eqb_flips x y =
    elim (eqb_tells x y) as (λ _. eqb x y ≡ eqb y x) [
      | inl same ↦ same.0 ∙ sym (eq-eqb y x (sym same.1))
      | inr apart ↦ elim (eqb_tells y x) as (λ _. eqb x y ≡ eqb y x) [ inl same ↦ absurd (apart.1 (sym same.1)) | inr other ↦ apart.0 ∙ sym other.0 ]
    ]

-- no index stands twice in an order
pub entries_differ : (n : ℕ) (order : List ℕ) → IsOrder n order → (i k : ℕ) → i < k → k < length order → get_or order i 0 ≢ get_or order k 0
entries_differ n order h i k l m e =
    let distinct = IsDistinct-IsPermutation eqb eqb_flips (range_with_len 0 n) order h (range_differs 0 n) in
    absurd (false≢true (sym (apart_from_distinct eqb order i k 0 distinct l m) ∙ eq-eqb (get_or order i 0) (get_or order k 0) e))

-- of two indices that are each nearer than the other, or as near and not higher, there is one
one_nearest : (points : List Point) (place : Point) (p q : ℕ) → IsNearer points place p q → IsNearer points place q p → p ≡ q
one_nearest points place p q (inl a) (inl b) = absurd (omega (arith, a, b))
one_nearest points place p q (inl a) (inr b) = absurd (omega (arith, a, b.0))
one_nearest points place p q (inr a) (inl b) = absurd (omega (arith, a.0, b))
one_nearest points place p q (inr a) (inr b) = omega (arith, a.1, b.1)

module _ (points : List Point) (from : Point) where
  size : (order : List ℕ) → IsNearestOrder points from order → length order ≡ length points
  size order h = length_permutation (range_with_len 0 (length points)) order h.order_of ∙ length-range_with_len 0 (length points)

  -- where two orders agree below k, what the one goes to at k is as near as what the other goes to
  near_at : (one other : List ℕ) → IsNearestOrder points from one → IsNearestOrder points from other → (k : ℕ) → k < length points → ((i : ℕ) → i < k → get_or one i 0 ≡ get_or other i 0)
      → IsNearer points (place_before points from one k) (get_or one k 0) (get_or other k 0)
  near_at one other a b k l same =
      a.nearest k (get_or other k 0) (omega (arith, l, size one a)) (indices_of (length points) other b.order_of k 0 (omega (arith, l, size other b)))
      (λ i less e. entries_differ (length points) other b.order_of i k less (omega (arith, l, size other b)) (sym (same i less) ∙ e))

  same_before : (one other : List ℕ) (k : ℕ) → ((i : ℕ) → i < k → get_or one i 0 ≡ get_or other i 0) → place_before points from one k ≡ place_before points from other k
  same_before one other zero same = refl
  same_before one other (suc k) same = ap (point_at points) (same k (omega arith))

  same_at : (one other : List ℕ) → IsNearestOrder points from one → IsNearestOrder points from other → (k : ℕ) → k < length points → ((i : ℕ) → i < k → get_or one i 0 ≡ get_or other i 0) → get_or one k 0 ≡ get_or other k 0
  same_at one other a b k l same =
      one_nearest points (place_before points from one k) (get_or one k 0) (get_or other k 0) (near_at one other a b k l same)
      (subst (λ (p : Point). IsNearer points p (get_or other k 0) (get_or one k 0)) (sym (same_before one other k same)) (near_at other one b a k l (λ i less. sym (same i less))))

  same_below : (one other : List ℕ) → IsNearestOrder points from one → IsNearestOrder points from other → (n : ℕ) → n ≤ length points → (i : ℕ) → i < n → get_or one i 0 ≡ get_or other i 0
  same_below one other a b zero l i m = absurd (omega (arith, m))
  same_below one other a b (suc n) l i m =
      elim (cases_eq i n) as (λ _. get_or one i 0 ≡ get_or other i 0) [
        | inl e ↦ subst (λ (k : ℕ). get_or one k 0 ≡ get_or other k 0) (sym e) (same_at one other a b n (omega (arith, l)) (same_below one other a b n (omega (arith, l))))
        | inr ne ↦ same_below one other a b n (omega (arith, l)) i (omega (arith, m, ne))
      ]

pub one_order : OneOrder
one_order points from one other a b =
    let n = size points from one a in
    let m = size points from other b in
    same_number_lists one other (n ∙ sym m) (λ k l. same_below points from one other a b (length points) (omega arith) k (omega (arith, l, n)))

module _ (points : List Point) (start : List ℕ) where
  -- a tour that is settled isn't swept fewer times than another
  not_sooner : (one other : List ℕ) (often oft : Sweeps) → IsTour points start one often → IsTour points start other oft → often.shortened < oft.shortened → ⊥
  not_sooner one other often oft a b l =
      by_bool often.stable
      (λ calm.
      let still : way_of points one ≤ way_of points (swept points one) = (a.settled calm).1 in
      let less = b.shorter often.shortened l in
      let next : often.shortened + 1 ≡ suc often.shortened = omega arith in
      let now : way_of points one ≡ way_of points (swept_times points often.shortened start) = ap (way_of points) a.ends in
      let then : way_of points (swept points one) ≡ way_of points (swept_times points (often.shortened + 1) start) =
      ap (λ (x : List ℕ). way_of points (swept points x)) a.ends ∙ sym (ap (λ (n : ℕ). way_of points (swept_times points n start)) next) in
      omega (arith, still, less, now, then))
      (λ cut. let all : often.shortened ≡ 64 = a.cut_off cut in let most = at_most other oft b in omega (arith, l, all, most))
    where
      at_most : (order : List ℕ) (sweeps : Sweeps) → IsTour points start order sweeps → sweeps.shortened ≤ 64
      at_most order sweeps h = by_bool sweeps.stable (λ calm. let less = (h.settled calm).0 in omega (arith, less)) (λ cut. let all : sweeps.shortened ≡ 64 = h.cut_off cut in omega (arith, all))

  same_shortened : (one other : List ℕ) (often oft : Sweeps) → IsTour points start one often → IsTour points start other oft → often.shortened ≡ oft.shortened
  same_shortened one other often oft a b =
      elim (cases_lt often.shortened oft.shortened) as (λ _. often.shortened ≡ oft.shortened) [
        | inl less ↦ absurd (not_sooner one other often oft a b less)
        | inr past ↦
            elim (cases_lt oft.shortened often.shortened) as (λ _. often.shortened ≡ oft.shortened) [
              | inl less ↦ absurd (not_sooner other one oft often b a less)
              | inr back ↦ omega (arith, past, back)
            ]
      ]

  same_stable : (one other : List ℕ) (often oft : Sweeps) → IsTour points start one often → IsTour points start other oft → often.stable ≡ oft.stable
  same_stable one other often oft a b =
      let same = same_shortened one other often oft a b in
      by_bool often.stable
      (λ s. by_bool oft.stable (λ t. s ∙ sym t) (λ t. let less = (a.settled s).0 in let all : oft.shortened ≡ 64 = b.cut_off t in absurd (omega (arith, less, all, same))))
      (λ s. by_bool oft.stable (λ t. let less = (b.settled t).0 in let all : often.shortened ≡ 64 = a.cut_off s in absurd (omega (arith, less, all, same))) (λ t. s ∙ sym t))

  same_tour : (one other : List ℕ) (often oft : Sweeps) → IsTour points start one often → IsTour points start other oft → (one ≡ other) × (often ≡ oft)
  same_tour one other often oft a b =
      let shortened = same_shortened one other often oft a b in
      let stable = same_stable one other often oft a b in
      (a.ends ∙ ap (λ (n : ℕ). swept_times points n start) shortened ∙ sym b.ends, (λ t. record { shortened = shortened t; stable = stable t }))

pub one_tour : OneTour
one_tour points one other often oft a b =
    let start = one_order points origin b.start a.start b.nearest a.nearest in
    same_tour points a.start one other often oft a.tour (subst (λ (s : List ℕ). IsTour points s other oft) start b.tour)
