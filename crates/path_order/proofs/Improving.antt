-- One sweep after another.
use Rattle.std.proofs.Common.{◌≡◌, ℕ, suc, ◌+◌, ◌<◌, ◌≤◌, true, false, List, length, inl, inr, refl, sym, ap, subst, ◌∙◌, arith}
use Rattle.std.specs.List.{range_with_len}
use Rattle.std.specs.List.Sorted.{IsPermutation}
use Rattle.std.proofs.lemmas.List.Sorted.{IsPermutation-refl, IsPermutation-trans}
use Rattle.std.proofs.lemmas.Bool.{cases_eq, false≢true}
use Rattle.board_base.specs.declared.places.Point.{Point}
use Rattle.board_base.specs.Places.{origin}
use Rattle.path_order.specs.Orders.{IsOrder, IsNearestOrder}
use Rattle.path_order.specs.Tours.{way_of, swept, swept_times, IsSettled, IsImproved}
use Rattle.path_order.specs.Trials.{AreIndices, IsTried, IsQuiet}
use Rattle.path_order.proofs.Ordering.{indices_of}

module _ (points : List Point) (start : List ℕ) where
  -- after so many sweeps, each of which shortened the travel
  pub record IsImproving (order : List ℕ) (shortened : ℕ) : Type 0 where
    pub nearest : IsNearestOrder points origin start
    pub moved : IsPermutation start order
    pub ends : order ≡ swept_times points shortened start
    pub shorter : (k : ℕ) → k < shortened → way_of points (swept_times points (k + 1) start) < way_of points (swept_times points k start)
    pub gained : way_of points order + shortened ≤ way_of points start

  pub improving_begun : IsNearestOrder points origin start → IsImproving start 0
  improving_begun h = record { nearest = h; moved = IsPermutation-refl start; ends = refl; shorter = λ k l. absurd (omega (arith, l)); gained = omega arith }

  pub order_still : (order : List ℕ) (shortened : ℕ) → IsImproving order shortened → IsOrder (length points) order
  order_still order shortened q = IsPermutation-trans (range_with_len 0 (length points)) start order q.nearest.order_of q.moved

  pub indices_still : (order : List ℕ) (shortened : ℕ) → IsImproving order shortened → AreIndices points order
  indices_still order shortened q = indices_of (length points) order (order_still order shortened q)

  one_more : (order order' : List ℕ) (n : ℕ) → IsImproving order n → order' ≡ swept points order → order' ≡ swept_times points (n + 1) start
  one_more order order' n q e = let m : n + 1 ≡ suc n = omega arith in e ∙ ap (swept points) q.ends ∙ sym (ap (λ (k : ℕ). swept_times points k start) m)

  pub improving_on : (order order' : List ℕ) (n : ℕ) → IsImproving order n → order' ≡ swept points order → IsTried points order order' true → IsImproving order' (n + 1)
  improving_on order order' n q e t =
      let less = t.shorter refl in
      record {
        nearest = q.nearest;
        moved = IsPermutation-trans start order order' q.moved t.moved;
        ends = one_more order order' n q e;
        shorter = λ k l. elim (cases_eq k n) as (λ _. way_of points (swept_times points (k + 1) start) < way_of points (swept_times points k start)) [
          | inl z ↦ (
              let a : way_of points (swept_times points (k + 1) start) ≡ way_of points order' = ap (λ (i : ℕ). way_of points (swept_times points (i + 1) start)) z ∙ ap (way_of points) (sym (one_more order order' n q e)) in
              let b : way_of points (swept_times points k start) ≡ way_of points order = ap (λ (i : ℕ). way_of points (swept_times points i start)) z ∙ ap (way_of points) (sym q.ends) in
              omega (arith, a, b, less))
          | inr ne ↦ q.shorter k (omega (arith, ne, l))
        ];
        gained = omega (arith, q.gained, less);
      }

  quiet_settled : (order : List ℕ) → IsQuiet points order (length order) → IsSettled points order
  quiet_settled order h i j l k = h i (omega (arith, l, k)) j l k

  pub settled : (order order' : List ℕ) → IsTried points order order' false → IsQuiet points order (length order) → IsSettled points order'
  settled order order' t h = subst (IsSettled points) (sym (t.same refl)) (quiet_settled order h)

  pub stays_ordered : (order order' : List ℕ) (n : ℕ) → IsImproving order n → IsTried points order order' false → IsOrder (length points) order'
  stays_ordered order order' n q t = subst (IsOrder (length points)) (sym (t.same refl)) (order_still order n q)

  pub improved_stable : (order order' : List ℕ) (n : ℕ) → IsImproving order n → n < 64 → order' ≡ swept points order → IsTried points order order' false → IsImproved points order' (record { shortened = n; stable = true })
  improved_stable order order' n q l e t =
      let same = t.same refl in
      record {
        start = start;
        nearest = q.nearest;
        tour = record {
          ends = same ∙ q.ends;
          shorter = q.shorter;
          settled = λ _. (l, (let z : way_of points (swept points order') ≡ way_of points order' = ap (λ (x : List ℕ). way_of points (swept points x)) same ∙ ap (way_of points) (sym e) in omega (arith, z)));
          cut_off = λ z. absurd (false≢true (sym z));
        };
        gained = (let z : way_of points order' ≡ way_of points order = ap (way_of points) same in omega (arith, z, q.gained));
      }

  pub improved_cut : (order : List ℕ) (n : ℕ) → IsImproving order n → n ≡ 64 → IsImproved points order (record { shortened = 64; stable = false })
  improved_cut order n q e =
      subst (λ (m : ℕ). IsImproved points order (record { shortened = m; stable = false })) e (record {
        start = start;
        nearest = q.nearest;
        tour = record { ends = q.ends; shorter = q.shorter; settled = λ z. absurd (false≢true z); cut_off = λ _. e };
        gained = q.gained;
      })
