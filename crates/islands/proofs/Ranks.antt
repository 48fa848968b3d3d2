-- One more node of a forest is numbered.
use Rattle.std.proofs.Common.{◌≡◌, ◌≢◌, ℕ, zero, suc, ◌+◌, ◌<◌, ◌≤◌, List, length, set, get_or, refl, sym, ap, subst, ◌∙◌, arith, get_or-set_same, get_or-set_other}
use Rattle.islands.specs.Forests.{nodes, IsForest, KeepsNodes, IsRanked}
use Rattle.islands.proofs.ForestLaws.{points_in, by_eq, keeps, keeps_none, keeps_both}

-- no cell is numbered yet
pub none_ranked : (works : List ℕ) (outer : ℕ) (root : ℕ → ℕ) → IsForest (nodes outer works) root → IsRanked (nodes outer works) (nodes outer works) outer root outer 0
none_ranked works outer root p = record {
  rest = λ m l. refl;
  live = keeps_none (nodes outer works);
  few = few;
  equal = λ a b la lb pa pb e. ap (λ (m : ℕ). get_or (nodes outer works) m 0) (one a la pa ∙ sym (one b lb pb));
  apart = λ a b la lb pa pb e. ap root (one a la pa ∙ sym (one b lb pb));
  present = λ u low high. absurd (omega (arith, low, high));
  order = λ a u l low less. absurd (let f = few a l in omega (arith, f, low, less));
  counted = omega arith;
}
  where
    few : (m : ℕ) → m < 0 + 2 → get_or (nodes outer works) m 0 ≤ outer
    few zero l = omega arith
    few (suc zero) l = omega arith
    few (suc (suc m)) l = absurd (omega (arith, l))

    one : (m : ℕ) → m < 0 + 2 → 0 < get_or (nodes outer works) m 0 → m ≡ 1
    one zero l k = absurd (omega (arith, k))
    one (suc zero) l k = refl
    one (suc (suc m)) l k = absurd (omega (arith, l))

module _ (xs ys : List ℕ) (outer : ℕ) (root : ℕ → ℕ) (count n : ℕ) (p : IsForest xs root) (q : IsRanked xs ys outer root count n) where
  -- the node points to nothing
  pub rank_none : get_or xs (n + 2) 0 ≡ 0 → IsRanked xs ys outer root count (n + 1)
  rank_none none =
      let at : get_or ys (n + 2) 0 ≡ 0 = q.rest (n + 2) (omega arith) ∙ none in
      let old : (a : ℕ) → a < n + 1 + 2 → 0 < get_or xs a 0 → a < n + 2 = λ a l k.
      by_eq (a < n + 2) a (n + 2) (λ e. absurd (omega (arith, none, k, ap (λ (m : ℕ). get_or xs m 0) e))) (λ ne. omega (arith, l, ne)) in
      record {
        rest = λ m l. q.rest m (omega (arith, l));
        live = q.live;
        few = λ m l. by_eq (get_or ys m 0 ≤ count) m (n + 2) (λ e. omega (arith, at, ap (λ (j : ℕ). get_or ys j 0) e)) (λ ne. q.few m (omega (arith, l, ne)));
        equal = λ a b la lb pa pb e. q.equal a b (old a la pa) (old b lb pb) pa pb e;
        apart = λ a b la lb pa pb e. q.apart a b (old a la pa) (old b lb pb) pa pb e;
        present = λ u low high. let r = q.present u low high in (r.0, (r.1.0, omega (arith, r.1.1), r.1.2));
        order = λ a u l low less. by_eq ((m : ℕ) × ((1 < m) × (m < a) × (get_or ys m 0 ≡ u))) a (n + 2)
            (λ e. absurd (omega (arith, at, less, ap (λ (j : ℕ). get_or ys j 0) e)))
            (λ ne. q.order a u (omega (arith, l, ne)) low less);
        counted = let k = q.counted in omega (arith, k);
      }

  module _ (v : ℕ) (points : 0 < get_or xs (n + 2) 0) (some : 0 < v) where
    pub rank_in : n + 2 < length ys
    rank_in = points_in ys (n + 2) (q.live.there (n + 2) points)

    here : get_or (set ys (n + 2) v) (n + 2) 0 ≡ v
    here = get_or-set_same ys (n + 2) v 0 rank_in

    at_node : (a : ℕ) → a ≡ n + 2 → get_or (set ys (n + 2) v) a 0 ≡ v
    at_node a e = ap (λ (j : ℕ). get_or (set ys (n + 2) v) j 0) e ∙ here

    else : (a : ℕ) → a ≢ n + 2 → get_or (set ys (n + 2) v) a 0 ≡ get_or ys a 0
    else a ne = get_or-set_other ys (n + 2) a v 0 ne

    new_live : KeepsNodes xs (set ys (n + 2) v)
    new_live = keeps_both xs ys (set ys (n + 2) v) q.live (keeps ys (n + 2) v rank_in some (q.live.there (n + 2) points))

    new_rest : (m : ℕ) → n + 1 + 2 ≤ m → get_or (set ys (n + 2) v) m 0 ≡ get_or xs m 0
    new_rest m l = else m (λ e. omega (arith, l, e)) ∙ q.rest m (omega (arith, l))

    less_here : (a : ℕ) → a < n + 1 + 2 → a ≢ n + 2 → a < n + 2
    less_here a l ne = omega (arith, l, ne)

    -- each is the node, or an earlier one
    pub pairs : (P : ℕ → ℕ → Type 0) → ((a b : ℕ) → P a b → P b a) → P (n + 2) (n + 2) → ((b : ℕ) → b < n + 2 → P (n + 2) b) → ((a b : ℕ) → a < n + 2 → b < n + 2 → P a b)
        → (a b : ℕ) → a < n + 1 + 2 → b < n + 1 + 2 → P a b
    pairs P turn both one none a b la lb =
        by_eq (P a b) a (n + 2)
        (λ ea. subst (λ (j : ℕ). P j b) (sym ea) (by_eq (P (n + 2) b) b (n + 2) (λ eb. subst (λ (j : ℕ). P (n + 2) j) (sym eb) both) (λ nb. one b (less_here b lb nb))))
        (λ na. by_eq (P a b) b (n + 2) (λ eb. subst (λ (j : ℕ). P a j) (sym eb) (turn (n + 2) a (one a (less_here a la na)))) (λ nb. none a b (less_here a la na) (less_here b lb nb)))

    pub new_equal : ((b : ℕ) → b < n + 2 → 0 < get_or xs b 0 → root (n + 2) ≡ root b → v ≡ get_or ys b 0)
        → (a b : ℕ) → a < n + 1 + 2 → b < n + 1 + 2 → 0 < get_or xs a 0 → 0 < get_or xs b 0 → root a ≡ root b → get_or (set ys (n + 2) v) a 0 ≡ get_or (set ys (n + 2) v) b 0
    new_equal f =
        pairs (λ a b. 0 < get_or xs a 0 → 0 < get_or xs b 0 → root a ≡ root b → get_or (set ys (n + 2) v) a 0 ≡ get_or (set ys (n + 2) v) b 0)
        (λ a b g pb pa e. sym (g pa pb (sym e)))
        (λ pa pb e. refl)
        (λ b l pa pb e. here ∙ f b l pb e ∙ sym (else b (λ k. omega (arith, l, k))))
        (λ a b la lb pa pb e. else a (λ k. omega (arith, la, k)) ∙ q.equal a b la lb pa pb e ∙ sym (else b (λ k. omega (arith, lb, k))))

    pub new_apart : ((b : ℕ) → b < n + 2 → 0 < get_or xs b 0 → v ≡ get_or ys b 0 → root (n + 2) ≡ root b)
        → (a b : ℕ) → a < n + 1 + 2 → b < n + 1 + 2 → 0 < get_or xs a 0 → 0 < get_or xs b 0 → get_or (set ys (n + 2) v) a 0 ≡ get_or (set ys (n + 2) v) b 0 → root a ≡ root b
    new_apart f =
        pairs (λ a b. 0 < get_or xs a 0 → 0 < get_or xs b 0 → get_or (set ys (n + 2) v) a 0 ≡ get_or (set ys (n + 2) v) b 0 → root a ≡ root b)
        (λ a b g pb pa e. sym (g pa pb (sym e)))
        (λ pa pb e. refl)
        (λ b l pa pb e. f b l pb (sym here ∙ e ∙ else b (λ k. omega (arith, l, k))))
        (λ a b la lb pa pb e. q.apart a b la lb pa pb (sym (else a (λ k. omega (arith, la, k))) ∙ e ∙ else b (λ k. omega (arith, lb, k))))

    kept_present : (u : ℕ) → outer < u → u ≤ count → (m : ℕ) × ((1 < m) × (m < n + 1 + 2) × (get_or (set ys (n + 2) v) m 0 ≡ u))
    kept_present u low high = let r = q.present u low high in (r.0, (r.1.0, omega (arith, r.1.1), else r.0 (λ k. omega (arith, r.1.1, k)) ∙ r.1.2))

    new_order : ((u : ℕ) → outer < u → u < v → (m : ℕ) × ((1 < m) × (m < n + 2) × (get_or ys m 0 ≡ u)))
        → (a u : ℕ) → a < n + 1 + 2 → outer < u → u < get_or (set ys (n + 2) v) a 0 → (m : ℕ) × ((1 < m) × (m < a) × (get_or (set ys (n + 2) v) m 0 ≡ u))
    new_order f a u l low less =
        by_eq ((m : ℕ) × ((1 < m) × (m < a) × (get_or (set ys (n + 2) v) m 0 ≡ u))) a (n + 2)
        (λ e. let r = f u low (omega (arith, less, at_node a e)) in (r.0, (r.1.0, omega (arith, r.1.1, e), else r.0 (λ k. omega (arith, r.1.1, k)) ∙ r.1.2)))
        (λ ne.
        let below = less_here a l ne in
        let r = q.order a u below low (omega (arith, less, else a ne)) in
        (r.0, (r.1.0, r.1.1, else r.0 (λ k. omega (arith, r.1.1, k, below)) ∙ r.1.2)))

  -- the node points to itself: the next number
  pub rank_own : get_or xs (n + 2) 0 ≡ n + 2 → IsRanked xs (set ys (n + 2) (count + 1)) outer root (count + 1) (n + 1)
  rank_own own =
      let points : 0 < get_or xs (n + 2) 0 = omega (arith, own) in
      let some : 0 < count + 1 = omega arith in
      let r = p.own (n + 2) points own in
      record {
        rest = new_rest (count + 1) points some;
        live = new_live (count + 1) points some;
        few = λ m l. by_eq (get_or (set ys (n + 2) (count + 1)) m 0 ≤ count + 1) m (n + 2)
            (λ e. omega (arith, at_node (count + 1) points some m e))
            (λ ne. let f = q.few m (omega (arith, l, ne)) in omega (arith, f, else (count + 1) points some m ne));
        equal = new_equal (count + 1) points some (λ b l k e. absurd (let f = p.first b k in omega (arith, f, l, r, e)));
        apart = new_apart (count + 1) points some (λ b l k e. absurd (let f = q.few b l in omega (arith, f, e)));
        present = λ u low high. by_eq ((m : ℕ) × ((1 < m) × (m < n + 1 + 2) × (get_or (set ys (n + 2) (count + 1)) m 0 ≡ u))) u (count + 1)
            (λ e. (n + 2, (omega arith, omega arith, here (count + 1) points some ∙ sym e)))
            (λ ne. kept_present (count + 1) points some u low (omega (arith, high, ne)));
        order = new_order (count + 1) points some (λ u low less. q.present u low (omega (arith, less)));
        counted = let k = q.counted in omega (arith, k);
      }

  -- the node has the root of an earlier one: that one's number
  pub rank_beside : (up : ℕ) → 0 < get_or xs (n + 2) 0 → up < n + 2 → 0 < get_or xs up 0 → root up ≡ root (n + 2) → IsRanked xs (set ys (n + 2) (get_or ys up 0)) outer root count (n + 1)
  rank_beside up points less up_points same =
      let v = get_or ys up 0 in
      let some = q.live.there up up_points in
      record {
        rest = new_rest v points some;
        live = new_live v points some;
        few = λ m l. by_eq (get_or (set ys (n + 2) v) m 0 ≤ count) m (n + 2)
            (λ e. let f = q.few up less in omega (arith, f, at_node v points some m e))
            (λ k. let f = q.few m (omega (arith, l, k)) in omega (arith, f, else v points some m k));
        equal = new_equal v points some (λ b l k e. q.equal up b less l up_points k (same ∙ e));
        apart = new_apart v points some (λ b l k e. sym same ∙ q.apart up b less l up_points k e);
        present = kept_present v points some;
        order = new_order v points some (λ u low k. let r = q.order up u less low k in (r.0, (r.1.0, omega (arith, r.1.1, less), r.1.2)));
        counted = let k = q.counted in omega (arith, k);
      }

  -- the node points to an earlier one
  pub rank_under : 0 < get_or xs (n + 2) 0 → get_or xs (n + 2) 0 ≢ n + 2 → IsRanked xs (set ys (n + 2) (get_or ys (get_or xs (n + 2) 0) 0)) outer root count (n + 1)
  rank_under points ne =
      let low = p.low (n + 2) in
      rank_beside (get_or xs (n + 2) 0) points (omega (arith, low, ne)) (p.up (n + 2) points) (p.step (n + 2) points)
