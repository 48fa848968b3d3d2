-- What changes keep a forest.
use Rattle.std.proofs.Common.{◌≡◌, ◌≢◌, ℕ, suc, ◌<◌, ◌≤◌, ◌==◌, cond, List, length, set, get_or, ◌⊎◌, inl, inr, refl, sym, ap, subst, ◌∙◌, arith, get_or-set_same, get_or-set_other}
use Rattle.std.proofs.lemmas.List.{get_or_past}
use Rattle.std.proofs.lemmas.Bool.{cases_eq, cases_lt, eq-eqb, ne_eqb}
use Rattle.islands.specs.Forests.{nodes, IsForest, KeepsNodes, IsMerged}
use Rattle.number_laws.proofs.Tests.{cond_true, cond_false}

-- a node that points lies in the list
pub points_in : (xs : List ℕ) (m : ℕ) → 0 < get_or xs m 0 → m < length xs
points_in xs m some = elim (cases_lt m (length xs)) as (λ _. m < length xs) [ inl l ↦ l | inr past ↦ absurd (omega (arith, some, get_or_past xs m 0 past)) ]

-- a write to a place is a write to its node
pub nodes_set : (outer : ℕ) (works : List ℕ) (k v : ℕ) → nodes outer (set works k v) ≡ set (nodes outer works) (suc (suc k)) v
nodes_set outer works k v = refl

-- two numbers are equal, or not
pub by_eq : (P : Type 0) (a b : ℕ) → (a ≡ b → P) → (a ≢ b → P) → P
by_eq P a b f g = elim (cases_eq a b) as (λ _. P) [ inl e ↦ f e | inr ne ↦ g ne ]

-- another root for some nodes
abbrev pub moved_to : (ℕ → ℕ) → ℕ → ℕ → ℕ → ℕ
moved_to root x y m = cond (root m == x) y (root m)

pub moved_on : (root : ℕ → ℕ) (x y m : ℕ) → root m ≡ x → moved_to root x y m ≡ y
moved_on root x y m e = cond_true (root m == x) y (root m) (eq-eqb (root m) x e)

pub moved_off : (root : ℕ → ℕ) (x y m : ℕ) → root m ≢ x → moved_to root x y m ≡ root m
moved_off root x y m ne = cond_false (root m == x) y (root m) (ne_eqb (root m) x ne)

abbrev pub with_root : (ℕ → ℕ) → ℕ → ℕ → ℕ → ℕ
with_root root x r m = cond (m == x) r (root m)

pub with_here : (root : ℕ → ℕ) (x r m : ℕ) → m ≡ x → with_root root x r m ≡ r
with_here root x r m e = cond_true (m == x) r (root m) (eq-eqb m x e)

pub with_else : (root : ℕ → ℕ) (x r m : ℕ) → m ≢ x → with_root root x r m ≡ root m
with_else root x r m ne = cond_false (m == x) r (root m) (ne_eqb m x ne)

-- one node is written, to one that points or to itself
module _ (xs : List ℕ) (x v : ℕ) (x_in : x < length xs) (some : 0 < v) where
  here : get_or (set xs x v) x 0 ≡ v
  here = get_or-set_same xs x v 0 x_in

  else : (m : ℕ) → m ≢ x → get_or (set xs x v) m 0 ≡ get_or xs m 0
  else m ne = get_or-set_other xs x m v 0 ne

  alive : (k : ℕ) → (k ≢ x → 0 < get_or xs k 0) → 0 < get_or (set xs x v) k 0
  alive k l = by_eq (0 < get_or (set xs x v) k 0) k x (λ e. subst (λ (j : ℕ). 0 < get_or (set xs x v) j 0) (sym e) (omega (arith, here, some))) (λ ne. let j = l ne in omega (arith, else k ne, j))

  pub keeps : 0 < get_or xs x 0 → KeepsNodes xs (set xs x v)
  keeps was = record {
    there = λ m l. alive m (λ _. l);
    back = λ m l. by_eq (0 < get_or xs m 0) m x (λ e. subst (λ (k : ℕ). 0 < get_or xs k 0) (sym e) was) (λ ne. omega (arith, else m ne, l));
  }

  module _ (root after : ℕ → ℕ) (p : IsForest xs root) (low_v : v ≤ x) (up_v : v ≢ x → 0 < get_or xs v 0) (step_v : after v ≡ after x) (own_v : v ≡ x → after x ≡ x) (first_v : after x ≤ x)
      (step_else : (m : ℕ) → m ≢ x → 0 < get_or xs m 0 → after (get_or xs m 0) ≡ after m) (own_else : (m : ℕ) → m ≢ x → 0 < get_or xs m 0 → get_or xs m 0 ≡ m → after m ≡ m)
      (first_else : (m : ℕ) → m ≢ x → 0 < get_or xs m 0 → after m ≤ m) where
    pub written : IsForest (set xs x v) after
    written = record {
      low = λ m. by_eq (get_or (set xs x v) m 0 ≤ m) m x (λ e. subst (λ (k : ℕ). get_or (set xs x v) k 0 ≤ k) (sym e) (omega (arith, here, low_v))) (λ ne. let l = p.low m in omega (arith, else m ne, l));
      up = λ m l. by_eq (0 < get_or (set xs x v) (get_or (set xs x v) m 0) 0) m x
          (λ e. subst (λ (k : ℕ). 0 < get_or (set xs x v) k 0) (sym (ap (λ (k : ℕ). get_or (set xs x v) k 0) e ∙ here)) (alive v up_v))
          (λ ne. subst (λ (k : ℕ). 0 < get_or (set xs x v) k 0) (sym (else m ne)) (alive (get_or xs m 0) (λ _. p.up m (omega (arith, else m ne, l)))));
      step = λ m l. by_eq (after (get_or (set xs x v) m 0) ≡ after m) m x
          (λ e. subst (λ (k : ℕ). after (get_or (set xs x v) k 0) ≡ after k) (sym e) (ap after here ∙ step_v))
          (λ ne. ap after (else m ne) ∙ step_else m ne (omega (arith, else m ne, l)));
      own = λ m l same. by_eq (after m ≡ m) m x
          (λ e. subst (λ (k : ℕ). after k ≡ k) (sym e) (own_v (sym here ∙ ap (λ (k : ℕ). get_or (set xs x v) k 0) (sym e) ∙ same ∙ e)))
          (λ ne. own_else m ne (omega (arith, else m ne, l)) (sym (else m ne) ∙ same));
      first = λ m l. by_eq (after m ≤ m) m x
          (λ e. subst (λ (k : ℕ). after k ≤ k) (sym e) first_v)
          (λ ne. first_else m ne (omega (arith, else m ne, l)));
    }

-- a node skips the one that it points to
pub halved : (xs : List ℕ) (x : ℕ) (root : ℕ → ℕ) → 0 < get_or xs x 0 → IsForest xs root → IsForest (set xs x (get_or xs (get_or xs x 0) 0)) root
halved xs x root l p =
    let up = p.up x l in
    let low = p.low x in
    let low2 = p.low (get_or xs x 0) in
    let same : root (get_or xs (get_or xs x 0) 0) ≡ root x = p.step (get_or xs x 0) up ∙ p.step x l in
    written xs x (get_or xs (get_or xs x 0) 0) (points_in xs x l) up root root p (omega (arith, low, low2)) (λ _. p.up (get_or xs x 0) up) same
    (λ e. p.own x l (omega (arith, low, low2, e))) (p.first x l) (λ m _ k. p.step m k) (λ m _ k. p.own m k) (λ m _ k. p.first m k)

-- a root points to an earlier root: the classes of the two are one
module _ (xs : List ℕ) (x y : ℕ) (root : ℕ → ℕ) (p : IsForest xs root) (x_own : get_or xs x 0 ≡ x) (y_own : get_or xs y 0 ≡ y) (some : 0 < y) (less : y < x) where
  x_root : root x ≡ x
  x_root = p.own x (omega (arith, x_own, less)) x_own

  y_root : root y ≡ y
  y_root = p.own y (omega (arith, y_own, some)) y_own

  pub hung : IsForest (set xs x y) (moved_to root x y)
  hung =
      let at_x : moved_to root x y x ≡ y = moved_on root x y x x_root in
      let at_y : moved_to root x y y ≡ y = moved_off root x y y (λ e. omega (arith, e, y_root, less)) ∙ y_root in
      written xs x y (points_in xs x (omega (arith, x_own, less))) some root (moved_to root x y) p (omega (arith, less)) (λ _. omega (arith, y_own, some)) (at_y ∙ sym at_x)
      (λ e. absurd (omega (arith, e, less))) (omega (arith, at_x, less))
      (λ m _ k. ap (λ (j : ℕ). cond (j == x) y j) (p.step m k))
      (λ m ne k e. let r = p.own m k e in moved_off root x y m (λ j. ne (sym r ∙ j)) ∙ r)
      (λ m _ k. let f = p.first m k in by_eq (moved_to root x y m ≤ m) (root m) x (λ e. omega (arith, moved_on root x y m e, e, f, less)) (λ ne. omega (arith, moved_off root x y m ne, f)))

  pub hung_merged : (a b : ℕ) → ((root a ≡ x) × (root b ≡ y)) ⊎ ((root a ≡ y) × (root b ≡ x)) → IsMerged (set xs x y) root a b
  hung_merged a b ends = record {
    after = moved_to root x y;
    forest = hung;
    meets = elim ends as (λ _. moved_to root x y a ≡ moved_to root x y b) [
      | inl q ↦ moved_on root x y a q.0 ∙ sym (moved_off root x y b (λ e. omega (arith, e, q.1, less)) ∙ q.1)
      | inr q ↦ moved_off root x y a (λ e. omega (arith, e, q.0, less)) ∙ q.0 ∙ sym (moved_on root x y b q.1)
    ];
    coarser = λ m n e. ap (λ (j : ℕ). cond (j == x) y j) e;
    fine = λ m n e. by_eq ((root m ≡ root n) ⊎ (((root m ≡ root a) × (root b ≡ root n)) ⊎ ((root m ≡ root b) × (root a ≡ root n)))) (root m) x
        (λ em. by_eq ((root m ≡ root n) ⊎ (((root m ≡ root a) × (root b ≡ root n)) ⊎ ((root m ≡ root b) × (root a ≡ root n)))) (root n) x
        (λ en. inl (em ∙ sym en))
        (λ nn. let at : root n ≡ y = sym (moved_off root x y n nn) ∙ sym e ∙ moved_on root x y m em in across m n em at))
        (λ nm. by_eq ((root m ≡ root n) ⊎ (((root m ≡ root a) × (root b ≡ root n)) ⊎ ((root m ≡ root b) × (root a ≡ root n)))) (root n) x
        (λ en. let at : root m ≡ y = sym (moved_off root x y m nm) ∙ e ∙ moved_on root x y n en in back m n at en)
        (λ nn. inl (sym (moved_off root x y m nm) ∙ e ∙ moved_off root x y n nn)));
  }
    where
      across : (m n : ℕ) → root m ≡ x → root n ≡ y → (root m ≡ root n) ⊎ (((root m ≡ root a) × (root b ≡ root n)) ⊎ ((root m ≡ root b) × (root a ≡ root n)))
      across m n em en = elim ends as (λ _. (root m ≡ root n) ⊎ (((root m ≡ root a) × (root b ≡ root n)) ⊎ ((root m ≡ root b) × (root a ≡ root n)))) [
        | inl q ↦ inr (inl (em ∙ sym q.0, q.1 ∙ sym en))
        | inr q ↦ inr (inr (em ∙ sym q.1, q.0 ∙ sym en))
      ]

      back : (m n : ℕ) → root m ≡ y → root n ≡ x → (root m ≡ root n) ⊎ (((root m ≡ root a) × (root b ≡ root n)) ⊎ ((root m ≡ root b) × (root a ≡ root n)))
      back m n em en = elim ends as (λ _. (root m ≡ root n) ⊎ (((root m ≡ root a) × (root b ≡ root n)) ⊎ ((root m ≡ root b) × (root a ≡ root n)))) [
        | inl q ↦ inr (inr (em ∙ sym q.1, q.0 ∙ sym en))
        | inr q ↦ inr (inl (em ∙ sym q.0, q.1 ∙ sym en))
      ]

-- the roots of the two were one already
pub same_merged : (xs : List ℕ) (root : ℕ → ℕ) (a b : ℕ) → IsForest xs root → root a ≡ root b → IsMerged xs root a b
same_merged xs root a b p e = record { after = root; forest = p; meets = e; coarser = λ m n k. k; fine = λ m n k. inl k }

pub keeps_none : (xs : List ℕ) → KeepsNodes xs xs
keeps_none xs = record { there = λ m l. l; back = λ m l. l }

pub keeps_both : (xs ys zs : List ℕ) → KeepsNodes xs ys → KeepsNodes ys zs → KeepsNodes xs zs
keeps_both xs ys zs p q = record { there = λ m l. q.there m (p.there m l); back = λ m l. p.back m (q.back m l) }

-- a new node points to itself, or to one that points
module _ (xs : List ℕ) (x v : ℕ) (root : ℕ → ℕ) (p : IsForest xs root) (x_in : x < length xs) (free : get_or xs x 0 ≡ 0) (some : 0 < v) where
  pointed : (m : ℕ) → 0 < get_or xs m 0 → get_or xs m 0 ≢ x
  pointed m l e = let u = p.up m l in omega (arith, u, free, ap (λ (k : ℕ). get_or xs k 0) e)

  pub begun_alone : v ≡ x → IsForest (set xs x v) (with_root root x x)
  begun_alone e =
      let at : with_root root x x x ≡ x = with_here root x x x refl in
      written xs x v x_in some root (with_root root x x) p (omega (arith, e)) (λ ne. absurd (ne e)) (ap (with_root root x x) e) (λ _. at) (omega (arith, at))
      (λ m ne k. with_else root x x (get_or xs m 0) (pointed m k) ∙ p.step m k ∙ sym (with_else root x x m ne))
      (λ m ne k same. with_else root x x m ne ∙ p.own m k same)
      (λ m ne k. let f = p.first m k in omega (arith, with_else root x x m ne, f))

  pub begun_under : (s : ℕ) → 0 < get_or xs s 0 → s < x → v ≡ get_or xs s 0 → IsForest (set xs x v) (with_root root x (root s))
  begun_under s l less e =
      let r = root s in
      let at : with_root root x r x ≡ r = with_here root x r x refl in
      let low = p.low s in
      let f = p.first s l in
      let up = p.up s l in
      let apart : v ≢ x = λ k. omega (arith, k, e, low, less) in
      written xs x v x_in some root (with_root root x r) p (omega (arith, e, low, less)) (λ _. omega (arith, up, ap (λ (k : ℕ). get_or xs k 0) e))
      (with_else root x r v apart ∙ ap root e ∙ p.step s l ∙ sym at) (λ k. absurd (apart k)) (omega (arith, at, f, less))
      (λ m ne k. with_else root x r (get_or xs m 0) (pointed m k) ∙ p.step m k ∙ sym (with_else root x r m ne))
      (λ m ne k same. with_else root x r m ne ∙ p.own m k same)
      (λ m ne k. let g = p.first m k in omega (arith, with_else root x r m ne, g))
