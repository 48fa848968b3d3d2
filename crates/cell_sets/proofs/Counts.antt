-- Why all numberings of the islands have one count.
use Rattle.std.proofs.Common.{◌≡◌, ◌≢◌, ℕ, zero, suc, ◌-◌, ◌<◌, ◌≤◌, Bool, true, cond, eqb, sym, ap, ◌∙◌, arith}
use Rattle.std.proofs.lemmas.Bool.{eqb-true, eq-eqb, false≢true}
use Rattle.number_laws.proofs.Tests.{by_bool}
use Rattle.board_base.specs.declared.places.Cell.{Cell}
use Rattle.cell_sets.specs.Chains.{IsLinked}
use Rattle.cell_sets.specs.Islands.{AreIslands}
use Rattle.cell_sets.specs.Islands.{OneCount}

-- ---- one to one

-- y, or x where y is n
abbrev moved : ℕ → ℕ → ℕ → ℕ
moved x n y = cond (eqb y n) x y

-- the two ways in which that comes about
moved_by : {P : Type 0} (x n y : ℕ) → (y ≡ n → moved x n y ≡ x → P) → (y ≢ n → moved x n y ≡ y → P) → P
moved_by x n y f g =
    by_bool (eqb y n)
    (λ e. f (eqb-true y n e) (ap (λ b. cond b x y) e))
    (λ e. g (λ same. false≢true (sym e ∙ eq-eqb y n same)) (ap (λ b. cond b x y) e))

-- where each of m numbers has one of n, and no two have the same, m is at most n
pub crowded : (m n : ℕ) (f : (i : ℕ) → i < m → ℕ) → ((i : ℕ) (p : i < m) → f i p < n) → ((i k : ℕ) (p : i < m) (q : k < m) → f i p ≡ f k q → i ≡ k) → m ≤ n
crowded zero n f inside one = omega arith
crowded (suc m) zero f inside one = absurd (none (f m (last m)) (inside m (last m)))
  where
    last : (m : ℕ) → m < suc m
    last m = omega arith

    none : (x : ℕ) → x < 0 → ⊥
    none x h = omega arith
crowded (suc m) (suc n) f inside one = more m n (crowded m n (λ i p. moved x n (f i (past i m p))) below apart)
  where
    more : (m n : ℕ) → m ≤ n → suc m ≤ suc n
    more m n h = omega arith

    past : (i m : ℕ) → i < m → i < suc m
    past i m h = omega arith

    differ : (i m : ℕ) → i < m → m ≡ i → ⊥
    differ i m h e = omega arith

    less : (x n : ℕ) → x < suc n → x ≢ n → x < n
    less x n h d = omega arith

    last : (m : ℕ) → m < suc m
    last m = omega arith

    -- the last number's
    x : ℕ
    x = f m (last m)

    below : (i : ℕ) (p : i < m) → moved x n (f i (past i m p)) < n
    below i p =
        moved_by x n (f i (past i m p))
        (λ same is. rw is (less x n (inside m (last m)) (λ e. differ i m p (one m i (last m) (past i m p) (e ∙ sym same)))))
        (λ other is. rw is (less (f i (past i m p)) n (inside i (past i m p)) other))

    apart : (i k : ℕ) (p : i < m) (q : k < m) → moved x n (f i (past i m p)) ≡ moved x n (f k (past k m q)) → i ≡ k
    apart i k p q e =
        moved_by x n (f i (past i m p))
        (λ i_same i_is. moved_by x n (f k (past k m q))
        (λ k_same k_is. one i k (past i m p) (past k m q) (i_same ∙ sym k_same))
        (λ k_other k_is. absurd (differ k m q (one m k (last m) (past k m q) (sym i_is ∙ e ∙ k_is)))))
        (λ i_other i_is. moved_by x n (f k (past k m q))
        (λ k_same k_is. absurd (differ i m p (one m i (last m) (past i m p) (sym k_is ∙ sym e ∙ i_is))))
        (λ k_other k_is. one i k (past i m p) (past k m q) (sym i_is ∙ e ∙ k_is)))

-- ---- one count

-- a numbered cell is kept
pub numbered_kept : (kept : Cell → Bool) (number : Cell → ℕ) (count : ℕ) → AreIslands kept number count → (c : Cell) → 0 < number c → kept c ≡ true
numbered_kept kept number count islands c c_in = by_bool (kept c) (λ e. e) (λ e. absurd (none (number c) c_in (islands.clear c e)))
  where
    none : (n : ℕ) → 0 < n → n ≡ 0 → ⊥
    none n h e = omega arith

-- two numberings of the islands
module _ (kept : Cell → Bool) (number number' : Cell → ℕ) (count count' : ℕ) (a : AreIslands kept number count) (b : AreIslands kept number' count') where
  -- some cell with the number i + 1
  cell_with : (i : ℕ) → i < count → (c : Cell) × (number c ≡ suc i)
  cell_with i p = a.present (suc i) (some i) (next i count p)
    where
      some : (i : ℕ) → 0 < suc i
      some i = omega arith

      next : (i n : ℕ) → i < n → suc i ≤ n
      next i n h = omega arith

  -- has a number by the other numbering
  other_in : (i : ℕ) (p : i < count) → 0 < number' (cell_with i p).0
  other_in i p = b.some (cell_with i p).0 (numbered_kept kept number count a (cell_with i p).0 (some (number (cell_with i p).0) i (cell_with i p).1))
    where
      some : (n i : ℕ) → n ≡ suc i → 0 < n
      some n i e = omega arith

  -- and cells with one number there have one number here
  same_number : (i k : ℕ) (p : i < count) (q : k < count) → number' (cell_with i p).0 ≡ number' (cell_with k q).0 → i ≡ k
  same_number i k p q e =
      let linked : IsLinked kept (cell_with i p).0 (cell_with k q).0 = b.same (cell_with i p).0 (cell_with k q).0 (other_in i p) e in
      less i k (sym (cell_with i p).1 ∙ a.whole (cell_with i p).0 (cell_with k q).0 linked ∙ (cell_with k q).1)
    where
      less : (i k : ℕ) → suc i ≡ suc k → i ≡ k
      less i k e = omega arith

  not_more : count ≤ count'
  not_more =
      crowded count count' (λ i p. number' (cell_with i p).0 - 1)
      (λ i p. below (number' (cell_with i p).0) count' (other_in i p) (b.few (cell_with i p).0))
      (λ i k p q e. same_number i k p q (equal (number' (cell_with i p).0) (number' (cell_with k q).0) (other_in i p) (other_in k q) e))
    where
      below : (x n : ℕ) → 0 < x → x ≤ n → x - 1 < n
      below x n h k = omega arith

      equal : (x y : ℕ) → 0 < x → 0 < y → x - 1 ≡ y - 1 → x ≡ y
      equal x y h k e = omega arith

pub one_count : OneCount
one_count kept number number' count count' a b = same count count' (not_more kept number number' count count' a b) (not_more kept number' number count' count b a)
  where
    same : (m n : ℕ) → m ≤ n → n ≤ m → m ≡ n
    same m n h k = omega arith
