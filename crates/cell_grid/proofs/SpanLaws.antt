-- Cells that are alike, and entries that are written at once.
use Rattle.std.proofs.Common.{◌≡◌, ◌≢◌, ℕ, zero, suc, ◌+◌, ◌-◌, ◌<◌, ◌≤◌, ◌==◌, not, Bool, true, false, List, set, get_or, length, inl, inr, refl, sym, ap, subst, ◌∙◌, arith}
use Rattle.std.proofs.lemmas.Bool.{cases_eq, cases_lt}
use Rattle.std.proofs.lemmas.List.{length-set}
use mathlib.Core.Bool.{beq, ◌||◌}
use Rattle.std.specs.Int.{bit_at}
use Rattle.cell_grid.specs.PlaneBits.{bits_at}
use Rattle.cell_grid.specs.Spans.{set_span}
use Rattle.cell_grid.proofs.PlaneLaws.{changed, kept_so}

pub span_len : {A : Type 0} (xs : List A) (from n : ℕ) (v : A) → length (set_span xs from n v) ≡ length xs
span_len xs from zero v = refl
span_len xs from (suc n) v = simp length-set (span_len xs from n v)

pub record IsFilled (old new : List ℕ) (from at v : ℕ) : Type 0 where
  pub low : from ≤ at
  pub same : new ≡ set_span old from (at - from) v
  pub len : length new ≡ length old

nothing : (k : ℕ) → 0 ≡ k - k
nothing k = omega arith

there : (a b : ℕ) → a ≤ b → b ≡ a + (b - a)
there a b l = omega (arith, l)

more : (a b : ℕ) → a ≤ b → suc (b - a) ≡ b + 1 - a
more a b l = omega (arith, l)

-- one more place of a span is written
longer : {A : Type 0} (old new : List A) (from at : ℕ) (v : A) → from ≤ at → new ≡ set_span old from (at - from) v → set new at v ≡ set_span old from (at + 1 - from) v
longer old new from at v l e =
    ap (λ xs. set xs at v) e ∙ ap (λ (k : ℕ). set (set_span old from (at - from) v) k v) (there from at l) ∙ ap (λ (k : ℕ). set_span old from k v) (more from at l)

pub none_filled : (old : List ℕ) (from v : ℕ) → IsFilled old old from from v
none_filled old from v = record { low = omega arith; same = ap (λ (k : ℕ). set_span old from k v) (nothing from); len = refl }

pub one_filled : (old new : List ℕ) (from at v : ℕ) → IsFilled old new from at v → IsFilled old (set new at v) from (at + 1) v
one_filled old new from at v p =
    let l = p.low in
    record {
      low = omega (arith, l);
      same = longer old new from at v l p.same;
      len = simp length-set p.len;
    }

-- a bit was written in the bytes before `at`, and no other bit has changed
pub record IsBitFilled (k : ℕ) (old new : List ℕ) (from at : ℕ) (on : Bool) : Type 0 where
  pub low : from ≤ at
  pub same : bits_at k new ≡ set_span (bits_at k old) from (at - from) on
  pub others : (i : ℕ) → i < 8 → i ≢ k → bits_at i new ≡ bits_at i old
  pub len : length new ≡ length old

pub no_bit_filled : (k : ℕ) (old : List ℕ) (from : ℕ) (on : Bool) → IsBitFilled k old old from from on
no_bit_filled k old from on = record { low = omega arith; same = ap (λ (n : ℕ). set_span (bits_at k old) from n on) (nothing from); others = λ i l ne. refl; len = refl }

pub one_bit_filled : (k : ℕ) (old new : List ℕ) (from at v : ℕ) (on : Bool) → IsBitFilled k old new from at on → (bit_at v k == 1) ≡ on
    → ((i : ℕ) → i < 8 → i ≢ k → bit_at v i ≡ bit_at (get_or new at 0) i) → IsBitFilled k old (set new at v) from (at + 1) on
one_bit_filled k old new from at v on p e rest =
    let l = p.low in
    record {
      low = omega (arith, l);
      same = changed k new at v on e ∙ longer (bits_at k old) (bits_at k new) from at on l p.same;
      others = λ i h ne. kept_so i new at v (rest i h ne) ∙ p.others i h ne;
      len = simp length-set p.len;
    }

-- the places so far are unlike
pub record IsUnlike (flags : List ℕ) (k : ℕ) (on : Bool) (from at end : ℕ) : Type 0 where
  pub low : from ≤ at
  pub high : at ≤ end
  pub passed : (i : ℕ) → from ≤ i → i < at → (bit_at (get_or flags i 0) k == 1) ≡ not on

pub none_unlike : (flags : List ℕ) (k : ℕ) (on : Bool) (from end : ℕ) → from ≤ end → IsUnlike flags k on from from end
none_unlike flags k on from end l = record { low = omega arith; high = l; passed = λ i a b. absurd (omega (arith, a, b)) }

other_is : (a b : Bool) → (a ≡ b → ⊥) → a ≡ not b
other_is true true n = absurd (n refl)
other_is true false n = refl
other_is false true n = refl
other_is false false n = absurd (n refl)

pub one_unlike : (flags : List ℕ) (k : ℕ) (on : Bool) (from at end : ℕ) → IsUnlike flags k on from at end → at < end → ((bit_at (get_or flags at 0) k == 1) ≡ on → ⊥) → IsUnlike flags k on from (at + 1) end
one_unlike flags k on from at end p l n =
    let low = p.low in
    record {
      low = omega (arith, low);
      high = omega (arith, l);
      passed = λ i a b. elim (cases_eq i at) as (λ _. (bit_at (get_or flags i 0) k == 1) ≡ not on) [
        | inl e ↦ subst (λ (j : ℕ). (bit_at (get_or flags j 0) k == 1) ≡ not on) (sym e) (other_is (bit_at (get_or flags at 0) k == 1) on n)
        | inr ne ↦ p.passed i a (omega (arith, b, ne))
      ];
    }

-- eight more places are unlike
pub eight_unlike : (flags : List ℕ) (k : ℕ) (on : Bool) (from at end : ℕ) → IsUnlike flags k on from at end → 8 ≤ end - at
    → ((i : ℕ) → at ≤ i → i < at + 8 → (bit_at (get_or flags i 0) k == 1) ≡ not on) → IsUnlike flags k on from (at + 8) end
eight_unlike flags k on from at end p l n =
    let low = p.low in
    let high = p.high in
    record {
      low = omega (arith, low);
      high = omega (arith, l, high);
      passed = λ i a b. elim (cases_lt i at) as (λ _. (bit_at (get_or flags i 0) k == 1) ≡ not on) [
        | inl before ↦ p.passed i a before
        | inr after ↦ n i after b
      ];
    }

neither : (a b : Bool) → (a || b) ≡ false → (a ≡ false) × (b ≡ false)
neither true true e = (e, e)
neither true false e = (e, refl)
neither false true e = (refl, e)
neither false false e = (refl, refl)

unlike : (a on : Bool) → beq a on ≡ false → a ≡ not on
unlike true true e = e
unlike true false e = refl
unlike false true e = refl
unlike false false e = sym e

-- none of eight is as `on`: each is unlike
pub none_of_eight : (on a b c d e f g h : Bool) → (beq a on || beq b on || beq c on || beq d on || beq e on || beq f on || beq g on || beq h on) ≡ false
    → (a ≡ not on) × ((b ≡ not on) × ((c ≡ not on) × ((d ≡ not on) × ((e ≡ not on) × ((f ≡ not on) × ((g ≡ not on) × (h ≡ not on)))))))
none_of_eight on a b c d e f g h none =
    let p = neither _ _ none in
    let q = neither _ _ p.0 in
    let r = neither _ _ q.0 in
    let s = neither _ _ r.0 in
    let t = neither _ _ s.0 in
    let u = neither _ _ t.0 in
    let v = neither _ _ u.0 in
    (unlike a on v.0, (unlike b on v.1, (unlike c on u.1, (unlike d on t.1, (unlike e on s.1, (unlike f on r.1, (unlike g on q.1, unlike h on p.1)))))))

-- what holds at each of eight places in a row
pub each_of_eight : (P : ℕ → Type 0) (at : ℕ) → P at → P (at + 1) → P (at + 2) → P (at + 3) → P (at + 4) → P (at + 5) → P (at + 6) → P (at + 7)
    → (i : ℕ) → at ≤ i → i < at + 8 → P i
each_of_eight P at a b c d e f g h i low high = subst P (sym (there at i low)) (by (i - at) (omega (arith, low, high)))
  where
    none : (k : ℕ) → k ≡ k + 0
    none k = omega arith

    by : (n : ℕ) → n < 8 → P (at + n)
    by zero l = subst P (none at) a
    by (suc zero) l = b
    by (suc (suc zero)) l = c
    by (suc (suc (suc zero))) l = d
    by (suc (suc (suc (suc zero)))) l = e
    by (suc (suc (suc (suc (suc zero))))) l = f
    by (suc (suc (suc (suc (suc (suc zero)))))) l = g
    by (suc (suc (suc (suc (suc (suc (suc zero))))))) l = h
    by (suc (suc (suc (suc (suc (suc (suc (suc n)))))))) l = absurd (omega (arith, l))
