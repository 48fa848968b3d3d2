-- A table that is written over by another, number by number.
use Rattle.std.proofs.Common.{◌≡◌, ℕ, ◌+◌, ◌<◌, ◌≤◌, List, length, get_or, set, get_or-set_same, get_or-set_other, inl, inr, sym, ap, ◌∙◌, arith}
use Rattle.std.proofs.lemmas.List.{length-set, ext_get_or}
use Rattle.std.proofs.lemmas.Bool.{cases_eq}

-- the first n numbers are those of the other table
pub record IsCopied (from new : List ℕ) (n : ℕ) : Type 0 where
  pub len : length from ≡ length new
  pub same : (k : ℕ) → k < n → get_or new k 0 ≡ get_or from k 0

pub none_copied : (from new : List ℕ) (n : ℕ) → length from ≡ length new → n ≡ 0 → IsCopied from new n
none_copied from new n len e = record { len = len; same = λ k l. absurd (omega (arith, l, e)) }

pub one_copied : (from new : List ℕ) (n v : ℕ) → IsCopied from new n → n < length new → v ≡ get_or from n 0 → IsCopied from (set new n v) (n + 1)
one_copied from new n v p inside e = record {
  len = p.len ∙ sym (length-set new n v);
  same = λ k l. elim (cases_eq k n) as (λ _. get_or (set new n v) k 0 ≡ get_or from k 0) [
    | inl here ↦ ap (λ (x : ℕ). get_or (set new n v) x 0) here ∙ get_or-set_same new n v 0 inside ∙ e ∙ ap (λ (x : ℕ). get_or from x 0) (sym here)
    | inr other ↦ get_or-set_other new n k v 0 other ∙ p.same k (omega (arith, l, other))
  ];
}

pub all_copied : (from new : List ℕ) (n : ℕ) → IsCopied from new n → length new ≤ n → new ≡ from
all_copied from new n p all = ext_get_or 0 new from (sym p.len) (λ k l. p.same k (omega (arith, l, all)))
