-- Tables of parameters that are set.
use Rattle.std.proofs.Common.{◌≡◌, refl, ℕ, zero, suc, ◌<◌, ◌≤◌, ◌≢◌, ℤ, pos, List, [], ◌∷◌, Bool, true, false, cond, length, drop, get_or, slice_set, replicate, ap, sym, ◌∙◌, arith, ◌==◌}
use Rattle.std.proofs.Math.Path.{fun_ext}
use Rattle.std.proofs.lemmas.List.{get_or-set_same, get_or-set_other}
use Rattle.rs274_sim.specs.declared.line.Value.{Value}
use Rattle.rs274_sim.specs.Evaluation.{Parameters}
use Rattle.rs274_sim.specs.Machine.{set_parameter, all_set}
use Rattle.rs274_sim.specs.Shown.{unset}
use Rattle.rs274_sim.specs.Table.{table, paired}

zero_at : (n k : ℕ) → get_or (replicate n (pos 0)) k (pos 0) ≡ pos 0
zero_at zero k = refl
zero_at (suc n) zero = refl
zero_at (suc n) (suc k) = zero_at n k

-- a table of zeros has nothing set
pub zero_table : (n : ℕ) → table (replicate n (pos 0)) ≡ unset
zero_table n = fun_ext (λ k. zero_at n k)

set_at : (items : List ℤ) (n k : ℕ) (v : ℤ) → n < length items → get_or (slice_set items n v) k (pos 0) ≡ cond (k == n) v (get_or items k (pos 0))
set_at items n k v h = by_test (k == n) refl
  where
    by_test : (p : Bool) → (k == n) ≡ p → get_or (slice_set items n v) k (pos 0) ≡ cond p v (get_or items k (pos 0))
    by_test true e = let same : k ≡ n = grind (arith, e) in rw same (get_or-set_same items n v (pos 0) h)
    by_test false e = let other : k ≢ n = grind (arith, e) in get_or-set_other items n k v (pos 0) other

-- a table with one number set
pub table_set : (items : List ℤ) (n : ℕ) (v : ℤ) → n < length items → table (slice_set items n v) ≡ set_parameter (table items) n v
table_set items n v h = fun_ext (λ k. set_at items n k v h)

-- the settings from one on
pub next_set : (settings : List (ℕ × Value)) (numbers : List ℤ) (k : ℕ) (s : ℕ × Value) (z : ℤ) (ps : Parameters) → k < length settings → length settings ≤ length numbers → s ≡ get_or settings k s → z ≡ get_or numbers k (pos 0)
    → all_set (paired (drop k settings) (drop k numbers)) ps ≡ all_set (paired (drop (suc k) settings) (drop (suc k) numbers)) (set_parameter ps s.0 z)
next_set [] numbers k s z ps h long here there = absurd (omega (arith, h))
next_set (t ∷ settings) [] k s z ps h long here there = absurd (omega (arith, long))
next_set (t ∷ settings) (n ∷ numbers) zero s z ps h long here there =
    ap (λ (x : ℕ × Value). all_set (paired settings numbers) (set_parameter ps x.0 n)) (sym here) ∙ ap (λ x. all_set (paired settings numbers) (set_parameter ps s.0 x)) (sym there)
next_set (t ∷ settings) (n ∷ numbers) (suc k) s z ps h long here there = next_set settings numbers k s z ps (omega (arith, h)) (omega (arith, long)) here there
