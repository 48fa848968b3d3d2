-- The answers of probes are kept in parameters of their own.
use Rattle.std.proofs.Common.{◌≡◌, ◌⊎◌, inl, inr, refl, ℕ, zero, suc, ◌+◌, ◌*◌, ◌<◌, ◌≤◌, ◌≢◌, ℤ, ◌*ℤ◌, List, [], ◌∷◌, Bool, true, false, cond, ap, subst, ◌∙◌, arith, ◌==◌}
use Rattle.std.specs.List.{range_with_len}
use Rattle.rs274_sim.specs.Cutter.{nanometre}
use Rattle.rs274_sim.specs.Evaluation.{Parameters}
use Rattle.rs274_sim.specs.Machine.{set_parameter, all_set, contact_settings}
use Rattle.mill_program.specs.declared.probes.ProbeGrid.{ProbeGrid}
use Rattle.mill_program.specs.Probes.{probe_place, answer_of}
use Rattle.mill_program.specs.Heights.{answer_parameter, HasAnswers}
use Rattle.grid_runs.specs.Moves.{above, probes_in}

-- ---- one parameter

equal : (n : ℕ) → (n == n) ≡ true
equal n = by_test (n == n) refl
  where
    by_test : (b : Bool) → (n == n) ≡ b → b ≡ true
    by_test true e = refl
    by_test false e = let other : n ≢ n = grind (arith, e) in absurd (other refl)

unequal : (k n : ℕ) → k ≢ n → (k == n) ≡ false
unequal k n h = by_test (k == n) refl
  where
    by_test : (b : Bool) → (k == n) ≡ b → b ≡ false
    by_test true e = let same : k ≡ n = grind (arith, e) in absurd (h same)
    by_test false e = refl

set_here : (ps : Parameters) (n : ℕ) (v : ℤ) → set_parameter ps n v n ≡ v
set_here ps n v = ap (λ b. cond b v (ps n)) (equal n)

set_beside : (ps : Parameters) (n k : ℕ) (v : ℤ) → k ≢ n → set_parameter ps n v k ≡ ps k
set_beside ps n k v h = ap (λ b. cond b v (ps k)) (unequal k n h)

-- ---- probes

-- the parameters once a probe has stopped
abbrev pub met : ProbeGrid → List ℤ → Parameters → ℕ → Parameters
met g answers ps k = all_set (contact_settings (above (answer_of answers k) (probe_place g k))) ps

-- the parameters behind a probe
abbrev pub probed : ProbeGrid → List ℤ → Parameters → ℕ → Parameters
probed g answers ps k = set_parameter (met g answers ps k) (answer_parameter k) (met g answers ps k 5063)

-- the parameters behind some probes
abbrev pub all_probed : ProbeGrid → List ℤ → Parameters → List ℕ → Parameters
all_probed g answers ps [] = ps
all_probed g answers ps (k ∷ ks) = all_probed g answers (probed g answers ps k) ks

-- a parameter has the answer of a probe
abbrev Keeps : List ℤ → Parameters → ℕ → Type 0
Keeps answers ps j = ps (answer_parameter j) ≡ answer_of answers j *ℤ nanometre

kept_here : (g : ProbeGrid) (answers : List ℤ) (ps : Parameters) (k : ℕ) → Keeps answers (probed g answers ps k) k
kept_here g answers ps k = set_here (met g answers ps k) (answer_parameter k) (met g answers ps k 5063)

kept_beside : (g : ProbeGrid) (answers : List ℤ) (ps : Parameters) (j k : ℕ) → j < k → k < 900 → Keeps answers ps j → Keeps answers (probed g answers ps k) j
kept_beside g answers ps j k before few kept =
    let at = above (answer_of answers k) (probe_place g k) in
    let one = set_parameter ps 5061 at.x in
    let two = set_parameter one 5062 at.y in
    set_beside (met g answers ps k) (answer_parameter k) (answer_parameter j) (met g answers ps k 5063) (omega arith)
    ∙ set_beside two 5063 (answer_parameter j) at.z (omega arith)
    ∙ set_beside one 5062 (answer_parameter j) at.y (omega arith)
    ∙ set_beside ps 5061 (answer_parameter j) at.x (omega arith)
    ∙ kept

kept_more : (g : ProbeGrid) (answers : List ℤ) (ps : Parameters) (k : ℕ) → k < 900 → ((j : ℕ) → j < k → Keeps answers ps j) → (j : ℕ) → j < k + 1 → Keeps answers (probed g answers ps k) j
kept_more g answers ps k few kept j h = by_place (last_or_before j k h)
  where
    last_or_before : (j k : ℕ) → j < k + 1 → (j < k) ⊎ (k ≡ j)
    last_or_before j k h = grind arith

    by_place : (j < k) ⊎ (k ≡ j) → Keeps answers (probed g answers ps k) j
    by_place (inl before) = kept_beside g answers ps j k before few (kept j before)
    by_place (inr same) = subst (λ i. Keeps answers (probed g answers ps k) i) same (kept_here g answers ps k)

-- one probe behind another, from this one on
kept_from : (g : ProbeGrid) (answers : List ℤ) (n a : ℕ) (ps : Parameters) → a + n ≤ 900 → ((j : ℕ) → j < a → Keeps answers ps j) → (j : ℕ) → j < a + n → Keeps answers (all_probed g answers ps (range_with_len a n)) j
kept_from g answers zero a ps few kept j h = kept j (omega arith)
kept_from g answers (suc n) a ps few kept j h = kept_from g answers n (a + 1) (probed g answers ps a) (omega arith) (kept_more g answers ps a (omega arith) kept) j (omega arith)

-- behind all probes of a grid the parameters have its answers
pub all_kept : (g : ProbeGrid) (answers : List ℤ) (ps : Parameters) → g.nx * g.ny ≤ 900 → HasAnswers g answers (all_probed g answers ps (probes_in g))
all_kept g answers ps few k h = kept_from g answers (g.nx * g.ny) 0 ps (omega arith) (λ j below. absurd (omega arith)) k (omega arith)
