-- Numbers of words and settings, one after another.
use Rattle.std.proofs.Common.{◌≡◌, refl, ℕ, zero, suc, ◌+◌, ◌<◌, ◌≤◌, ℤ, List, [], ◌∷◌, Bool, true, false, cond, Option, Some, None, Result, Ok, Err, length, take, get_or, slice_set, ap, sym, ◌∙◌, subst, arith, add-one, ◌==◌}
use Rattle.std.specs.Prelude.{IsOk, is_some, is_none, not, ◌||◌}
use Rattle.std.specs.List.{find, list_any}
use Rattle.std.specs.Option.{option_map}
use Rattle.board_base.specs.Binds.{◌>>=◌}
use Rattle.rs274_sim.specs.declared.fault.SimFault.{SimFault}
use Rattle.rs274_sim.specs.declared.line.Word.{Word}
use Rattle.rs274_sim.specs.declared.line.Value.{Value, Num, Expr as bracketed}
use Rattle.rs274_sim.specs.declared.line.Expr.{Expr}
use Rattle.rs274_sim.specs.Evaluation.{Parameters, value_of, expression_value, valued, set_values}
use Rattle.rs274_sim.specs.Machine.{is_letter, given, number}
use Rattle.rs274_sim.specs.Table.{paired, number_found, number_in}
use Rattle.rs274_sim.proofs.FoundLaws.{same_ok, bind_ok}

-- the value of brackets is that of what they hold
pub brackets_value : (ps : Parameters) (e : Expr) → value_of ps (bracketed e) ≡ expression_value ps e
unfolding Rattle.rs274_sim.specs.declared.line.Expr.TheBlock.hidden-the_row-Expr-0 denote.Hole.Carrier.hidden
brackets_value ps e = refl

ok_inner : {A B : Type 0} (r : Result A SimFault) (f : A → Result B SimFault) → IsOk (r >>= f) → IsOk r
ok_inner (Ok x) f h = refl
ok_inner (Err e) f h = h

-- what a word's number leads to, before those of the words behind it
abbrev next_words : Word → Parameters → List Word → ℤ → Result (List Word) SimFault
next_words v ps words n = valued ps words >>= (λ ns. Ok (record { letter = v.letter; value = Num n } ∷ ns))

-- the first fault
pub fault_at : (ps : Parameters) (words : List Word) (k : ℕ) (w : Word) (fault : SimFault) → k < length words → w ≡ get_or words k w → IsOk (valued ps (take k words)) → value_of ps w.value ≡ Err fault → valued ps words ≡ Err fault
fault_at ps [] k w fault h here before e = absurd (omega (arith, h))
fault_at ps (v ∷ words) zero w fault h here before e = ap (λ r. r >>= next_words v ps words) (ap (λ (x : Word). value_of ps x.value) (sym here) ∙ e)
fault_at ps (v ∷ words) (suc k) w fault h here before e = by_first (value_of ps v.value) refl before (λ ok. fault_at ps words k w fault (omega (arith, h)) here ok e)
  where
    by_first : (r : Result ℤ SimFault) → value_of ps v.value ≡ r → IsOk (r >>= next_words v ps (take k words)) → (IsOk (valued ps (take k words)) → valued ps words ≡ Err fault) → valued ps (v ∷ words) ≡ Err fault
    by_first (Ok n) is ok later =
        ap (λ r. r >>= next_words v ps words) is
        ∙ ap (λ (r : Result (List Word) SimFault). r >>= (λ ns. Ok (record { letter = v.letter; value = Num n } ∷ ns))) (later (ok_inner (valued ps (take k words)) (λ ns. Ok (record { letter = v.letter; value = Num n } ∷ ns)) ok))
    by_first (Err f) is ok later = absurd (grind (arith, ok))

ok_outer : (v : Word) (n : ℤ) (r : Result (List Word) SimFault) → IsOk r → IsOk (r >>= (λ ns. Ok (record { letter = v.letter; value = Num n } ∷ ns)))
ok_outer v n (Ok ns) h = refl
ok_outer v n (Err f) h = h

-- one more word without a fault
pub more_words : (ps : Parameters) (words : List Word) (k : ℕ) (w : Word) (z : ℤ) → k < length words → w ≡ get_or words k w → IsOk (valued ps (take k words)) → value_of ps w.value ≡ Ok z → IsOk (valued ps (take (k + 1) words))
more_words ps words k w z h here before e = rw add-one (by_place words k h here before)
  where
    at_zero : (v : Word) (words : List Word) → w ≡ v → IsOk (valued ps (take 1 (v ∷ words)))
    at_zero v words here = subst (λ r. IsOk (r >>= next_words v ps [])) (sym (ap (λ (x : Word). value_of ps x.value) (sym here) ∙ e)) refl

    by_first : (v : Word) (words : List Word) (k : ℕ) (r : Result ℤ SimFault) → IsOk (r >>= next_words v ps (take k words)) → (IsOk (valued ps (take k words)) → IsOk (valued ps (take (suc k) words)))
        → IsOk (r >>= next_words v ps (take (suc k) words))
    by_first v words k (Ok n) ok later = ok_outer v n (valued ps (take (suc k) words)) (later (ok_inner (valued ps (take k words)) (λ ns. Ok (record { letter = v.letter; value = Num n } ∷ ns)) ok))
    by_first v words k (Err f) ok later = absurd (grind (arith, ok))

    by_place : (words : List Word) (k : ℕ) → k < length words → w ≡ get_or words k w → IsOk (valued ps (take k words)) → IsOk (valued ps (take (suc k) words))
    by_place [] k h here before = absurd (omega (arith, h))
    by_place (v ∷ words) zero h here before = at_zero v words here
    by_place (v ∷ words) (suc k) h here before = by_first v words k (value_of ps v.value) before (λ ok. by_place words k (omega (arith, h)) here ok)

-- numbers by their letters
pub numbers_given : (ps : Parameters) (letter : ℕ) (words numbers : List Word) → valued ps words ≡ Ok numbers → number_in ps letter words ≡ given letter numbers
numbers_given ps letter [] numbers e = ap (given letter) (same_ok [] numbers e)
numbers_given ps letter (w ∷ words) numbers e =
    let first = bind_ok (value_of ps w.value) (λ v. valued ps words >>= (λ vs. Ok (record { letter = w.letter; value = Num v } ∷ vs))) numbers e in
    let more = bind_ok (valued ps words) (λ vs. Ok (record { letter = w.letter; value = Num first.0 } ∷ vs)) numbers first.2 in
    by_letter (w.letter == letter) first.0 first.1 more.0 (numbers_given ps letter words more.0 more.1)
    ∙ ap (given letter) (same_ok (record { letter = w.letter; value = Num first.0 } ∷ more.0) numbers more.2)
  where
    by_letter : (p : Bool) (v : ℤ) → value_of ps w.value ≡ Ok v → (vs : List Word) → number_in ps letter words ≡ given letter vs
        → cond p (number_found (value_of ps w.value)) (number_in ps letter words) ≡ option_map (λ x. number x.value) (cond p (Some (record { letter = w.letter; value = Num v })) (find (is_letter letter) vs))
    by_letter true v is vs later = ap number_found is
    by_letter false v is vs later = later

-- ---- settings

-- one more setting's number
pub next_setting : (ps : Parameters) (settings : List (ℕ × Value)) (numbers : List ℤ) (k : ℕ) (s : ℕ × Value) (z : ℤ) → k < length settings → length settings ≤ length numbers → s ≡ get_or settings k s → value_of ps s.1 ≡ Ok z
    → set_values ps (take k settings) ≡ Ok (paired (take k settings) numbers) → set_values ps (take (suc k) settings) ≡ Ok (paired (take (suc k) settings) (slice_set numbers k z))
next_setting ps [] numbers k s z h long here e before = absurd (omega (arith, h))
next_setting ps (t ∷ settings) [] k s z h long here e before = absurd (omega (arith, long))
next_setting ps (t ∷ settings) (n ∷ numbers) zero s z h long here e before =
    ap (λ r. r >>= (λ v. Ok [] >>= (λ vs. Ok ((t.0, v) ∷ vs)))) (ap (λ (x : ℕ × Value). value_of ps x.1) (sym here) ∙ e)
next_setting ps (t ∷ settings) (n ∷ numbers) (suc k) s z h long here e before =
    let first = bind_ok (value_of ps t.1) (λ v. set_values ps (take k settings) >>= (λ vs. Ok ((t.0, v) ∷ vs))) ((t.0, n) ∷ paired (take k settings) numbers) before in
    let more = bind_ok (set_values ps (take k settings)) (λ vs. Ok ((t.0, first.0) ∷ vs)) ((t.0, n) ∷ paired (take k settings) numbers) first.2 in
    let same : (t.0, first.0) ∷ more.0 ≡ (t.0, n) ∷ paired (take k settings) numbers = same_ok ((t.0, first.0) ∷ more.0) ((t.0, n) ∷ paired (take k settings) numbers) more.2 in
    let head : ◌≡◌ {A = ℕ × ℤ} (t.0, first.0) (t.0, n) = cc in
    let tail : more.0 ≡ paired (take k settings) numbers = cc in
    let later = next_setting ps settings numbers k s z (omega (arith, h)) (omega (arith, long)) here e (more.1 ∙ ap Ok tail) in
    ap (λ r. r >>= (λ v. set_values ps (take (suc k) settings) >>= (λ vs. Ok ((t.0, v) ∷ vs)))) (first.1 ∙ ap (λ (p : ℕ × ℤ). Ok p.1) head)
    ∙ ap (λ r. r >>= (λ vs. Ok ((t.0, n) ∷ vs))) later

pub more_settings : (ps : Parameters) (settings : List (ℕ × Value)) (numbers : List ℤ) (k : ℕ) (s : ℕ × Value) (z : ℤ) → k < length settings → length settings ≤ length numbers → s ≡ get_or settings k s → value_of ps s.1 ≡ Ok z
    → set_values ps (take k settings) ≡ Ok (paired (take k settings) numbers) → set_values ps (take (k + 1) settings) ≡ Ok (paired (take (k + 1) settings) (slice_set numbers k z))
more_settings ps settings numbers k s z h long here e before = rw add-one (next_setting ps settings numbers k s z h long here e before)

-- the first fault of settings
pub setting_fault : (ps : Parameters) (settings : List (ℕ × Value)) (found : List (ℕ × ℤ)) (k : ℕ) (s : ℕ × Value) (fault : SimFault) → k < length settings → s ≡ get_or settings k s → set_values ps (take k settings) ≡ Ok found
    → value_of ps s.1 ≡ Err fault → set_values ps settings ≡ Err fault
setting_fault ps [] found k s fault h here before e = absurd (omega (arith, h))
setting_fault ps (t ∷ settings) found zero s fault h here before e =
    ap (λ r. r >>= (λ v. set_values ps settings >>= (λ vs. Ok ((t.0, v) ∷ vs)))) (ap (λ (x : ℕ × Value). value_of ps x.1) (sym here) ∙ e)
setting_fault ps (t ∷ settings) found (suc k) s fault h here before e =
    let first = bind_ok (value_of ps t.1) (λ v. set_values ps (take k settings) >>= (λ vs. Ok ((t.0, v) ∷ vs))) found before in
    let more = bind_ok (set_values ps (take k settings)) (λ vs. Ok ((t.0, first.0) ∷ vs)) found first.2 in
    ap (λ r. r >>= (λ v. set_values ps settings >>= (λ vs. Ok ((t.0, v) ∷ vs)))) first.1
    ∙ ap (λ r. r >>= (λ vs. Ok ((t.0, first.0) ∷ vs))) (setting_fault ps settings more.0 k s fault (omega (arith, h)) here more.1 e)

-- ---- letters

-- a number is given where a word has its letter
pub any_given : (letter : ℕ) (words : List Word) → list_any (is_letter letter) words ≡ is_some (given letter words)
any_given letter [] = refl
any_given letter (w ∷ words) = by_test (w.letter == letter) (any_given letter words)
  where
    by_test : (p : Bool) → list_any (is_letter letter) words ≡ is_some (given letter words)
        → (p || list_any (is_letter letter) words) ≡ is_some (option_map (λ x. number x.value) (cond p (Some w) (find (is_letter letter) words)))
    by_test true later = refl
    by_test false later = later

pub none_given : (letter : ℕ) (words : List Word) → not (list_any (is_letter letter) words) ≡ is_none (given letter words)
none_given letter words = ap not (any_given letter words) ∙ by_option (given letter words)
  where
    by_option : (o : Option ℤ) → not (is_some o) ≡ is_none o
    by_option None = refl
    by_option (Some z) = refl
