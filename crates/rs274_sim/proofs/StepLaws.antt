-- The parts of a step.
use Rattle.std.proofs.Common.{◌≡◌, refl, ℕ, ℤ, List, [], ◌∷◌, Bool, true, false, Option, Some, None, Result, Ok, Err, length, ap, sym, ◌∙◌, arith, ◌&&◌}
use Rattle.std.specs.Prelude.{IsOk, is_none, not, int_le, unwrap_or, pos}
use Rattle.board_base.specs.Binds.{◌>>=◌}
use Rattle.rs274_sim.specs.declared.fault.SimFault.{SimFault}
use Rattle.rs274_sim.specs.declared.fault.SimFault.TheVariants.{NoMotion, NoFeed, SpindleRange, FinePosition, OutOfRange, ProbeMissed, NoProbeAnswer}
use Rattle.rs274_sim.specs.declared.line.Line.{Line}
use Rattle.rs274_sim.specs.declared.line.Word.{Word}
use Rattle.rs274_sim.specs.declared.said.Said.{Said}
use Rattle.rs274_sim.specs.Evaluation.{Parameters, valued, set_values}
use Rattle.rs274_sim.specs.Machine.{Machine, F, P, S, T, X, Y, Z, unless, form_fault, said_of, carried_out, step, fault_of, after, move_of, is_missed, next_answer, first_fault, is_coarse, in_range, passes, is_count, names_axis, kind_of, is_feed, feed_after, target}
use Rattle.rs274_sim.specs.Shown.{begun}
use Rattle.rs274_sim.specs.Table.{said_in}
use Rattle.rs274_sim.proofs.TableLaws.{numbers_given}

-- a step is what is found first, and then what is carried out
pub step_begun : (answers : List ℤ) (n : ℕ) (line : Line) (m : Machine) → step answers n line m ≡ (begun m.params line >>= (λ b. carried_out answers n m b.0 b.1))
step_begun answers n line m = by_parts (form_fault line.words) (valued m.params line.words) (set_values m.params line.settings)
  where
    by_parts : (o : Option SimFault) (r : Result (List Word) SimFault) (s : Result (List (ℕ × ℤ)) SimFault)
        → unless o (r >>= (λ numbers. s >>= (λ settings. carried_out answers n m (said_of line.words numbers) settings)))
        ≡ (unless o (r >>= (λ numbers. s >>= (λ settings. Ok (said_of line.words numbers, settings)))) >>= (λ (b : Said × List (ℕ × ℤ)). carried_out answers n m b.0 b.1))
    by_parts (Some fault) r s = refl
    by_parts None (Err e) s = refl
    by_parts None (Ok numbers) (Err e) = refl
    by_parts None (Ok numbers) (Ok settings) = refl

-- the faults, one after another
pub begun_form : (ps : Parameters) (line : Line) (fault : SimFault) → form_fault line.words ≡ Some fault → begun ps line ≡ Err fault
begun_form ps line fault e =
    ap (λ o. unless o (valued ps line.words >>= (λ numbers. set_values ps line.settings >>= (λ settings. Ok (said_of line.words numbers, settings))))) e

no_form : (ps : Parameters) (line : Line) → form_fault line.words ≡ None → begun ps line ≡ (valued ps line.words >>= (λ numbers. set_values ps line.settings >>= (λ settings. Ok (said_of line.words numbers, settings))))
no_form ps line e =
    ap (λ o. unless o (valued ps line.words >>= (λ numbers. set_values ps line.settings >>= (λ settings. Ok (said_of line.words numbers, settings))))) e

pub begun_value : (ps : Parameters) (line : Line) (fault : SimFault) → form_fault line.words ≡ None → valued ps line.words ≡ Err fault → begun ps line ≡ Err fault
begun_value ps line fault form e =
    no_form ps line form ∙ ap (λ (r : Result (List Word) SimFault). r >>= (λ numbers. set_values ps line.settings >>= (λ settings. Ok (said_of line.words numbers, settings)))) e

found_words : (r : Result (List Word) SimFault) → IsOk r → (numbers : List Word) × (r ≡ Ok numbers)
found_words (Ok numbers) h = (numbers, refl)
found_words (Err fault) h = absurd (grind (arith, h))

pub begun_setting : (ps : Parameters) (line : Line) (fault : SimFault) → form_fault line.words ≡ None → IsOk (valued ps line.words) → set_values ps line.settings ≡ Err fault → begun ps line ≡ Err fault
begun_setting ps line fault form ok e =
    let found = found_words (valued ps line.words) ok in
    no_form ps line form
    ∙ ap (λ (r : Result (List Word) SimFault). r >>= (λ numbers. set_values ps line.settings >>= (λ settings. Ok (said_of line.words numbers, settings)))) found.1
    ∙ ap (λ (r : Result (List (ℕ × ℤ)) SimFault). r >>= (λ settings. Ok (said_of line.words found.0, settings))) e

said_same : (ps : Parameters) (words numbers : List Word) → valued ps words ≡ Ok numbers → said_in ps words ≡ said_of words numbers
said_same ps words numbers e =
    rw (numbers_given ps X words numbers e, numbers_given ps Y words numbers e, numbers_given ps Z words numbers e, numbers_given ps F words numbers e, numbers_given ps S words numbers e, numbers_given ps T words numbers e, numbers_given ps P words numbers e)
    refl

pub begun_ok : (ps : Parameters) (line : Line) (settings : List (ℕ × ℤ)) → form_fault line.words ≡ None → IsOk (valued ps line.words) → set_values ps line.settings ≡ Ok settings → begun ps line ≡ Ok (said_in ps line.words, settings)
begun_ok ps line settings form ok e =
    let found = found_words (valued ps line.words) ok in
    no_form ps line form
    ∙ ap (λ (r : Result (List Word) SimFault). r >>= (λ numbers. set_values ps line.settings >>= (λ settings. Ok (said_of line.words numbers, settings)))) found.1
    ∙ ap (λ (r : Result (List (ℕ × ℤ)) SimFault). r >>= (λ settings. Ok (said_of line.words found.0, settings))) e
    ∙ ap (λ (s : Said). Ok (s, settings)) (sym (said_same ps line.words found.0 found.1))

-- ---- no fault

last_two : (a b c d f g h : Bool) (x1 x2 x3 x4 x5 x6 x7 : SimFault) → first_fault ((a, x1) ∷ (b, x2) ∷ (c, x3) ∷ (d, x4) ∷ (f, x5) ∷ (g, x6) ∷ (h, x7) ∷ []) ≡ None → (g ≡ false) × (h ≡ false)
last_two true b c d f g h x1 x2 x3 x4 x5 x6 x7 e = absurd cc
last_two false true c d f g h x1 x2 x3 x4 x5 x6 x7 e = absurd cc
last_two false false true d f g h x1 x2 x3 x4 x5 x6 x7 e = absurd cc
last_two false false false true f g h x1 x2 x3 x4 x5 x6 x7 e = absurd cc
last_two false false false false true g h x1 x2 x3 x4 x5 x6 x7 e = absurd cc
last_two false false false false false true h x1 x2 x3 x4 x5 x6 x7 e = absurd cc
last_two false false false false false false true x1 x2 x3 x4 x5 x6 x7 e = absurd cc
last_two false false false false false false false x1 x2 x3 x4 x5 x6 x7 e = (refl, refl)

-- where there is no fault a probe has its answer, which isn't missed
pub no_fault : (answers : List ℤ) (s : Said) (m : Machine) → fault_of answers s m ≡ None → ((s.probes && is_none (next_answer answers m)) ≡ false) × ((s.probes && is_missed answers s m) ≡ false)
no_fault answers s m e =
    last_two (not (is_coarse s)) (not (in_range s)) (not (passes (is_count 100000) s.speed)) (names_axis s && is_none (kind_of s m)) (names_axis s && is_feed (kind_of s m) && int_le (feed_after s m) (pos 0))
    (s.probes && is_none (next_answer answers m)) (s.probes && is_missed answers s m)
    FinePosition OutOfRange SpindleRange NoMotion NoFeed (NoProbeAnswer (length answers)) (ProbeMissed (target s m).z (unwrap_or (next_answer answers m) (pos 0))) e

-- what is carried out where there is a fault, and where there is none
pub carried_fault : (answers : List ℤ) (n : ℕ) (m : Machine) (s : Said) (settings : List (ℕ × ℤ)) (fault : SimFault) → fault_of answers s m ≡ Some fault → carried_out answers n m s settings ≡ Err fault
carried_fault answers n m s settings fault e = ap (λ o. unless o (Ok (after answers s settings m, move_of answers n s m))) e

pub carried : (answers : List ℤ) (n : ℕ) (m : Machine) (s : Said) (settings : List (ℕ × ℤ)) → fault_of answers s m ≡ None → carried_out answers n m s settings ≡ Ok (after answers s settings m, move_of answers n s m)
carried answers n m s settings e = ap (λ o. unless o (Ok (after answers s settings m, move_of answers n s m))) e

-- ---- steps

pub step_stops : (answers : List ℤ) (n : ℕ) (line : Line) (m : Machine) (fault : SimFault) → begun m.params line ≡ Err fault → step answers n line m ≡ Err fault
step_stops answers n line m fault e = step_begun answers n line m ∙ ap (λ (r : Result (Said × List (ℕ × ℤ)) SimFault). r >>= (λ b. carried_out answers n m b.0 b.1)) e

pub step_fault : (answers : List ℤ) (n : ℕ) (line : Line) (m : Machine) (s : Said) (settings : List (ℕ × ℤ)) (fault : SimFault) → begun m.params line ≡ Ok (s, settings) → fault_of answers s m ≡ Some fault → step answers n line m ≡ Err fault
step_fault answers n line m s settings fault e f =
    step_begun answers n line m ∙ ap (λ (r : Result (Said × List (ℕ × ℤ)) SimFault). r >>= (λ b. carried_out answers n m b.0 b.1)) e ∙ carried_fault answers n m s settings fault f

pub step_goes : (answers : List ℤ) (n : ℕ) (line : Line) (m : Machine) (s : Said) (settings : List (ℕ × ℤ)) → begun m.params line ≡ Ok (s, settings) → fault_of answers s m ≡ None
    → step answers n line m ≡ Ok (after answers s settings m, move_of answers n s m)
step_goes answers n line m s settings e f =
    step_begun answers n line m ∙ ap (λ (r : Result (Said × List (ℕ × ℤ)) SimFault). r >>= (λ b. carried_out answers n m b.0 b.1)) e ∙ carried answers n m s settings f
