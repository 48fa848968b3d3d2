-- Small cases of the definitions.
use Rattle.std.proofs.Common.{◌≡◌, refl, [], ◌∷◌, Some, None, Ok, Err}
use Rattle.std.specs.Prelude.{codes, pos, neg_ℤ}
use Rattle.text_cut.specs.Spaces.{trimmed}
use Rattle.fixed_num.specs.Spelled.{parts_of}
use Rattle.fixed_num.specs.Values.{decimals_used, short_of, read_at}
use Rattle.rs274_sim.specs.Reading.{BadNumber}
use Rattle.endings.specs.declared.status.Status.TheVariants.{Watch}
use Rattle.simulation.specs.Words.{words_of}
use Rattle.simulation.specs.Answers.{answers_of}
use Rattle.simulation.specs.Simulated.{verdict_of}

-- the words
two_names : words_of (codes "simulate" ∷ codes "a.ngc" ∷ codes "p.txt" ∷ []) ≡ Ok (record { program = codes "a.ngc"; probes = Some (codes "p.txt") })
unfolding words_of
two_names = refl

one_name : words_of (codes "simulate" ∷ codes "a.ngc" ∷ []) ≡ Ok (record { program = codes "a.ngc"; probes = None })
unfolding words_of
one_name = refl

no_name : words_of (codes "simulate" ∷ []) ≡ Err 2
unfolding words_of
no_name = refl

dashed_name : words_of (codes "simulate" ∷ codes "a.ngc" ∷ codes "--x" ∷ []) ≡ Err 3
unfolding words_of
dashed_name = refl

three_names : words_of (codes "simulate" ∷ codes "a" ∷ codes "b" ∷ codes "c" ∷ []) ≡ Err 4
unfolding words_of
three_names = refl

-- the answers
some_answers : answers_of (codes "0\n\n 0.1 \n   \n-.05000000") ≡ Ok (pos 0 ∷ pos 100000 ∷ neg_ℤ (pos 50000) ∷ [])
unfolding answers_of trimmed read_at short_of parts_of decimals_used
some_answers = refl

fine_answer : answers_of (codes "0\n0.0000001\n") ≡ Err (BadNumber, 2)
unfolding answers_of trimmed read_at short_of parts_of decimals_used
fine_answer = refl

far_answer : answers_of (codes "500\n\n500.000001\n") ≡ Err (BadNumber, 3)
unfolding answers_of trimmed read_at short_of parts_of decimals_used
far_answer = refl

tab_answer : answers_of (codes "\t1\n") ≡ Err (BadNumber, 1)
unfolding answers_of trimmed read_at short_of parts_of decimals_used
tab_answer = refl

-- the first watcher that objected, whichever move another one objects to
first_objects : verdict_of (record { watcher = 0; seen = 17; first = None } ∷ record { watcher = 1; seen = 4; first = Some 3 } ∷ record { watcher = 2; seen = 2; first = Some 1 } ∷ []) ≡ Watch 1 3
first_objects = refl
