-- What stretches of lines do to the machine, one behind another.
use Rattle.std.proofs.Common.{◌≡◌, refl, ℕ, ◌+◌, List, [], ◌∷◌, ◌++◌, length, false, Result, Ok, Err, Some, None, ap, sym, ◌∙◌, append_assoc, map, arith}
use Rattle.std.proofs.lemmas.List.{length-append, map-append}
use Rattle.std.specs.Prelude.{ℤ}
use Rattle.board_base.specs.declared.places.Move.{Move}
use Rattle.rs274_sim.specs.declared.fault.SimFault.{SimFault}
use Rattle.rs274_sim.specs.declared.line.Line.{Line}
use Rattle.rs274_sim.specs.Machine.{Machine, step, is_end, with_move, then_run, run_from}
use Rattle.mill_program.specs.Moves.{unnumbered}

-- moves, and those of the rest where it runs to its end
abbrev pub behind : List Move → Result (List Move) (SimFault × ℕ) → Result (List Move) (SimFault × ℕ)
behind made (Ok rest) = Ok (made ++ rest)
behind made (Err e) = Err e

-- From that machine the lines make these moves and lead to that next one, wherever they stand in a program.
pub record Makes (answers : List ℤ) (m : Machine) (lines : List Line) (expected : List Move) (next : Machine) : Type 0 where
  pub made : ℕ → List Move
  pub runs : (n : ℕ) (rest : List Line) → run_from answers n m (lines ++ rest) ≡ behind (made n) (run_from answers (n + length lines) next rest)
  pub same : (n : ℕ) → map unnumbered (made n) ≡ expected

behind_twice : (a b : List Move) (r : Result (List Move) (SimFault × ℕ)) → behind a (behind b r) ≡ behind (a ++ b) r
behind_twice a b (Ok rest) = ap Ok (sym (append_assoc a b rest))
behind_twice a b (Err e) = refl

behind_none : (r : Result (List Move) (SimFault × ℕ)) → r ≡ behind [] r
behind_none (Ok rest) = refl
behind_none (Err e) = refl

behind_one : (made : Move) (r : Result (List Move) (SimFault × ℕ)) → with_move (Some made) r ≡ behind (made ∷ []) r
behind_one made (Ok rest) = refl
behind_one made (Err e) = refl

-- no line
pub no_line : {answers : List ℤ} {m : Machine} → Makes answers m [] [] m
no_line {answers = answers} {m = m} = record {
  made = λ n. [];
  runs = λ n rest. ap (λ k. run_from answers k m rest) (omega arith) ∙ behind_none (run_from answers (n + 0) m rest);
  same = λ n. refl;
}

-- one stretch behind another
pub one_behind : {answers : List ℤ} {m next last : Machine} {ls ks : List Line} {a b : List Move} → Makes answers m ls a next → Makes answers next ks b last → Makes answers m (ls ++ ks) (a ++ b) last
one_behind {answers = answers} {m = m} {next = next} {last = last} {ls = ls} {ks = ks} {a = a} {b = b} first second = record {
  made = λ n. first.made n ++ second.made (n + length ls);
  runs = λ n rest.
      let places : n + length ls + length ks ≡ n + length (ls ++ ks) = omega (arith, length-append ls ks) in
      ap (run_from answers n m) (append_assoc ls ks rest) ∙ first.runs n (ks ++ rest) ∙ ap (behind (first.made n)) (second.runs (n + length ls) rest)
      ∙ behind_twice (first.made n) (second.made (n + length ls)) (run_from answers (n + length ls + length ks) last rest)
      ∙ ap (λ k. behind (first.made n ++ second.made (n + length ls)) (run_from answers k last rest)) places;
  same = λ n. map-append unnumbered (first.made n) (second.made (n + length ls)) ∙ ap (λ t. t ++ map unnumbered (second.made (n + length ls))) (first.same n) ∙ ap (λ t. a ++ t) (second.same (n + length ls));
}

-- one line that makes a move
pub one_move : {answers : List ℤ} {m next : Machine} {line : Line} {expected : Move} (made : ℕ → Move) → is_end line.words ≡ false → ((n : ℕ) → step answers n line m ≡ Ok (next, Some (made n)))
    → ((n : ℕ) → unnumbered (made n) ≡ expected) → Makes answers m (line ∷ []) (expected ∷ []) next
one_move {answers = answers} {m = m} {next = next} {line = line} {expected = expected} made goes_on done same = record {
  made = λ n. made (n + 1) ∷ [];
  runs = λ n rest.
      ap (λ e. then_run (n + 1) e (λ m'. run_from answers (n + 1) m' rest) (step answers (n + 1) line m)) goes_on
      ∙ ap (then_run (n + 1) false (λ m'. run_from answers (n + 1) m' rest)) (done (n + 1)) ∙ behind_one (made (n + 1)) (run_from answers (n + 1) next rest);
  same = λ n. ap (λ t. t ∷ []) (same (n + 1));
}

-- one line that makes none
pub one_still : {answers : List ℤ} {m next : Machine} {line : Line} → is_end line.words ≡ false → ((n : ℕ) → step answers n line m ≡ Ok (next, None)) → Makes answers m (line ∷ []) [] next
one_still {answers = answers} {m = m} {next = next} {line = line} goes_on done = record {
  made = λ n. [];
  runs = λ n rest.
      ap (λ e. then_run (n + 1) e (λ m'. run_from answers (n + 1) m' rest) (step answers (n + 1) line m)) goes_on
      ∙ ap (then_run (n + 1) false (λ m'. run_from answers (n + 1) m' rest)) (done (n + 1)) ∙ behind_none (run_from answers (n + 1) next rest);
  same = λ n. refl;
}
