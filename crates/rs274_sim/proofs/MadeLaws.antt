-- Runs, one line after another.
use Rattle.std.proofs.Common.{◌≡◌, refl, ℕ, zero, suc, ◌+◌, ◌<◌, ◌≤◌, ℤ, List, [], ◌∷◌, ◌++◌, Bool, true, false, cond, Option, Some, None, Result, Ok, Err, length, drop, get_or, ap, sym, ◌∙◌, arith, append_assoc}
use Rattle.std.proofs.lemmas.List.{append-nil, drop_all}
use Rattle.board_base.specs.declared.places.Move.{Move}
use Rattle.rs274_sim.specs.declared.fault.SimFault.{SimFault}
use Rattle.rs274_sim.specs.declared.fault.SimFault.TheVariants.{NoEnd}
use Rattle.rs274_sim.specs.declared.line.Line.{Line}
use Rattle.rs274_sim.specs.Machine.{Machine, start, step, is_end, with_move, then_run, run_from, run_of}
use Rattle.rs274_sim.specs.Made.{some_move, then_made, made_from, made_of, stop_of}

-- a run that ends has made its moves
made_all : (answers : List ℤ) (before : ℕ) (m : Machine) (lines : List Line) (moves : List Move) → run_from answers before m lines ≡ Ok moves → made_from answers before m lines ≡ moves
made_all answers before m [] moves e = absurd cc
made_all answers before m (line ∷ lines) moves e =
    by_step (is_end line.words) (step answers (before + 1) line m) moves e (λ next ms f. made_all answers (before + 1) next lines ms f)
  where
    by_move : (mv : Option Move) (r : Result (List Move) (SimFault × ℕ)) (made moves : List Move) → with_move mv r ≡ Ok moves → ((ms : List Move) → r ≡ Ok ms → made ≡ ms) → some_move mv made ≡ moves
    by_move None r made moves e later = later moves e
    by_move (Some mv) (Ok ms) made moves e later = let f = later ms refl in cc
    by_move (Some mv) (Err x) made moves e later = absurd cc

    by_step : (ends : Bool) (r : Result (Machine × Option Move) SimFault) (moves : List Move) → then_run (before + 1) ends (λ next. run_from answers (before + 1) next lines) r ≡ Ok moves
        → ((next : Machine) (ms : List Move) → run_from answers (before + 1) next lines ≡ Ok ms → made_from answers (before + 1) next lines ≡ ms)
        → then_made ends (λ next. made_from answers (before + 1) next lines) r ≡ moves
    by_step ends (Err fault) moves e later = absurd cc
    by_step true (Ok done) moves e later = by_move done.1 (Ok []) [] moves e (λ ms f. cc)
    by_step false (Ok done) moves e later = by_move done.1 (run_from answers (before + 1) done.0 lines) (made_from answers (before + 1) done.0 lines) moves e (λ ms f. later done.0 ms f)

stopped : (r : Result (List Move) (SimFault × ℕ)) → stop_of r ≡ None → (moves : List Move) × (r ≡ Ok moves)
stopped (Ok moves) e = (moves, refl)
stopped (Err x) e = absurd cc

-- a run that nothing stops gives what was made
pub ran : (answers : List ℤ) (lines : List Line) → stop_of (run_of answers lines) ≡ None → run_of answers lines ≡ Ok (made_of answers lines)
unfolding run_of made_of
ran answers lines e =
    let found = stopped (run_from answers 0 start lines) e in
    found.1 ∙ ap Ok (sym (made_all answers 0 start lines found.0 found.1))

pub halted : (r : Result (List Move) (SimFault × ℕ)) (x : SimFault × ℕ) → stop_of r ≡ Some x → r ≡ Err x
halted (Ok moves) x e = absurd cc
halted (Err y) x e = cc

-- ---- one line

here_line : (lines : List Line) (k : ℕ) (line : Line) → k < length lines → line ≡ get_or lines k line → drop k lines ≡ line ∷ drop (suc k) lines
here_line [] k line h e = absurd (omega (arith, h))
here_line (l ∷ lines) zero line h e = ap (λ (x : Line). x ∷ lines) (sym e)
here_line (l ∷ lines) (suc k) line h e = here_line lines k line (omega (arith, h)) e

pub run_line : (answers : List ℤ) (lines : List Line) (k : ℕ) (line : Line) (m : Machine) → k < length lines → line ≡ get_or lines k line
    → run_from answers k m (drop k lines) ≡ then_run (k + 1) (is_end line.words) (λ next. run_from answers (k + 1) next (drop (suc k) lines)) (step answers (k + 1) line m)
run_line answers lines k line m h e = ap (run_from answers k m) (here_line lines k line h e)

pub made_line : (answers : List ℤ) (lines : List Line) (k : ℕ) (line : Line) (m : Machine) → k < length lines → line ≡ get_or lines k line
    → made_from answers k m (drop k lines) ≡ then_made (is_end line.words) (λ next. made_from answers (k + 1) next (drop (suc k) lines)) (step answers (k + 1) line m)
made_line answers lines k line m h e = ap (made_from answers k m) (here_line lines k line h e)

same_stop : (mv : Option Move) (r : Result (List Move) (SimFault × ℕ)) → stop_of (with_move mv r) ≡ stop_of r
same_stop None r = refl
same_stop (Some mv) (Ok ms) = refl
same_stop (Some mv) (Err x) = refl

-- a line with a fault
pub fault_line : (answers : List ℤ) (lines : List Line) (k : ℕ) (line : Line) (m : Machine) (fault : SimFault) → k < length lines → line ≡ get_or lines k line → step answers (k + 1) line m ≡ Err fault
    → (stop_of (run_from answers k m (drop k lines)) ≡ Some (fault, k + 1)) × (made_from answers k m (drop k lines) ≡ [])
fault_line answers lines k line m fault h e s = (
  ap stop_of (run_line answers lines k line m h e ∙ ap (then_run (k + 1) (is_end line.words) (λ next. run_from answers (k + 1) next (drop (suc k) lines))) s),
  made_line answers lines k line m h e ∙ ap (then_made (is_end line.words) (λ next. made_from answers (k + 1) next (drop (suc k) lines))) s,
)

-- a line that ends the program
pub end_line : (answers : List ℤ) (lines : List Line) (k : ℕ) (line : Line) (m next : Machine) (mv : Option Move) → k < length lines → line ≡ get_or lines k line → step answers (k + 1) line m ≡ Ok (next, mv) → is_end line.words ≡ true
    → (stop_of (run_from answers k m (drop k lines)) ≡ None) × (made_from answers k m (drop k lines) ≡ some_move mv [])
end_line answers lines k line m next mv h e s ends = (
  ap stop_of (run_line answers lines k line m h e ∙ ap (then_run (k + 1) (is_end line.words) (λ n. run_from answers (k + 1) n (drop (suc k) lines))) s
      ∙ ap (λ p. with_move mv (cond p (Ok []) (run_from answers (k + 1) next (drop (suc k) lines)))) ends) ∙ same_stop mv (Ok []),
  made_line answers lines k line m h e ∙ ap (then_made (is_end line.words) (λ n. made_from answers (k + 1) n (drop (suc k) lines))) s
      ∙ ap (λ p. some_move mv (cond p [] (made_from answers (k + 1) next (drop (suc k) lines)))) ends,
)

-- a line after which it goes on
pub more_lines : (answers : List ℤ) (lines : List Line) (k : ℕ) (line : Line) (m next : Machine) (mv : Option Move) → k < length lines → line ≡ get_or lines k line → step answers (k + 1) line m ≡ Ok (next, mv) → is_end line.words ≡ false
    → (stop_of (run_from answers k m (drop k lines)) ≡ stop_of (run_from answers (k + 1) next (drop (k + 1) lines)))
    × (made_from answers k m (drop k lines) ≡ some_move mv (made_from answers (k + 1) next (drop (k + 1) lines)))
more_lines answers lines k line m next mv h e s ends =
    let next_k : suc k ≡ k + 1 = omega arith in
    let behind : drop (suc k) lines ≡ drop (k + 1) lines = ap (λ n. drop n lines) next_k in (
      ap stop_of (run_line answers lines k line m h e ∙ ap (then_run (k + 1) (is_end line.words) (λ n. run_from answers (k + 1) n (drop (suc k) lines))) s
          ∙ ap (λ p. with_move mv (cond p (Ok []) (run_from answers (k + 1) next (drop (suc k) lines)))) ends) ∙ same_stop mv (run_from answers (k + 1) next (drop (suc k) lines))
          ∙ ap (λ ls. stop_of (run_from answers (k + 1) next ls)) behind,
      made_line answers lines k line m h e ∙ ap (then_made (is_end line.words) (λ n. made_from answers (k + 1) n (drop (suc k) lines))) s
          ∙ ap (λ p. some_move mv (cond p [] (made_from answers (k + 1) next (drop (suc k) lines)))) ends
          ∙ ap (λ ls. some_move mv (made_from answers (k + 1) next ls)) behind,
    )

-- ---- what a loop over lines keeps

-- the lines end before the program does
pub no_end : (answers : List ℤ) (lines : List Line) (k : ℕ) (m : Machine) → k ≡ length lines
    → (stop_of (run_from answers k m (drop k lines)) ≡ Some (NoEnd, length lines)) × (made_from answers k m (drop k lines) ≡ [])
no_end answers lines k m e =
    let none : drop k lines ≡ [] = drop_all k lines (omega (arith, e)) in
    (ap (λ ls. stop_of (run_from answers k m ls)) none ∙ ap (λ n. Some (NoEnd, n)) e, ap (made_from answers k m) none)

pub add_behind : (mv : Option Move) (old more : List Move) → (old ++ some_move mv []) ++ more ≡ old ++ some_move mv more
add_behind None old more = ap (λ ms. ms ++ more) (append-nil old)
add_behind (Some x) old more = append_assoc old (x ∷ []) more

pub count_behind : (mv : Option Move) (more : List Move) → length (some_move mv []) + length more ≡ length (some_move mv more)
count_behind None more = grind arith
count_behind (Some x) more = grind arith

pub few_moves : (mv : Option Move) → length (some_move mv []) ≤ 1
few_moves None = omega arith
few_moves (Some x) = omega arith

-- before the first line
pub begin : (answers : List ℤ) (lines : List Line) (m : Machine) → m ≡ start → (stop_of (run_from answers 0 m lines) ≡ stop_of (run_of answers lines)) × (made_from answers 0 m lines ≡ made_of answers lines)
unfolding run_of made_of
begin answers lines m e = (ap (λ x. stop_of (run_from answers 0 x lines)) e, ap (λ x. made_from answers 0 x lines) e)
