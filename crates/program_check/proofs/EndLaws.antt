-- What the start of a machine has and each line keeps, both ends of all moves of a run have.
use Rattle.std.proofs.Common.{◌≡◌, ℕ, ◌+◌, ℤ, Bool, true, false, cond, List, [], ◌∷◌, Option, Some, None, Result, Ok, Err, refl, ◌∙◌, subst}
use Rattle.std.specs.Prelude.{unwrap_or}
use Rattle.std.specs.List.{All}
use Rattle.std.proofs.lemmas.List.Elements.{All-nil, All-cons}
use Rattle.board_base.specs.declared.places.Move.{Move}
use Rattle.board_base.specs.declared.places.Pos.{Pos}
use Rattle.rs274_sim.specs.declared.line.Line.{Line}
use Rattle.rs274_sim.specs.declared.said.Said.{Said}
use Rattle.rs274_sim.specs.declared.fault.SimFault.{SimFault}
use Rattle.rs274_sim.specs.Machine.{Machine, start, step, fault_of, place_after, passes, is_end, with_move, then_run, run_from, run_of}
use Rattle.program_check.proofs.RunLaws.{one_value, step_is, move_is}

-- the first fault that there may be is none
pub first_none : (b : Bool) (f : SimFault) (rest : Option SimFault) → cond b (Some f) rest ≡ None → b ≡ false
first_none true f rest e = absurd (cc)
first_none false f rest e = refl

-- and so are those after it
pub rest_none : (b : Bool) (f : SimFault) (rest : Option SimFault) → cond b (Some f) rest ≡ None → rest ≡ None
rest_none true f rest e = absurd (cc)
rest_none false f rest e = e

-- a number that passes, where one is given, or else what stays
pub given_passes : (test : ℤ → Bool) (given : Option ℤ) (stays : ℤ) → passes test given ≡ true → test stays ≡ true → test (unwrap_or given stays) ≡ true
given_passes test (Some z) stays e h = e
given_passes test None stays e h = h

-- both ends of the move have P
abbrev pub HasEnds : (Pos → Type 0) → Move → Type 0
HasEnds P m = P m.from × P m.to

module _ (P : Pos → Type 0) (answers : List ℤ) (keeps : (s : Said) (m : Machine) → fault_of answers s m ≡ None → P m.at → P (place_after answers s m)) where
  -- what a step leaves
  record Leaves (done : Machine × Option Move) : Type 0 where
    at : P (done.0).at
    made : (move : Move) → done.1 ≡ Some move → HasEnds P move

  step_leaves : (number : ℕ) (line : Line) (m : Machine) (done : Machine × Option Move) → P m.at → step answers number line m ≡ Ok done → Leaves done
  step_leaves number line m done h e =
      let s = step_is answers number line m done e in
      let there : P (place_after answers s.said m) = keeps s.said m s.sound h in
      record {
        at = subst P s.at there;
        made = λ move made. (let is = move_is answers number s.said m move (s.made ∙ made) in (subst P is.from h, subst P is.to there));
      }

  with_rest : (made : Option Move) (rest : Result (List Move) (SimFault × ℕ)) (moves : List Move) → ((move : Move) → made ≡ Some move → HasEnds P move)
      → ((ms : List Move) → rest ≡ Ok ms → All (HasEnds P) ms) → with_move made rest ≡ Ok moves → All (HasEnds P) moves
  with_rest None rest moves of ends e = ends moves e
  with_rest (Some move) (Ok ms) moves of ends e =
      subst (All (HasEnds P)) (one_value (move ∷ ms) moves (with_move (Some move) (Ok ms)) refl e) (All-cons (HasEnds P) move ms (of move refl) (ends ms refl))
  with_rest (Some move) (Err f) moves of ends e = absurd (cc)

  ends_from : (before : ℕ) (m : Machine) (lines : List Line) (moves : List Move) → P m.at → run_from answers before m lines ≡ Ok moves → All (HasEnds P) moves
  ends_from before m [] moves h e = absurd (cc)
  ends_from before m (line ∷ lines) moves h e =
      by_step (λ next ms at. ends_from (before + 1) next lines ms at) (step answers (before + 1) line m) refl e
    where
      by_end : (ends : Bool) (rest : Result (List Move) (SimFault × ℕ)) → ((ms : List Move) → rest ≡ Ok ms → All (HasEnds P) ms) → (ms : List Move) → cond ends (Ok []) rest ≡ Ok ms → All (HasEnds P) ms
      by_end true rest have ms e = subst (All (HasEnds P)) (one_value [] ms (cond true (Ok []) rest) refl e) (All-nil (HasEnds P))
      by_end false rest have ms e = have ms e

      by_step : ((next : Machine) (ms : List Move) → P next.at → run_from answers (before + 1) next lines ≡ Ok ms → All (HasEnds P) ms)
          → (r : Result (Machine × Option Move) SimFault) → step answers (before + 1) line m ≡ r
          → then_run (before + 1) (is_end line.words) (λ next. run_from answers (before + 1) next lines) r ≡ Ok moves → All (HasEnds P) moves
      by_step have (Err fault) s e = absurd (cc)
      by_step have (Ok done) s e =
          let w = step_leaves (before + 1) line m done h s in
          with_rest done.1 (cond (is_end line.words) (Ok []) (run_from answers (before + 1) done.0 lines)) moves w.made
          (by_end (is_end line.words) (run_from answers (before + 1) done.0 lines) (λ ms f. have done.0 ms w.at f)) e

  -- what the start has and each line keeps, all ends of a run have
  pub run_ends : (lines : List Line) (moves : List Move) → P start.at → run_of answers lines ≡ Ok moves → All (HasEnds P) moves
  unfolding run_of
  run_ends lines moves h e = ends_from 0 start lines moves h e
