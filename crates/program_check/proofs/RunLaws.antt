-- What a step of a run is made of.
use Rattle.std.proofs.Common.{◌≡◌, ℕ, ℤ, Bool, true, false, cond, List, Option, Some, None, Result, Ok, refl, sym, ap, ◌∙◌}
use Rattle.std.specs.Option.{option_map}
use Rattle.board_base.specs.declared.places.Move.{Move}
use Rattle.board_base.specs.declared.places.MoveKind.{MoveKind}
use Rattle.board_base.specs.Binds.{◌>>=◌}
use Rattle.rs274_sim.specs.declared.line.Line.{Line}
use Rattle.rs274_sim.specs.declared.said.Said.{Said}
use Rattle.rs274_sim.specs.declared.fault.SimFault.{SimFault}
use Rattle.rs274_sim.specs.Evaluation.{valued, set_values}
use Rattle.rs274_sim.specs.Machine.{Machine, step, carried_out, unless, form_fault, fault_of, said_of, after, move_of, place_after, kind_of, names_axis, turning_after, speed_after, feed_after, tool_after}
use Rattle.rs274_sim.proofs.FoundLaws.{same_ok, bind_ok}

-- an answer gives one value
pub one_value : {A E : Type 0} (x y : A) (r : Result A E) → r ≡ Ok x → r ≡ Ok y → x ≡ y
one_value x y r e f = same_ok x y (sym e ∙ f)

passed : {A : Type 0} (fault : Option SimFault) (next : Result A SimFault) (x : A) → unless fault next ≡ Ok x → next ≡ Ok x
passed None next x e = e
passed (Some f) next x e = absurd (cc)

none_first : {A : Type 0} (fault : Option SimFault) (next : Result A SimFault) (x : A) → unless fault next ≡ Ok x → fault ≡ None
none_first None next x e = refl
none_first (Some f) next x e = absurd (cc)

-- a step is carried out as a line says, and no fault comes first
pub record IsStepOf (answers : List ℤ) (number : ℕ) (m : Machine) (done : Machine × Option Move) : Type 0 where
  pub said : Said
  pub settings : List (ℕ × ℤ)
  pub sound : fault_of answers said m ≡ None
  pub at : (after answers said settings m).at ≡ (done.0).at
  pub made : move_of answers number said m ≡ done.1

pub step_is : (answers : List ℤ) (number : ℕ) (line : Line) (m : Machine) (done : Machine × Option Move) → step answers number line m ≡ Ok done → IsStepOf answers number m done
step_is answers number line m done e =
    let a = bind_ok (valued m.params line.words) (λ numbers. set_values m.params line.settings >>= (λ settings. carried_out answers number m (said_of line.words numbers) settings)) done (passed (form_fault line.words) _ done e) in
    let b = bind_ok (set_values m.params line.settings) (λ settings. carried_out answers number m (said_of line.words a.0) settings) done a.2 in
    let s : Said = said_of line.words a.0 in
    let pair : Machine × Option Move = (after answers s b.0 m, move_of answers number s m) in
    let r : Result (Machine × Option Move) SimFault = Ok pair in
    let same : pair ≡ done = one_value pair done r refl (passed (fault_of answers s m) r done b.2) in
    record {
      said = s;
      settings = b.0;
      sound = none_first (fault_of answers s m) r done b.2;
      at = ap (λ (d : Machine × Option Move). (d.0).at) same;
      made = ap (λ (d : Machine × Option Move). d.1) same;
    }

-- the move of a line leads from where the machine is to where the line leads
pub record IsMoveOf (answers : List ℤ) (line : ℕ) (s : Said) (m : Machine) (move : Move) : Type 0 where
  pub from : m.at ≡ move.from
  pub to : place_after answers s m ≡ move.to
  pub of_line : line ≡ move.line

pub move_is : (answers : List ℤ) (line : ℕ) (s : Said) (m : Machine) (move : Move) → move_of answers line s m ≡ Some move → IsMoveOf answers line s m move
move_is answers line s m move e = by_axis (names_axis s) e
  where
    made : MoveKind → Move
    made kind = record { from = m.at; to = place_after answers s m; kind = kind; turning = turning_after s m; speed = speed_after s m; feed = feed_after s m; tool = tool_after s m; line = line }

    move_in : Option Move → Move
    move_in (Some x) = x
    move_in None = move

    by_kind : (kind : Option MoveKind) → option_map made kind ≡ Some move → IsMoveOf answers line s m move
    by_kind (Some kind) e =
        let same : made kind ≡ move = ap move_in e in
        record { from = ap (λ (x : Move). x.from) same; to = ap (λ (x : Move). x.to) same; of_line = ap (λ (x : Move). x.line) same }
    by_kind None e = absurd (cc)

    by_axis : (named : Bool) → cond named (option_map made (kind_of s m)) None ≡ Some move → IsMoveOf answers line s m move
    by_axis true e = by_kind (kind_of s m) e
    by_axis false e = absurd (cc)
