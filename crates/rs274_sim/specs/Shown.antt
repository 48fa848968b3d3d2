-- The machine that a machine of the program stands for.
use Rattle.std.specs.Prelude.{ℕ, ◌+◌, ℤ, pos, List, if◌then◌else◌, Bool, ◌||◌, ◌&&◌, int_lt, Option, Result, Ok, is_none, unwrap_or, length, ◌∷◌, []}
use Rattle.board_base.specs.declared.places.Pos.{Pos}
use Rattle.board_base.specs.declared.places.Move.{Move}
use Rattle.board_base.specs.declared.places.MoveKind.{MoveKind}
use Rattle.board_base.specs.Binds.{◌>>=◌}
use Rattle.rs274_sim.specs.declared.line.Line.{Line}
use Rattle.rs274_sim.specs.declared.fault.SimFault.{SimFault}
use Rattle.rs274_sim.specs.declared.fault.SimFault.TheVariants.{ProbeMissed, NoProbeAnswer}
use Rattle.rs274_sim.specs.declared.said.Said.{Said}
use Rattle.rs274_sim.specs.declared.state.State.{State}
use Rattle.rs274_sim.specs.Evaluation.{Parameters, valued, set_values}
use Rattle.rs274_sim.specs.Machine.{Machine, place_after, turning_after, speed_after, feed_after, tool_after, pending_after, motion_after, contact, next_answer, is_missed, target, first_fault, unless, form_fault, said_of}

-- parameters that nothing has set
abbrev pub unset : Parameters
unset = λ n. pos 0

-- the machine of a state and of parameters
abbrev pub machine_of : State → Parameters → Machine
machine_of s ps = record {
  at = s.at;
  turning = s.turning;
  speed = s.speed;
  feed_rate = s.feed;
  tool = s.tool;
  pending = s.pending;
  motion = s.motion;
  params = ps;
  used = s.used;
}

-- the state alone, with no parameter set: what doesn't look at parameters is the same for all of them
abbrev pub bare : State → Machine
bare s = machine_of s unset

-- the state after a line
abbrev pub state_after : List ℤ → Said → State → State
state_after answers said s = record {
  at = place_after answers said (bare s);
  turning = turning_after said (bare s);
  speed = speed_after said (bare s);
  feed = feed_after said (bare s);
  tool = tool_after said (bare s);
  pending = pending_after said (bare s);
  motion = motion_after said (bare s);
  used = if said.probes then s.used + 1 else s.used;
}

-- a height is below one or above another
abbrev pub outside : ℤ → ℤ → ℤ → Bool
outside low high z = int_lt z low || int_lt high z

-- where the probe meets something
abbrev pub stop_in : List ℤ → State → Pos
stop_in answers s = record { x = s.at.x; y = s.at.y; z = contact answers (bare s) }

-- the move of this kind to a place
abbrev pub move_in_kind : Pos → MoveKind → ℕ → Said → State → Move
move_in_kind place kind line said s = record {
  from = s.at;
  to = place;
  kind = kind;
  turning = turning_after said (bare s);
  speed = speed_after said (bare s);
  feed = feed_after said (bare s);
  tool = tool_after said (bare s);
  line = line;
}

-- the fault of a probe
abbrev pub probe_fault_in : List ℤ → Said → Machine → Option SimFault
probe_fault_in answers s m = first_fault (
    (s.probes && is_none (next_answer answers m), NoProbeAnswer (length answers))
    ∷ (s.probes && is_missed answers s m, ProbeMissed (target s m).z (unwrap_or (next_answer answers m) (pos 0)))
    ∷ [])

-- what a line says and the settings that it makes, or the first fault of its words and values
abbrev pub begun : Parameters → Line → Result (Said × List (ℕ × ℤ)) SimFault
begun ps line = unless (form_fault line.words) (valued ps line.words >>= (λ numbers. set_values ps line.settings >>= (λ settings. Ok (said_of line.words numbers, settings))))
