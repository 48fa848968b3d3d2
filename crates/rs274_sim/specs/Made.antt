-- The moves of a run up to its end, or up to the line with the first fault.
use Rattle.std.specs.Prelude.{◌≡◌, ℕ, ◌+◌, ℤ, Bool, if◌then◌else◌, List, [], ◌∷◌, Option, Some, None, Result, Ok, Err}
use Rattle.board_base.specs.declared.places.Move.{Move}
use Rattle.move_watch.specs.Watch.{Watch}
use Rattle.move_watch.specs.Watched.{watched}
use Rattle.rs274_sim.specs.declared.fault.SimFault.{SimFault}
use Rattle.rs274_sim.specs.declared.line.Line.{Line}
use Rattle.rs274_sim.specs.declared.runs.RunFault.{RunFault}
use Rattle.rs274_sim.specs.declared.runs.RunFault.TheVariants.{Sim, Memory}
use Rattle.rs274_sim.specs.Machine.{Machine, start, step, is_end}

-- a move, if any, before others
abbrev pub some_move : Option Move → List Move → List Move
some_move None moves = moves
some_move (Some move) moves = move ∷ moves

-- what a step makes, and what the rest does; a fault makes nothing
abbrev pub then_made : Bool → (Machine → List Move) → Result (Machine × Option Move) SimFault → List Move
then_made ends rest (Err fault) = []
then_made ends rest (Ok done) = some_move done.1 (if ends then [] else rest done.0)

-- the moves of some lines; so many lines stand before them
abbrev pub made_from : List ℤ → ℕ → Machine → List Line → List Move
made_from answers before m [] = []
made_from answers before m (line ∷ lines) = then_made (is_end line.words) (λ next. made_from answers (before + 1) next lines) (step answers (before + 1) line m)

-- the moves that a program makes up to its end, or up to its first fault
unfoldable pub made_of : List ℤ → List Line → List Move
made_of answers lines = made_from answers 0 start lines

-- what stopped a run
abbrev pub stop_of : Result (List Move) (SimFault × ℕ) → Option (SimFault × ℕ)
stop_of (Ok moves) = None
stop_of (Err stop) = Some stop

-- the run is stopped by this, or memory ran out
abbrev pub StopsRun : RunFault → Result (List Move) (SimFault × ℕ) → Type 0
StopsRun (Sim fault line) run = run ≡ Err (fault, line)
StopsRun Memory run = Unit {0}

-- what watchers have seen after a run: what was made, also before a fault, and nothing where memory ran out
abbrev pub seen_after : Result ℕ RunFault → List Move → List Watch → List Watch
seen_after (Ok count) moves ws = watched moves ws
seen_after (Err (Sim fault line)) moves ws = watched moves ws
seen_after (Err Memory) moves ws = ws
