-- What Done means after `check`, in plain steps.
use Rattle.std.specs.Prelude.{◌≡◌, ℕ, ◌*ℤ◌, true, List, Ok}
use Rattle.board_base.specs.Files.{Files}
use Rattle.board_base.specs.Shelf.{ShelfState}
use Rattle.board_base.specs.Sink.{SinkState, appended}
use Rattle.cell_sets.specs.Islands.{AreIslands}
use Rattle.shape_parts.specs.Cover.{is_dark}
use Rattle.rs274_sim.specs.Cutter.{nanometre, NoBite}
use Rattle.rs274_sim.specs.Text.{StandsFor}
use Rattle.rs274_sim.specs.Machine.{run_of}
use Rattle.mill_plan.specs.Cutting.{bite_of, kept_by, side_cutting}
use Rattle.program_check.specs.Deep.{IsDeepOver}
use Rattle.program_check.specs.Marks.{ArePrinted, PartsOthersBy}
use Rattle.side_check.specs.Found.{Findings}
use Rattle.endings.specs.declared.status.Status.{Status}
use Rattle.endings.specs.declared.status.Status.TheVariants.{Done}
use Rattle.endings.specs.Answers.{IfTold}
use Rattle.endings.specs.Ending.{with_ok}
use Rattle.endings.specs.Reads.{held_in}
use Rattle.endings.specs.Run.{Tells}
use Rattle.checking.specs.Accepted.{Accepts, accepted}
use Rattle.checking.specs.Checked.{Checked, Finds, joined_lines, CheckEnds}

-- ---- any program

-- The bytes of the program stand for lines, whose run with the given answers comes to its end and doesn't bite; the islands
-- are those of the image; and two of them that cells not wholly swept join stand in one group.
pub record IsSoundFor (x : Accepts) (found : Findings) : Type 0 where
  pub stands : StandsFor x.program x.lines
  pub run : run_of x.answers x.lines ≡ Ok found.moves
  pub no_bite : NoBite (x.job.zsafe *ℤ nanometre) (λ q. is_dark q x.painted ≡ true) (bite_of (side_cutting x.job)) found.moves
  pub count : ℕ
  pub islands : AreIslands (kept_by (side_cutting x.job) x.painted) found.number count
  pub parts : PartsOthersBy (side_cutting x.job) (IsDeepOver found.surface x.job.zwork) found.number found.groups found.moves

abbrev pub IsSound : Checked → Type 0
IsSound c = IsSoundFor c.accepts c.found

-- The groups are exactly the classes of cells of the whole plane that aren't marked and hold two islands or more.
abbrev pub IsExactFor : Accepts → Findings → Type 0
IsExactFor x found = ArePrinted (side_cutting x.job) found.frame (IsDeepOver found.surface x.job.zwork) found.moves found.number found.groups

abbrev pub IsExact : Checked → Type 0
IsExact c = IsExactFor c.accepts c.found

-- ---- after Done

-- The words and the files at entry are accepted so, this is found of it, the sink got the lines of its groups and then
-- `ok`, and P holds.
pub record Passed (P : Checked → Type 0) (words : List (List ℕ)) (files : Files) (before now : SinkState) : Type 0 where
  pub checked : Checked
  pub given : accepted words (held_in files) ≡ Ok checked.accepts
  pub finds : Finds checked.accepts (Ok checked.found)
  pub told : now.text ≡ appended (with_ok Done (joined_lines checked.found.groups)) before.text
  pub holds : P checked

-- wherever the sink got what `check` tells, the answer is Done and the files are told, the program passed so
abbrev pub AfterDone : (Checked → Type 0) → Type 0
AfterDone P =
    (words : List (List ℕ)) (result : Status) (shelf_before shelf_now : ShelfState) (before now : SinkState)
    → Tells (CheckEnds words) result shelf_before shelf_now before now → result ≡ Done
    → IfTold shelf_before.files (λ files. Passed P words files before now)
