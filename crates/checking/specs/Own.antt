-- What `check` says of a program that `mill` makes of the same job and image.
use Rattle.std.specs.Prelude.{◌≡◌, ◌⊎◌, ℕ, List, Option, Ok}
use Rattle.board_base.specs.Counts.{Rose}
use Rattle.board_base.specs.Files.{Files}
use Rattle.board_base.specs.Shelf.{ShelfState}
use Rattle.board_base.specs.Sink.{SinkState}
use Rattle.mill_program.specs.declared.probes.ProbeGrid.{ProbeGrid}
use Rattle.mill_program.specs.Probes.{Fit}
use Rattle.mill_plan.specs.declared.isolation.Isolation.{Isolation}
use Rattle.mill_plan.specs.Isolated.{IsIsolationOf}
use Rattle.program_check.specs.Own.{ListsOnly}
use Rattle.side_check.specs.Found.{grid_over_side}
use Rattle.endings.specs.declared.status.Status.{Status}
use Rattle.endings.specs.declared.status.Status.TheVariants.{Done, Memory}
use Rattle.endings.specs.Answers.{IfTold}
use Rattle.endings.specs.Reads.{held_in}
use Rattle.endings.specs.Run.{HasCause, Tells}
use Rattle.side_surfaces.specs.Runs.{InReach}
use Rattle.mill_outputs.specs.Written.{levelled_if}
use Rattle.mill_outputs.specs.Mill.{program_text}
use Rattle.mill_outputs.specs.Headline.{Side}
use Rattle.checking.specs.Accepted.{Accepts, accepted}
use Rattle.checking.specs.Checked.{Checked, CheckEnds}
use Rattle.checking.specs.Sound.{Passed}

-- The program is the text of a plan's, which isolates this image by this job, over the side's grid of probes, if any. The
-- answers fit that grid, and its probes are within the machine's reach.
pub record IsOwnProgram (x : Accepts) (plan : Isolation) : Type 0 where
  pub planned : IsIsolationOf x.job x.painted plan
  pub grid : Option ProbeGrid
  pub over : grid_over_side x.side x.job plan.frame ≡ Ok grid
  pub written : x.program ≡ program_text (levelled_if grid x.job.pitch plan.program)
  pub fits : Fit grid x.answers
  pub reach : InReach grid

-- where `check` accepts the job, the image and the program of a side that was milled in one tile, with answers that fit its
-- grid of probes, if any, that is one, by the plan of the report
abbrev pub GivesOwn : Side → Type 0
GivesOwn side =
    (x : Accepts) → x.job ≡ side.job → x.painted ≡ side.image → x.program ≡ side.program → x.job.tile_x ≡ 1 → x.job.tile_y ≡ 1
    → grid_over_side x.side x.job side.plan.frame ≡ Ok side.grid → Fit side.grid x.answers → InReach side.grid
    → IsOwnProgram x side.plan

-- no count of faults rose: of the shelf's reads, of its writes, of the sink's puts
pub record NoneRose (shelf_before shelf_now : ShelfState) (before now : SinkState) : Type 0 where
  pub reads : Rose shelf_before.read_faults shelf_now.read_faults → ⊥
  pub writes : Rose shelf_before.write_faults shelf_now.write_faults → ⊥
  pub puts : Rose before.faults now.faults → ⊥

-- each pair of islands that is told of stands in one group of the plan, so in one `joined` line of its report
abbrev pub IsListedBy : Isolation → Checked → Type 0
IsListedBy plan c = ListsOnly c.found.groups plan.groups.items

-- Done is answered, or memory was wanting; and after Done the program passed, and only pairs that the plan lists were told
pub record PassesAs (plan : Isolation) (words : List (List ℕ)) (files : Files) (result : Status) (before now : SinkState) : Type 0 where
  pub answer : (result ≡ Done) ⊎ (result ≡ Memory)
  pub told : result ≡ Done → Passed (IsListedBy plan) words files before now

-- wherever the words and the files at entry are accepted, where these are told, and give such a program, and no fault was
-- counted, it passes
abbrev pub PassesOwn : List (List ℕ) → Status → ShelfState → ShelfState → SinkState → SinkState → Type 0
PassesOwn words result shelf_before shelf_now before now =
    IfTold shelf_before.files (λ files.
    (x : Accepts) (plan : Isolation) → accepted words (held_in files) ≡ Ok x → IsOwnProgram x plan → NoneRose shelf_before shelf_now before now
    → PassesAs plan words files result before now)

-- it does, wherever `check` is answered by its cause and told
abbrev pub OwnPasses : Type 0
OwnPasses =
    (words : List (List ℕ)) (result : Status) (shelf_before shelf_now : ShelfState) (before now : SinkState)
    → HasCause (CheckEnds words) result shelf_before shelf_now before now → Tells (CheckEnds words) result shelf_before shelf_now before now
    → PassesOwn words result shelf_before shelf_now before now
