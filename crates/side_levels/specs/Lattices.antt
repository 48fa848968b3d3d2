-- The program of a side is one on the lattice, and goes along the same cells when it is levelled.
use Rattle.std.specs.Prelude.{◌≡◌, List, [], ◌∷◌, ◌++◌, map, Some}
use Rattle.std.specs.List.{AllZip, Contains}
use Rattle.board_base.specs.declared.places.Cell.{Cell}
use Rattle.chain_walk.specs.Runs.{IsRun, IsOnRun, AreSuccessive}
use Rattle.shape_parts.specs.declared.shape.Painted.{Painted}
use Rattle.mill_program.specs.declared.cuts.Corner.{Corner}
use Rattle.mill_program.specs.declared.cuts.ToolRun.{ToolRun}
use Rattle.mill_program.specs.declared.cuts.Program.{Program}
use Rattle.mill_program.specs.declared.probes.ProbeGrid.{ProbeGrid}
use Rattle.levelling.specs.Pieces.{IsLatticeProgram, levelled}
use Rattle.job_file.specs.declared.job.Job.{Job}
use Rattle.mill_plan.specs.declared.isolation.Isolation.{Isolation}
use Rattle.mill_plan.specs.Job.{IsSideJob}
use Rattle.mill_plan.specs.Cuts.{all_of, corner_of, trace_of}
use Rattle.mill_plan.specs.Isolated.{IsIsolationOf}

-- A cut along a walk: from centre to centre of the walk's cells, each step a run of them, the steps over all of them, and the
-- corners of the walk's trace among its own.
pub record IsCutAlong (job : Job) (walk : List Cell) (cut : List Corner) : Type 0 where
  pub cells : List Cell
  pub is : cut ≡ map (corner_of job) cells
  pub inside : (c : Cell) → Contains cells c → Contains walk c
  pub runs : (a b : Cell) → AreSuccessive cells a b → IsRun walk a b
  pub covers : (c : Cell) → Contains walk c → (a b : Cell) × (AreSuccessive cells a b × IsOnRun walk a b c)
  pub stays : (c : Corner) → Contains (trace_of job walk) c → Contains cut c

-- tool 1 at the job's speed and feeds, with these cuts
abbrev pub run_with : Job → List (List Corner) → ToolRun
run_with job cuts = record {
  tool = 1;
  speed = job.mill_speed;
  feed = job.mill_feed;
  plunge = job.mill_vertfeed;
  cuts = cuts;
}

-- that tool run alone, at the job's heights and over this grid
abbrev pub program_over : Job → ProbeGrid → List (List Corner) → Program
program_over job g cuts = record { safe = job.zsafe; change = job.zchange; runs = run_with job cuts ∷ []; grid = Some g }

-- such a program, with a cut along each of the walks
pub record IsProgramAlong (job : Job) (walks : List (List Cell)) (g : ProbeGrid) (p : Program) : Type 0 where
  pub cuts : List (List Corner)
  pub is : p ≡ program_over job g cuts
  pub along : AllZip (IsCutAlong job) walks cuts

-- the program of a side may be levelled, and goes then along the walks of its passes and its clearing runs as before
abbrev pub LatticeLaw : Type 0
LatticeLaw =
    (job : Job) (painted : List Painted) (plan : Isolation) → IsSideJob job → (isolation : IsIsolationOf job painted plan)
    → IsLatticeProgram job.pitch plan.program
    × ((g : ProbeGrid) → IsProgramAlong job (all_of isolation.traced.passes ++ isolation.traced.runs) g (levelled g job.pitch plan.program))
