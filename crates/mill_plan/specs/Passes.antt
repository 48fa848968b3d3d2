-- What is made of the passes of a side, step by step.
use Rattle.std.specs.Prelude.{◌≡◌, ◌↔◌, ℕ, ◌<◌, ℤ, pos, ◌*ℤ◌, ◌≤ℤ◌, ◌<ℤ◌, Bool, true, List, ◌++◌, map, length, slice_index, [], ◌∷◌, None, Ok}
use Rattle.board_base.specs.declared.places.Cell.{Cell}
use Rattle.board_base.specs.Lattice.{centre_of}
use Rattle.board_base.specs.Places.{IsPlace}
use Rattle.cell_sets.specs.Contour.{IsContour}
use Rattle.cell_sets.specs.Clearance.{IsClearance}
use Rattle.cell_grid.specs.Grid.{Grid}
use Rattle.cell_grid.specs.Place.{InFrame, place_of}
use Rattle.cell_grid.specs.Cells.{in_frame, in_plane}
use Rattle.chain_walk.specs.Walk.{AreWalks}
use Rattle.chain_walk.specs.RowRuns.{AreRowRuns}
use Rattle.mill_program.specs.declared.cuts.Corner.{Corner}
use Rattle.mill_program.specs.declared.cuts.Program.{Program}
use Rattle.shape_parts.specs.declared.shape.Painted.{Painted}
use Rattle.job_file.specs.declared.job.Job.{Job}
use Rattle.mill_plan.specs.declared.cutting.Cutting.{Cutting}
use Rattle.mill_plan.specs.Cutting.{guard, kept_by}
use Rattle.mill_plan.specs.Frame.{IsFrameOf}
use Rattle.mill_plan.specs.Raster.{IsFarAtEdge}
use Rattle.mill_plan.specs.Cuts.{trace_of, all_of, AreOrdered, AreSideWalks}

-- the least number of steps that make up what is wanting
pub record IsEnough (wanting step : ℤ) (n : ℕ) : Type 0 where
  pub enough : wanting ≤ℤ (pos n *ℤ step)
  pub least : (m : ℕ) → m < n → (pos m *ℤ step) <ℤ wanting

-- the kept cells lie far within the frame, and where it has a cell, the last guard is less than the clearance from no kept cell
pub record IsSpacious (k : Cutting) (g : Grid) : Type 0 where
  pub far : IsFarAtEdge (guard k k.last) (in_plane g.frame g.kept) g.frame
  pub small : (c : Cell) → in_frame g.frame c ≡ true → guard k k.last <ℤ pos 4294967295

-- the table has each cell's clearance
pub record IsMeasured (g : Grid) : Type 0 where
  pub each : (c : Cell) → in_frame g.frame c ≡ true → IsClearance (in_plane g.frame g.kept) c (slice_index g.clearances (place_of g.frame c))

-- the grid over the image's frame has its kept cells, and how far each cell is from them
pub record IsSideGrid (k : Cutting) (painted : List Painted) (g : Grid) : Type 0 where
  pub framed : IsFrameOf k painted (Ok g.frame)
  pub kept : (c : Cell) → in_plane g.frame g.kept c ≡ kept_by k painted c
  pub spacious : IsSpacious k g
  pub measured : IsMeasured g

-- the grid as the raster leaves it: Pass and Visited are the contour of the first pass
pub record IsBegun (k : Cutting) (painted : List Painted) (g : Grid) : Type 0 where
  pub side : IsSideGrid k painted g
  pub contour : (c : Cell) → in_plane g.frame g.pass c ≡ true ↔ IsContour (kept_by k painted) (guard k 0) c
  pub visited : (c : Cell) → in_plane g.frame g.visited c ≡ in_plane g.frame g.pass c

-- the centres of the frame are places
abbrev pub HasPlaces : ℤ → Grid → Type 0
HasPlaces pitch g = (c : Cell) → InFrame g.frame c → IsPlace (centre_of pitch c)

-- the walks of the components of these cells, in the order of a program
pub record AreOrderedWalks (pitch : ℤ) (member : Cell → Bool) (walks : List (List Cell)) : Type 0 where
  pub rows : List (List Cell)
  pub are : AreWalks member rows
  pub ordered : AreOrdered pitch rows walks

-- the cuts along such walks come next
pub record AddsComponents (job : Job) (member : Cell → Bool) (old new : List (List Corner)) : Type 0 where
  pub walks : List (List Cell)
  pub are : AreOrderedWalks job.pitch member walks
  pub is : new ≡ old ++ map (trace_of job) walks

-- the cuts along the runs of these cells come next
pub record AddsRuns (job : Job) (member : Cell → Bool) (old new : List (List Corner)) : Type 0 where
  pub runs : List (List Cell)
  pub are : AreRowRuns member runs
  pub is : new ≡ old ++ map (trace_of job) runs

-- what the passes and the clearing rows come to: cuts, of which so many go along walks, and the visited cells
pub record AreSideCuts (k : Cutting) (job : Job) (painted : List Painted) (cuts : List (List Corner)) (count : ℕ) : Type 0 where
  pub passes : List (List (List Cell))
  pub runs : List (List Cell)
  pub along : AreSideWalks k painted passes runs
  pub cuts_are : cuts ≡ map (trace_of job) (all_of passes ++ runs)
  pub size : length (all_of passes) ≡ count

-- tool 1 with these cuts alone, at the job's heights, speed and feeds
abbrev pub program_of : Job → List (List Corner) → Program
program_of job cuts = record {
  safe = job.zsafe;
  change = job.zchange;
  runs = record { tool = 1; speed = job.mill_speed; feed = job.mill_feed; plunge = job.mill_vertfeed; cuts = cuts } ∷ [];
  grid = None;
}
