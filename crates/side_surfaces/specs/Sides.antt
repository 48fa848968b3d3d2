-- What the run of a side's program in tiles does to the copies of the board, over a surface or over none.
use Rattle.std.specs.Prelude.{◌≡◌, ◌≢◌, ◌↔◌, ℕ, ◌<◌, ℤ, pos, List, Option}
use Rattle.std.specs.List.{Contains}
use Rattle.board_base.specs.declared.places.Cell.{Cell}
use Rattle.board_base.specs.declared.places.Move.{Move}
use Rattle.board_base.specs.Lattice.{centre_of}
use Rattle.cell_sets.specs.Groups.{IsListedPair}
use Rattle.shape_parts.specs.declared.shape.Painted.{Painted}
use Rattle.mill_program.specs.declared.probes.ProbeGrid.{ProbeGrid}
use Rattle.mill_program.specs.Probes.{surface}
use Rattle.tiling.specs.Copies.{Tile}
use Rattle.job_file.specs.declared.job.Job.{Job}
use Rattle.mill_plan.specs.declared.cutting.Cutting.{Cutting}
use Rattle.mill_plan.specs.Cutting.{side_cutting}
use Rattle.program_check.specs.Deep.{IsDeepOver}
use Rattle.program_check.specs.Marks.{IsPassedBy, IsWhollySweptBy}
use Rattle.side_runs.specs.Sides.{IsVisitedCopy, AreJoinedIn, NoBiteIn}

-- at the depth of the job, over the surface that the answers give
abbrev pub IsDeepBy : Job → Option ProbeGrid → List ℤ → Move → Type 0
IsDeepBy job grid answers = IsDeepOver (surface grid answers) job.zwork

-- the copies of the visited cells are passed at that depth, and no others
abbrev pub PassesBy : Job → List Painted → List Tile → Option ProbeGrid → List ℤ → List Move → Type 0
PassesBy job painted tiles grid answers moves =
    (c : Cell) → IsPassedBy (IsDeepBy job grid answers) moves (centre_of job.pitch c) (pos 0) ↔ IsVisitedCopy (side_cutting job) painted tiles c

-- where cells not wholly swept by such moves join copies of two islands, they are in one tile, and are one island or stand in
-- one group
abbrev pub PartsBy : Cutting → (Move → Type 0) → (Cell → ℕ) → List (List ℕ) → List Tile → List Move → Type 0
PartsBy k Deep number groups tiles moves =
    (s t : Tile) (u v : ℕ) → Contains tiles s → Contains tiles t → 0 < u → 0 < v → AreJoinedIn (λ c. IsWhollySweptBy k Deep moves c → ⊥) number s u t v
    → (s ≡ t) × (u ≢ v → IsListedPair groups u v)

-- all of it
pub record MillsBy (job : Job) (painted : List Painted) (number : Cell → ℕ) (groups : List (List ℕ)) (tiles : List Tile) (grid : Option ProbeGrid) (answers : List ℤ) (moves : List Move) : Type 0 where
  pub no_bite : NoBiteIn job painted tiles moves
  pub passes : PassesBy job painted tiles grid answers moves
  pub parts : PartsBy (side_cutting job) (IsDeepBy job grid answers) number groups tiles moves
