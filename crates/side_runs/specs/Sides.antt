-- What the run of a side's program in tiles does to the copies of the board.
use Rattle.std.specs.Prelude.{◌≡◌, ◌≢◌, ◌↔◌, ℕ, ◌<◌, ℤ, pos, ◌*ℤ◌, true, List, length, slice_index_or}
use Rattle.std.specs.List.{Contains}
use Rattle.board_base.specs.declared.places.Cell.{Cell}
use Rattle.board_base.specs.declared.places.Point.{Point}
use Rattle.board_base.specs.declared.places.Move.{Move}
use Rattle.board_base.specs.Lattice.{centre_of}
use Rattle.cell_sets.specs.Chains.{IsLinkedOver}
use Rattle.cell_sets.specs.Groups.{IsListedPair}
use Rattle.cell_grid.specs.declared.frames.Frame.{Frame}
use Rattle.cell_grid.specs.Cells.{in_frame}
use Rattle.shape_parts.specs.declared.shape.Painted.{Painted}
use Rattle.shape_parts.specs.Cover.{is_dark}
use Rattle.rs274_sim.specs.Cutter.{nanometre, NoBite, IsPassed}
use Rattle.rs274_sim.specs.Runs.{RunsTo}
use Rattle.mill_program.specs.Conditions.{IsProgram, IsRunnable}
use Rattle.mill_program.specs.Lines.{lines_of}
use Rattle.tiling.specs.Copies.{Tile, first_tile, shift_in, cell_in, point_in, tiled_in}
use Rattle.job_file.specs.declared.job.Job.{Job}
use Rattle.mill_plan.specs.declared.cutting.Cutting.{Cutting}
use Rattle.mill_plan.specs.declared.isolation.Isolation.{Isolation}
use Rattle.mill_plan.specs.Job.{IsSideJob}
use Rattle.mill_plan.specs.Cutting.{bite_of, side_cutting, IsVisited}
use Rattle.mill_plan.specs.Mills.{IsWhollySwept}
use Rattle.mill_plan.specs.Isolated.{IsIsolationOf}

-- ---- the tiles

-- the tile at a place of the list
abbrev pub nth_tile : List Tile → ℕ → Tile
nth_tile tiles n = slice_index_or tiles n first_tile

-- the frame's copies at two places of the list have no cell in common
abbrev pub AreApart : Frame → List Tile → Type 0
AreApart f tiles =
    (m n : ℕ) → m < n → n < length tiles → (c d : Cell) → in_frame f c ≡ true → in_frame f d ≡ true → cell_in (nth_tile tiles m) c ≢ cell_in (nth_tile tiles n) d

-- the point is the copy of a dark one in some tile
pub record IsDarkCopy (pitch : ℤ) (painted : List Painted) (tiles : List Tile) (q : Point) : Type 0 where
  pub tile : Tile
  pub there : Contains tiles tile
  pub of : Point
  pub dark : is_dark of painted ≡ true
  pub is : q ≡ point_in (shift_in pitch tile) of

-- the cell is the copy of a visited one in some tile
pub record IsVisitedCopy (k : Cutting) (painted : List Painted) (tiles : List Tile) (c : Cell) : Type 0 where
  pub tile : Tile
  pub there : Contains tiles tile
  pub of : Cell
  pub visited : IsVisited k painted of
  pub is : c ≡ cell_in tile of

-- a chain of free cells leads from the copy of island u in the one tile to that of island v in the other
abbrev pub AreJoinedIn : (Cell → Type 0) → (Cell → ℕ) → Tile → ℕ → Tile → ℕ → Type 0
AreJoinedIn Free number s u t v = (a b : Cell) × (number a ≡ u) × (number b ≡ v) × IsLinkedOver Free (cell_in s a) (cell_in t b)

-- ---- what the run does

-- no dark point's copy is bitten
abbrev pub NoBiteIn : Job → List Painted → List Tile → List Move → Type 0
NoBiteIn job painted tiles moves = NoBite (job.zsafe *ℤ nanometre) (IsDarkCopy job.pitch painted tiles) (bite_of (side_cutting job)) moves

-- the copies of the visited cells are passed, and no others
abbrev pub PassesIn : Job → List Painted → List Tile → List Move → Type 0
PassesIn job painted tiles moves = (c : Cell) → IsPassed (job.zwork *ℤ nanometre) moves (centre_of job.pitch c) (pos 0) ↔ IsVisitedCopy (side_cutting job) painted tiles c

-- where cells not wholly swept by these moves join copies of two islands, they are in one tile, and are one island or stand in
-- one group
abbrev pub PartsTiles : Cutting → ℤ → (Cell → ℕ) → List (List ℕ) → List Tile → List Move → Type 0
PartsTiles k depth number groups tiles moves =
    (s t : Tile) (u v : ℕ) → Contains tiles s → Contains tiles t → 0 < u → 0 < v → AreJoinedIn (λ c. IsWhollySwept k depth moves c → ⊥) number s u t v
    → (s ≡ t) × (u ≢ v → IsListedPair groups u v)

-- all of it
pub record MillsTiles (job : Job) (painted : List Painted) (number : Cell → ℕ) (groups : List (List ℕ)) (tiles : List Tile) (moves : List Move) : Type 0 where
  pub no_bite : NoBiteIn job painted tiles moves
  pub passes : PassesIn job painted tiles moves
  pub parts : PartsTiles (side_cutting job) job.zwork number groups tiles moves

-- Where the copies of the frame are apart, the run of a side's program in tiles does to each copy what the program as it
-- stands does to the board, with the numbering and the groups of the plan.
abbrev pub TiledSideLaw : Type 0
TiledSideLaw =
    (job : Job) (painted : List Painted) (plan : Isolation) (tiles : List Tile) → IsSideJob job → (isolation : IsIsolationOf job painted plan) → AreApart plan.frame tiles
    → IsProgram (tiled_in job.pitch tiles plan.program) → IsRunnable (tiled_in job.pitch tiles plan.program)
    → RunsTo (lines_of (tiled_in job.pitch tiles plan.program)) (MillsTiles job painted isolation.number plan.groups.items tiles)
