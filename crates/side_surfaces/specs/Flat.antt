-- Without a grid, what is said over a surface is what is said of a side's program as it stands.
use Rattle.std.specs.Prelude.{◌≡◌, ℕ, ℤ, List, None}
use Rattle.board_base.specs.declared.places.Cell.{Cell}
use Rattle.board_base.specs.declared.places.Move.{Move}
use Rattle.shape_parts.specs.declared.shape.Painted.{Painted}
use Rattle.tiling.specs.Copies.{Tile}
use Rattle.job_file.specs.declared.job.Job.{Job}
use Rattle.side_runs.specs.Sides.{MillsTiles}
use Rattle.side_runs.specs.SideStrokes.{wants_along}
use Rattle.side_surfaces.specs.Sides.{MillsBy}
use Rattle.side_surfaces.specs.Strokes.{wants_by}

pub record FlatSideLaw : Type 0 where
  pub mills : (job : Job) (painted : List Painted) (number : Cell → ℕ) (groups : List (List ℕ)) (tiles : List Tile) (answers : List ℤ) (moves : List Move)
      → MillsTiles job painted number groups tiles moves → MillsBy job painted number groups tiles None answers moves
  pub wants : (job : Job) (tiles : List Tile) (walks : List (List Cell)) (answers : List ℤ) → wants_by job None answers tiles walks ≡ wants_along job tiles walks
