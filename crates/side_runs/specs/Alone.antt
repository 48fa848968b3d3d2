-- What the words for tiles say of the board alone, and which tiles are apart.
use Rattle.std.specs.Prelude.{◌≡◌, ◌↔◌, ℕ, ◌≤◌, ℤ, pos, ◌*ℤ◌, unsigned_abs, true, List, [], ◌∷◌, map}
use Rattle.board_base.specs.declared.places.Cell.{Cell}
use Rattle.board_base.specs.declared.places.Move.{Move}
use Rattle.board_base.specs.Lattice.{centre_of}
use Rattle.cell_grid.specs.declared.frames.Frame.{Frame}
use Rattle.shape_parts.specs.declared.shape.Painted.{Painted}
use Rattle.shape_parts.specs.Cover.{is_dark}
use Rattle.rs274_sim.specs.Cutter.{nanometre, NoBite, IsPassed}
use Rattle.mill_program.specs.declared.cuts.Program.{Program}
use Rattle.tiling.specs.Copies.{Tile, first_tile, tiled_in, tiles_of}
use Rattle.job_file.specs.declared.job.Job.{Job}
use Rattle.mill_plan.specs.declared.cutting.Cutting.{Cutting}
use Rattle.mill_plan.specs.Cutting.{bite_of, side_cutting, IsVisited}
use Rattle.mill_plan.specs.Isolated.{PartsOthers}
use Rattle.side_runs.specs.Sides.{AreApart, NoBiteIn, PassesIn, PartsTiles}
use Rattle.side_runs.specs.SideStrokes.{wanted_walk, wants_along}

-- the board alone
abbrev pub alone : List Tile
alone = first_tile ∷ []

-- in one tile a program is as it stands, and what is said of tiles is said of the board
pub record AloneLaw : Type 0 where
  pub apart : (f : Frame) → AreApart f alone
  pub program : (pitch : ℤ) (p : Program) → tiled_in pitch alone p ≡ p
  pub no_bite : (job : Job) (painted : List Painted) (moves : List Move)
      → NoBiteIn job painted alone moves ↔ NoBite (job.zsafe *ℤ nanometre) (λ q. is_dark q painted ≡ true) (bite_of (side_cutting job)) moves
  pub passes : (job : Job) (painted : List Painted) (moves : List Move)
      → PassesIn job painted alone moves ↔ ((c : Cell) → IsPassed (job.zwork *ℤ nanometre) moves (centre_of job.pitch c) (pos 0) ↔ IsVisited (side_cutting job) painted c)
  pub parts : (k : Cutting) (depth : ℤ) (number : Cell → ℕ) (groups : List (List ℕ)) (moves : List Move) → PartsTiles k depth number groups alone moves ↔ PartsOthers k depth number groups moves
  pub wants : (job : Job) (walks : List (List Cell)) → wants_along job alone walks ≡ map (wanted_walk job) walks

-- tiles in rows, to either side, are apart where the steps are no smaller than the frame
abbrev pub ApartLaw : Type 0
ApartLaw = (f : Frame) (across up : ℕ) (step : Tile) → f.width ≤ unsigned_abs step.east → f.height ≤ unsigned_abs step.north → AreApart f (tiles_of across up step)
