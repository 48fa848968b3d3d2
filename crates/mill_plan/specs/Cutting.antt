-- How a cutter isolates, and which cells it visits.
use Rattle.std.specs.Prelude.{◌≡◌, ℕ, ◌<◌, ◌≤◌, ℤ, pos, ◌+ℤ◌, ◌-ℤ◌, ◌*ℤ◌, ◌≤ℤ◌, ◌<ℤ◌, unsigned_abs, nat_le, int_le, ◌&&◌, cond, Bool, List, Option, Some, None, MatchOption, IfSome}
use Rattle.std.specs.Int.{int_div_euclid}
use Rattle.board_base.specs.declared.places.Cell.{Cell}
use Rattle.board_base.specs.declared.places.CellBox.{CellBox}
use Rattle.board_base.specs.Lattice.{IsPitch, half_diagonal_of, least}
use Rattle.cell_sets.specs.Contour.{reach_of}
use Rattle.cell_sets.specs.Cleared.{stride_of}
use Rattle.cell_sets.specs.Passes.{ClearingRows, guard_at, IsVisitedBy, IsCleared}
use Rattle.cell_grid.specs.Boxes.{HoldsCentres}
use Rattle.shape_parts.specs.declared.shape.Painted.{Painted}
use Rattle.copper_cover.specs.Kept.{keeps, dark_rectangle}
use Rattle.job_file.specs.declared.job.Job.{Job}
use Rattle.job_file.specs.Checks.{radius_of}
use Rattle.mill_plan.specs.declared.cutting.Cutting.{Cutting}

-- ---- distances

-- how near the cutter's axis may come to the copper
unfoldable pub bite_of : Cutting → ℤ
bite_of k = k.radius -ℤ k.tolerance

-- the squared index distance that a cell of a pass must pass: a step farther out for each pass
unfoldable pub guard : Cutting → ℕ → ℤ
guard k pass = guard_at (reach_of k.radius k.tolerance (half_diagonal_of k.pitch)) k.step k.pitch pass

-- the squared index distance up to which a visited centre sweeps cells wholly
unfoldable pub sweep_of : Cutting → ℕ
sweep_of k = unsigned_abs (int_div_euclid ((k.radius -ℤ half_diagonal_of k.pitch) *ℤ (k.radius -ℤ half_diagonal_of k.pitch)) (k.pitch *ℤ k.pitch))

-- twice the distance up to which a visited centre sweeps cells wholly
unfoldable pub width_swept : Cutting → ℤ
width_swept k = pos 2 *ℤ (k.radius -ℤ half_diagonal_of k.pitch)

-- ---- cells

-- the objects keep the cell
abbrev pub kept_by : Cutting → List Painted → Cell → Bool
kept_by k painted = keeps k.pitch painted

-- the rows that are cleared, where some are: those of the box of the cells whose centres lie in the dark rectangle, grown
-- by half of a cell's diagonal
abbrev pub AreClearingRows : Cutting → List Painted → Option ClearingRows → Type 0
AreClearingRows k painted rows =
    MatchOption k.stride (rows ≡ None) (λ stride. MatchOption (dark_rectangle painted) (rows ≡ None) (λ b.
    (inner : CellBox) × HoldsCentres k.pitch (half_diagonal_of k.pitch) b inner × (rows ≡ Some (record { inner = inner; stride = stride }))))

-- the cell is allowed, and on a clearing row
abbrev pub IsClearedBy : Cutting → List Painted → Cell → Type 0
IsClearedBy k painted c = (rows : Option ClearingRows) × AreClearingRows k painted rows × IsCleared (guard k 0) rows (kept_by k painted) c

-- the cell is on the contour of one of the passes, or cleared
abbrev pub IsVisited : Cutting → List Painted → Cell → Type 0
IsVisited k painted c = (rows : Option ClearingRows) × AreClearingRows k painted rows × IsVisitedBy (guard k) k.last rows (kept_by k painted) c

-- ---- the cutting of a side

-- from pass to pass: the cutter's diameter less the overlap
unfoldable pub step_of : Job → ℤ
step_of job = int_div_euclid (pos 2 *ℤ radius_of job.mill_diameters *ℤ (pos 100 -ℤ pos job.milling_overlap)) (pos 100)

-- so many passes past the first make the isolation as wide as the job asks
abbrev pub is_wide_enough : Job → ℕ → Bool
is_wide_enough job n = int_le job.isolation_width (pos 2 *ℤ radius_of job.mill_diameters +ℤ pos n *ℤ step_of job)

-- the most passes that an isolation needs: 10 mm, by steps of a hundredth of 0.02 mm
abbrev pub most_passes : ℕ
most_passes = 50000

-- the passes past the first: the least number that is no less than the job's and makes the isolation wide enough
unfoldable pub last_of : Job → ℕ
last_of job = least (λ n. nat_le job.extra_passes n && is_wide_enough job n) most_passes

-- the cutting that a job gives its sides
unfoldable pub side_cutting : Job → Cutting
side_cutting job = record {
  pitch = job.pitch;
  radius = radius_of job.mill_diameters;
  tolerance = job.tolerance;
  step = step_of job;
  last = last_of job;
  stride = cond job.clear (Some (stride_of job.pitch (half_diagonal_of job.pitch) (radius_of job.mill_diameters) job.milling_overlap)) None;
}

-- ---- what a cutting may be

pub record IsCutting (k : Cutting) : Type 0 where
  pub pitch : IsPitch k.pitch
  pub wide : pos 2000 ≤ℤ k.pitch
  pub whole : k.pitch ≡ pos 2000 *ℤ int_div_euclid k.pitch (pos 2000)
  pub thin : pos 10000 ≤ℤ k.radius
  pub thick : k.radius ≤ℤ pos 10000000
  pub some_tolerance : pos 0 ≤ℤ k.tolerance
  pub less_tolerance : k.tolerance <ℤ k.radius
  pub fine : half_diagonal_of k.pitch <ℤ k.radius
  pub some_step : pos 0 ≤ℤ k.step
  pub few : k.last ≤ most_passes
  pub near : (pos k.last *ℤ k.step) ≤ℤ pos 500000000
  pub stride : IfSome k.stride (λ n. 0 < n)
