-- The outline of a job: its cutting, the levels that are cut, and the bridges that are left.
use Rattle.std.specs.Prelude.{◌≡◌, ℕ, ◌+◌, ◌-◌, ◌/◌, ℤ, pos, neg_ℤ, ◌+ℤ◌, ◌*ℤ◌, ◌≤ℤ◌, unsigned_abs, int_lt, true, cond, is_some, List, [], map, Option, None}
use Rattle.std.specs.List.{range_with_len}
use Rattle.std.specs.Int.{int_max}
use Rattle.board_base.specs.declared.places.Cell.{Cell}
use Rattle.board_base.specs.declared.places.Point.{Point}
use Rattle.board_base.specs.declared.places.Side.{Side}
use Rattle.outline_bridges.specs.Bridges.{bridges_of}
use Rattle.job_file.specs.declared.job.Job.{Job}
use Rattle.job_file.specs.Checks.{radius_of}
use Rattle.job_file.specs.Ranges.{IsInRanges}
use Rattle.job_file.specs.Together.{GoTogether}
use Rattle.mill_plan.specs.declared.cutting.Cutting.{Cutting}

-- a job with an outline, whose values are in their ranges and go together
pub record IsOutlineJob (job : Job) : Type 0 where
  pub ranges : IsInRanges job
  pub checked : Option Side
  pub together : GoTogether checked job
  pub outline : is_some job.outline ≡ true

-- one pass round the board, into which the cutter doesn't reach, and nothing cleared
unfoldable pub outline_cutting : Job → Cutting
outline_cutting job = record {
  pitch = job.pitch;
  radius = radius_of job.cutter_diameter;
  tolerance = pos 0;
  step = pos 0;
  last = 0;
  stride = None;
}

-- ---- levels

-- as many infeeds as reach down to the depth
unfoldable pub count_levels : ℕ → ℕ → ℕ
count_levels infeed depth = (depth + infeed - 1) / infeed

-- how many levels there are
abbrev pub levels_count : Job → ℕ
levels_count job = count_levels (unsigned_abs job.cut_infeed) (unsigned_abs job.zcut)

-- level k, from 0: k + 1 infeeds down, and no deeper than the last
unfoldable pub level_at : Job → ℕ → ℤ
level_at job k = int_max job.zcut (neg_ℤ (pos (k + 1) *ℤ job.cut_infeed))

-- the levels, one below the other, the last at the depth of the cut
abbrev pub levels_of : Job → List ℤ
levels_of job = map (level_at job) (range_with_len 0 (levels_count job))

-- a way down that a number of infeeds may come to, in nanometres
pub record IsDown (z : ℤ) : Type 0 where
  pub low : pos 0 ≤ℤ z
  pub high : z ≤ℤ pos 300000000000000000

-- ---- bridges

-- twice the distance from a bridge within which a cut is lifted
unfoldable pub bridge_width : Job → ℤ
bridge_width job = job.bridges +ℤ job.cutter_diameter

-- the bridges on walks, where the job has bridges
abbrev pub listed_bridges : Job → List (List Cell) → List Point
listed_bridges job walks = cond (int_lt (pos 0) job.bridges) (bridges_of job.pitch job.bridgesnum walks) []
