-- The grid of the front's probes, and the one tile of a job that levels the front.
use Rattle.std.proofs.Common.{◌≡◌, ℕ, ◌*◌, ◌≤◌, ℤ, Bool, true, false, Option, Some, None, Result, Ok, Err, refl, sym, ap, ◌∙◌, arith}
use Rattle.std.specs.Prelude.{if◌then◌else◌, MatchBool}
use Rattle.std.proofs.Math.Nat.{mul-le-mul_left}
use Rattle.cell_grid.specs.declared.frames.Frame.{Frame}
use Rattle.mill_program.specs.declared.probes.ProbeGrid.{ProbeGrid}
use Rattle.levelling.specs.declared.grids.TooManyProbes.{TooManyProbes}
use Rattle.levelling.specs.Grids.{grid_of}
use Rattle.job_file.specs.declared.job.Job.{Job}
use Rattle.side_levels.specs.Probed.{IsGridOver}
use Rattle.mill_plan.specs.declared.limits.LimitHit.{LimitHit}
use Rattle.mill_plan.specs.declared.limits.LimitHit.TheVariants as hits
use Rattle.endings.specs.declared.status.Status.{Status}
use Rattle.endings.specs.declared.status.Status.TheVariants.{Limit}
use Rattle.mill_outputs.specs.Written.{grid_or_limit, front_grid}

-- ---- the grid

-- the grid is the job's over the frame, where the job levels the front, and else there is none
abbrev pub IsGridFor : Job → Frame → Option ProbeGrid → Type 0
IsGridFor job f grid = MatchBool job.al_front ((g : ProbeGrid) × IsGridOver job f g × (grid ≡ Some g)) (grid ≡ None)

pub probed_is : (job : Job) (f : Frame) (grid : Option ProbeGrid) → front_grid job (Some f) ≡ Ok grid → IsGridFor job f grid
unfolding front_grid
probed_is job f grid e = by job.al_front (grid_of f job.al_x job.al_y job.al_range job.al_probefeed) grid e
  where
    same : (a b : Option ProbeGrid) → ◌≡◌ {A = Result (Option ProbeGrid) Status} (Ok a) (Ok b) → b ≡ a
    same a b e = cc

    apart : (s : Status) (a : Option ProbeGrid) → ◌≡◌ {A = Result (Option ProbeGrid) Status} (Err s) (Ok a) → ⊥
    apart s a e = cc

    by : (b : Bool) (r : Result ProbeGrid TooManyProbes) (grid : Option ProbeGrid) → (if b then grid_or_limit r else Ok None) ≡ Ok grid → MatchBool b ((g : ProbeGrid) × (r ≡ Ok g) × (grid ≡ Some g)) (grid ≡ None)
    by true (Ok g) grid e = (g, refl, same (Some g) grid e)
    by true (Err many) grid e = absurd (apart (Limit (hits.Probes many.count)) grid e)
    by false r grid e = same None grid e

-- a grid that is there is that of a job that levels the front
pub asked_for : (job : Job) (f : Frame) (g : ProbeGrid) → IsGridFor job f (Some g) → (job.al_front ≡ true) × IsGridOver job f g
asked_for job f g is = by job.al_front (grid_of f job.al_x job.al_y job.al_range job.al_probefeed) is
  where
    got : (g h : ProbeGrid) → ◌≡◌ {A = Option ProbeGrid} (Some g) (Some h) → h ≡ g
    got g h e = cc

    none : (g : ProbeGrid) → ◌≡◌ {A = Option ProbeGrid} (Some g) None → ⊥
    none g e = cc

    by : (b : Bool) (r : Result ProbeGrid TooManyProbes) → MatchBool b ((h : ProbeGrid) × (r ≡ Ok h) × (Some g ≡ Some h)) (Some g ≡ None) → (b ≡ true) × (r ≡ Ok g)
    by true r is = (refl, is.1 ∙ ap Ok (got g is.0 is.2))
    by false r is = absurd (none g is)

-- the only refusal is that of too many probes
pub grid_refusal : (job : Job) (f : Option Frame) (status : Status) → front_grid job f ≡ Err status → (hit : LimitHit) × (status ≡ Limit hit)
unfolding front_grid
grid_refusal job None status e = absurd (never None status e)
  where
    never : (a : Option ProbeGrid) (status : Status) → ◌≡◌ {A = Result (Option ProbeGrid) Status} (Ok a) (Err status) → ⊥
    never a status e = cc
grid_refusal job (Some f) status e = by job.al_front (grid_of f job.al_x job.al_y job.al_range job.al_probefeed) e
  where
    never : (a : Option ProbeGrid) (status : Status) → ◌≡◌ {A = Result (Option ProbeGrid) Status} (Ok a) (Err status) → ⊥
    never a status e = cc

    same : (s t : Status) → ◌≡◌ {A = Result (Option ProbeGrid) Status} (Err s) (Err t) → t ≡ s
    same s t e = cc

    by : (b : Bool) (r : Result ProbeGrid TooManyProbes) → (if b then grid_or_limit r else Ok None) ≡ Err status → (hit : LimitHit) × (status ≡ Limit hit)
    by true (Ok g) e = absurd (never (Some g) status e)
    by true (Err many) e = (hits.Probes many.count, same (Limit (hits.Probes many.count)) status e)
    by false r e = absurd (never None status e)

-- ---- one tile

-- two numbers above 0 whose product is at most 1
pub both_one : (a b : ℕ) → 1 ≤ a → 1 ≤ b → a * b ≤ 1 → (a ≡ 1) × (b ≡ 1)
both_one a b la lb few = (one, other)
  where
    one : a ≡ 1
    one =
        let more : a * 1 ≤ a * b = mul-le-mul_left a lb in
        omega (arith, la, few, more)

    other : b ≡ 1
    other =
        let is : a * b ≡ 1 * b = ap (λ (n : ℕ). n * b) one in
        omega (arith, lb, few, is)
