-- What the program of the holes does, from the drill list to the bytes.
use Rattle.std.proofs.Common.{◌≡◌, List, map, Option, Some, None, Ok}
use Rattle.std.specs.Prelude.{◌≤ℤ◌, IfSome}
use Rattle.excellon.specs.Fits.{IsDrilled}
use Rattle.excellon.specs.declared.file.DrillFile.{DrillFile}
use Rattle.drill_plan.specs.declared.plans.ToolPlan.{ToolPlan}
use Rattle.drill_plan.specs.Plan.{IsDrillPlan}
use Rattle.drill_plan.specs.Limits.{IsWithinLimits, FewDiametersLaw}
use Rattle.drill_plan.specs.Laws.{LimitsLaw}
use Rattle.drill_program.specs.Program.{program_of}
use Rattle.drill_program.specs.Tiled.{AreDrilledIn, TiledHolesLaw}
use Rattle.drill_program.proofs.ProgramLaws.{program_in, program_runs}
use Rattle.mill_program.specs.declared.cuts.Program.{Program}
use Rattle.grid_writer.specs.Laws.{SpellingOverLaw}
use Rattle.tiling.specs.Copies.{Tile, shift_in}
use Rattle.job_file.specs.declared.job.Job.{Job}
use Rattle.job_file.specs.Ranges.{IsInRanges}
use Rattle.mill_inputs.specs.Accepted.{Accepts, IsDrillOf}
use Rattle.mill_outputs.specs.declared.plans.Plans.{Plans}
use Rattle.mill_outputs.specs.Planned.{ArePlanned}
use Rattle.mill_outputs.specs.Written.{tiles_by, in_tiles}
use Rattle.mill_outputs.specs.Headline.{drilling, DrillsHoles}
use Rattle.mill_outputs.proofs.PlanLaws.{Drills, planned_drill}
use Rattle.mill_outputs.proofs.TileLaws.{TilingLaws, made_tiled, in_text}

-- what a job must be for the program of the holes
pub record IsJobOfHoles (job : Job) : Type 0 where
  pub ranges : IsInRanges job
  pub change : job.zsafe ≤ℤ job.zchange

-- a drill list that is there is within its limits
abbrev pub AreWithin : Option (List ToolPlan) → Type 0
AreWithin plan = IfSome plan IsWithinLimits

-- the drill list of a file that was read is
drill_within : FewDiametersLaw → LimitsLaw → (job : Job) (file : Option DrillFile) (plan : Option (List ToolPlan)) → IfSome file IsDrilled → IsDrillOf file → Drills job file plan → AreWithin plan
drill_within few limits job None None ok stands d = tt
drill_within few limits job None (Some plan) ok stands d = absurd d
drill_within few limits job (Some file) None ok stands d = absurd d
drill_within few limits job (Some file) (Some plan) ok stands d = limits file job.drills_available plan ok (few stands.0 file stands.1) d

pub planned_within : FewDiametersLaw → LimitsLaw → (x : Accepts) (plans : Plans) → IfSome x.drill IsDrilled → IsDrillOf x.drill → ArePlanned x (Ok plans) → AreWithin plans.drill
planned_within few limits x plans ok stands planned = drill_within few limits x.job x.drill plans.drill ok stands (planned_drill x plans planned)

-- the laws of drill lists and of the runs of their programs
pub record HoleLaws : Type 0 where
  pub spelled : SpellingOverLaw
  pub few : FewDiametersLaw
  pub limits : LimitsLaw
  pub holes : TiledHolesLaw

-- what the run of the lines drills in tiles, the run of their text does
pub drills_holes : TilingLaws → HoleLaws → (job : Job) → IsJobOfHoles job → (by : Tile) (file : DrillFile) (plan : List ToolPlan) (q : Program) → IsDrillPlan file job.drills_available plan → IsWithinLimits plan
    → in_tiles job (shift_in job.pitch by) (program_of job plan) ≡ Ok q → DrillsHoles (drilling job (tiles_by job by) file plan q)
drills_holes tiling laws job ok by file plan q drills within e =
    let shifts = map (shift_in job.pitch) (tiles_by job by) in
    let tiled = made_tiled tiling job by (program_of job plan) q (program_in job ok.ranges plan within) (program_runs job ok.ranges plan ok.change) e in
    in_text laws.spelled job.pitch (tiles_by job by) (program_of job plan) q (AreDrilledIn job file plan shifts) tiled
    (laws.holes job file plan shifts ok.ranges ok.change within drills tiled.valid)
