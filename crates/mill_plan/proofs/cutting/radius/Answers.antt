use Rattle.std.proofs.Common.{pos, ◌≤ℤ◌, sym, subst, rules}
use Rattle.std.proofs.lemmas.Int.{to_z-of_z}
use mir.Syntax.{w64}
use mir.Val.{SFits}
use Rattle.job_file.specs.Checks.{radius_of}
use Rattle.mill_plan.proofs.JobLaws.{job_radius}
use Rattle.mill_plan.proofs.cutting.radius.Goals as goal

pub returns-clause-value : goal.returns-clause-value
unfolding radius_of
returns-clause-value c =
    let wide : SFits w64 c.args.job.now.mill_diameters = search rules in
    let made : SFits w64 c.div_euclid.result = search rules in
    simp to_z-of_z (simp to_z-of_z at c.div_euclid.ensures)

pub returns-clause-low : goal.returns-clause-low
returns-clause-low c = subst (λ r. pos 10000 ≤ℤ r) (sym (returns-clause-value c)) (job_radius c.args.job.now.mill_diameters c.requires.ranges.mill_diameters).low

pub returns-clause-high : goal.returns-clause-high
returns-clause-high c = subst (λ r. r ≤ℤ pos 5000000) (sym (returns-clause-value c)) (job_radius c.args.job.now.mill_diameters c.requires.ranges.mill_diameters).high
