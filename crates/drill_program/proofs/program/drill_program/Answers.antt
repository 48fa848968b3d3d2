use Rattle.std.proofs.Common.{None, sym, subst, rules}
use Rattle.std.proofs.lemmas.Int.{to_z-of_z}
use mir.Syntax.{w64}
use mir.Val.{SFits}
use Rattle.mill_program.specs.Conditions.{IsProgram, IsRunnable}
use Rattle.drill_program.specs.Program.{program_of}
use Rattle.drill_program.proofs.ProgramLaws.{program_in, program_runs}
use Rattle.drill_program.proofs.program.drill_program.Goals as goal

pub returns-clause-program : goal.returns-clause-program
unfolding program_of
returns-clause-program c =
    let job = c.args.job.now in
    let safe : SFits w64 c.args.job.now.zsafe = search rules in
    let change : SFits w64 c.args.job.now.zchange = search rules in
    simp to_z-of_z
    (subst (λ runs. IsProgram (record { safe = job.zsafe; change = job.zchange; runs = runs; grid = None })) (sym c.in_ok-runs.ensures) (program_in job c.requires.ranges c.args.plan.now c.requires.limits))

pub returns-clause-runs : goal.returns-clause-runs
unfolding program_of
returns-clause-runs c =
    let job = c.args.job.now in
    let safe : SFits w64 c.args.job.now.zsafe = search rules in
    let change : SFits w64 c.args.job.now.zchange = search rules in
    simp to_z-of_z
    (subst (λ runs. IsRunnable (record { safe = job.zsafe; change = job.zchange; runs = runs; grid = None })) (sym c.in_ok-runs.ensures) (program_runs job c.requires.ranges c.args.plan.now c.requires.change))
