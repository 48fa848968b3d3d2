use Rattle.cell_grid.specs.Cells.{in_plane}
use Rattle.mill_plan.proofs.MeasureLaws.{plane_inside}
use Rattle.mill_plan.proofs.ProgramLaws.{runs_traced}
use Rattle.mill_plan.proofs.passes.add_runs.Goals as goal

pub add_cuts-requires-clause-traces : goal.add_cuts-requires-clause-traces
add_cuts-requires-clause-traces c =
    runs_traced c.args.job.now.pitch (in_plane c.args.bench.now.frame c.args.bench.now.pass) c.in_ok-runs.runs.items c.in_ok-runs.ensures c.row_run_law.ensures
    (λ d on. c.requires.places d (plane_inside c.args.bench.now.frame c.args.bench.now.pass d on))

pub returns : goal.returns
returns c = record { runs = c.in_ok-runs.runs.items; are = c.in_ok-runs.ensures; is = c.in_ok-add_cuts.ensures }
