use Rattle.std.proofs.Common.{◌++◌, ap, ◌∙◌, rules, ◌<◌, length}
use Rattle.mill_program.specs.declared.cuts.ToolRun.{ToolRun}
use Rattle.mill_program.specs.GridLines.{run_over}
use Rattle.mill_program.proofs.ListLaws.{more_of}
use Rattle.grid_writer.specs.Spelling.{text_over}
use Rattle.grid_writer.proofs.program.write_runs.Goals as goal

pub loop-run-preserved : goal.loop-run-preserved
loop-run-preserved c =
    let p = c.args.p.now in
    let inside : c.loop-run.run-index < length p.runs = search rules in
    c.in_ok-write_run.ensures ∙ ap (λ t. t ++ text_over (run_over p.grid p.safe p.change c.run-item.result)) c.loop-run.invariant
    ∙ more_of (λ (run : ToolRun). text_over (run_over p.grid p.safe p.change run)) p.runs c.loop-run.run-index c.run-item.result c.args.out.now.items inside (search rules)
