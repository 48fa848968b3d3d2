use Rattle.std.proofs.Common.{◌++◌, ap, ◌∙◌}
use Rattle.mill_program.specs.Lines.{words, mode_line, foot_lines}
use Rattle.std.specs.List.{flat_map}
use Rattle.mill_program.specs.GridLines.{run_over}
use Rattle.grid_writer.specs.Spelling.{line_bytes, text_over}
use Rattle.grid_writer.proofs.TextLaws.{program_text, surface_of_written, runs_of_written}
use Rattle.grid_writer.proofs.program.write_over.Goals as goal

pub write_runs-requires-clause-grid : goal.write_runs-requires-clause-grid
write_runs-requires-clause-grid c = surface_of_written c.args.program.now c.requires

pub write_runs-requires-clause-runs : goal.write_runs-requires-clause-runs
write_runs-requires-clause-runs c = runs_of_written c.args.program.now c.requires

pub returns : goal.returns
returns c =
    let p = c.args.program.now in
    let mode = line_bytes (words mode_line) in
    let runs = flat_map (λ run. text_over (run_over p.grid p.safe p.change run)) p.runs in
    c.in_ok-write_foot.ensures
    ∙ ap (λ t. t ++ text_over (foot_lines p.change)) (c.in_ok-write_runs.ensures ∙ ap (λ t. t ++ runs) (c.in_ok-write_mode.ensures ∙ ap (λ t. t ++ mode) c.new-bytes.ensures.items))
    ∙ program_text p
