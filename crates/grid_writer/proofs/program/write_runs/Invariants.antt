use Rattle.std.proofs.Common.{◌≡◌, ◌++◌, take}
use Rattle.std.specs.List.{flat_map}
use Rattle.mill_program.specs.GridLines.{run_over}
use Rattle.grid_writer.specs.Spelling.{text_over}
use Rattle.grid_writer.proofs.program.write_runs.Given as goal

abbrev pub invariant-loop-run : goal.invariant-loop-run
invariant-loop-run l = l.out.items ≡ l.fn.out.items ++ flat_map (λ run. text_over (run_over l.p.grid l.p.safe l.p.change run)) (take l.run-index l.p.runs)
