use Rattle.std.proofs.Common.{◌≡◌, map, take}
use Rattle.std.specs.List.{enumerate_from}
use Rattle.drill_program.specs.Program.{tool_run}
use Rattle.drill_program.proofs.program.tool_runs.Given as goal

abbrev pub invariant-tools : goal.invariant-tools
invariant-tools l = record {
  number : l.number ≡ l.tool-index;
  runs : l.runs ≡ map (λ t. tool_run l.job t.0 t.1) (enumerate_from 1 (take l.tool-index l.plan));
}
