use Rattle.std.proofs.Common.{◌≡◌, ◌++◌, take, flat_map}
use Rattle.std.specs.List.{enumerate_from}
use Rattle.mill_outputs.specs.Report.{tool_line}
use Rattle.mill_outputs.proofs.drill_report.add_tools.Given as goal

abbrev pub invariant-tools : goal.invariant-tools
invariant-tools l = record {
  number : l.number ≡ l.tool-index;
  bytes : l.bytes.items ≡ l.fn.bytes.items ++ flat_map (λ t. tool_line t.0 t.1) (enumerate_from 1 (take l.tool-index l.plan));
}
