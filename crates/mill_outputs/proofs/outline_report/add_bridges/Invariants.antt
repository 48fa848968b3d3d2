use Rattle.std.proofs.Common.{◌≡◌, ◌++◌, take, flat_map}
use Rattle.mill_outputs.specs.Report.{bridge_line}
use Rattle.mill_outputs.proofs.outline_report.add_bridges.Given as goal

abbrev pub invariant-loop-bridge : goal.invariant-loop-bridge
invariant-loop-bridge l = l.bytes.items ≡ l.fn.bytes.items ++ flat_map bridge_line (take l.bridge-index l.bridges.items)
