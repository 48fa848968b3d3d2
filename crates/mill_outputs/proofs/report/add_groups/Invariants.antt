use Rattle.std.proofs.Common.{◌≡◌, ◌++◌, take}
use Rattle.mill_outputs.specs.Report.{joined_lines}
use Rattle.mill_outputs.proofs.report.add_groups.Given as goal

abbrev pub invariant-loop-group : goal.invariant-loop-group
invariant-loop-group l = l.bytes.items ≡ l.fn.bytes.items ++ joined_lines l.name (take l.group-index l.groups.items)
