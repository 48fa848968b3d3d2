use Rattle.std.proofs.Common.{◌≡◌, ◌++◌, take}
use Rattle.mill_outputs.specs.Report.{numbers_text}
use Rattle.mill_outputs.proofs.report.add_numbers.Given as goal

abbrev pub invariant-loop-k : goal.invariant-loop-k
invariant-loop-k l = l.bytes.items ≡ l.fn.bytes.items ++ numbers_text (take l.k l.group)
