use Rattle.std.proofs.Common.{◌≡◌, take}
use Rattle.std.specs.Prelude.{string_bytes}
use Rattle.simulation.specs.Simulated.{run_lines}
use Rattle.simulation.proofs.report.run_lines.Given as goal

-- the lines so far are those of the findings so far
abbrev pub invariant-loop-finding : goal.invariant-loop-finding
invariant-loop-finding l = string_bytes l.text ≡ run_lines l.fn.moves (take l.finding-index l.findings.items)
