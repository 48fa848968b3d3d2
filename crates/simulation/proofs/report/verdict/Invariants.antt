use Rattle.std.proofs.Common.{◌≡◌, drop}
use Rattle.simulation.specs.Simulated.{verdict_of}
use Rattle.simulation.proofs.report.verdict.Given as goal

-- no finding so far has a first move
abbrev pub invariant-loop-finding : goal.invariant-loop-finding
invariant-loop-finding l = verdict_of (drop l.finding-index l.findings.items) ≡ verdict_of l.findings.items
