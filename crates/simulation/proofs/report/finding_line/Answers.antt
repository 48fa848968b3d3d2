use Rattle.std.proofs.Common.{append_assoc}
use Rattle.simulation.proofs.report.finding_line.Goals as goal

pub returns-in_ok-format-in-None : goal.returns-in_ok-format-in-None
returns-in_ok-format-in-None c = simp append_assoc (rw c.in-None.is c.in_ok-format-in-None.ensures.ok)
