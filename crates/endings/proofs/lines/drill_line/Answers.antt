use Rattle.std.proofs.Common.{append_assoc, sym}
use Rattle.endings.proofs.lines.drill_line.Goals as goal

pub returns : goal.returns
returns c = simp append_assoc (rw (sym c.name_of_drill-kind.ensures) c.in_ok-format.ensures.ok)
