use Rattle.std.proofs.Common.{append_assoc, sym}
use Rattle.endings.proofs.lines.ngc_line.Goals as goal

pub returns : goal.returns
returns c = simp append_assoc (rw (sym c.name_of-place.ensures, sym c.name_of_either-kind.ensures) c.in_ok-format.ensures.ok)
