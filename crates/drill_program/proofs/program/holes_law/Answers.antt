use Rattle.drill_program.proofs.HoleLaws.{holes_law}
use Rattle.drill_program.proofs.program.holes_law.Goals as goal

pub returns : goal.returns
returns c = holes_law c.run_law.ensures c.stroke_law.ensures c.entries_law.ensures
