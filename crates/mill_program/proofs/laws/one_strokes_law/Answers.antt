use Rattle.mill_program.proofs.StrokeLaws.{one_strokes_law}
use Rattle.mill_program.proofs.laws.one_strokes_law.Goals as goal

pub returns : goal.returns
returns c = one_strokes_law
