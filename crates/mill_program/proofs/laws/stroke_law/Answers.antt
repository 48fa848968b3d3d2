use Rattle.mill_program.proofs.StrokeLaws.{stroke_law}
use Rattle.mill_program.proofs.laws.stroke_law.Goals as goal

pub returns : goal.returns
returns c = stroke_law
