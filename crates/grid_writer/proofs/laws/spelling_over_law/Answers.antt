use Rattle.grid_writer.proofs.ProgramTexts.{stands_over}
use Rattle.grid_writer.proofs.laws.spelling_over_law.Goals as goal

pub returns : goal.returns
returns c = stands_over
