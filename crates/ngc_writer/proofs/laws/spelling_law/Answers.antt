use Rattle.rs274_sim.proofs.TextLaws.{stands_for}
use Rattle.ngc_writer.proofs.laws.spelling_law.Goals as goal

pub returns : goal.returns
returns c = stands_for
