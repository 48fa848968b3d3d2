use Rattle.gerber_image.proofs.OutcomeLaws.{some_outcome}
use Rattle.gerber_image.proofs.reader.some_outcome.Goals as goal

pub returns : goal.returns
returns c = some_outcome
