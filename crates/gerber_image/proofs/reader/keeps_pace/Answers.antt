use Rattle.gerber_image.proofs.ReachedLaws.{after_held}
use Rattle.gerber_image.proofs.reader.keeps_pace.Goals as goal

pub returns : goal.returns
returns c = after_held
