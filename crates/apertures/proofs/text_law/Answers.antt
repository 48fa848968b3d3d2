use Rattle.apertures.proofs.SpelledLaws.{text_law}
use Rattle.apertures.proofs.text_law.Goals as goal

pub returns : goal.returns
returns c = text_law
