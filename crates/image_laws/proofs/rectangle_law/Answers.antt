use Rattle.image_laws.proofs.Rounds.{rectangle_law as law}
use Rattle.image_laws.proofs.rectangle_law.Goals as goal

pub returns : goal.returns
returns c = law
