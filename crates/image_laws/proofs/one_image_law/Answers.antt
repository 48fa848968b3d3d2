use Rattle.image_laws.proofs.Single.{one_image}
use Rattle.image_laws.proofs.one_image_law.Goals as goal

pub returns : goal.returns
returns c = one_image
