use Rattle.image_laws.proofs.Literals.{near_literal}
use Rattle.image_laws.proofs.near_law.Goals as goal

pub returns : goal.returns
returns c = near_literal
