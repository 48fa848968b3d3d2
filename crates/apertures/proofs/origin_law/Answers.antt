use Rattle.apertures.proofs.OriginLaws.{origin_law}
use Rattle.apertures.proofs.origin_law.Goals as goal

pub returns : goal.returns
returns c = origin_law
