use Rattle.apertures.proofs.MacroLaws.{length_small}
use Rattle.apertures.proofs.lines.length.Goals as goal

pub returns-clause-bound : goal.returns-clause-bound
returns-clause-bound c = length_small c.args.v c.length_of.result c.requires c.length_of.ensures.square
