use Rattle.plane_arcs.proofs.VectorLaws.{radius_small}
use Rattle.plane_arcs.proofs.vectors.radius_of.Goals as goal

pub returns-clause-bound : goal.returns-clause-bound
returns-clause-bound c = radius_small c.args.v c.length_of.result c.requires c.length_of.ensures.square
