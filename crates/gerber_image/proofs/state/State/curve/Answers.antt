use Rattle.gerber_image.specs.State.{held_of}
use Rattle.gerber_image.proofs.RouteLaws.{chain_stops}
use Rattle.gerber_image.proofs.state.State.curve.Goals as goal

pub returns-in-Err-clause-value : goal.returns-in-Err-clause-value
returns-in-Err-clause-value c = chain_stops (held_of c.args.self.now).now c.args.o c.in-Err.stop c.requires.curved c.in-Err.ensures.value
