use Rattle.gerber_image.proofs.Counts.{added_one, full_one}
use Rattle.gerber_image.proofs.state.State.add.Goals as goal

pub returns-in-Some-clause-full : goal.returns-in-Some-clause-full
returns-in-Some-clause-full c = full_one c.args.self.now.painted c.in-Some-None.object c.args.object c.args.self.now.repeat c.vertices.result _ c.excess.result c.in-Some-None.is-0 c.in-Some-None.is-1 c.vertices.ensures c.excess.ensures c.in-Some.is

pub returns-in_ok-push-in-Some-None-clause-ok : goal.returns-in_ok-push-in-Some-None-clause-ok
returns-in_ok-push-in-Some-None-clause-ok c = added_one c.args.self.now.painted c.args.self.now.block.items c.push.new.self c.in-Some-None.object c.args.object c.args.self.now.repeat c.vertices.result c.excess.result c.in-Some-None.is-0 c.in-Some-None.is-1 c.vertices.ensures c.excess.ensures c.in_default.is c.in_ok-push-in-Some-None.ensures.added
