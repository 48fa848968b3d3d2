use Rattle.mill_plan.proofs.StepLaws.{up_few}
use Rattle.mill_plan.proofs.cutting.quotient_up.Goals as goal

pub returns-clause-few : goal.returns-clause-few
returns-clause-few c = up_few c.args.n c.args.d c.requires.n c.requires.low
