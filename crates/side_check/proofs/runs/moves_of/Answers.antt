use Rattle.side_check.proofs.EndLaws.{run_near}
use Rattle.side_check.proofs.runs.moves_of.Goals as goal

pub returns-in-Ok-clause-ends : goal.returns-in-Ok-clause-ends
returns-in-Ok-clause-ends c = run_near c.args.answers.now.items c.args.lines.now.items c.in-Ok.made.items c.in-Ok.ensures
