use Rattle.simulation.proofs.AnswerLaws.{answers_law}
use Rattle.simulation.proofs.answers.answers_law.Goals as goal

pub returns : goal.returns
returns c = answers_law
