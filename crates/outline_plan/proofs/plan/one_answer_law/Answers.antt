use Rattle.outline_plan.proofs.AnswerLaws.{one_answer}
use Rattle.outline_plan.proofs.plan.one_answer_law.Goals as goal

pub returns : goal.returns
returns c = one_answer
