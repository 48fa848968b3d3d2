use Rattle.std.proofs.Common.{refl}
use Rattle.board_base.specs.Memory.{steady_files, steady_state}
use Rattle.job_file.specs.Reading.{texts}
use Rattle.mill_inputs.specs.Accepted.{accepts_of}
use Rattle.mill_outputs.proofs.HoleLaws.{planned_within}
use Rattle.sampling.proofs.AnswerLaws.{rose_not, refusal_answers, plan_answers, plans_answer}
use Rattle.sampling.proofs.board.mill.Goals as goal

pub returns-in-Err-clause-answer : goal.returns-in-Err-clause-answer
returns-in-Err-clause-answer c =
    refusal_answers (texts c.args.words.now) c.in-Err.status (steady_files c.args.shelf.now) (steady_state c.args.shelf.now) (steady_state c.accept.new.shelf) refl rose_not c.in-Err.ensures.gives

pub returns-in-Ok-make_plans-clause-answer : goal.returns-in-Ok-make_plans-clause-answer
returns-in-Ok-make_plans-clause-answer c =
    plans_answer (texts c.args.words.now) (accepts_of c.in-Ok.accepted) c.in-Ok-make_plans.plans (steady_files c.args.shelf.now) (steady_state c.args.shelf.now) refl c.in-Ok.ensures.gives c.in-Ok-make_plans.ensures

pub returns-in-Ok-make_plans-clause-within : goal.returns-in-Ok-make_plans-clause-within
returns-in-Ok-make_plans-clause-within c =
    planned_within c.few_diameters_law.ensures c.limits_law.ensures (accepts_of c.in-Ok.accepted) c.in-Ok-make_plans.plans c.in-Ok.ensures.drilled c.in-Ok.ensures.stands c.in-Ok-make_plans.ensures

pub returns-clause-answer : goal.returns-clause-answer
returns-clause-answer c =
    plan_answers (texts c.args.words.now) (accepts_of c.in-Ok.accepted) c.in-Err-make_plans.status (steady_files c.args.shelf.now) (steady_state c.args.shelf.now) refl c.in-Ok.ensures.gives c.in-Err-make_plans.ensures
