use Rattle.side_check.proofs.OneLaws.{fault_in, not_refused, one_answer}
use Rattle.side_check.proofs.side.check_side.Goals as goal

pub returns-in-Ok-clause-accepted : goal.returns-in-Ok-clause-accepted
returns-in-Ok-clause-accepted c =
    not_refused c.args.job.now c.args.side c.args.painted.now.items c.args.lines.now.items c.args.answers.now.items c.one_count_law.ensures c.one_hit_law.ensures c.in-Ok.ensures.0 c.in-Ok.ensures.1

pub returns-in-Err-clause-one_answer : goal.returns-in-Err-clause-one_answer
returns-in-Err-clause-one_answer c = λ e answer is h.
    one_answer c.args.job.now c.args.side c.args.painted.now.items c.args.lines.now.items c.args.answers.now.items c.one_count_law.ensures c.one_hit_law.ensures e c.in-Err.fault answer (fault_in c.in-Err.fault e is) c.in-Err.ensures h
