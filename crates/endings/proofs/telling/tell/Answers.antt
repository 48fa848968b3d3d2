use Rattle.std.proofs.Common.{ap, inr, Err}
use Rattle.endings.specs.declared.status.Status.TheVariants.{Done}
use Rattle.endings.specs.Lines.{line_of}
use Rattle.endings.proofs.TellLaws.{lines_failed, lines_lost, refusal_told}
use Rattle.endings.proofs.telling.tell.Goals as goal

pub returns-in-Err-Failed-clause-told : goal.returns-in-Err-Failed-clause-told
returns-in-Err-Failed-clause-told g c =
    let part = c.in-Err-Failed.ensures.prefix (ap Err c.in-Err-Failed.field-0-is) in
    let rose = c.in-Err-Failed.ensures.failed (ap Err c.in-Err-Failed.field-0-is) in
    rw c.in-Done.is (inr (lines_failed (line_of Done) part.0 c.refuse.result (g.K.Sink.state c.args.out.now) (g.K.Sink.state c.put_line.new.out) (g.K.Sink.state c.refuse.new.out) part.1 rose c.refuse.ensures.faults c.refuse.ensures.lines))

pub returns-in-Err-Memory-clause-told : goal.returns-in-Err-Memory-clause-told
returns-in-Err-Memory-clause-told g c =
    let same = c.in-Err-Memory.ensures.memory (ap Err c.in-Err-Memory.field-0-is) in
    rw c.in-Done.is (inr (lines_lost (line_of Done) c.refuse-in-Err-Memory.result (g.K.Sink.state c.args.out.now) (g.K.Sink.state c.put_line.new.out) (g.K.Sink.state c.refuse-in-Err-Memory.new.out) same c.refuse-in-Err-Memory.ensures.lines))

pub returns-in_default-clause-told : goal.returns-in_default-clause-told
returns-in_default-clause-told g c =
    refusal_told c.args.status c.refuse-in_default.result (g.K.Sink.state c.args.out.now) (g.K.Sink.state c.refuse-in_default.new.out) c.in_default.not-Done c.refuse-in_default.ensures.lines
