use Rattle.std.proofs.Common.{ap, Err}
use Rattle.endings.proofs.TellLaws.{lines_failed, lines_stopped, told_behind, broke_told}
use Rattle.endings.proofs.telling.tell_lines.Goals as goal

pub returns-in-Ok-clause-told : goal.returns-in-Ok-clause-told
returns-in-Ok-clause-told g c =
    told_behind c.args.lines.now c.args.status c.tell.result (g.K.Sink.state c.args.out.now) (g.K.Sink.state c.put_lines.new.out) (g.K.Sink.state c.tell.new.out) c.in-Ok.ensures.ok c.put_lines.ensures.faults c.tell.ensures.told

pub returns-in-Err-Failed-clause-told : goal.returns-in-Err-Failed-clause-told
returns-in-Err-Failed-clause-told g c =
    let part = c.in-Err-Failed.ensures.prefix in
    let rose = c.in-Err-Failed.ensures.failed (ap Err c.in-Err-Failed.field-0-is) in
    broke_told c.args.lines.now c.args.status c.refuse.result (g.K.Sink.state c.args.out.now) (g.K.Sink.state c.refuse.new.out)
    (lines_failed c.args.lines.now part.0 c.refuse.result (g.K.Sink.state c.args.out.now) (g.K.Sink.state c.put_lines.new.out) (g.K.Sink.state c.refuse.new.out) part.1 rose c.refuse.ensures.faults c.refuse.ensures.lines)

pub returns-in-Err-Memory-clause-told : goal.returns-in-Err-Memory-clause-told
returns-in-Err-Memory-clause-told g c =
    let part = c.in-Err-Memory.ensures.prefix in
    broke_told c.args.lines.now c.args.status c.refuse-in-Err-Memory.result (g.K.Sink.state c.args.out.now) (g.K.Sink.state c.refuse-in-Err-Memory.new.out)
    (lines_stopped c.args.lines.now part.0 c.refuse-in-Err-Memory.result (g.K.Sink.state c.args.out.now) (g.K.Sink.state c.put_lines.new.out) (g.K.Sink.state c.refuse-in-Err-Memory.new.out) part.1 c.refuse-in-Err-Memory.ensures.lines)
