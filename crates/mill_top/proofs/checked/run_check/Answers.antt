use Rattle.std.proofs.Common.{subst}
use Rattle.std.specs.Prelude.{string_bytes}
use Rattle.endings.specs.declared.status.Status.TheVariants.{Done}
use Rattle.job_file.specs.Reading.{texts}
use Rattle.endings.specs.Works.{ToldBehind}
use Rattle.endings.proofs.AloneLaws.{leaves_alone, cause_alone, lines_alone}
use Rattle.endings.proofs.RunLaws.{leaves_told, cause_told, lines_told, answers_told}
use Rattle.endings.proofs.UsageLaws.{usage_told, usage_behind}
use Rattle.checking.specs.Words.{words_of}
use Rattle.checking.specs.Checked.{CheckEnds}
use Rattle.checking.proofs.EndLaws.{done_lines}
use Rattle.mill_top.proofs.BehindLaws.{refusal_puts, done_answered}
use Rattle.mill_top.proofs.checked.run_check.Goals as goal

-- ---- a program that passed

pub returns-in-Ok-clause-leaves : goal.returns-in-Ok-clause-leaves
returns-in-Ok-clause-leaves g c =
    leaves_alone (CheckEnds (texts c.args.words.now)) (string_bytes c.in-Ok.passed.lines) Done c.tell_lines.result (g.S.Shelf.state c.args.shelf.now) (g.S.Shelf.state c.check.new.shelf) (g.K.Sink.state c.args.out.now) (g.K.Sink.state c.tell_lines.new.out)
    c.in-Ok.ensures.works c.tell_lines.ensures.status

pub returns-in-Ok-clause-lines : goal.returns-in-Ok-clause-lines
returns-in-Ok-clause-lines g c =
    lines_alone (CheckEnds (texts c.args.words.now)) (string_bytes c.in-Ok.passed.lines) Done c.tell_lines.result (g.S.Shelf.state c.args.shelf.now) (g.S.Shelf.state c.check.new.shelf) (g.K.Sink.state c.args.out.now) (g.K.Sink.state c.tell_lines.new.out)
    c.in-Ok.ensures.works (subst (λ lines. ToldBehind lines Done c.tell_lines.result (g.K.Sink.state c.args.out.now) (g.K.Sink.state c.tell_lines.new.out)) c.as_bytes.ensures.value c.tell_lines.ensures.told)

pub returns-in-Ok-clause-usage : goal.returns-in-Ok-clause-usage
returns-in-Ok-clause-usage g c =
    usage_behind (words_of (texts c.args.words.now)) Done c.tell_lines.result (g.K.Sink.state c.args.out.now) (g.K.Sink.state c.tell_lines.new.out) tt c.in-Ok.ensures.usage c.tell_lines.ensures.status

pub returns-in-Ok-clause-cause : goal.returns-in-Ok-clause-cause
returns-in-Ok-clause-cause g c =
    cause_alone (CheckEnds (texts c.args.words.now)) (string_bytes c.in-Ok.passed.lines) Done c.tell_lines.result (g.S.Shelf.state c.args.shelf.now) (g.S.Shelf.state c.check.new.shelf) (g.K.Sink.state c.args.out.now) (g.K.Sink.state c.tell_lines.new.out)
    c.in-Ok.ensures.works c.tell_lines.ensures.status

pub returns-in-Ok-clause-answers : goal.returns-in-Ok-clause-answers
returns-in-Ok-clause-answers g c =
    done_answered (CheckEnds (texts c.args.words.now)) c.tell_lines.result (g.S.Shelf.state c.args.shelf.now) (g.S.Shelf.state c.check.new.shelf) (g.K.Sink.state c.args.out.now) (g.K.Sink.state c.tell_lines.new.out)
    (done_lines (texts c.args.words.now)) c.in-Ok.ensures.answers c.tell_lines.ensures.status

-- ---- a refusal

pub returns-in-Err-clause-leaves : goal.returns-in-Err-clause-leaves
returns-in-Err-clause-leaves g c =
    leaves_told (CheckEnds (texts c.args.words.now)) c.in-Err.status c.tell.result (refusal_puts (CheckEnds (texts c.args.words.now)) c.in-Err.status (λ done. c.in-Err.ensures.refused (cc)))
    (g.S.Shelf.state c.args.shelf.now) (g.S.Shelf.state c.check.new.shelf) (g.K.Sink.state c.args.out.now) (g.K.Sink.state c.tell.new.out) c.in-Err.ensures.works c.tell.ensures.told

pub returns-in-Err-clause-lines : goal.returns-in-Err-clause-lines
returns-in-Err-clause-lines g c =
    lines_told (CheckEnds (texts c.args.words.now)) c.in-Err.status c.tell.result (refusal_puts (CheckEnds (texts c.args.words.now)) c.in-Err.status (λ done. c.in-Err.ensures.refused (cc)))
    (g.S.Shelf.state c.args.shelf.now) (g.S.Shelf.state c.check.new.shelf) (g.K.Sink.state c.args.out.now) (g.K.Sink.state c.tell.new.out) c.in-Err.ensures.works c.tell.ensures.told

pub returns-in-Err-clause-usage : goal.returns-in-Err-clause-usage
returns-in-Err-clause-usage g c =
    usage_told (words_of (texts c.args.words.now)) c.in-Err.status c.tell.result (g.K.Sink.state c.args.out.now) (g.K.Sink.state c.tell.new.out) c.in-Err.ensures.usage c.tell.ensures.status

pub returns-in-Err-clause-cause : goal.returns-in-Err-clause-cause
returns-in-Err-clause-cause g c =
    cause_told (CheckEnds (texts c.args.words.now)) c.in-Err.status c.tell.result (g.S.Shelf.state c.args.shelf.now) (g.S.Shelf.state c.check.new.shelf) (g.K.Sink.state c.args.out.now) (g.K.Sink.state c.tell.new.out)
    c.in-Err.ensures.works c.tell.ensures.status

pub returns-in-Err-clause-answers : goal.returns-in-Err-clause-answers
returns-in-Err-clause-answers g c =
    answers_told (CheckEnds (texts c.args.words.now)) c.in-Err.status c.tell.result (refusal_puts (CheckEnds (texts c.args.words.now)) c.in-Err.status (λ done. c.in-Err.ensures.refused (cc)))
    (g.S.Shelf.state c.args.shelf.now) (g.S.Shelf.state c.check.new.shelf) (g.K.Sink.state c.args.out.now) (g.K.Sink.state c.tell.new.out)
    c.tell.ensures.status c.in-Err.ensures.answers
