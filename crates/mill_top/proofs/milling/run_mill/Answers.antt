use Rattle.job_file.specs.Reading.{texts}
use Rattle.mill_outputs.specs.Mill.{Ends}
use Rattle.mill_outputs.proofs.MillLaws.{puts_ok}
use Rattle.endings.proofs.RunLaws.{leaves_told, cause_told, lines_told, answers_told}
use Rattle.mill_top.proofs.milling.run_mill.Goals as goal

pub returns-clause-leaves : goal.returns-clause-leaves
returns-clause-leaves g c =
    leaves_told (Ends (texts c.args.words.now)) c.mill-status.result c.tell.result (λ done. puts_ok (texts c.args.words.now)) (g.S.Shelf.state c.args.shelf.now) (g.S.Shelf.state c.mill-status.new.shelf) (g.K.Sink.state c.args.out.now) (g.K.Sink.state c.tell.new.out)
    c.mill-status.ensures.works c.tell.ensures.told

pub returns-clause-lines : goal.returns-clause-lines
returns-clause-lines g c =
    lines_told (Ends (texts c.args.words.now)) c.mill-status.result c.tell.result (λ done. puts_ok (texts c.args.words.now)) (g.S.Shelf.state c.args.shelf.now) (g.S.Shelf.state c.mill-status.new.shelf) (g.K.Sink.state c.args.out.now) (g.K.Sink.state c.tell.new.out)
    c.mill-status.ensures.works c.tell.ensures.told

pub returns-clause-cause : goal.returns-clause-cause
returns-clause-cause g c =
    cause_told (Ends (texts c.args.words.now)) c.mill-status.result c.tell.result (g.S.Shelf.state c.args.shelf.now) (g.S.Shelf.state c.mill-status.new.shelf) (g.K.Sink.state c.args.out.now) (g.K.Sink.state c.tell.new.out)
    c.mill-status.ensures.works c.tell.ensures.status

pub returns-clause-answers : goal.returns-clause-answers
returns-clause-answers g c =
    answers_told (Ends (texts c.args.words.now)) c.mill-status.result c.tell.result (λ done. puts_ok (texts c.args.words.now)) (g.S.Shelf.state c.args.shelf.now) (g.S.Shelf.state c.mill-status.new.shelf) (g.K.Sink.state c.args.out.now) (g.K.Sink.state c.tell.new.out)
    c.tell.ensures.status c.mill-status.ensures.answers
