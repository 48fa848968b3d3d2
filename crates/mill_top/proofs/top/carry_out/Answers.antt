use Rattle.job_file.specs.Reading.{texts}
use Rattle.mill_top.specs.declared.asked.Asked.TheVariants.{Simulation, Sample, Check, Mill}
use Rattle.mill_top.proofs.CommandLaws.{answers_by}
use Rattle.mill_top.proofs.top.carry_out.Goals as goal

pub returns-in-Simulation-clause-answers : goal.returns-in-Simulation-clause-answers
returns-in-Simulation-clause-answers g c =
    answers_by Simulation _ (texts c.args.words.now) c.run_simulation.result (g.S.Shelf.state c.args.shelf.now) (g.S.Shelf.state c.run_simulation.new.shelf) (g.K.Sink.state c.args.out.now) (g.K.Sink.state c.run_simulation.new.out)
    c.in-Simulation.ensures c.run_simulation.ensures.answers

pub returns-in-Sample-clause-answers : goal.returns-in-Sample-clause-answers
returns-in-Sample-clause-answers g c =
    answers_by Sample _ (texts c.args.words.now) c.run_sample.result (g.S.Shelf.state c.args.shelf.now) (g.S.Shelf.state c.args.shelf.now) (g.K.Sink.state c.args.out.now) (g.K.Sink.state c.run_sample.new.out)
    c.in-Sample.ensures (c.run_sample.ensures.answers (g.S.Shelf.state c.args.shelf.now))

pub returns-in-Check-clause-answers : goal.returns-in-Check-clause-answers
returns-in-Check-clause-answers g c =
    answers_by Check _ (texts c.args.words.now) c.run_check.result (g.S.Shelf.state c.args.shelf.now) (g.S.Shelf.state c.run_check.new.shelf) (g.K.Sink.state c.args.out.now) (g.K.Sink.state c.run_check.new.out)
    c.in-Check.ensures c.run_check.ensures.answers

pub returns-in-Mill-clause-answers : goal.returns-in-Mill-clause-answers
returns-in-Mill-clause-answers g c =
    answers_by Mill _ (texts c.args.words.now) c.run_mill.result (g.S.Shelf.state c.args.shelf.now) (g.S.Shelf.state c.run_mill.new.shelf) (g.K.Sink.state c.args.out.now) (g.K.Sink.state c.run_mill.new.out)
    c.in-Mill.ensures c.run_mill.ensures.answers
