use Rattle.endings.specs.declared.status.Status.TheVariants.{Usage}
use Rattle.job_file.specs.Reading.{texts}
use Rattle.endings.proofs.ReadingLaws.{still}
use Rattle.endings.proofs.UsageLaws.{usage_accepted}
use Rattle.simulation.specs.Words.{named_of, words_of}
use Rattle.simulation.specs.Simulated.{sources_of}
use Rattle.simulation.proofs.CommandLaws.{refuses_words, refuses_sources, gives_outcome, sources_other, usage_told}
use Rattle.simulation.proofs.EndLaws.{works_so, works_result}
use Rattle.simulation.proofs.command.simulate.Goals as goal

pub returns-in-Err-clause-gives : goal.returns-in-Err-clause-gives
returns-in-Err-clause-gives g c =
    refuses_words _ (texts c.args.words.now) c.in-Err.word (g.S.Shelf.state c.args.shelf.now) (g.S.Shelf.state c.args.shelf.now) c.in-Err.ensures.value

pub returns-in-Err-read_sources-clause-gives : goal.returns-in-Err-read_sources-clause-gives
returns-in-Err-read_sources-clause-gives g c =
    refuses_sources _ (texts c.args.words.now) (named_of c.in-Ok.names) c.in-Err-read_sources.status (g.S.Shelf.state c.args.shelf.now) (g.S.Shelf.state c.read_sources.new.shelf)
    c.in-Ok.ensures.value c.in-Err-read_sources.ensures.gives

pub returns-in-Err-read_sources-clause-usage : goal.returns-in-Err-read_sources-clause-usage
returns-in-Err-read_sources-clause-usage g c =
    usage_accepted (words_of (texts c.args.words.now)) (named_of c.in-Ok.names) c.in-Err-read_sources.status c.in-Ok.ensures.value
    (sources_other (named_of c.in-Ok.names) c.in-Err-read_sources.status (g.S.Shelf.state c.args.shelf.now) (g.S.Shelf.state c.read_sources.new.shelf) c.in-Err-read_sources.ensures.gives)

pub returns-clause-gives : goal.returns-clause-gives
returns-clause-gives g c =
    gives_outcome _ (texts c.args.words.now) (named_of c.in-Ok.names) c.in-Ok-read_sources.sources c.simulate_sources.result
    (g.S.Shelf.state c.args.shelf.now) (g.S.Shelf.state c.read_sources.new.shelf) (g.S.Shelf.state c.read_sources.new.shelf)
    c.in-Ok.ensures.value c.in-Ok-read_sources.ensures.gives c.simulate_sources.ensures.made

pub returns-clause-usage : goal.returns-clause-usage
returns-clause-usage g c =
    usage_told _ (texts c.args.words.now) (named_of c.in-Ok.names) (sources_of c.in-Ok-read_sources.sources) c.simulate_sources.result c.in-Ok.ensures.value c.simulate_sources.ensures.made

pub returns-in-Err-clause-works : goal.returns-in-Err-clause-works
returns-in-Err-clause-works g c =
    let s = g.S.Shelf.state c.args.shelf.now in
    works_so _ (texts c.args.words.now) (Usage c.in-Err.word) s s (still s) (refuses_words _ (texts c.args.words.now) c.in-Err.word s s c.in-Err.ensures.value)

pub returns-in-Err-read_sources-clause-works : goal.returns-in-Err-read_sources-clause-works
returns-in-Err-read_sources-clause-works g c =
    let before = g.S.Shelf.state c.args.shelf.now in
    let now = g.S.Shelf.state c.read_sources.new.shelf in
    works_so _ (texts c.args.words.now) c.in-Err-read_sources.status before now c.read_sources.ensures.keeps
    (refuses_sources _ (texts c.args.words.now) (named_of c.in-Ok.names) c.in-Err-read_sources.status before now c.in-Ok.ensures.value c.in-Err-read_sources.ensures.gives)

pub returns-clause-works : goal.returns-clause-works
returns-clause-works g c =
    let before = g.S.Shelf.state c.args.shelf.now in
    let now = g.S.Shelf.state c.read_sources.new.shelf in
    works_result _ (texts c.args.words.now) c.simulate_sources.result before now c.read_sources.ensures.keeps
    (gives_outcome _ (texts c.args.words.now) (named_of c.in-Ok.names) c.in-Ok-read_sources.sources c.simulate_sources.result before now now
    c.in-Ok.ensures.value c.in-Ok-read_sources.ensures.gives c.simulate_sources.ensures.made)
