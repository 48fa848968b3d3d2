use Rattle.simulation.specs.Simulated.{sources_of}
use Rattle.checking.specs.Words.{check_words_of}
use Rattle.checking.proofs.ReadLaws.{refuses_layer, refuses_sources, gives_inputs}
use Rattle.checking.proofs.inputs.read_inputs.Goals as goal

pub returns-in-Err-clause-gives : goal.returns-in-Err-clause-gives
returns-in-Err-clause-gives g c =
    refuses_layer (check_words_of c.args.words) c.args.job.now c.in-Err.status (g.S.Shelf.state c.args.shelf.now) (g.S.Shelf.state c.read_layer.new.shelf) c.in-Err.ensures.gives

pub returns-in-Err-read_sources-clause-gives : goal.returns-in-Err-read_sources-clause-gives
returns-in-Err-read_sources-clause-gives g c =
    refuses_sources (check_words_of c.args.words) c.args.job.now c.in-Ok.layer.items c.in-Err-read_sources.status
    (g.S.Shelf.state c.args.shelf.now) (g.S.Shelf.state c.read_layer.new.shelf) (g.S.Shelf.state c.read_sources.new.shelf)
    c.in-Ok.ensures.keeps c.in-Ok.ensures.gives c.in-Err-read_sources.ensures.gives

pub returns-clause-gives : goal.returns-clause-gives
returns-clause-gives g c =
    gives_inputs (check_words_of c.args.words) c.args.job.now c.in-Ok.layer.items (sources_of c.in-Ok-read_sources.sources)
    (g.S.Shelf.state c.args.shelf.now) (g.S.Shelf.state c.read_layer.new.shelf)
    c.in-Ok.ensures.keeps c.in-Ok.ensures.gives c.in-Ok-read_sources.ensures.gives
