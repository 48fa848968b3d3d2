use Rattle.std.specs.Option.{option_copied}
use Rattle.simulation.proofs.SourceLaws.{refuses_program, refuses_probes, gives_sources}
use Rattle.simulation.proofs.sources.read_sources.Goals as goal

pub returns-in-Err-clause-gives : goal.returns-in-Err-clause-gives
returns-in-Err-clause-gives g c =
    refuses_program c.args.names.program.now (option_copied c.args.names.probes) c.in-Err.status (g.S.Shelf.state c.args.shelf.now) (g.S.Shelf.state c.read_input.new.shelf) c.in-Err.ensures.gives

pub returns-in-Err-read_probe_bytes-clause-gives : goal.returns-in-Err-read_probe_bytes-clause-gives
returns-in-Err-read_probe_bytes-clause-gives g c =
    refuses_probes c.args.names.program.now (option_copied c.args.names.probes) c.in-Ok.program c.in-Err-read_probe_bytes.status
    (g.S.Shelf.state c.args.shelf.now) (g.S.Shelf.state c.read_input.new.shelf) (g.S.Shelf.state c.read_probe_bytes.new.shelf)
    c.read_input.ensures.keeps c.in-Ok.ensures.gives c.in-Err-read_probe_bytes.ensures.gives

pub returns-clause-gives : goal.returns-clause-gives
returns-clause-gives g c =
    gives_sources c.args.names.program.now (option_copied c.args.names.probes) (record { program = c.in-Ok.program; probes = c.in-Ok-read_probe_bytes.probes })
    (g.S.Shelf.state c.args.shelf.now) (g.S.Shelf.state c.read_input.new.shelf) (g.S.Shelf.state c.read_probe_bytes.new.shelf)
    c.read_input.ensures.keeps c.in-Ok.ensures.gives c.in-Ok-read_probe_bytes.ensures.gives
