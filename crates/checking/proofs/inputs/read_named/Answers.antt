use Rattle.endings.proofs.ReadingLaws.{input_gives}
use Rattle.checking.proofs.inputs.read_named.Goals as goal

pub returns-clause-gives : goal.returns-clause-gives
returns-clause-gives g c =
    rw (c.in-Some.is, ← c.text.ensures) (input_gives c.args.role c.text.result.now (g.S.Shelf.state c.args.shelf.now) (g.S.Shelf.state c.read_input.new.shelf) c.read_input.result c.read_input.ensures.gives)
