use Rattle.std.proofs.Common.{Ok, ap, sym}
use Rattle.board_base.specs.declared.places.Role.TheVariants as roles
use Rattle.endings.proofs.ReadingLaws.{some_reading, input_gives}
use Rattle.mill_inputs.proofs.inputs.read_job_text.Goals as goal

pub returns-in-Some-clause-gives : goal.returns-in-Some-clause-gives
returns-in-Some-clause-gives g c =
    rw c.in-Some.is (input_gives roles.Job c.in-Some.name.now (g.S.Shelf.state c.args.shelf.now) (g.S.Shelf.state c.read_input.new.shelf) c.read_input.result c.read_input.ensures.gives)

pub returns-in-None-clause-gives : goal.returns-in-None-clause-gives
returns-in-None-clause-gives g c =
    let some = some_reading (g.S.Shelf.state c.args.shelf.now).files in
    rw c.in-None.is (some.0, some.1, ap Ok (sym c.new.ensures.items))
