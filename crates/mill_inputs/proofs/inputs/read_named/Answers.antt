use Rattle.std.proofs.lemmas.Result.{err_from_is_err_and}
use Rattle.mill_inputs.proofs.ReadLaws.{named_gives, named_refuses, unnamed_gives}
use Rattle.mill_inputs.proofs.inputs.read_named.Goals as goal

pub returns-in_ok-read_input-in-Some-clause-gives : goal.returns-in_ok-read_input-in-Some-clause-gives
returns-in_ok-read_input-in-Some-clause-gives g c =
    rw (c.in-Some.is, ← c.text.ensures) (named_gives c.args.role c.text.result.now (g.S.Shelf.state c.args.shelf.now) (g.S.Shelf.state c.read_input.new.shelf) c.in_ok-read_input-in-Some.field-0 c.in_ok-read_input-in-Some.ensures.gives)

pub returns-in_err-read_input-in-Some-clause-gives : goal.returns-in_err-read_input-in-Some-clause-gives
returns-in_err-read_input-in-Some-clause-gives g c =
    let p = err_from_is_err_and c.from_residual.result c.from_residual.ensures.1 in
    rw (c.in-Some.is, ← c.text.ensures, p.1, p.2) (named_refuses c.args.role c.text.result.now (g.S.Shelf.state c.args.shelf.now) (g.S.Shelf.state c.read_input.new.shelf) c.in_err-read_input-in-Some.field-0.0 c.in_err-read_input-in-Some.ensures.gives)

pub returns-in-None-clause-gives : goal.returns-in-None-clause-gives
returns-in-None-clause-gives g c = rw c.in-None.is (unnamed_gives c.args.role (g.S.Shelf.state c.args.shelf.now).files)
