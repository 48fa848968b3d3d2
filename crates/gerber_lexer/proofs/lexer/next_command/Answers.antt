use Rattle.gerber_lexer.proofs.GoesOn.{answer_goes_on}
use Rattle.gerber_lexer.proofs.lexer.next_command.Goals as goal

pub returns-clause-goes_on : goal.returns-clause-goes_on
returns-clause-goes_on c = answer_goes_on c.args.bytes.now c.args.at c.args.inside c.command_from.result c.command_from.ensures.value
