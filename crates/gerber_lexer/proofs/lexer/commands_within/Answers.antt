use Rattle.gerber_lexer.proofs.TileLaws.{commands_within}
use Rattle.gerber_lexer.proofs.lexer.commands_within.Goals as goal

pub returns : goal.returns
returns c = commands_within
