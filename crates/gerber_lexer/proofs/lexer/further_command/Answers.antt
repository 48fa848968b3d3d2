use Rattle.gerber_lexer.proofs.TileLaws.{block_within}
use Rattle.gerber_lexer.proofs.lexer.further_command.Goals as goal

pub returns-else-is_macro-clause-bounds : goal.returns-else-is_macro-clause-bounds
returns-else-is_macro-clause-bounds c = block_within c.args.at c.args.rest.now c.near_command.result c.near_command.ensures
