use Rattle.gerber_lexer.proofs.BlockLaws.{blocks_hold, found_inside, only_unclosed_fail}
use Rattle.gerber_lexer.proofs.lexer.blocks_hold.Goals as goal

pub returns-clause-blocks : goal.returns-clause-blocks
returns-clause-blocks c = blocks_hold

pub returns-clause-inside : goal.returns-clause-inside
returns-clause-inside c = found_inside

pub returns-clause-faults : goal.returns-clause-faults
returns-clause-faults c = only_unclosed_fail
