use Rattle.fixed_num.proofs.SpelledLaws.{spelled_law}
use Rattle.fixed_num.proofs.decimal_law.Goals as goal

pub returns : goal.returns
returns c = spelled_law
