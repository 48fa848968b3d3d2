use Rattle.separation_check.proofs.Pairs.{pair_law_of_tests}
use Rattle.separation_check.proofs.laws.pair_law.Goals as goal

pub returns : goal.returns
returns c = pair_law_of_tests
