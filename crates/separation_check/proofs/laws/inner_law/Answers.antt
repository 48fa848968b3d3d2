use Rattle.separation_check.proofs.Inner.{inner_chains, inner_groups}
use Rattle.separation_check.proofs.laws.inner_law.Goals as goal

pub returns : goal.returns
returns c = record { chains = inner_chains; groups = inner_groups }
