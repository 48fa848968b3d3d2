use Rattle.std.proofs.Common.{arith}
use Rattle.std.proofs.lemmas.Grind.{common_steps}
use Rattle.endings.proofs.delivery.deliver.Goals as goal

pub returns-in-Err-Memory-clause-outcome : goal.returns-in-Err-Memory-clause-outcome
returns-in-Err-Memory-clause-outcome g c = (c.file-item.result.role, grind (arith, common_steps))
