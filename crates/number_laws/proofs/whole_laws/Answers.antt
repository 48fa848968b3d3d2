use Rattle.number_laws.proofs.Laws.{mul_assoc, add_mul}
use Rattle.number_laws.proofs.Order.{square_nonneg, mul_le_left, cancel}
use Rattle.number_laws.proofs.whole_laws.Goals as goal

pub returns : goal.returns
returns c = record { assoc = mul_assoc; spread = add_mul; square = square_nonneg; grows = mul_le_left; cancels = cancel }
