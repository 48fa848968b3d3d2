use Rattle.std.proofs.Common.{arith}
use Rattle.std.proofs.lemmas.Grind.{common_steps}
use Rattle.fixed_num.proofs.UsedLaws.{used_is}
use Rattle.fixed_num.proofs.number.decimals_used.Goals as goal

pub returns-else-digits-used-eq48 : goal.returns-else-digits-used-eq48
returns-else-digits-used-eq48 c = used_is c.args.digits.now c.loop-used.used (omega arith) c.loop-used.invariant.zeros (λ _. grind (arith, common_steps))

pub returns-after-loop-used : goal.returns-after-loop-used
returns-after-loop-used c = used_is c.args.digits.now c.loop-used.used (omega arith) c.loop-used.invariant.zeros (λ h. absurd (omega arith))
