use Rattle.std.proofs.Common.{arith}
use Rattle.std.proofs.lemmas.Grind.{common_steps}
use Rattle.text_cut.proofs.SpaceLaws.{without_last_is}
use Rattle.text_cut.proofs.spaces.without_last.Goals as goal
use Rattle.text_cut.proofs.spaces.without_last.Goals.{then-loop-end-test+else-text-end-eq32, else-loop-end-test}

pub returns : goal.returns
returns c = without_last_is c.args.text.now c.loop-end.end (omega arith) c.loop-end.invariant.spaces
    (elim c.loop-end-test.branch [
      | then-loop-end-test+else-text-end-eq32 w ↦ λ _. grind (arith, common_steps, w.if-text-end-eq32.false)
      | else-loop-end-test w ↦ λ h. absurd (omega (arith, w.loop-end-test.false))
    ])
