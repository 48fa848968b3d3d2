use Rattle.std.proofs.Common.{◌∙◌, sym, refl}
use Rattle.sampling.specs.Words.{pads_of}
use Rattle.sampling.proofs.WordLaws.{next_number}
use Rattle.sampling.proofs.words.pads_in.Goals as goal

pub loop-pads-init : goal.loop-pads-init
unfolding pads_of
loop-pads-init c = refl

pub loop-pads-preserved : goal.loop-pads-preserved
loop-pads-preserved c = sym (next_number _ c.loop-pads.pads c.loop-pads-test.true (sym c.if-is_decimal.ensures)) ∙ c.loop-pads.invariant
