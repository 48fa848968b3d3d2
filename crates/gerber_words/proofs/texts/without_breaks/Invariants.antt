use Rattle.std.proofs.Common.{◌≡◌, take}
use Rattle.gerber_words.specs.Texts.{without_breaks}
use Rattle.gerber_words.proofs.texts.without_breaks.Given as goal

abbrev pub invariant-loop-b : goal.invariant-loop-b
invariant-loop-b l = l.rest.items ≡ without_breaks (take l.b-index l.text)
