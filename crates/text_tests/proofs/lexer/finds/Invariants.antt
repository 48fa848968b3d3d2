use Rattle.std.proofs.Common.{◌≡◌, ◌≤◌, length, true}
use Rattle.gerber_lexer.specs.Cut.{GoesOn}
use Rattle.text_tests.proofs.lexer.finds.Given as goal

abbrev pub invariant-loop-command : goal.invariant-loop-command
invariant-loop-command g l = record {
  within : l.at ≤ length l.bytes;
  goes_on : l.inside ≡ true → GoesOn l.at l.bytes;
}
