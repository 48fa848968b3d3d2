use Rattle.std.proofs.Common.{◌-◌, ◌+◌, length, ◌≤◌, ◌≡◌, true}
use Rattle.gerber_lexer.specs.Cut.{GoesOn}
use Rattle.gerber_image.specs.State.{held_of, IsReady}
use Rattle.gerber_image.specs.Reached.{IsReached}
use Rattle.gerber_image.proofs.reader.read_commands.Given as goal

abbrev pub invariant-commands : goal.invariant-commands
invariant-commands l = record {
  reached : IsReached l.bytes l.at l.inside (held_of l.state);
  within : l.at ≤ length l.bytes;
  goes_on : l.inside ≡ true → GoesOn l.at l.bytes;
  ready : IsReady (held_of l.state);
}

abbrev pub decreases-commands : goal.decreases-commands
decreases-commands l = length l.bytes + 1 - l.at
