use Rattle.std.proofs.Common.{◌≡◌, ◌*◌, ◌<◌, ◌^◌, drop}
use Rattle.std.specs.Str.Parse.{digits_value_after}
use Rattle.gerber_words.proofs.numerals.value_of.Given as goal

-- what is left leads where all leads
abbrev pub invariant-loop-b : goal.invariant-loop-b
invariant-loop-b l = record {
  leads : digits_value_after 10 l.n (drop l.b-index l.digits) ≡ digits_value_after 10 0 l.digits;
  small : l.n < 1 * 10 ^ l.b-index;
}
