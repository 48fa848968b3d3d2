use Rattle.std.proofs.Common.{◌≡◌, length}
use Rattle.std.specs.List.{All, slice_split}
use Rattle.apertures.specs.Texts.{is_times, IsValue, values_of}
use Rattle.apertures.proofs.TextLaws.{before}
use Rattle.apertures.proofs.texts.values_in.Given as goal

-- the values so far, and those of what is left, are those of all
abbrev pub invariant-texts : goal.invariant-texts
invariant-texts l = record {
  all : before l.values.items (values_of (slice_split is_times l.rest)) ≡ values_of (slice_split is_times l.bytes);
  bound : All IsValue l.values.items;
}

abbrev pub decreases-texts : goal.decreases-texts
decreases-texts l = length l.rest
