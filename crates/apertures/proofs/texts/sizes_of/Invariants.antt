use Rattle.std.proofs.Common.{◌≡◌, drop}
use Rattle.std.specs.List.{All}
use Rattle.apertures.specs.Texts.{IsSize, sizes_of}
use Rattle.apertures.proofs.TextLaws.{before}
use Rattle.apertures.proofs.texts.sizes_of.Given as goal

-- the sizes so far, and those of what is left, are those of all
abbrev pub invariant-values : goal.invariant-values
invariant-values l = record {
  all : before l.sizes.items (sizes_of (drop l.value-index l.values)) ≡ sizes_of l.values;
  bound : All IsSize l.sizes.items;
}
