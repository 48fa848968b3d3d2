use Rattle.std.proofs.Common.{◌≡◌, drop}
use Rattle.std.specs.List.{All}
use Rattle.apertures.specs.Figures.{IsBoundedPiece}
use Rattle.apertures.specs.Primitives.{all_pieces}
use Rattle.apertures.proofs.TextLaws.{before}
use Rattle.apertures.proofs.primitives.all_pieces.Given as goal

-- the pieces so far, and those of what is left, are those of all
abbrev pub invariant-primitives : goal.invariant-primitives
invariant-primitives l = record {
  all : before l.all.items (all_pieces l.unit (drop l.p-index l.primitives)) ≡ all_pieces l.unit l.primitives;
  bounded : All IsBoundedPiece l.all.items;
}
