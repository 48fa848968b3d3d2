use Rattle.std.proofs.Common.{◌≡◌, length, drop}
use Rattle.std.specs.List.{All}
use Rattle.board_base.specs.Places.{IsPlace}
use Rattle.apertures.specs.Primitives.{turned_points}
use Rattle.apertures.proofs.TextLaws.{before}
use Rattle.apertures.proofs.turns.turned_points.Given as goal

-- the points so far, and those of what is left, are those of all
abbrev pub invariant-points : goal.invariant-points
invariant-points l = record {
  all : before l.turned.items (turned_points l.turn (drop l.p-index l.points)) ≡ turned_points l.turn l.points;
  places : All IsPlace l.turned.items;
  count : length l.turned.items ≡ l.p-index;
}
