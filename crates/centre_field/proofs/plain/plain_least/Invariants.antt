use Rattle.std.proofs.Common.{◌+◌, ◌*◌}
use Rattle.centre_field.specs.Distances.{IsLeast, is_kept_at, square_to_place}
use Rattle.centre_field.proofs.plain.plain_least.Given as goal

abbrev pub invariant-cells : goal.invariant-cells
invariant-cells l = IsLeast (is_kept_at l.bench.kept) (square_to_place l.frame.width l.x l.y) (l.b * l.frame.width + l.a) l.least

abbrev pub invariant-rows : goal.invariant-rows
invariant-rows l = IsLeast (is_kept_at l.bench.kept) (square_to_place l.frame.width l.x l.y) (l.b * l.frame.width) l.least
