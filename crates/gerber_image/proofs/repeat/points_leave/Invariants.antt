use Rattle.std.proofs.Common.{◌≡◌, take, map, pos}
use Rattle.std.specs.List.{list_any}
use Rattle.plane_arcs.specs.Turned.{is_far}
use Rattle.gerber_image.specs.Image.{shifted_point}
use Rattle.gerber_image.proofs.repeat.points_leave.Given as goal

abbrev pub invariant-loop-p : goal.invariant-loop-p
invariant-loop-p l = l.found ≡ list_any is_far (map (shifted_point (pos l.dx) (pos l.dy)) (take l.p-index l.points))
