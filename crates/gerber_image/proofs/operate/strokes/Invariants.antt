use Rattle.std.proofs.Common.{◌≡◌, ◌++◌, ◌-◌, drop}
use Rattle.gerber_image.specs.Routes.{strokes}
use Rattle.gerber_image.proofs.operate.strokes.Given as goal

abbrev pub invariant-points : goal.invariant-points
invariant-points l = l.shape ++ strokes l.d (drop (l.k - 1) l.points) ≡ strokes l.d l.points
