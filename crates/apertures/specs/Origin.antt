-- The shape of an aperture at the origin.
use Rattle.std.specs.Prelude.{◌≡◌, pos, Some}
use Rattle.apertures.specs.Figures.{Figure, IsFigure}
use Rattle.apertures.specs.Defined.{at}
use Rattle.apertures.specs.Placed.{placed}
use Rattle.apertures.specs.declared.place.Mirror.TheVariants.{Keep}

-- at the origin, neither mirrored nor turned, an aperture has the pieces that contracts see of it
abbrev pub OriginLaw : Type 0
OriginLaw = (f : Figure) → IsFigure f → placed (at (pos 0) (pos 0)) Keep (pos 0) f.pieces ≡ Some f.pieces
