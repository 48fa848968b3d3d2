-- Places of corners in the units of the machine.
use Rattle.std.proofs.Common.{◌≡◌, ℤ, refl}
use Rattle.rs274_sim.specs.Cutter.{scaled, under}
use Rattle.mill_program.specs.declared.cuts.Corner.{Corner}
use Rattle.mill_program.specs.Moves.{place_of as pos_of, over}
use Rattle.outline_bridges.specs.CutLaw.{place_of}

-- what is under a corner, and over one
pub under_corner : (c : Corner) → under (pos_of c) ≡ scaled (place_of c)
unfolding scaled
under_corner c = refl

pub under_over : (z : ℤ) (c : Corner) → under (over z c) ≡ scaled (place_of c)
unfolding scaled
under_over z c = refl
