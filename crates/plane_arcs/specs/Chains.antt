-- What holds of every chain.
use Rattle.std.specs.Prelude.{◌≡◌, Bool, true, false, List, [], ◌∷◌, ◌++◌, Ok}
use Rattle.board_base.specs.declared.places.Point.{Point}
use Rattle.plane_arcs.specs.declared.arcs.Arc.{Arc}
use Rattle.plane_arcs.specs.Vectors.{is_zero, ends_in, turned, last_quarter}
use Rattle.plane_arcs.specs.Arcs.{chain_of}

pub record ChainLaw : Type 0 where
  -- a chain begins with the start of the arc and ends with its end
  pub ends : (arc : Arc) (points : List Point) → chain_of arc ≡ Ok points → (inner : List Point) × (points ≡ arc.start ∷ inner ++ arc.end ∷ [])
  -- of two vectors that have a length, the second lies in the last quarter round from the first
  pub quarter : (ccw : Bool) (u v : Point) → is_zero u ≡ false → is_zero v ≡ false → ends_in ccw (turned (last_quarter ccw u v) ccw u) v ≡ true
