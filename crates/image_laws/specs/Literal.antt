-- What near says, in the words that it stands for.
use Rattle.std.specs.Prelude.{◌≡◌, ◌↔◌, ℤ, pos, ◌-ℤ◌, ◌*ℤ◌, ◌≤ℤ◌, ◌<ℤ◌, true}
use Rattle.board_base.specs.declared.places.Point.{Point}
use Rattle.board_base.specs.Near.{near_of}
use Rattle.plane_geom.specs.NearStep.{length2}

-- the point at m / n of the way from a to b is at most half of d from q; both sides are taken n times
pub record HasPointWithin (q a b : Point) (d : ℤ) : Type 0 where
  pub m : ℤ
  pub n : ℤ
  pub n_in : pos 0 <ℤ n
  pub m_low : pos 0 ≤ℤ m
  pub m_high : m ≤ℤ n
  pub within : (pos 4 *ℤ length2 (n *ℤ (q.x -ℤ a.x) -ℤ m *ℤ (b.x -ℤ a.x)) (n *ℤ (q.y -ℤ a.y) -ℤ m *ℤ (b.y -ℤ a.y))) ≤ℤ ((n *ℤ d) *ℤ (n *ℤ d))

-- near a segment is: some point of it is within half of d
abbrev pub NearLaw : Type 0
NearLaw = (q a b : Point) (d : ℤ) → near_of q a b d ≡ true ↔ HasPointWithin q a b d
