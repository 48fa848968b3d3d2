-- Near a segment is: some point of it is within half of d.
use Rattle.std.proofs.Common.{ℤ, ◌-ℤ◌}
use Rattle.board_base.specs.declared.places.Point.{Point}
use Rattle.plane_geom.proofs.Segment.{IsReached}
use Rattle.plane_geom.proofs.NearLaws.{near_from_reached}
use Rattle.plane_geom.proofs.Axis.{reached_of}
use Rattle.image_laws.specs.Literal.{HasPointWithin, NearLaw}

shown : (q a b : Point) (d : ℤ) → IsReached (b.x -ℤ a.x) (b.y -ℤ a.y) (q.x -ℤ a.x) (q.y -ℤ a.y) d → HasPointWithin q a b d
shown q a b d p = record { m = p.m; n = p.n; n_in = p.n_pos; m_low = p.m_low; m_high = p.m_high; within = p.within }

meant : (q a b : Point) (d : ℤ) → HasPointWithin q a b d → IsReached (b.x -ℤ a.x) (b.y -ℤ a.y) (q.x -ℤ a.x) (q.y -ℤ a.y) d
meant q a b d p = record { m = p.m; n = p.n; n_pos = p.n_in; m_low = p.m_low; m_high = p.m_high; within = p.within }

pub near_literal : NearLaw
near_literal q a b d = (λ n. shown q a b d (reached_of q a b d n), λ p. near_from_reached q a b d (meant q a b d p))
