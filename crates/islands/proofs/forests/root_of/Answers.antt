use Rattle.islands.proofs.Climbs.{climb_in, next_points, climb_on}
use Rattle.islands.proofs.forests.root_of.Goals as goal

pub set_work_at-requires : goal.set_work_at-requires
set_work_at-requires c = climb_in _ _ _ _ _ _ c.climb.invariant c.climb-test.true

pub pointed-up-requires-in-climb : goal.pointed-up-requires-in-climb
pointed-up-requires-in-climb c = next_points _ _ _ _ _ _ c.climb.invariant _ _ c.climb-test.true c.pointed-next.ensures c.set_work_at.ensures

pub climb-preserved : goal.climb-preserved
climb-preserved c = climb_on _ _ _ _ _ _ c.climb.invariant _ _ c.climb-test.true c.pointed-next.ensures c.set_work_at.ensures _ c.pointed-up-in-climb.ensures
