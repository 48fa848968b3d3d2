use Rattle.path_order.proofs.Turns.{tried_on, tried_off, change_on, change_off, quiet_off, turned_indices}
use Rattle.path_order.proofs.tours.try_stretch.Goals as goal

pub returns-then-shortens-clause-tried : goal.returns-then-shortens-clause-tried
returns-then-shortens-clause-tried c = tried_on _ _ _ _ _ _ c.shortens.ensures c.if-shortens.true c.turn.ensures

pub returns-then-shortens-clause-change : goal.returns-then-shortens-clause-change
returns-then-shortens-clause-change c = change_on _ _ _ _ _ _ c.requires.i c.shortens.ensures c.if-shortens.true c.turn.ensures

pub returns-else-shortens-clause-tried : goal.returns-else-shortens-clause-tried
returns-else-shortens-clause-tried c = tried_off _ _ _ _ _ c.shortens.ensures c.if-shortens.false

pub returns-else-shortens-clause-change : goal.returns-else-shortens-clause-change
returns-else-shortens-clause-change c = change_off _ _

pub returns-else-shortens-clause-quiet : goal.returns-else-shortens-clause-quiet
returns-else-shortens-clause-quiet c = λ _. quiet_off _ _ _ _ _ c.shortens.ensures c.if-shortens.false

pub start_of-requires-clause-indices : goal.start_of-requires-clause-indices
start_of-requires-clause-indices c = turned_indices _ _ _ _ _ c.requires.i c.requires.indices c.turn.ensures
