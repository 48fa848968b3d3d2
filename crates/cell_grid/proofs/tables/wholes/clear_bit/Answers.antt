use Rattle.std.proofs.Common.{arith}
use Rattle.cell_grid.proofs.PlaneLaws.{all_cleared, others_same}
use Rattle.cell_grid.proofs.tables.wholes.clear_bit.Goals as goal

pub returns-clause-same : goal.returns-clause-same
returns-clause-same c = all_cleared c.args.k c.args.flags.now c.flags.flags c.flags.at c.flags.invariant (omega arith)

pub returns-clause-others : goal.returns-clause-others
returns-clause-others c = λ i h ne. others_same c.args.k i c.args.flags.now c.flags.flags c.flags.at c.flags.invariant h ne
