use Rattle.cell_grid.proofs.SpanLaws.{one_bit_filled}
use Rattle.cell_grid.proofs.tables.spans.fill_bit.Goals as goal

pub flags-preserved : goal.flags-preserved
flags-preserved c = one_bit_filled c.args.k c.args.flags.now c.flags.flags c.args.from c.flags.at c.with_bit-n.result c.args.on c.flags.invariant c.with_bit-n.ensures.same c.with_bit-n.ensures.others
