use Rattle.centre_field.proofs.RowLaws.{row_finished}
use Rattle.centre_field.proofs.rows.finish_rows.Goals as goal

pub rows-preserved : goal.rows-preserved
rows-preserved c = row_finished c.args.bench.now c.rows.bench c.finish_row.new.bench c.rows.y c.rows.invariant c.finish_row.ensures
