use Rattle.centre_field.proofs.ColumnLaws.{both_sweeps}
use Rattle.centre_field.proofs.columns.sweep_columns.Goals as goal

pub returns-clause-nearest : goal.returns-clause-nearest
returns-clause-nearest c =
    both_sweeps c.args.bench.now c.sweep_up.new.bench c.sweep_down.new.bench c.sweep_up.ensures.rest c.sweep_up.ensures.upward c.sweep_down.ensures.nearest
