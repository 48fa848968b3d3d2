use Rattle.centre_field.proofs.TwoPassLaws.{distances, two_passes, low_frame}
use Rattle.centre_field.proofs.clearances.clearance.Goals as goal

pub finish_rows-requires : goal.finish_rows-requires
finish_rows-requires c =
    distances c.args.bench.now c.sweep_columns.new.bench c.sweep_columns.ensures.rest (low_frame c.frame-frame.result c.args.bench.now.frame c.frame-frame.ensures.value c.frame-frame.ensures.valid)
    c.sweep_columns.ensures.nearest

pub returns-clause-least : goal.returns-clause-least
returns-clause-least c =
    two_passes c.args.bench.now c.sweep_columns.new.bench c.finish_rows.new.bench (low_frame c.frame-frame.result c.args.bench.now.frame c.frame-frame.ensures.value c.frame-frame.ensures.valid)
    c.sweep_columns.ensures.rest c.sweep_columns.ensures.nearest c.finish_rows.ensures.rest c.finish_rows.ensures.least
