use Rattle.std.proofs.Common.{sym, refl}
use Rattle.copper_cover.proofs.Painting.{outside}
use Rattle.copper_cover.proofs.SweepLaws.{no_columns}
use Rattle.copper_cover.proofs.sweeps.sweep.Goals as goal

pub returns-then-window-clause-kept : goal.returns-then-window-clause-kept
returns-then-window-clause-kept c d i =
    sym (outside c.args.bench.now.frame c.args.bench.now.frame c.args.window c.args.object.now refl c.requires.round d i (no_columns c.args.bench.now.frame c.args.window d c.if-window.true) _)
