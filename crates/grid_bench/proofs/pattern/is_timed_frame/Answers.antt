use Rattle.std.proofs.Common.{arith}
use borrow.Author.Differences.{ints}
use Rattle.grid_bench.proofs.FrameLaws.{centres_near}
use Rattle.grid_bench.proofs.pattern.is_timed_frame.Goals as goal

pub returns-clause-centres : goal.returns-clause-centres
returns-clause-centres c _ =
    centres_near c.args.frame (omega (arith, ints)) (omega (arith, ints)) (omega arith) (omega (arith, ints)) (omega arith)
