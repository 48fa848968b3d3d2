use Rattle.std.proofs.Common.{rules}
use Rattle.outline_plan.specs.Job.{level_at}
use Rattle.outline_plan.specs.Cuts.{cut_at}
use Rattle.outline_plan.proofs.CutLaws.{levels_more}
use Rattle.outline_plan.proofs.cuts.add_levels.Goals as goal

pub levels-preserved : goal.levels-preserved
levels-preserved c =
    levels_more (cut_at c.args.job.now c.args.bridges.now.items c.args.walk.now) (level_at c.args.job.now) c.args.cuts.now c.levels.cuts c.push.new.self c.levels.k c.levels.invariant (search rules)
