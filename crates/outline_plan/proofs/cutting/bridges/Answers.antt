use Rattle.std.proofs.Common.{rules}
use Rattle.std.proofs.lemmas.Int.{to_z-of_z}
use mir.Syntax.{w64}
use mir.Val.{SFits}
use Rattle.outline_plan.proofs.JobLaws.{no_bridges, some_bridges}
use Rattle.outline_plan.proofs.cutting.bridges.Goals as goal

pub returns-then-not-has_bridges-clause-listed : goal.returns-then-not-has_bridges-clause-listed
returns-then-not-has_bridges-clause-listed c = no_bridges c.args.job.now c.args.walks.now.items c.new.result.items c.has_bridges.result c.has_bridges.ensures (search rules) (search rules)

pub returns-clause-listed : goal.returns-clause-listed
returns-clause-listed c =
    let wide : SFits w64 c.args.job.now.pitch = search rules in
    some_bridges c.args.job.now _ c.args.walks.now.items c.in_ok-bridges.bridges.items c.has_bridges.result c.has_bridges.ensures (search rules) (to_z-of_z w64 c.args.job.now.pitch wide) c.in_ok-bridges.ensures.value
