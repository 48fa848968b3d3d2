use Rattle.std.proofs.Common.{Err, ap}
use Rattle.mill_plan.specs.declared.limits.PlanError.TheVariants.{Limit}
use Rattle.mill_plan.proofs.IsolationLaws.{error_in, islands_hit}
use Rattle.mill_plan.proofs.NumberedLaws.{numbered_is, numbered_spacious, numbered_unvisited}
use Rattle.mill_plan.proofs.side.numbered_grid.Goals as goal

pub returns-in-Err-clause-limit : goal.returns-in-Err-clause-limit
returns-in-Err-clause-limit c = λ hit e.
    let many = c.in-Err.ensures.limit hit (ap Err (error_in c.in-Err.error (Limit hit) e)) in
    islands_hit c.args.cutting c.args.painted.now.items c.in_ok-bench.bench hit c.in_ok-bench.ensures.framed c.in_ok-bench.ensures.kept many.0 many.1

pub returns-clause-numbered : goal.returns-clause-numbered
returns-clause-numbered c =
    numbered_is c.args.cutting c.args.painted.now.items c.in_ok-bench.bench c.numbered.new.bench c.in-Ok.ensures.rest c.in-Ok.islands
    c.in_ok-bench.ensures.framed c.in_ok-bench.ensures.kept c.in_ok-bench.ensures.unswept c.in-Ok.ensures.islands c.in-Ok.ensures.few

pub returns-clause-spacious : goal.returns-clause-spacious
returns-clause-spacious c = numbered_spacious c.args.cutting c.args.painted.now.items c.in_ok-bench.bench c.numbered.new.bench c.in-Ok.ensures.rest c.in_ok-bench.ensures.spacious

pub returns-clause-unvisited : goal.returns-clause-unvisited
returns-clause-unvisited c = numbered_unvisited c.args.cutting c.args.painted.now.items c.in_ok-bench.bench c.numbered.new.bench c.in-Ok.ensures.rest c.in_ok-bench.ensures.unvisited
