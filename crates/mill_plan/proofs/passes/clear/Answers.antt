use Rattle.mill_plan.proofs.PassLaws.{cleared_rows}
use Rattle.mill_plan.proofs.passes.clear.Goals as goal

pub returns-clause-rows : goal.returns-clause-rows
returns-clause-rows c = cleared_rows c.args.cutting c.args.bench.now c.allowed.new.bench c.guard.result c.args.clearing.stride c.args.clearing.inner c.rows.new.bench.pass c.requires.cutting c.requires.spacious c.requires.measured c.guard.ensures.value c.allowed.ensures c.rows.ensures.rows
