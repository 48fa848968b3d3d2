use Rattle.std.proofs.Common.{◌≡◌, ◌<◌, ◌++◌, ◌∷◌, ◌+◌, [], length, rules, arith}
use Rattle.drill_program.specs.Program.{tool_run}
use Rattle.drill_program.proofs.ProgramLaws.{one_more}
use Rattle.drill_program.proofs.program.tool_runs.Goals as goal

pub tools-preserved : goal.tools-preserved
tools-preserved c =
    let i = c.tools.tool-index in
    let inside : i < length c.args.plan.now = search rules in
    let number : c.tools.number + 1 ≡ i + 1 = omega (arith, c.tools.invariant.number) in
    let added : c.push.new.self ≡ c.tools.runs ++ c.in_ok-tool_run.field-0 ∷ [] = search rules in
    record {
      number = number;
      runs =
          one_more (λ t. tool_run c.args.job.now t.0 t.1) c.tools.runs c.push.new.self c.args.plan.now i (c.tools.number + 1) c.tool-item.result c.in_ok-tool_run.field-0
          inside (search rules) number c.tools.invariant.runs c.in_ok-tool_run.ensures added;
    }
