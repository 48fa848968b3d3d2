use Rattle.std.proofs.Common.{◌≡◌, ◌<◌, ◌++◌, ◌+◌, length, rules, arith}
use Rattle.mill_outputs.specs.Report.{tool_line}
use Rattle.mill_outputs.proofs.ReportLaws.{one_more_line}
use Rattle.mill_outputs.proofs.drill_report.add_tools.Goals as goal

pub tools-preserved : goal.tools-preserved
tools-preserved c =
    let i = c.tools.tool-index in
    let inside : i < length c.args.plan.now = search rules in
    let number : c.tools.number + 1 ≡ i + 1 = omega (arith, c.tools.invariant.number) in
    let added : c.add_tool.new.bytes.items ≡ c.tools.bytes.items ++ tool_line (c.tools.number + 1) c.tool-item.result = search rules in
    record {
      number = number;
      bytes = one_more_line (λ t. tool_line t.0 t.1) c.args.bytes.now.items c.tools.bytes.items c.add_tool.new.bytes.items c.args.plan.now i (c.tools.number + 1) c.tool-item.result inside (search rules) number c.tools.invariant.bytes added;
    }
