use Rattle.std.proofs.Common.{◌≡◌, ◌++◌, decimal, codes, rules}
use Rattle.mill_outputs.specs.Report.{drilled_text}
use Rattle.mill_outputs.proofs.ReportLaws.{on_ok, drill_added}
use Rattle.mill_outputs.proofs.drill_report.add_drill.Goals as goal

pub returns : goal.returns
returns c =
    let counts = c.counts-counts.result in
    let tools : c.add_count.new.bytes.items ≡ (c.args.bytes.now.items ++ codes "drill tools ") ++ decimal counts.tools = c.in_ok-add_count.ensures in
    let drilled : c.add_drilled.new.bytes.items ≡ c.add_count.new.bytes.items ++ drilled_text counts.holes counts.slots = search rules in
    on_ok c.add_tools.result _ _ (drill_added c.args.plan.now counts c.args.bytes.now.items _ _ _ c.counts-counts.ensures tools drilled) c.add_tools.ensures
