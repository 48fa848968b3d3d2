use Rattle.drill_plan.proofs.ToolLaws.{tool_law}
use Rattle.drill_plan.proofs.tools.tool_law.Goals as goal

pub returns : goal.returns
returns c = tool_law
