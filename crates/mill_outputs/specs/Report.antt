-- The report.
use Rattle.std.specs.Prelude.{ℕ, ◌/◌, ◌%◌, ℤ, pos, unsigned_abs, length, List, [], ◌++◌, codes, decimal, flat_map, Option, Some, None}
use Rattle.cell_grid.specs.declared.frames.Frame.{Frame}
use Rattle.mill_plan.specs.declared.isolation.Isolation.{Isolation}
use Rattle.std.specs.List.{enumerate_from}
use Rattle.fixed_num.specs.Rounding.{round_div_of}
use Rattle.drill_plan.specs.declared.plans.ToolPlan.{ToolPlan}
use Rattle.drill_plan.specs.Limits.{counts_of}
use Rattle.fixed_num.specs.Fixed.{fixed6}
use Rattle.board_base.specs.declared.places.Point.{Point}
use Rattle.outline_plan.specs.declared.plan.OutlineCut.{OutlineCut}
use Rattle.mill_outputs.specs.declared.plans.Plans.{Plans}

-- what the report tells of a side: its frame, its counts of kept cells, islands, visited cells and walks, and its groups
-- of islands that stay joined
pub record SideReport : Type 0 where
  pub frame : Frame
  pub kept : ℕ
  pub islands : ℕ
  pub centres : ℕ
  pub chains : ℕ
  pub groups : List (List ℕ)

-- what it tells of a plan
abbrev pub side_of : Isolation → SideReport
side_of plan = record { frame = plan.frame; kept = plan.kept; islands = plan.islands; centres = plan.centres; chains = plan.chains; groups = plan.groups.items }

-- the sides of the frame, in cells
unfoldable pub frame_text : Frame → List ℕ
frame_text frame = codes " frame " ++ decimal frame.width ++ codes " " ++ decimal frame.height

-- the counts
unfoldable pub counts_text : SideReport → List ℕ
counts_text side = codes " kept " ++ decimal side.kept ++ codes " islands " ++ decimal side.islands ++ codes " centres " ++ decimal side.centres ++ codes " chains " ++ decimal side.chains

-- the line of the frame and the counts, behind the name of the side
unfoldable pub counts_line : List ℕ → SideReport → List ℕ
counts_line name side = name ++ frame_text side.frame ++ counts_text side ++ codes "\n"

-- the numbers of a group, each behind a space
unfoldable pub numbers_text : List ℕ → List ℕ
numbers_text group = flat_map (λ n. codes " " ++ decimal n) group

-- a line for each group
unfoldable pub joined_lines : List ℕ → List (List ℕ) → List ℕ
joined_lines name groups = flat_map (λ group. name ++ codes " joined" ++ numbers_text group ++ codes "\n") groups

-- the lines of a side
unfoldable pub side_text : List ℕ → SideReport → List ℕ
side_text name side = counts_line name side ++ joined_lines name side.groups

-- the lines of a side that was milled
abbrev pub side_if : List ℕ → Option Isolation → List ℕ
side_if name None = []
side_if name (Some plan) = side_text name (side_of plan)

-- a digit
abbrev pub digit : ℕ → List ℕ
digit n = decimal (n % 10)

-- a diameter in millimetres, with three decimals, to the nearest micrometre and half away from zero
unfoldable pub millimetres : ℤ → List ℕ
millimetres d = in_micrometres (unsigned_abs (round_div_of d (pos 1000)))
  where
    in_micrometres : ℕ → List ℕ
    in_micrometres n = decimal (n / 1000) ++ codes "." ++ digit (n / 100) ++ digit (n / 10) ++ digit n

-- how many holes and slots are drilled
unfoldable pub drilled_text : ℕ → ℕ → List ℕ
drilled_text holes slots = codes " holes " ++ decimal holes ++ codes " slots " ++ decimal slots ++ codes "\n"

-- the line of a tool with this number
unfoldable pub tool_line : ℕ → ToolPlan → List ℕ
tool_line number t = codes "drill T" ++ decimal number ++ codes " " ++ millimetres t.diameter ++ drilled_text (length t.holes) (length t.slots)

-- the line of all tools, and then one for each, numbered from 1
unfoldable pub drill_text : List ToolPlan → List ℕ
drill_text plan =
    codes "drill tools " ++ decimal (counts_of plan).tools ++ drilled_text (counts_of plan).holes (counts_of plan).slots
    ++ flat_map (λ t. tool_line t.0 t.1) (enumerate_from 1 plan)

-- the same, where there is a drill file
abbrev pub drill_if : Option (List ToolPlan) → List ℕ
drill_if None = []
drill_if (Some plan) = drill_text plan

-- nanometres, in millimetres with six decimals
unfoldable pub in_millimetres : ℤ → List ℕ
in_millimetres v = fixed6 v

-- the line of a bridge, with its place
unfoldable pub bridge_line : Point → List ℕ
bridge_line at = codes "bridge " ++ in_millimetres at.x ++ codes " " ++ in_millimetres at.y ++ codes "\n"

-- the counts of walks, levels and bridges
unfoldable pub cut_counts : OutlineCut → List ℕ
cut_counts plan = codes " chains " ++ decimal plan.chains ++ codes " passes " ++ decimal plan.passes ++ codes " bridges " ++ decimal (length (plan.bridges).items)

-- the line of the frame and the counts, and then one for each bridge
unfoldable pub outline_text : OutlineCut → List ℕ
outline_text plan = codes "outline" ++ frame_text plan.frame ++ cut_counts plan ++ codes "\n" ++ flat_map bridge_line (plan.bridges).items

-- the same, where there is an outline
abbrev pub outline_if : Option OutlineCut → List ℕ
outline_if None = []
outline_if (Some plan) = outline_text plan

-- the report of what was planned: its first line, the lines of each side, of the holes and of the outline, and its last line
unfoldable pub report_text : Plans → List ℕ
report_text plans =
    codes "pcbmill report 1\n" ++ side_if (codes "front") plans.front ++ side_if (codes "back") plans.back ++ drill_if plans.drill ++ outline_if plans.outline ++ codes "end\n"
