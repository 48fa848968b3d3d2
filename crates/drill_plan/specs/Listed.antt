-- The drill list in the words of the file: what the file gives a tool stands in the list once, and nothing else does.
use Rattle.std.specs.Prelude.{◌≡◌, ◌⊎◌, ℤ, ◌<ℤ◌, List, map}
use Rattle.std.specs.List.{All, AllPairs}
use Rattle.board_base.specs.declared.places.Point.{Point}
use Rattle.excellon.specs.declared.file.Hole.{Hole}
use Rattle.excellon.specs.declared.file.Slot.{Slot}
use Rattle.excellon.specs.declared.file.DrillFile.{DrillFile}
use Rattle.drill_plan.specs.Sets.{Has, HasEachOnce}
use Rattle.drill_plan.specs.Tools.{IsToolFor}
use Rattle.drill_plan.specs.declared.plans.ToolPlan.{ToolPlan}

-- the file gives the tool a hole here: one that stands here, or a slot with both ends here
abbrev pub GivesHole : DrillFile → List ℤ → ℤ → Point → Type 0
GivesHole file available tool here =
    ((h : Hole) × (Has file.holes h × IsToolFor available h.diameter tool × (h.at ≡ here)))
    ⊎ ((s : Slot) × (Has file.slots s × IsToolFor available s.diameter tool × (s.from ≡ here) × (s.to ≡ here)))

-- a point stands before another by x, and then by y
abbrev pub StandsBefore : Point → Point → Type 0
StandsBefore a b = (a.x <ℤ b.x) ⊎ ((a.x ≡ b.x) × (a.y <ℤ b.y))

-- the slot leads from the one end to the other, or back
abbrev pub HasEnds : Slot → Point × Point → Type 0
HasEnds s ends = ((s.from ≡ ends.0) × (s.to ≡ ends.1)) ⊎ ((s.from ≡ ends.1) × (s.to ≡ ends.0))

-- the file gives the tool a slot with these ends, in this order
abbrev pub GivesSlot : DrillFile → List ℤ → ℤ → Point × Point → Type 0
GivesSlot file available tool ends = StandsBefore ends.0 ends.1 × ((s : Slot) × (Has file.slots s × IsToolFor available s.diameter tool × HasEnds s ends))

-- the file gives the tool a hole or a slot
abbrev pub GivesSome : DrillFile → List ℤ → ℤ → Type 0
GivesSome file available tool =
    ((h : Hole) × (Has file.holes h × IsToolFor available h.diameter tool)) ⊎ ((s : Slot) × (Has file.slots s × IsToolFor available s.diameter tool))

-- a tool drills what the file gives it, each hole and each slot once, and nothing else
pub record DrillsGiven (file : DrillFile) (available : List ℤ) (t : ToolPlan) : Type 0 where
  pub holes : HasEachOnce (GivesHole file available t.diameter) t.holes
  pub slots : HasEachOnce (GivesSlot file available t.diameter) t.slots

-- each tool to which the file gives something stands once, by ascending diameter, no other does, and each drills what
-- it is given
pub record ListsFile (file : DrillFile) (available : List ℤ) (plan : List ToolPlan) : Type 0 where
  pub tools : HasEachOnce (GivesSome file available) (map (λ t. t.diameter) plan)
  pub ascending : AllPairs (λ t u. t.diameter <ℤ u.diameter) plan
  pub each : All (DrillsGiven file available) plan
