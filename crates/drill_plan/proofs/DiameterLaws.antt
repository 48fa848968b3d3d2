-- How many diameters a drill file has.
use Rattle.std.proofs.Common.{◌≡◌, ℕ, zero, suc, ◌<◌, ◌≤◌, ℤ, Bool, true, false, inl, inr, List, [], ◌∷◌, ◌++◌, length, Option, Some, None, IfSome, Ok, refl, sym, ap, subst, ◌∙◌, arith, length-append}
use Rattle.std.specs.Prelude.{if◌then◌else◌, ◌==◌}
use Rattle.std.specs.List.{All}
use Rattle.std.proofs.lemmas.Bool.{cases_eq}
use Rattle.std.proofs.lemmas.List.Elements.{All-nil, All-weaker}
use Rattle.board_base.specs.declared.places.Point.{Point}
use Rattle.text_cut.specs.Lines.{Line, lines_from}
use Rattle.excellon.specs.Body.{said_of}
use Rattle.excellon.specs.InForce.{InForce, part_at}
use Rattle.excellon.specs.Drilled.{act_of, tool_of, place_after, place_before, holes_with, slots_with, drilled_by}
use Rattle.excellon.specs.Checks.{Held, held, fault_of}
use Rattle.excellon.specs.State.{after}
use Rattle.excellon.specs.Drill.{Outcome, drill_of, outcome_in, told, led, is_end}
use Rattle.excellon.specs.declared.file.Hole.{Hole}
use Rattle.excellon.specs.declared.file.Slot.{Slot}
use Rattle.excellon.specs.declared.file.DrillFile.{DrillFile}
use Rattle.excellon.specs.declared.file.DrillKind.{DrillKind}
use Rattle.excellon.specs.declared.line.Act.{Act}
use Rattle.excellon.specs.declared.line.Act.TheVariants as acts
use Rattle.excellon.specs.declared.line.Part.{Part}
use Rattle.excellon.specs.declared.line.Part.TheVariants as parts
use Rattle.excellon.specs.declared.line.Said.{Said}
use Rattle.excellon.specs.declared.line.Said.TheVariants as says
use Rattle.excellon.specs.Laws.{KeepsPace}
use Rattle.excellon.proofs.ReadyLaws.{one_more_in}
use Rattle.drill_plan.specs.Sets.{Has}
use Rattle.drill_plan.specs.Limits.{HasFewDiameters, FewDiametersLaw}
use Rattle.drill_plan.proofs.HasLaws.{has_left, has_right}
use Rattle.drill_plan.proofs.LinePartLaws.{FitsPart, said_fits}

-- ---- the diameters of tools

diameter_if : Option ℤ → List ℤ
diameter_if None = []
diameter_if (Some d) = d ∷ []

-- those of the tools from 1 to n
diameters_to : (ℕ → Option ℤ) → ℕ → List ℤ
diameters_to tool zero = []
diameters_to tool (suc n) = diameter_if (tool (suc n)) ++ diameters_to tool n

at_most_one : (o : Option ℤ) → length (diameter_if o) ≤ 1
unfolding diameter_if
at_most_one None = omega arith
at_most_one (Some d) = omega arith

diameters_few : (tool : ℕ → Option ℤ) (n : ℕ) → length (diameters_to tool n) ≤ n
unfolding diameters_to
diameters_few tool zero = omega arith
diameters_few tool (suc n) = omega (arith, length-append (diameter_if (tool (suc n))) (diameters_to tool n), at_most_one (tool (suc n)), diameters_few tool n)

diameters_have : (tool : ℕ → Option ℤ) (n k : ℕ) (d : ℤ) → 0 < k → k ≤ n → tool k ≡ Some d → Has (diameters_to tool n) d
unfolding diameters_to diameter_if
diameters_have tool zero k d some most e = absurd (omega (arith, some, most))
diameters_have tool (suc n) k d some most e = elim (cases_eq k (suc n)) as (λ _. Has (diameter_if (tool (suc n)) ++ diameters_to tool n) d) [
  | inl last ↦ has_left (diameter_if (tool (suc n))) (diameters_to tool n) d (subst (λ o. Has (diameter_if o) d) (sym e ∙ ap tool last) (inl refl))
  | inr other ↦ has_right (diameter_if (tool (suc n))) (diameters_to tool n) d (diameters_have tool n k d some (omega (arith, most, other)) e)
]

-- ---- what is drilled, is drilled with a tool

-- the diameter of a tool from 1 to 9,999
abbrev IsOfTool : (ℕ → Option ℤ) → ℤ → Type 0
IsOfTool tool d = (k : ℕ) × ((0 < k) × (k ≤ 9999) × (tool k ≡ Some d))

-- in the body each hole and slot has such a diameter; before it there are none
abbrev AreTooled : Part → (ℕ → Option ℤ) → List Hole → List Slot → Type 0
AreTooled parts.Body tool holes slots = All (λ h. IsOfTool tool h.diameter) holes × All (λ s. IsOfTool tool s.diameter) slots
AreTooled part tool holes slots = (holes ≡ []) × (slots ≡ [])

record IsTooled (h : Held) : Type 0 where
  selected : h.now.selected ≤ 9999
  drilled : AreTooled h.now.part h.now.tool h.holes h.slots

none_tooled : (tool : ℕ → Option ℤ) (holes : List Hole) (slots : List Slot) → holes ≡ [] → slots ≡ [] → AreTooled parts.Body tool holes slots
none_tooled tool holes slots h s = (
  subst (All (λ (x : Hole). IsOfTool tool x.diameter)) (sym h) (All-nil (λ (x : Hole). IsOfTool tool x.diameter)),
  subst (All (λ (x : Slot). IsOfTool tool x.diameter)) (sym s) (All-nil (λ (x : Slot). IsOfTool tool x.diameter)),
)

in_body : (part : Part) (tool : ℕ → Option ℤ) (holes : List Hole) (slots : List Slot) → AreTooled part tool holes slots → AreTooled parts.Body tool holes slots
in_body parts.Start tool holes slots none = none_tooled tool holes slots none.0 none.1
in_body parts.Header tool holes slots none = none_tooled tool holes slots none.0 none.1
in_body parts.Body tool holes slots all = all

-- the selected tool is one of them
own_tool : (now : InForce) (d : ℤ) → now.selected ≤ 9999 → tool_of now ≡ Some d → IsOfTool now.tool d
own_tool now d few e = by_test (now.selected == 0) refl e
  where
    by_test : (b : Bool) → (now.selected == 0) ≡ b → (if b then None else now.tool now.selected) ≡ Some d → IsOfTool now.tool d
    by_test true t e = absurd cc
    by_test false t e = (now.selected, (some, few, e))
      where
        some : 0 < now.selected
        some = grind (arith, t)

module _ (tool : ℕ → Option ℤ) where
  holes_tooled : (act : Act) (own : Option ℤ) (at : Point) (holes : List Hole) → ((d : ℤ) → own ≡ Some d → IsOfTool tool d) → All (λ h. IsOfTool tool h.diameter) holes → All (λ h. IsOfTool tool h.diameter) (holes_with act own at holes)
  holes_tooled acts.Hole (Some d) at holes of all = one_more_in (λ (h : Hole). IsOfTool tool h.diameter) holes (record { diameter = d; at = at }) all (of d refl)
  holes_tooled acts.Hole None at holes of all = all
  holes_tooled acts.Cut own at holes of all = all
  holes_tooled acts.Slot own at holes of all = all
  holes_tooled acts.Move own at holes of all = all

  slots_tooled : (act : Act) (own : Option ℤ) (from to : Point) (slots : List Slot) → ((d : ℤ) → own ≡ Some d → IsOfTool tool d) → All (λ s. IsOfTool tool s.diameter) slots → All (λ s. IsOfTool tool s.diameter) (slots_with act own from to slots)
  slots_tooled acts.Hole own from to slots of all = all
  slots_tooled acts.Cut (Some d) from to slots of all = one_more_in (λ (s : Slot). IsOfTool tool s.diameter) slots (record { diameter = d; from = from; to = to }) all (of d refl)
  slots_tooled acts.Cut None from to slots of all = all
  slots_tooled acts.Slot (Some d) from to slots of all = one_more_in (λ (s : Slot). IsOfTool tool s.diameter) slots (record { diameter = d; from = from; to = to }) all (of d refl)
  slots_tooled acts.Slot None from to slots of all = all
  slots_tooled acts.Move own from to slots of all = all

-- ---- lines

-- behind each line that may stand in its part
tooled_after : (h : Held) (said : Said) → IsTooled h → FitsPart h.now.part said → IsTooled (after h said)
tooled_after h (says.Go way) t body =
    let all : AreTooled parts.Body h.now.tool h.holes h.slots = in_body h.now.part h.now.tool h.holes h.slots t.drilled in
    let own : (d : ℤ) → tool_of h.now ≡ Some d → IsOfTool h.now.tool d = λ d. own_tool h.now d t.selected in
    record {
      selected = t.selected;
      drilled =
          subst (λ part. AreTooled part h.now.tool (holes_with (act_of h.now (says.Go way)) (tool_of h.now) (place_after h.now (says.Go way)) h.holes)
          (slots_with (act_of h.now (says.Go way)) (tool_of h.now) (place_before h.now (says.Go way)) (place_after h.now (says.Go way)) h.slots)) (sym body) (
            holes_tooled h.now.tool (act_of h.now (says.Go way)) (tool_of h.now) (place_after h.now (says.Go way)) h.holes own all.0,
            slots_tooled h.now.tool (act_of h.now (says.Go way)) (tool_of h.now) (place_before h.now (says.Go way)) (place_after h.now (says.Go way)) h.slots own all.1,
          );
    }
tooled_after h (says.Define number size) t header = record {
  selected = t.selected;
  drilled =
      (let none : (h.holes ≡ []) × (h.slots ≡ []) = subst (λ part. AreTooled part h.now.tool h.holes h.slots) header t.drilled in
      subst (λ part. AreTooled part (after h (says.Define number size)).now.tool h.holes h.slots) (sym header) none);
}
tooled_after h says.Begin t start = record { selected = t.selected; drilled = subst (λ part. AreTooled part h.now.tool h.holes h.slots) start t.drilled }
tooled_after h says.EndHeader t header = record { selected = t.selected; drilled = in_body h.now.part h.now.tool h.holes h.slots t.drilled }
tooled_after h (says.Select number) t few = record { selected = few; drilled = t.drilled }
tooled_after h says.Ignored t fits = record { selected = t.selected; drilled = t.drilled }
tooled_after h (says.Format f) t fits = record { selected = t.selected; drilled = t.drilled }
tooled_after h (says.Unit unit fills format) t fits = record { selected = t.selected; drilled = t.drilled }
tooled_after h (says.Lower down) t fits = record { selected = t.selected; drilled = t.drilled }
tooled_after h says.EndRouting t fits = record { selected = t.selected; drilled = t.drilled }
tooled_after h says.Unsupported t fits = record { selected = t.selected; drilled = t.drilled }
tooled_after h says.End t fits = record { selected = t.selected; drilled = t.drilled }

few_diameters : (past : List Said) → IsTooled (held past) → HasFewDiameters (drilled_by past)
few_diameters past t =
    let h = held past in
    let all : AreTooled parts.Body h.now.tool h.holes h.slots = in_body h.now.part h.now.tool h.holes h.slots t.drilled in
    let has : (d : ℤ) → IsOfTool h.now.tool d → Has (diameters_to h.now.tool 9999) d = λ d of. diameters_have h.now.tool 9999 of.0 d of.1.0 of.1.1 of.1.2 in
    record {
      diameters = diameters_to h.now.tool 9999;
      few = diameters_few h.now.tool 9999;
      holes = All-weaker (λ (x : Hole). IsOfTool h.now.tool x.diameter) (λ x. Has (diameters_to h.now.tool 9999) x.diameter) (λ x. has x.diameter) h.holes all.0;
      slots = All-weaker (λ (x : Slot). IsOfTool h.now.tool x.diameter) (λ x. Has (diameters_to h.now.tool 9999) x.diameter) (λ x. has x.diameter) h.slots all.1;
    }

-- what a line leads to, by what the lines behind it lead to
line_few : KeepsPace → (size : ℕ) (file : DrillFile) (past : List Said) (line : Line) (behind : Said → Outcome) → IsTooled (held past)
    → ((said : Said) → IsTooled (held (said ∷ past)) → behind said ≡ Ok file → HasFewDiameters file) → told past line.offset (said_of (part_at past) line.text) behind ≡ Ok file → HasFewDiameters file
line_few pace size file past line behind t later e = by_said (said_of (part_at past) line.text) (said_fits (part_at past) line.text) e
  where
    by_end : (said : Said) (end : Bool) → FitsPart (part_at past) said → (if end then Ok (drilled_by past) else behind said) ≡ Ok file → HasFewDiameters file
    by_end said true fits e = let same : drilled_by past ≡ file = cc in subst HasFewDiameters same (few_diameters past t)
    by_end said false fits e = later said (subst IsTooled (pace past said) (tooled_after (held past) said t fits)) e

    by_fault : (said : Said) (fault : Option DrillKind) → FitsPart (part_at past) said → led past said line.offset fault (behind said) ≡ Ok file → HasFewDiameters file
    by_fault said (Some kind) fits e = absurd cc
    by_fault said None fits e = by_end said (is_end said) fits e

    by_said : (said : Option Said) → IfSome said (FitsPart (part_at past)) → told past line.offset said behind ≡ Ok file → HasFewDiameters file
    by_said None fits e = absurd cc
    by_said (Some said) fits e = by_fault said (fault_of (held past) said) fits e

-- where lines lead to a file
few_in : KeepsPace → (size : ℕ) (file : DrillFile) (past : List Said) (lines : List Line) → IsTooled (held past) → outcome_in size past lines ≡ Ok file → HasFewDiameters file
few_in pace size file past [] t e = absurd cc
few_in pace size file past (line ∷ lines) t e = line_few pace size file past line (λ said. outcome_in size (said ∷ past) lines) t (λ said. few_in pace size file (said ∷ past) lines) e

-- what a reader keeps is what is in force
pub few_diameters_law : KeepsPace → FewDiametersLaw
unfolding drill_of
few_diameters_law pace bytes file e = few_in pace (length bytes) file [] (lines_from 0 bytes) (record { selected = omega arith; drilled = (refl, refl) }) e
