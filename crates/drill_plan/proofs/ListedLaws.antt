-- What the file gives each tool stands in the drill list once, and nothing else does.
use Rattle.std.proofs.Common.{◌≡◌, ℤ, ◌<ℤ◌, true, false, not, ◌↔◌, inl, inr, List, [], ◌∷◌, map, refl, sym, ap, subst, ◌∙◌, arith}
use Rattle.std.specs.Prelude.{◌&&◌, if◌then◌else◌}
use Rattle.std.specs.List.{All, AllByRecursion, AllPairs, flat_map}
use Rattle.std.specs.List.Sorted.{IsStrictlySortedBy}
use Rattle.std.specs.Ordering.{int_cmp, int_eq, ordering_then, ordering_reverse, is_lt}
use Rattle.std.specs.Cmp.{int_cmp_is}
use Rattle.std.specs.declared.cmp.Ordering.{Ordering}
use Rattle.std.specs.declared.cmp.Ordering.TheVariants.{Less, Equal, Greater}
use Rattle.std.proofs.lemmas.Bool.{false≢true}
use Rattle.std.proofs.lemmas.Bool.Decides.{Decides-int_eq}
use Rattle.std.proofs.lemmas.Cmp.{int_cmp_total}
use Rattle.std.proofs.lemmas.Int.{ints}
use Rattle.std.proofs.lemmas.List.Elements.{All-nil, All-cons, All-weaker}
use Rattle.std.proofs.lemmas.List.Kept.{AllPairs-cons}
use Rattle.number_laws.proofs.Tests.{both, first_of, second_of, not_true, by_bool}
use Rattle.board_base.specs.declared.places.Point.{Point}
use Rattle.excellon.specs.declared.file.Hole.{Hole}
use Rattle.excellon.specs.declared.file.Slot.{Slot}
use Rattle.excellon.specs.declared.file.DrillFile.{DrillFile}
use Rattle.board_base.specs.Places.{origin}
use Rattle.drill_plan.specs.Sets.{Has, HasEachOnce}
use Rattle.drill_plan.specs.Tools.{tool_of, IsToolFor}
use Rattle.drill_plan.specs.Entries.{by_rows, by_columns, by_ends, is_hole, ends_of, tools_of, hole_place, slot_place, places_of, slot_ends, slots_of}
use Rattle.drill_plan.specs.Plan.{IsTour, IsToolPlan}
use Rattle.drill_plan.specs.Listed.{GivesHole, StandsBefore, HasEnds, GivesSlot, GivesSome, DrillsGiven}
use Rattle.drill_plan.specs.Laws.{EntriesLaw}
use Rattle.drill_plan.specs.declared.plans.ToolPlan.{ToolPlan}
use Rattle.drill_plan.proofs.OnePlan.{rows_total, columns_total, ends_total}
use Rattle.drill_plan.proofs.SetLaws.{IsExact, exact_number, int_same, then_equal, has_either, by_either}
use Rattle.drill_plan.proofs.ToolLaws.{tool_law, tool_is}
use Rattle.drill_plan.proofs.HasLaws.{has_left, has_right, has_flat, from_flat, has_if, from_if, ascending_once, permuted_once, in_order}

-- ---- orders of points

pub exact_rows : IsExact by_rows
exact_rows a b e =
    let both = then_equal (int_cmp a.y b.y) (int_cmp a.x b.x) e in
    let y : a.y ≡ b.y = int_same a.y b.y both.0 in
    let x : a.x ≡ b.x = int_same a.x b.x both.1 in
    λ t. record { x = x t; y = y t }

exact_columns : IsExact by_columns
exact_columns a b e =
    let both = then_equal (int_cmp a.x b.x) (int_cmp a.y b.y) e in
    let x : a.x ≡ b.x = int_same a.x b.x both.0 in
    let y : a.y ≡ b.y = int_same a.y b.y both.1 in
    λ t. record { x = x t; y = y t }

pub exact_ends : IsExact by_ends
exact_ends a b e =
    let both = then_equal (by_columns a.0 b.0) (by_columns a.1 b.1) e in
    let first : a.0 ≡ b.0 = exact_columns a.0 b.0 both.0 in
    let second : a.1 ≡ b.1 = exact_columns a.1 b.1 both.1 in
    λ t. (first t, second t)

before_less : (a b : Point) → StandsBefore a b → by_columns a b ≡ Less
before_less a b (inl x) = ap (λ o. ordering_then o (int_cmp a.y b.y)) (sym (int_cmp_is a.x b.x Less x))
before_less a b (inr (x, y)) = ap (λ o. ordering_then o (int_cmp a.y b.y)) (sym (int_cmp_is a.x b.x Equal x)) ∙ sym (int_cmp_is a.y b.y Less y)

int_less : (a b : ℤ) → int_cmp a b ≡ Less → a <ℤ b
int_less a b e = grind (arith, ints, e)

less_before : (a b : Point) → by_columns a b ≡ Less → StandsBefore a b
less_before a b e = by_x (int_cmp a.x b.x) refl e
  where
    by_x : (o : Ordering) → int_cmp a.x b.x ≡ o → ordering_then o (int_cmp a.y b.y) ≡ Less → StandsBefore a b
    by_x Less x e = inl (int_less a.x b.x x)
    by_x Equal x e = inr (int_same a.x b.x x, int_less a.y b.y e)
    by_x Greater x e = absurd cc

-- ---- tools

module _ (available : List ℤ) (own tool : ℤ) where
  -- the test that the code makes, and what it stands for
  to_test : IsToolFor available own tool → int_eq (tool_of available own) tool ≡ true
  to_test t = (Decides-int_eq (tool_of available own) tool).1 (tool_is available own tool t)

  from_test : int_eq (tool_of available own) tool ≡ true → IsToolFor available own tool
  from_test e = subst (IsToolFor available own) ((Decides-int_eq (tool_of available own) tool).0 e) (tool_law available own)

  to_tool : IsToolFor available own tool → Has (tool_of available own ∷ []) tool
  to_tool t = inl (tool_is available own tool t)

  from_tool : Has (tool_of available own ∷ []) tool → IsToolFor available own tool
  from_tool (inl same) = subst (IsToolFor available own) same (tool_law available own)
  from_tool (inr none) = absurd none

-- ---- slots of no length, and the ends of others

agrees : (s : Slot) → s.from ≡ s.to → is_hole s ≡ true
agrees s e = both (int_eq s.from.x s.to.x) (int_eq s.from.y s.to.y) ((Decides-int_eq s.from.x s.to.x).1 (ap (λ (p : Point). p.x) e)) ((Decides-int_eq s.from.y s.to.y).1 (ap (λ (p : Point). p.y) e))

agreed : (s : Slot) → is_hole s ≡ true → s.from ≡ s.to
agreed s e =
    let x : s.from.x ≡ s.to.x = (Decides-int_eq s.from.x s.to.x).0 (first_of (int_eq s.from.x s.to.x) (int_eq s.from.y s.to.y) e) in
    let y : s.from.y ≡ s.to.y = (Decides-int_eq s.from.y s.to.y).0 (second_of (int_eq s.from.x s.to.x) (int_eq s.from.y s.to.y) e) in
    λ t. record { x = x t; y = y t }

-- no point stands before itself, and of two points not both stand before the other
never_before : (a : Point) → StandsBefore a a → ⊥
never_before a (inl x) = omega (arith, ints, x)
never_before a (inr (x, y)) = omega (arith, ints, y)

not_after : (a b : Point) → StandsBefore a b → is_lt (by_columns b a) ≡ false
not_after a b h = ap is_lt (columns_total.antisymm b a ∙ ap ordering_reverse (before_less a b h))

is_cut : (s : Slot) → (s.from ≡ s.to → ⊥) → not (is_hole s) ≡ true
is_cut s apart = by_bool (is_hole s) (λ e. absurd (apart (agreed s e))) (λ e. ap not e)

-- what the ends of a slot are
abbrev AreEnds : Slot → Point × Point → Type 0
AreEnds s ends = StandsBefore ends.0 ends.1 × HasEnds s ends

ends_are : (s : Slot) (ends : Point × Point) → AreEnds s ends → (not (is_hole s) ≡ true) × (ends_of s ≡ ends)
ends_are s ends (before, inl (from, to)) =
    let ahead : StandsBefore s.from s.to = subst (λ p. StandsBefore p s.to) (sym from) (subst (StandsBefore ends.0) (sym to) before) in (
      is_cut s (λ e. never_before s.to (subst (λ p. StandsBefore p s.to) e ahead)),
      ap (λ b. if b then (s.to, s.from) else (s.from, s.to)) (not_after s.from s.to ahead) ∙ (λ t. (from t, to t)),
    )
ends_are s ends (before, inr (from, to)) =
    let back : StandsBefore s.to s.from = subst (λ p. StandsBefore p s.from) (sym to) (subst (StandsBefore ends.0) (sym from) before) in (
      is_cut s (λ e. never_before s.to (subst (StandsBefore s.to) e back)),
      ap (λ o. if is_lt o then (s.to, s.from) else (s.from, s.to)) (before_less s.to s.from back) ∙ (λ t. (to t, from t)),
    )

are_ends : (s : Slot) → not (is_hole s) ≡ true → AreEnds s (ends_of s)
are_ends s cut = by_order (by_columns s.to s.from) refl
  where
    by_order : (o : Ordering) → by_columns s.to s.from ≡ o → AreEnds s (if is_lt o then (s.to, s.from) else (s.from, s.to))
    by_order Less e = (less_before s.to s.from e, inr (refl, refl))
    by_order Equal e = absurd (false≢true (sym (not_true (is_hole s) cut) ∙ agrees s (sym (exact_columns s.to s.from e))))
    by_order Greater e = (less_before s.from s.to (columns_total.antisymm s.from s.to ∙ ap ordering_reverse e), inl (refl, refl))

module _ (file : DrillFile) (available : List ℤ) where
  -- ---- the tools that are used

  some_given : (tool : ℤ) → GivesSome file available tool ↔ Has (tools_of file available) tool
  some_given tool = (to, from)
    where
      hole_tools : List ℤ
      hole_tools = flat_map (λ (h : Hole). tool_of available h.diameter ∷ []) file.holes

      slot_tools : List ℤ
      slot_tools = flat_map (λ (s : Slot). tool_of available s.diameter ∷ []) file.slots

      to : GivesSome file available tool → Has (tools_of file available) tool
      to (inl (h, (there, for))) = has_left _ _ tool (has_flat (λ (h : Hole). tool_of available h.diameter ∷ []) file.holes h tool there (to_tool available h.diameter tool for))
      to (inr (s, (there, for))) = has_right _ _ tool (has_flat (λ (s : Slot). tool_of available s.diameter ∷ []) file.slots s tool there (to_tool available s.diameter tool for))

      from : Has (tools_of file available) tool → GivesSome file available tool
      from h = by_either
          (λ here. (let r = from_flat (λ (h : Hole). tool_of available h.diameter ∷ []) file.holes tool here in inl (r.0, (r.1.0, from_tool available r.0.diameter tool r.1.1))))
          (λ here. (let r = from_flat (λ (s : Slot). tool_of available s.diameter ∷ []) file.slots tool here in inr (r.0, (r.1.0, from_tool available r.0.diameter tool r.1.1))))
          (has_either _ _ tool h)

  -- ---- holes

  hole_given : (tool : ℤ) (p : Point) → GivesHole file available tool p ↔ Has (places_of file available tool) p
  hole_given tool p = (to, from)
    where
      to : GivesHole file available tool p → Has (places_of file available tool) p
      to (inl (h, (there, for, at))) =
          has_left (flat_map (hole_place available tool) file.holes) (flat_map (slot_place available tool) file.slots) p
          (has_flat (hole_place available tool) file.holes h p there
          (subst (Has (hole_place available tool h)) at (has_if (int_eq (tool_of available h.diameter) tool) h.at (to_test available h.diameter tool for))))
      to (inr (s, (there, for, at, end))) =
          has_right (flat_map (hole_place available tool) file.holes) (flat_map (slot_place available tool) file.slots) p
          (has_flat (slot_place available tool) file.slots s p there
          (subst (Has (slot_place available tool s)) at
          (has_if (int_eq (tool_of available s.diameter) tool && is_hole s) s.from (both (int_eq (tool_of available s.diameter) tool) (is_hole s) (to_test available s.diameter tool for) (agrees s (at ∙ sym end))))))

      of_hole : (h : Hole) → Has file.holes h → (int_eq (tool_of available h.diameter) tool ≡ true) × (h.at ≡ p) → GivesHole file available tool p
      of_hole h there (t, at) = inl (h, (there, from_test available h.diameter tool t, at))

      of_slot : (s : Slot) → Has file.slots s → ((int_eq (tool_of available s.diameter) tool && is_hole s) ≡ true) × (s.from ≡ p) → GivesHole file available tool p
      of_slot s there (t, at) =
          inr (
            s,
            (
              there,
              from_test available s.diameter tool (first_of (int_eq (tool_of available s.diameter) tool) (is_hole s) t),
              at,
              sym (agreed s (second_of (int_eq (tool_of available s.diameter) tool) (is_hole s) t)) ∙ at,
            ),
          )

      from : Has (places_of file available tool) p → GivesHole file available tool p
      from h = by_either
          (λ here. (let r = from_flat (hole_place available tool) file.holes p here in of_hole r.0 r.1.0 (from_if (int_eq (tool_of available r.0.diameter) tool) r.0.at p r.1.1)))
          (λ here. (let r = from_flat (slot_place available tool) file.slots p here in of_slot r.0 r.1.0 (from_if (int_eq (tool_of available r.0.diameter) tool && is_hole r.0) r.0.from p r.1.1)))
          (has_either (flat_map (hole_place available tool) file.holes) (flat_map (slot_place available tool) file.slots) p h)

  -- ---- slots

  slot_given : (tool : ℤ) (ends : Point × Point) → GivesSlot file available tool ends ↔ Has (slots_of file available tool) ends
  slot_given tool ends = (to, from)
    where
      to : GivesSlot file available tool ends → Has (slots_of file available tool) ends
      to (before, (s, (there, for, are))) =
          let e = ends_are s ends (before, are) in
          has_flat (slot_ends available tool) file.slots s ends there
          (subst (Has (slot_ends available tool s)) e.1
          (has_if (int_eq (tool_of available s.diameter) tool && not (is_hole s)) (ends_of s) (both (int_eq (tool_of available s.diameter) tool) (not (is_hole s)) (to_test available s.diameter tool for) e.0)))

      of_slot : (s : Slot) → Has file.slots s → ((int_eq (tool_of available s.diameter) tool && not (is_hole s)) ≡ true) × (ends_of s ≡ ends) → GivesSlot file available tool ends
      of_slot s there (t, e) =
          let are : AreEnds s ends = subst (AreEnds s) e (are_ends s (second_of (int_eq (tool_of available s.diameter) tool) (not (is_hole s)) t)) in
          (are.0, (s, (there, from_test available s.diameter tool (first_of (int_eq (tool_of available s.diameter) tool) (not (is_hole s)) t), are.1)))

      from : Has (slots_of file available tool) ends → GivesSlot file available tool ends
      from h =
          let r = from_flat (slot_ends available tool) file.slots ends h in
          of_slot r.0 r.1.0 (from_if (int_eq (tool_of available r.0.diameter) tool && not (is_hole r.0)) (ends_of r.0) ends r.1.1)

  -- ---- all of them

  tour_once : (tool : ℤ) (points : List Point) → IsTour (places_of file available tool) points → HasEachOnce (GivesHole file available tool) points
  tour_once tool points t =
      subst (HasEachOnce (GivesHole file available tool)) (sym t.points_are)
      (permuted_once by_rows rows_total exact_rows (GivesHole file available tool) (places_of file available tool) t.sorted _ t.ascending (hole_given tool) (in_order t.sorted origin t.order t.order_of))

  drills_given : (t : ToolPlan) → IsToolPlan file available t → DrillsGiven file available t
  drills_given t is = record {
    holes = tour_once t.diameter t.holes is.holes;
    slots = ascending_once by_ends ends_total exact_ends (GivesSlot file available t.diameter) (slots_of file available t.diameter) t.slots is.slots (slot_given t.diameter);
  }

-- tools whose diameters ascend
below_all : (d : ℤ) (plan : List ToolPlan) → AllByRecursion (λ e. int_cmp d e ≡ Less) (map (λ (t : ToolPlan). t.diameter) plan) → All (λ (t : ToolPlan). d <ℤ t.diameter) plan
below_all d [] below = All-nil (λ (t : ToolPlan). d <ℤ t.diameter)
below_all d (t ∷ plan) below = All-cons (λ (t : ToolPlan). d <ℤ t.diameter) t plan (int_less d t.diameter below.0) (below_all d plan below.1)

tools_ascend : (plan : List ToolPlan) → IsStrictlySortedBy int_cmp (map (λ (t : ToolPlan). t.diameter) plan) → AllPairs (λ (t u : ToolPlan). t.diameter <ℤ u.diameter) plan
unfolding IsStrictlySortedBy
tools_ascend [] rising = λ i j d i_less inside. absurd (omega (arith, inside))
tools_ascend (t ∷ plan) rising = AllPairs-cons (λ (t u : ToolPlan). t.diameter <ℤ u.diameter) t plan (below_all t.diameter plan rising.0) (tools_ascend plan rising.1)

pub entries_law : EntriesLaw
entries_law file available plan d = record {
  tools = ascending_once int_cmp int_cmp_total exact_number (GivesSome file available) (tools_of file available) (map (λ (t : ToolPlan). t.diameter) plan) d.tools (some_given file available);
  ascending = tools_ascend plan d.tools.rising;
  each = All-weaker (IsToolPlan file available) (DrillsGiven file available) (drills_given file available) plan d.each;
}
