-- How much a drill list has.
use Rattle.std.proofs.Common.{◌≡◌, ℕ, ◌+◌, ◌≤◌, ℤ, Bool, true, false, not, inl, inr, List, [], ◌∷◌, map, length, refl, sym, ap, subst, ◌∙◌, arith, length-append, get_or}
use Rattle.std.specs.Prelude.{◌&&◌, if◌then◌else◌}
use Rattle.std.specs.List.{All, AllByRecursion, flat_map, sum_by}
use Rattle.std.specs.List.Sorted.{IsStrictlySortedBy}
use Rattle.std.specs.declared.cmp.Ordering.TheVariants.{Less}
use Rattle.std.specs.Ordering.{int_cmp, int_eq}
use Rattle.std.proofs.lemmas.Int.{ints}
use Rattle.std.proofs.lemmas.Bool.Decides.{Decides-int_eq}
use Rattle.std.proofs.lemmas.Cmp.{int_cmp_total}
use Rattle.std.proofs.lemmas.List.{length-map}
use Rattle.std.proofs.lemmas.List.Concat.{length-flat_map}
use Rattle.std.proofs.lemmas.List.Elements.{All-head, All-tail, All-weaker}
use Rattle.std.proofs.lemmas.List.Sorted.{length_permutation}
use Rattle.std.proofs.lemmas.List.Sums.{sum_by-cons}
use Rattle.std.proofs.lemmas.Map.Keys.{IsDistinct-from_sorted}
use Rattle.number_laws.proofs.Tests.{by_bool}
use Rattle.board_base.specs.declared.places.Point.{Point}
use Rattle.board_base.specs.Places.{IsPlace, origin}
use Rattle.excellon.specs.declared.file.Hole.{Hole}
use Rattle.excellon.specs.declared.file.Slot.{Slot}
use Rattle.excellon.specs.declared.file.DrillFile.{DrillFile}
use Rattle.excellon.specs.Fits.{IsHole, IsSlot, IsDrilled}
use Rattle.drill_plan.specs.Sets.{Has}
use Rattle.drill_plan.specs.Tools.{tool_of}
use Rattle.drill_plan.specs.Entries.{by_rows, by_ends, is_hole, ends_of, hole_place, slot_place, places_of, slot_ends, slots_of}
use Rattle.drill_plan.specs.Plan.{IsToolPlan, IsDrillPlan}
use Rattle.drill_plan.specs.Listed.{GivesHole, GivesSlot, GivesSome, DrillsGiven}
use Rattle.drill_plan.specs.Limits.{HasFewDiameters, counts_of, IsOnBoard}
use Rattle.drill_plan.specs.Laws.{LimitsLaw}
use Rattle.drill_plan.specs.declared.plans.ToolPlan.{ToolPlan}
use Rattle.drill_plan.proofs.OnePlan.{rows_total, ends_total}
use Rattle.drill_plan.proofs.SetLaws.{exact_number, all_of_has, has_map}
use Rattle.drill_plan.proofs.ToolLaws.{tool_is}
use Rattle.drill_plan.proofs.HasLaws.{all_has, no_longer, in_order}
use Rattle.drill_plan.proofs.ListedLaws.{exact_rows, exact_ends, entries_law}

-- ---- sums

sum_below : {T : Type 0} (f g : T → ℕ) (ts : List T) → ((t : T) → f t ≤ g t) → sum_by f ts ≤ sum_by g ts
sum_below f g [] h = omega arith
sum_below f g (t ∷ ts) h = omega (arith, sum_by-cons f t ts, sum_by-cons g t ts, h t, sum_below f g ts h)

sum_both : {T : Type 0} (f g : T → ℕ) (ts : List T) → sum_by (λ t. f t + g t) ts ≡ sum_by f ts + sum_by g ts
sum_both f g [] = omega arith
sum_both f g (t ∷ ts) = omega (arith, sum_by-cons (λ t. f t + g t) t ts, sum_by-cons f t ts, sum_by-cons g t ts, sum_both f g ts)

sum_none : {T : Type 0} (ts : List T) → sum_by (λ (t : T). 0) ts ≡ 0
sum_none [] = refl
sum_none {T} (t ∷ ts) = omega (arith, sum_by-cons (λ (t : T). 0) t ts, sum_none ts)

-- what is shared out, at most one of each item, is no more than there are items
shared : {T A : Type 0} (g : T → A → ℕ) (ts : List T) (items : List A) → ((a : A) → sum_by (λ t. g t a) ts ≤ 1) → sum_by (λ t. sum_by (g t) items) ts ≤ length items
shared g ts [] one = omega (arith, sum_none ts)
shared {T} g ts (a ∷ items) one =
    let parts : sum_by (λ t. sum_by (g t) (a ∷ items)) ts ≡ sum_by (λ t. g t a + sum_by (g t) items) ts = ap (λ (f : T → ℕ). sum_by f ts) (λ i t. sum_by-cons (g t) a items i) in
    omega (arith, parts, sum_both (λ t. g t a) (λ t. sum_by (g t) items) ts, one a, shared g ts items one)

-- ---- one tool for each hole and slot

abbrev count : Bool → ℕ
count b = if b then 1 else 0

count_most : (b : Bool) → count b ≤ 1
count_most true = omega arith
count_most false = omega arith

if_size : {X : Type 0} (b : Bool) (x : X) → length (if b then x ∷ [] else []) ≡ count b
if_size true x = refl
if_size false x = refl

both_sizes : {X Y : Type 0} (a b : Bool) (x : X) (y : Y) → length (if a && b then x ∷ [] else []) + length (if a && not b then y ∷ [] else []) ≡ count a
both_sizes true true x y = refl
both_sizes true false x y = refl
both_sizes false b x y = refl

int_apart : (a b : ℤ) → int_cmp a b ≡ Less → count (int_eq a b) ≡ 0
int_apart a b e = by_bool (int_eq a b) (λ t. absurd (same a b e ((Decides-int_eq a b).0 t))) (λ f. ap count f)
  where
    same : (a b : ℤ) → int_cmp a b ≡ Less → a ≡ b → ⊥
    same a b e s = grind (arith, ints, e, s)

none_above : (k : ℤ) (tools : List ℤ) → AllByRecursion (λ t. int_cmp k t ≡ Less) tools → sum_by (λ t. count (int_eq k t)) tools ≡ 0
none_above k [] above = refl
none_above k (t ∷ tools) above = omega (arith, sum_by-cons (λ t. count (int_eq k t)) t tools, int_apart k t above.0, none_above k tools above.1)

-- of ascending tools at most one is a given one
one_of : (k : ℤ) (tools : List ℤ) → IsStrictlySortedBy int_cmp tools → sum_by (λ t. count (int_eq k t)) tools ≤ 1
unfolding IsStrictlySortedBy
one_of k [] rising = omega arith
one_of k (t ∷ tools) rising = by_bool (int_eq k t)
    (λ e. omega (
      arith,
      sum_by-cons (λ t. count (int_eq k t)) t tools,
      count_most (int_eq k t),
      none_above k tools (subst (λ u. AllByRecursion (λ t. int_cmp u t ≡ Less) tools) (sym ((Decides-int_eq k t).0 e)) rising.0),
    ))
    (λ e. (let none : count (int_eq k t) ≡ 0 = ap count e in omega (arith, sum_by-cons (λ t. count (int_eq k t)) t tools, none, one_of k tools rising.1)))

module _ (file : DrillFile) (available : List ℤ) where
  -- how many holes and slots the file gives a tool
  abbrev given : ℤ → ℕ
  given tool = length (places_of file available tool) + length (slots_of file available tool)

  abbrev from_holes : ℤ → ℕ
  from_holes tool = length (flat_map (hole_place available tool) file.holes)

  abbrev from_slots : ℤ → ℕ
  from_slots tool = length (flat_map (slot_place available tool) file.slots) + length (flat_map (slot_ends available tool) file.slots)

  holes_shared : (tools : List ℤ) → IsStrictlySortedBy int_cmp tools → sum_by from_holes tools ≤ length file.holes
  holes_shared tools rising =
      let parts : sum_by from_holes tools ≡ sum_by (λ t. sum_by (λ h. length (hole_place available t h)) file.holes) tools = ap (λ (f : ℤ → ℕ). sum_by f tools) (λ i t. length-flat_map (hole_place available t) file.holes i) in
      let all = shared (λ t h. length (hole_place available t h)) tools file.holes one in
      omega (arith, parts, all)
    where
      one : (h : Hole) → sum_by (λ t. length (hole_place available t h)) tools ≤ 1
      one h =
          let each : sum_by (λ t. length (hole_place available t h)) tools ≡ sum_by (λ t. count (int_eq (tool_of available h.diameter) t)) tools =
          ap (λ (f : ℤ → ℕ). sum_by f tools) (λ i t. if_size (int_eq (tool_of available h.diameter) t) h.at i) in
          omega (arith, each, one_of (tool_of available h.diameter) tools rising)

  slots_shared : (tools : List ℤ) → IsStrictlySortedBy int_cmp tools → sum_by from_slots tools ≤ length file.slots
  slots_shared tools rising =
      let parts : sum_by from_slots tools ≡ sum_by (λ t. sum_by (λ s. length (slot_place available t s) + length (slot_ends available t s)) file.slots) tools = ap (λ (f : ℤ → ℕ). sum_by f tools) (λ i t. part t i) in
      let all = shared (λ t s. length (slot_place available t s) + length (slot_ends available t s)) tools file.slots one in
      omega (arith, parts, all)
    where
      part : (t : ℤ) → from_slots t ≡ sum_by (λ s. length (slot_place available t s) + length (slot_ends available t s)) file.slots
      part t =
          omega (
            arith,
            length-flat_map (slot_place available t) file.slots,
            length-flat_map (slot_ends available t) file.slots,
            sum_both (λ s. length (slot_place available t s)) (λ s. length (slot_ends available t s)) file.slots,
          )

      one : (s : Slot) → sum_by (λ t. length (slot_place available t s) + length (slot_ends available t s)) tools ≤ 1
      one s =
          let each : sum_by (λ t. length (slot_place available t s) + length (slot_ends available t s)) tools ≡ sum_by (λ t. count (int_eq (tool_of available s.diameter) t)) tools =
          ap (λ (f : ℤ → ℕ). sum_by f tools) (λ i t. both_sizes (int_eq (tool_of available s.diameter) t) (is_hole s) s.from (ends_of s) i) in
          omega (arith, each, one_of (tool_of available s.diameter) tools rising)

  all_shared : (tools : List ℤ) → IsStrictlySortedBy int_cmp tools → sum_by given tools ≤ length file.holes + length file.slots
  all_shared tools rising =
      let parts : sum_by given tools ≡ sum_by (λ t. from_holes t + from_slots t) tools = ap (λ (f : ℤ → ℕ). sum_by f tools) (λ i t. part t i) in
      omega (arith, parts, sum_both from_holes from_slots tools, holes_shared tools rising, slots_shared tools rising)
    where
      part : (t : ℤ) → given t ≡ from_holes t + from_slots t
      part t = omega (arith, length-append (flat_map (hole_place available t) file.holes) (flat_map (slot_place available t) file.slots))

  -- ---- what one tool has

  few_holes : (t : ToolPlan) → IsToolPlan file available t → length t.holes ≤ length (places_of file available t.diameter)
  few_holes t is =
      let tour = is.holes in
      let size : length t.holes ≡ length tour.sorted = ap length tour.points_are ∙ length_permutation tour.sorted (map (λ k. get_or tour.sorted k origin) tour.order) (in_order tour.sorted origin tour.order tour.order_of) in
      let most = no_longer by_rows rows_total exact_rows tour.sorted (places_of file available t.diameter) (IsDistinct-from_sorted by_rows tour.sorted tour.ascending.rising) (λ p h. (tour.ascending.same p).1 h) in
      omega (arith, size, most)

  few_slots : (t : ToolPlan) → IsToolPlan file available t → length t.slots ≤ length (slots_of file available t.diameter)
  few_slots t is = no_longer by_ends ends_total exact_ends t.slots (slots_of file available t.diameter) (IsDistinct-from_sorted by_ends t.slots is.slots.rising) (λ e h. (is.slots.same e).1 h)

  few_given : (plan : List ToolPlan) → All (IsToolPlan file available) plan → (counts_of plan).holes + (counts_of plan).slots ≤ sum_by given (map (λ (t : ToolPlan). t.diameter) plan)
  few_given [] all = omega arith
  few_given (t ∷ plan) all =
      let is = All-head (IsToolPlan file available) t plan all in
      omega (
        arith,
        sum_by-cons (λ (t : ToolPlan). length t.holes) t plan,
        sum_by-cons (λ (t : ToolPlan). length t.slots) t plan,
        sum_by-cons given t.diameter (map (λ (t : ToolPlan). t.diameter) plan),
        few_holes t is,
        few_slots t is,
        few_given plan (All-tail (IsToolPlan file available) t plan all),
      )

  on_board : IsDrilled file → (t : ToolPlan) → DrillsGiven file available t → IsOnBoard t
  on_board d t is = record {
    holes = all_of_has IsPlace t.holes (λ p h. hole_place_in p ((is.holes.same p).1 h));
    slots = all_of_has (λ (s : Point × Point). IsPlace s.0 × IsPlace s.1) t.slots (λ e h. ends_in e ((is.slots.same e).1 h));
  }
    where
      hole_place_in : (p : Point) → GivesHole file available t.diameter p → IsPlace p
      hole_place_in p (inl (h, (there, for, at))) = subst IsPlace at (all_has IsHole file.holes h d.holes there).place
      hole_place_in p (inr (s, (there, for, at, end))) = subst IsPlace at (all_has IsSlot file.slots s d.slots there).from

      ends_in : (e : Point × Point) → GivesSlot file available t.diameter e → IsPlace e.0 × IsPlace e.1
      ends_in e (before, (s, (there, for, inl (from, to)))) = let is = all_has IsSlot file.slots s d.slots there in (subst IsPlace from is.from, subst IsPlace to is.to)
      ends_in e (before, (s, (there, for, inr (from, to)))) = let is = all_has IsSlot file.slots s d.slots there in (subst IsPlace to is.to, subst IsPlace from is.from)

  -- ---- the tools

  few_tools : (plan : List ToolPlan) → HasFewDiameters file → IsDrillPlan file available plan → length plan ≤ 9999
  few_tools plan few d =
      let tools = map (λ (t : ToolPlan). t.diameter) plan in
      let own = map (tool_of available) few.diameters in
      let most : length tools ≤ length own = no_longer int_cmp int_cmp_total exact_number tools own (IsDistinct-from_sorted int_cmp tools d.tools.rising) (λ t h. own_has t (((entries_law file available plan d).tools.same t).1 h)) in
      omega (arith, most, length-map plan (λ (t : ToolPlan). t.diameter), length-map few.diameters (tool_of available), few.few)
    where
      own_has : (t : ℤ) → GivesSome file available t → Has (map (tool_of available) few.diameters) t
      own_has t (inl (h, (there, for))) =
          subst (Has (map (tool_of available) few.diameters)) (tool_is available h.diameter t for) (has_map (tool_of available) few.diameters h.diameter (all_has (λ (h : Hole). Has few.diameters h.diameter) file.holes h few.holes there))
      own_has t (inr (s, (there, for))) =
          subst (Has (map (tool_of available) few.diameters)) (tool_is available s.diameter t for) (has_map (tool_of available) few.diameters s.diameter (all_has (λ (s : Slot). Has few.diameters s.diameter) file.slots s few.slots there))

pub limits_law : LimitsLaw
limits_law file available plan drilled few d = record {
  tools = few_tools file available plan few d;
  few = (let given = few_given file available plan d.each in let all = all_shared file available (map (λ (t : ToolPlan). t.diameter) plan) d.tools.rising in omega (arith, given, all, drilled.few));
  placed = All-weaker (DrillsGiven file available) IsOnBoard (on_board file available drilled) plan (entries_law file available plan d).each;
}
