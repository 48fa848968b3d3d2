-- What holds before each line holds behind one that is taken.
use Rattle.std.proofs.Common.{◌≡◌, refl, ℕ, zero, suc, get_or, ◌<◌, ◌+◌, ◌≤◌, ℤ, pos, List, [], ◌∷◌, ◌++◌, length, Bool, true, false, not, Option, Some, None, IfSome, unwrap_or, Result, Ok, Err, OnOk, rules, arith, ap, sym, ◌∙◌, subst}
use Rattle.std.specs.Prelude.{◌==◌, ◌&&◌, ◌||◌, if◌then◌else◌, ◌≤ℤ◌, ◌<ℤ◌, int_le, nat_lt, ⊤}
use Rattle.std.specs.List.{All}
use Rattle.std.specs.Option.{option_or}
use Rattle.std.proofs.lemmas.Grind.{common_steps}
use Rattle.std.proofs.lemmas.List.Elements.{All-append}
use Rattle.std.proofs.lemmas.Int.{ints}
use Rattle.board_base.specs.declared.places.Point.{Point}
use Rattle.board_base.specs.Places.{IsPlace}
use Rattle.plane_arcs.specs.Turned.{in_range, is_far}
use Rattle.excellon.specs.InForce.{InForce, diameter_of, routing_by, cutting_by}
use Rattle.excellon.specs.Drilled.{act_of, tool_of, place_after, place_before, holes_with, slots_with}
use Rattle.excellon.specs.Checks.{Held, first_fault, checks_of, fault_of, hits, is_empty, is_wide, are_many}
use Rattle.excellon.specs.Fits.{IsFormat, IsSaid, IsDiameter, IsHole, IsSlot}
use Rattle.excellon.specs.State.{kept, after, Steps, IsReady}
use Rattle.excellon.specs.declared.acts.Effect.{Effect}
use Rattle.excellon.specs.declared.file.Hole.{Hole}
use Rattle.excellon.specs.declared.file.Slot.{Slot}
use Rattle.excellon.specs.declared.file.DrillKind.{DrillKind}
use Rattle.excellon.specs.declared.line.Act.{Act}
use Rattle.excellon.specs.declared.line.Act.TheVariants as acts
use Rattle.excellon.specs.declared.line.Format.{Format}
use Rattle.fixed_num.specs.declared.units.Unit.{Unit}
use Rattle.excellon.specs.declared.line.Way.{Way}
use Rattle.excellon.specs.declared.line.Said.{Said}
use Rattle.excellon.specs.declared.line.Said.TheVariants as says
use Rattle.excellon.specs.declared.state.State.{State}
use Rattle.excellon.specs.declared.state.Stop.{Stop}
use Rattle.plane_arcs.proofs.RangeLaws.{inside_place}

-- A line with coordinates.

-- a state behind what a line with coordinates does
abbrev pub state_with : State → Way → Effect → State
state_with s way e = record s {
  holes = holes_with e.act e.tool e.to s.holes;
  slots = slots_with e.act e.tool e.from e.to s.slots;
  here = e.to;
  routing = unwrap_or (routing_by way.word) s.routing;
  cutting = unwrap_or (cutting_by way.word) s.cutting;
}

pub gone : (s new : State) (way : Way) (e : Effect)
    → e ≡ record { act = act_of (kept s).now (says.Go way); tool = tool_of (kept s).now; from = place_before (kept s).now (says.Go way); to = place_after (kept s).now (says.Go way) }
    → new ≡ state_with s way e → kept new ≡ after (kept s) (says.Go way)
gone s new way e is n = ap kept n ∙ subst (λ e. kept (state_with s way e) ≡ after (kept s) (says.Go way)) (sym is) refl

-- Where no check fails.

-- none of the tests holds
abbrev pub NonePasses : List (Bool × DrillKind) → Type 0
NonePasses [] = ⊤
NonePasses (f ∷ fs) = (f.0 ≡ false) × NonePasses fs

head_fails : (b : Bool) (kind : DrillKind) (rest : Option DrillKind) → (if b then Some kind else rest) ≡ None → (b ≡ false) × (rest ≡ None)
head_fails true kind rest e = absurd cc
head_fails false kind rest e = (refl, e)

pub all_fail : (fs : List (Bool × DrillKind)) → first_fault fs ≡ None → NonePasses fs
all_fail [] e = tt
all_fail (f ∷ fs) e = let head = head_fails f.0 f.1 (first_fault fs) e in (head.0, all_fail fs head.1)

-- Diameters of tools.

wide_most : (d : ℤ) → not (int_le d (pos 20000000)) ≡ false → d ≤ℤ pos 20000000
wide_most d e = grind (arith, ints, e)

pub defined_most : (unit : Option Unit) (size : ℕ) (d : ℤ) → is_wide (diameter_of unit size) ≡ false → diameter_of unit size ≡ Some d → d ≤ℤ pos 20000000
defined_most unit size d w e = wide_most d (sym (ap is_wide e) ∙ w)

pub chosen_most : (b : Bool) (own old : Option ℤ) (d : ℤ) → (own ≡ Some d → d ≤ℤ pos 20000000) → (old ≡ Some d → d ≤ℤ pos 20000000) → option_or (if b then own else None) old ≡ Some d → d ≤ℤ pos 20000000
chosen_most true (Some x) old d new was e = new e
chosen_most true None old d new was e = was e
chosen_most false own old d new was e = was e

pub selected_most : (b : Bool) (tool : Option ℤ) (d : ℤ) → (tool ≡ Some d → d ≤ℤ pos 20000000) → (if b then None else tool) ≡ Some d → d ≤ℤ pos 20000000
selected_most true tool d was e = absurd cc
selected_most false tool d was e = was e

is_diameter : (d : ℤ) → int_le d (pos 0) ≡ false → d ≤ℤ pos 20000000 → IsDiameter d
is_diameter d e most = record { some = grind (arith, ints, e); most = most }

-- Holes and slots.

pub one_more_in : {X : Type 0} (P : X → Type 0) (xs : List X) (x : X) → All P xs → P x → All P (xs ++ x ∷ [])
one_more_in {X = X} P xs x all one = All-append P xs (x ∷ []) all (λ k d h. lone k d h)
  where
    lone : (k : ℕ) (d : X) → k < 1 → P (get_or (x ∷ []) k d)
    lone zero d h = one
    lone (suc k) d h = absurd (omega (arith, h))

pub still_holes : (act : Act) (tool : Option ℤ) (at : Point) (holes : List Hole) → (hits act && is_empty tool) ≡ false → ((d : ℤ) → tool ≡ Some d → d ≤ℤ pos 20000000) → IsPlace at
    → All IsHole holes → All IsHole (holes_with act tool at holes)
still_holes acts.Hole (Some d) at holes e most place all = one_more_in IsHole holes (record { diameter = d; at = at }) all (record { diameter = is_diameter d e (most d refl); place = place })
still_holes acts.Hole None at holes e most place all = all
still_holes acts.Cut tool at holes e most place all = all
still_holes acts.Slot tool at holes e most place all = all
still_holes acts.Move tool at holes e most place all = all

pub still_slots : (act : Act) (tool : Option ℤ) (from to : Point) (slots : List Slot) → (hits act && is_empty tool) ≡ false → ((d : ℤ) → tool ≡ Some d → d ≤ℤ pos 20000000) → IsPlace from → IsPlace to
    → All IsSlot slots → All IsSlot (slots_with act tool from to slots)
still_slots acts.Cut (Some d) from to slots e most start end all =
    one_more_in IsSlot slots (record { diameter = d; from = from; to = to }) all (record { diameter = is_diameter d e (most d refl); from = start; to = end })
still_slots acts.Slot (Some d) from to slots e most start end all =
    one_more_in IsSlot slots (record { diameter = d; from = from; to = to }) all (record { diameter = is_diameter d e (most d refl); from = start; to = end })
still_slots acts.Cut None from to slots e most start end all = all
still_slots acts.Slot None from to slots e most start end all = all
still_slots acts.Hole tool from to slots e most start end all = all
still_slots acts.Move tool from to slots e most start end all = all

not_many : (n : ℕ) → nat_lt 10000 n ≡ false → n ≤ 10000
not_many n e = grind (arith, common_steps, e)

pub still_few : (act : Act) (tool : Option ℤ) (from to : Point) (holes : List Hole) (slots : List Slot) → (hits act && are_many (holes_with act tool to holes) (slots_with act tool from to slots)) ≡ false
    → length holes + length slots ≤ 10000 → length (holes_with act tool to holes) + length (slots_with act tool from to slots) ≤ 10000
still_few acts.Move tool from to holes slots e few = few
still_few acts.Hole tool from to holes slots e few = not_many _ e
still_few acts.Cut tool from to holes slots e few = not_many _ e
still_few acts.Slot tool from to holes slots e few = not_many _ e

pub not_far : (p : Point) → is_far p ≡ false → IsPlace p
not_far p e = inside_place p (in_both (in_range p.x && in_range p.y) e)
  where
    in_both : (b : Bool) → not b ≡ false → b ≡ true
    in_both true e = refl
    in_both false e = absurd cc

pub or_false : (a b : Bool) → (a || b) ≡ false → (a ≡ false) × (b ≡ false)
or_false true b e = absurd cc
or_false false b e = (refl, e)

-- All of them.

ready_go : (h : Held) (way : Way) → IsReady h → fault_of h (says.Go way) ≡ None → IsReady (after h (says.Go way))
ready_go h way r e =
    let tests = all_fail (checks_of h (says.Go way)) e in
    let far = or_false (is_far (place_before h.now (says.Go way))) (is_far (place_after h.now (says.Go way))) tests.1.1.1.1.1.0 in
    let most : (d : ℤ) → tool_of h.now ≡ Some d → d ≤ℤ pos 20000000 = λ d t. selected_most (h.now.selected == 0) (h.now.tool h.now.selected) d (r.tools h.now.selected d) t in
    record {
      format = r.format;
      here = not_far (place_after h.now (says.Go way)) far.1;
      tools = r.tools;
      few = still_few (act_of h.now (says.Go way)) (tool_of h.now) (place_before h.now (says.Go way)) (place_after h.now (says.Go way)) h.holes h.slots tests.1.1.1.1.1.1.0 r.few;
      holes = still_holes (act_of h.now (says.Go way)) (tool_of h.now) (place_after h.now (says.Go way)) h.holes tests.1.1.1.1.0 most (not_far _ far.1) r.holes;
      slots = still_slots (act_of h.now (says.Go way)) (tool_of h.now) (place_before h.now (says.Go way)) (place_after h.now (says.Go way)) h.slots tests.1.1.1.1.0 most (not_far _ far.0) (not_far _ far.1) r.slots;
    }

ready_define : (h : Held) (number size : ℕ) → IsReady h → fault_of h (says.Define number size) ≡ None → IsReady (after h (says.Define number size))
ready_define h number size r e =
    let tests = all_fail (checks_of h (says.Define number size)) e in
    record {
      format = r.format;
      here = r.here;
      tools = λ other d t. chosen_most (number == other) (diameter_of h.now.scale.unit size) (h.now.tool other) d (defined_most h.now.scale.unit size d tests.1.1.1.1.1.0) (r.tools other d) t;
      few = r.few;
      holes = r.holes;
      slots = r.slots;
    }

some_format : (new old : Option Format) → IfSome new IsFormat → IfSome old IsFormat → IfSome (option_or new old) IsFormat
some_format (Some f) old n o = n
some_format None old n o = o

ready_after : (h : Held) (said : Said) → IsReady h → IsSaid said → fault_of h said ≡ None → IsReady (after h said)
ready_after h (says.Go way) r s e = ready_go h way r e
ready_after h (says.Define number size) r s e = ready_define h number size r e
ready_after h (says.Format f) r s e = record { format = s; here = r.here; tools = r.tools; few = r.few; holes = r.holes; slots = r.slots }
ready_after h (says.Unit unit fills format) r s e = record { format = some_format format h.now.scale.format s r.format; here = r.here; tools = r.tools; few = r.few; holes = r.holes; slots = r.slots }
ready_after h says.Ignored r s e = record { format = r.format; here = r.here; tools = r.tools; few = r.few; holes = r.holes; slots = r.slots }
ready_after h says.Begin r s e = record { format = r.format; here = r.here; tools = r.tools; few = r.few; holes = r.holes; slots = r.slots }
ready_after h says.EndHeader r s e = record { format = r.format; here = r.here; tools = r.tools; few = r.few; holes = r.holes; slots = r.slots }
ready_after h (says.Select number) r s e = record { format = r.format; here = r.here; tools = r.tools; few = r.few; holes = r.holes; slots = r.slots }
ready_after h (says.Lower down) r s e = record { format = r.format; here = r.here; tools = r.tools; few = r.few; holes = r.holes; slots = r.slots }
ready_after h says.EndRouting r s e = record { format = r.format; here = r.here; tools = r.tools; few = r.few; holes = r.holes; slots = r.slots }
ready_after h says.Unsupported r s e = record { format = r.format; here = r.here; tools = r.tools; few = r.few; holes = r.holes; slots = r.slots }
ready_after h says.End r s e = record { format = r.format; here = r.here; tools = r.tools; few = r.few; holes = r.holes; slots = r.slots }

-- behind a line that is taken
pub taken : {X : Type 0} (h new : Held) (said : Said) (r : Result X Stop) → IsReady h → IsSaid said → Steps h said r new → OnOk r (IsReady new)
taken h new said (Ok x) ready s steps = rw steps.1 (ready_after h said ready s steps.0)
taken h new said (Err stop) ready s steps = tt
