-- The faults of operations.
use Rattle.std.proofs.Common.{◌≡◌, Bool, true, false, Some, None}
use Rattle.std.specs.Prelude.{if◌then◌else◌, ◌&&◌, ◌||◌}
use Rattle.plane_arcs.specs.Turned.{is_far}
use Rattle.gerber_image.specs.InForce.{InForce}
use Rattle.plane_arcs.specs.Arcs.{chain_of}
use Rattle.gerber_image.specs.Routes.{place_after, mode_after, is_curved, arc_of, arc_centre}
use Rattle.gerber_image.specs.Checks.{is_open, is_past}
use Rattle.gerber_image.specs.State.{route_fault, Stops}
use Rattle.gerber_image.specs.declared.state.Stop.{Stop}
use Rattle.gerber_image.specs.declared.state.Stop.TheVariants as stops
use Rattle.gerber_words.specs.declared.commands.Operation.{Operation}
use Rattle.gerber_image.specs.declared.refusal.GerberKind.{GerberKind}
use Rattle.gerber_image.specs.declared.refusal.GerberKind.TheVariants as kinds

-- what stops a chain stops its draw
pub chain_stops : (now : InForce) (o : Operation) (stop : Stop) → is_curved (mode_after now o) ≡ true
    → Stops (if is_open (chain_of (arc_of now o)) then Some kinds.OpenArc else if is_far (arc_centre now o) || is_past (chain_of (arc_of now o)) then Some kinds.OutOfRange else None) stop
    → Stops (route_fault now true o) stop
chain_stops now o stops.Memory curved s = tt
chain_stops now o (stops.Fault kind) curved s =
    rw curved (way (is_open (chain_of (arc_of now o))) (is_far (place_after now o)) (is_far (arc_centre now o)) (is_past (chain_of (arc_of now o))) kind s)
  where
    way : (open_ends far centre past : Bool) (kind : GerberKind) → (if open_ends then Some kinds.OpenArc else if centre || past then Some kinds.OutOfRange else None) ≡ Some kind
        → (if true && open_ends then Some kinds.OpenArc else if far || (true && ((true && centre) || past)) then Some kinds.OutOfRange else None) ≡ Some kind
    way true far centre past kind e = e
    way false true true past kind e = e
    way false true false true kind e = e
    way false true false false kind e = absurd cc
    way false false true past kind e = e
    way false false false true kind e = e
    way false false false false kind e = e
