use Rattle.std.proofs.Common.{List, ℕ, sym, subst}
use Rattle.outline_loops.specs.Traced.{ArePaired, AreTraced}
use Rattle.outline_loops.proofs.EndLaws.{closed, paired}
use Rattle.outline_loops.proofs.TracedLaws.{are_segments}
use Rattle.outline_loops.proofs.outline.traced_outline.Goals as goal

pub traced-requires : goal.traced-requires
traced-requires c = subst ArePaired (sym c.deref.ensures.value) (paired c.args.painted.now.items c.in_ok-ways.ways.items c.in_ok-ways.ensures.ways c.in_ok-ways.ensures.twos)

pub returns-clause-loops : goal.returns-clause-loops
returns-clause-loops c =
    let traced = subst (λ (ws : List ℕ). AreTraced ws c.in_ok-loops.loops) c.deref.ensures.value c.in_ok-loops.ensures.traced in
    record {
      closed = closed c.args.painted.now.items c.in_ok-ways.ways.items c.in_ok-ways.ensures.ways c.in_ok-ways.ensures.twos;
      segments = are_segments c.args.painted.now.items c.in_ok-ways.ways.items c.in_ok-loops.loops c.in_ok-ways.ensures.ways traced;
      long = traced.long;
      places = c.in_ok-loops.ensures.places;
    }
