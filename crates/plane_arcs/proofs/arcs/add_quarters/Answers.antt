use Rattle.std.proofs.lemmas.Result.{err_from_is_err_and}
use Rattle.plane_arcs.proofs.ArcLaws.{next_quarter, more_points, more_inside, quarter_stops}
use Rattle.plane_arcs.proofs.arcs.add_quarters.Goals as goal

pub returns-in_err-bisect-clause-stops : goal.returns-in_err-bisect-clause-stops
returns-in_err-bisect-clause-stops c =
    let p = err_from_is_err_and c.from_residual.result c.from_residual.ensures.1 in
    let l = c.args.circle in
    rw (p.1, p.2)
    (quarter_stops l.centre l.times l.radius c.args.ccw c.args.u c.quarters.q c.quarter_on-next.result c.quarters._k c.args.count c.in_err-bisect.field-0.0 c.quarters.invariant.here c.quarter_on-next.ensures.value c.quarters-test.true (c.in_err-bisect.ensures).stops)

pub quarters-preserved : goal.quarters-preserved
quarters-preserved c =
    let l = c.args.circle in
    let here = c.quarters.invariant.here in
    let next = c.quarter_on-next.ensures.value in
    let inside = (c.in_ok-bisect.ensures).stops in
    record {
      here = next_quarter c.args.ccw c.args.u c.quarters.q c.quarter_on-next.result c.quarters._k here next;
      size = c.quarter_on-next.ensures.size;
      chain = more_points l.centre l.times l.radius c.args.ccw c.args.u c.quarters.q c.quarter_on-next.result c.quarters._k c.args.chain.now.items c.quarters.chain.items c.bisect.new.chain.items here next c.quarters.invariant.chain (c.in_ok-bisect.ensures).chain;
      inside = rw (more_inside l.centre l.times l.radius c.args.ccw c.args.u c.quarters.q c.quarter_on-next.result c.quarters._k here next, c.quarters.invariant.inside) inside;
    }
