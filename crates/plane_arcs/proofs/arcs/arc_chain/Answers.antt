use Rattle.std.proofs.lemmas.Result.{err_from_is_err_and}
use Rattle.plane_arcs.specs.Arcs.{points_round, round_to}
use Rattle.plane_arcs.proofs.ArcLaws.{begun, chain_is, chain_stops, chain_places}
use Rattle.plane_arcs.proofs.arcs.arc_chain.Goals as goal

pub returns-in_err-add_arc-clause-value : goal.returns-in_err-add_arc-clause-value
returns-in_err-add_arc-clause-value c =
    let p = err_from_is_err_and c.from_residual-in_err-add_arc.result c.from_residual-in_err-add_arc.ensures.1 in
    rw (p.1, p.2)
    (chain_stops c.args.arc.now c.vector-u.result c.vector-v.result c.requires.start c.vector-u.ensures.value c.vector-v.ensures.value (c.in_ok-radius.ensures).value.0 c.in_err-add_arc.field-0.0 (c.in_err-add_arc.ensures).stops)

pub returns-clause-value : goal.returns-clause-value
returns-clause-value c =
    let arc = c.args.arc.now in
    let points = begun c.new-chain.result.items c.keep.new.chain.items c.add_arc.new.chain.items (points_round arc.centre (round_to arc.ccw c.vector-u.result c.vector-v.result)) arc.start c.new-chain.ensures.items (c.in_ok-keep.ensures) (c.in_ok-add_arc.ensures).chain in
    chain_is arc c.vector-u.result c.vector-v.result c.requires.start c.vector-u.ensures.value c.vector-v.ensures.value (c.in_ok-radius.ensures).value.0 c.add_arc.new.chain.items points (c.in_ok-add_arc.ensures).stops

pub returns-clause-places : goal.returns-clause-places
returns-clause-places c =
    let arc = c.args.arc.now in
    let points = begun c.new-chain.result.items c.keep.new.chain.items c.add_arc.new.chain.items (points_round arc.centre (round_to arc.ccw c.vector-u.result c.vector-v.result)) arc.start c.new-chain.ensures.items (c.in_ok-keep.ensures) (c.in_ok-add_arc.ensures).chain in
    chain_places arc c.add_arc.new.chain.items
    (chain_is arc c.vector-u.result c.vector-v.result c.requires.start c.vector-u.ensures.value c.vector-v.ensures.value (c.in_ok-radius.ensures).value.0 c.add_arc.new.chain.items points (c.in_ok-add_arc.ensures).stops)
