use Rattle.path_order.proofs.Turns.{shortens_is}
use Rattle.path_order.proofs.tours.shortens.Goals as goal

pub returns : goal.returns
returns c =
    shortens_is c.args.points.now.items c.args.order.now c.args.i c.args.j _ _ _ c.args.start c.stop-last.result c.requires.i c.requires.j c.requires.start c.stop-last.ensures.value c.after.ensures.value c.way_to.ensures.value
    c.after-2.ensures.value
