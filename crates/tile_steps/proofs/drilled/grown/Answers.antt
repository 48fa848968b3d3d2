use Rattle.std.proofs.Common.{◌≡◌, subst}
use Rattle.board_base.specs.declared.places.Bounds.{Bounds}
use Rattle.shape_parts.specs.Boxes.{hull}
use Rattle.tile_steps.specs.Drilled.{point_box}
use Rattle.tile_steps.proofs.HullLaws.{ends_on_board}
use Rattle.tile_steps.proofs.drilled.grown.Goals as goal

pub returns-clause-placed : goal.returns-clause-placed
returns-clause-placed c =
    let all = c.args.all in
    let is : c.point_bounds.result ≡ point_box c.args.p = c.point_bounds.ensures in
    ends_on_board c.hull.result all c.args.p
    (subst (λ (b : Bounds). c.hull.result.x0 ≡ (hull all b).x0) is c.hull.ensures.x0)
    (subst (λ (b : Bounds). c.hull.result.y0 ≡ (hull all b).y0) is c.hull.ensures.y0)
    (subst (λ (b : Bounds). c.hull.result.x1 ≡ (hull all b).x1) is c.hull.ensures.x1)
    (subst (λ (b : Bounds). c.hull.result.y1 ≡ (hull all b).y1) is c.hull.ensures.y1) c.requires.all c.requires.p
