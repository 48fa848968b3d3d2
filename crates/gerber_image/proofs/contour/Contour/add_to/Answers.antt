use Rattle.std.proofs.Common.{arith, ◌≤◌, ◌∙◌, sym}
use Rattle.gerber_image.proofs.Counts.{few_points}
use Rattle.gerber_image.proofs.contour.Contour.add_to.Goals as goal

pub area-requires-clause-few : goal.area-requires-clause-few
area-requires-clause-few c =
    let same = c.deref-2.ensures.value ∙ sym c.deref.ensures.value in
    let three : 3 ≤ c.kept_points-count.result = grind (arith, c.if-count-lt3.false) in
    few_points c.args.self.now c.deref-2.result.now c.kept_points-count.result (c.deref-2.ensures.value ∙ c.self.view_is) (rw same c.kept_points-count.ensures.count) three c.requires
