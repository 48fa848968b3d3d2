use Rattle.std.proofs.Common.{refl, sym, inr, ◌∙◌}
use Rattle.std.proofs.lemmas.Int.{to_z-of_z}
use mir.Val.{SFits}
use mir.Syntax.{w64}
use Rattle.apertures.specs.Placed.{placed}
use Rattle.apertures.proofs.place.shape_at.Goals as goal

pub returns-in-None : goal.returns-in-None
unfolding placed
returns-in-None c =
    let fits : SFits w64 c.args.angle = c.ranges.angle in
    rw (← c.a.view_is) (inr (refl, sym (simp to_z-of_z at c.in_ok-shape.ensures) ∙ c.in-None.is))
