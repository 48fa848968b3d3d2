use Rattle.std.proofs.lemmas.Int.{to_z-of_z}
use mir.Val.{SFits}
use mir.Syntax.{w64}
use Rattle.apertures.proofs.OutlineLaws.{one_more}
use Rattle.apertures.proofs.outlines.vertices.Goals as goal

pub vertices-preserved : goal.vertices-preserved
vertices-preserved c =
    let fits : SFits w64 c.args.d = c.ranges.d in
    simp to_z-of_z
    (one_more c.args.d c.args.n c.args.turn c.vertices.k c.vertices.points.items c.push.new.self.items c.vertex.result (simp to_z-of_z at c.vertices.invariant)
    (simp to_z-of_z at c.vertex.ensures.value) c.vertex.ensures.place c.in_ok-push.ensures.items)
