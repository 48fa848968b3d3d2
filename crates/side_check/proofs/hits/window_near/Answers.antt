use Rattle.std.proofs.Common.{rules}
use Rattle.std.proofs.lemmas.Int.{to_z-of_z}
use mir.Val.{SFits}
use mir.Syntax.{w64}
use Rattle.side_check.proofs.hits.window_near.Goals as goal

pub returns-clause-each : goal.returns-clause-each
returns-clause-each c = λ e h near.
    let pitch : SFits w64 c.args.frame.pitch = search rules in
    let d : SFits w64 c.args.d = search rules in
    (c.window_of.ensures.holds e h).1 ((simp to_z-of_z at c.reach.ensures.holds) e near)
