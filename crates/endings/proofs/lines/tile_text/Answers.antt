use Rattle.std.proofs.Common.{append_assoc, to_z-of_z, SFits, w64, rules}
use Rattle.endings.proofs.lines.tile_text.Goals as goal

pub returns : goal.returns
returns c =
    let x_in : SFits w64 c.args.x = search rules in
    let y_in : SFits w64 c.args.y = search rules in
    simp append_assoc (simp to_z-of_z at c.in_ok-format.ensures.ok)
