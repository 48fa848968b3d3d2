use Rattle.std.proofs.Common.{append_assoc, to_z-of_z, SFits, w32, rules}
use Rattle.endings.proofs.lines.cell_line.Goals as goal

pub returns : goal.returns
returns c =
    let x_in : SFits w32 c.args.i = search rules in
    let y_in : SFits w32 c.args.j = search rules in
    simp append_assoc (simp to_z-of_z at c.in_ok-format.ensures.ok)
