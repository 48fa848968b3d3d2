use Rattle.std.proofs.Common.{arith}
use Rattle.cell_grid.proofs.CellsLaws.{in_frame_true}
use Rattle.islands.proofs.JoinLaws.{node_inside}
use Rattle.islands.proofs.JoinGrids.{put_south}
use Rattle.islands.proofs.joins.join_cell.Goals as goal

pub join_alone-requires-clause-node : goal.join_alone-requires-clause-node
join_alone-requires-clause-node c = omega (arith, c.requires.place, node_inside c.args.frame c.args.c (in_frame_true c.args.frame c.args.c c.requires.cell))

pub returns-then-south-ne0-clause-joined : goal.returns-then-south-ne0-clause-joined
returns-then-south-ne0-clause-joined c =
    put_south c.args.frame c.args.bench.now c.set_work.new.self c.args.c _ c.requires.frame c.set_work.ensures c.args.outer c.args.x c.args.y c.requires.cell c.frame.ensures.sized.works
    c.requires.column c.requires.row c.requires.place c.requires.free c.if-south-ne0.true c.pointed_south-south.ensures
