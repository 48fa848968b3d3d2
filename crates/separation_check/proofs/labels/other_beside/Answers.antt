use Rattle.separation_check.proofs.Tears.{none_passed, one_passed, row_passed, all_passed}
use Rattle.separation_check.proofs.labels.other_beside.Goals as goal

pub rows-init : goal.rows-init
rows-init c = none_passed c.args.bench.now c.args.c c.args.class

pub cells-preserved : goal.cells-preserved
cells-preserved c =
    let b = c.beside-b.ensures in
    one_passed c.args.bench.now c.args.c c.beside-b.result c.args.class c.rows.y c.cells.x c.cells.invariant b.column b.row (c.is_other.ensures.same c.if-is_other.false)

pub rows-preserved : goal.rows-preserved
rows-preserved c = row_passed c.args.bench.now c.args.c c.args.class c.rows.y c.cells.x c.cells.invariant c.cells-test.false

pub returns-clause-none : goal.returns-clause-none
returns-clause-none c = λ e. all_passed c.args.bench.now c.args.c c.args.class c.rows.y 0 c.rows.invariant c.rows-test.false
