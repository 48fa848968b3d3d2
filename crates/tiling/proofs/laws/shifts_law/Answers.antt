use Rattle.tiling.proofs.ProgramLaws.{shifts_by_cells}
use Rattle.tiling.proofs.TileLaws.{some_shifts, one_shift}
use Rattle.tiling.proofs.laws.shifts_law.Goals as goal

pub returns-clause-cells : goal.returns-clause-cells
returns-clause-cells c = shifts_by_cells

pub returns-clause-some : goal.returns-clause-some
returns-clause-some c = some_shifts

pub returns-clause-one : goal.returns-clause-one
returns-clause-one c = one_shift
