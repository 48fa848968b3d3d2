use Rattle.poly_area.proofs.CellLaws.{cells_law_holds}
use Rattle.poly_area.proofs.cells_law.Goals as goal

pub returns : goal.returns
returns c = cells_law_holds
