use Rattle.std.proofs.Common.{sym, ap, ◌∙◌}
use Rattle.std.proofs.lemmas.Bool.{false≢true}
use Rattle.cell_grid.specs.Cells.{in_frame}
use Rattle.cell_grid.proofs.CellsLaws.{in_frame_false}
use Rattle.islands.proofs.ways.neighbour.Goals as goal

pub returns-else-is_in_frame-clause-none : goal.returns-else-is_in_frame-clause-none
returns-else-is_in_frame-clause-none c =
    λ _. ap (in_frame c.args.frame) (sym c.step-b.ensures) ∙ in_frame_false c.args.frame c.step-b.result (λ h. false≢true (sym c.if-is_in_frame.false ∙ c.is_in_frame.ensures.1 h))
