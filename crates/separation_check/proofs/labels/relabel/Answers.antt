use Rattle.std.proofs.Common.{sym, subst}
use Rattle.cell_grid.specs.Grid.{Grid}
use Rattle.cell_sets.specs.Chains.{IsClasses}
use Rattle.separation_check.specs.Unswept.{is_unswept, class_of}
use Rattle.separation_check.proofs.labels.relabel.Goals as goal

pub returns-clause-now : goal.returns-clause-now
returns-clause-now c = subst (λ (g : Grid). IsClasses (is_unswept g) (class_of g)) (sym c.number_rest.ensures.rest) c.number_rest.ensures.classes
