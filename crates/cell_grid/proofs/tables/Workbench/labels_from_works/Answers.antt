use Rattle.std.proofs.Common.{ℕ, ◌<◌, ◌≤◌, List, length, get_or, sym, subst}
use Rattle.cell_grid.proofs.PlaneLaws.{works_small}
use Rattle.cell_grid.proofs.tables.Workbench.labels_from_works.Goals as goal

pub copy_small-requires-clause-small : goal.copy_small-requires-clause-small
copy_small-requires-clause-small c =
    subst (λ (xs : List ℕ). (k d : ℕ) → k < length xs → get_or xs k d ≤ 65535) (sym c.deref.ensures.value) (works_small c.self.inside _ c.self.view_is c.self.invariant.works c.requires)
