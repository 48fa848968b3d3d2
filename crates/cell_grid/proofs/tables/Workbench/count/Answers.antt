use Rattle.std.proofs.Common.{◌≡◌, ℕ, ◌==◌, rules}
use Rattle.std.specs.Int.{bit_at}
use Rattle.std.specs.List.{count_by}
use Rattle.cell_grid.proofs.PlaneLaws.{plane_counted}
use Rattle.cell_grid.proofs.tables.Workbench.count.Goals as goal

pub returns : goal.returns
returns c =
    let e : c.count_bit.result ≡ count_by (λ (x : ℕ). bit_at x c.bit.result == 1) c.self.inside.flags.items = search rules in
    plane_counted c.self.inside _ _ _ c.bit.result c.self.view_is c.bit.ensures.value e
