use Rattle.std.proofs.Common.{◌<◌, length, ap, arith}
use Rattle.cell_grid.specs.Grid.{Grid}
use Rattle.cell_grid.specs.Place.{cells_of}
use Rattle.cell_grid.proofs.PlaneLaws.{write_place}
use Rattle.cell_grid.proofs.tables.Workbench.set_at.Goals as goal

pub returns : goal.returns
returns c =
    let below : c.args.k < length c.self.inside.flags.items = omega (arith, c.requires, c.self.invariant.flags, ap (λ (g : Grid). cells_of g.frame) c.self.view_is) in
    write_place c.self.inside _ _ c.args.k c.index.result.now c.bit.result c.with_bit-n.result _ c.self.view_is below c.index.ensures c.bit.ensures.value c.with_bit-n.ensures.same c.with_bit-n.ensures.others
