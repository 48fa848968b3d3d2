use Rattle.std.proofs.Common.{◌≡◌, ◌<◌, false, length, get_or, ap, ◌∙◌, arith}
use Rattle.board_base.specs.declared.places.Cell.{Cell}
use Rattle.std.specs.Global.{Vec}
use Rattle.cell_grid.specs.Grid.{Grid, plane_of}
use Rattle.cell_grid.specs.Place.{cells_of, cell_of_place}
use Rattle.cell_grid.proofs.PlaneLaws.{read_place}
use Rattle.cell_grid.proofs.ListLaws.{listed_on, listed_off, all_listed}
use Rattle.cell_grid.proofs.tables.Workbench.list.Goals as goal
use Rattle.cell_grid.proofs.tables.Workbench.list.Goals.{then-has_bit+in_ok-push, else-has_bit}

pub places-preserved : goal.places-preserved
places-preserved c =
    let g : Grid = c.args.self.now in
    let in_flags : c.places.at < length c.self.inside.flags.items = search (arith) in
    let cells = ap (λ (x : Grid). cells_of x.frame) c.self.view_is in
    let inside : c.places.at < cells_of g.frame = omega (arith, in_flags, c.self.invariant.flags, cells) in
    let bit : c.has_bit.result ≡ get_or (plane_of g c.args.plane) c.places.at false =
    read_place c.self.inside _ _ _ c.index.result.now c.bit-k.result _ c.self.view_is in_flags c.index.ensures c.bit-k.ensures.value c.has_bit.ensures in
    elim c.if-has_bit.branch [
      | then-has_bit+in_ok-push w ↦ listed_on g.frame (plane_of g c.args.plane) c.places.list.items _ c.places.at w.cell_of.result c.has_bit.result c.places.invariant inside bit w.if-has_bit.true
          (w.cell_of.ensures.cell ∙ ap (λ (x : Grid). cell_of_place x.frame c.places.at) c.self.view_is) (ap (λ (l : Vec Cell). l.items) w.list-is ∙ w.in_ok-push.ensures.items)
      | else-has_bit w ↦ listed_off g.frame (plane_of g c.args.plane) c.places.list.items _ c.places.at c.has_bit.result c.places.invariant inside bit w.if-has_bit.false (ap (λ (l : Vec Cell). l.items) w.list-is)
    ]

pub returns : goal.returns
returns c =
    let cells = ap (λ (x : Grid). cells_of x.frame) c.self.view_is in
    let in_flags : c.places.at ≡ length c.self.inside.flags.items = search (arith) in
    c.places.invariant ∙ all_listed c.args.self.now.frame (plane_of c.args.self.now c.args.plane) c.places.at (in_flags ∙ c.self.invariant.flags ∙ cells)
