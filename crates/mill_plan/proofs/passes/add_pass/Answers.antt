use Rattle.std.proofs.Common.{◌≡◌, ◌↔◌, true, ap, sym, subst}
use Rattle.board_base.specs.declared.places.Cell.{Cell}
use Rattle.cell_grid.specs.Grid.{Grid}
use Rattle.cell_grid.specs.Cells.{in_plane}
use Rattle.cell_sets.specs.Contour.{IsContour}
use Rattle.mill_plan.specs.Cutting.{guard}
use Rattle.mill_plan.proofs.MeasureLaws.{border_is, pass_contour}
use Rattle.mill_plan.proofs.passes.add_pass.Goals as goal

pub contour-requires : goal.contour-requires
contour-requires c = record { border = border_is c.args.cutting c.args.bench.now c.requires.cutting c.requires.spacious c.requires.measured c.args.pass c.guard.result c.requires.pass c.guard.ensures.value }

pub returns-clause-contour : goal.returns-clause-contour
returns-clause-contour c =
    subst (λ xs. (d : Cell) → in_plane c.args.bench.now.frame xs d ≡ true ↔ IsContour (in_plane c.args.bench.now.frame c.args.bench.now.kept) (guard c.args.cutting c.args.pass) d) (sym (ap (λ (b : Grid). b.pass) c.add_walks.ensures.rest))
    (pass_contour c.args.cutting c.args.bench.now c.args.pass c.guard.result c.contour.new.bench.pass c.requires.cutting c.requires.spacious c.requires.measured c.requires.pass c.guard.ensures.value c.contour.ensures.contour)

pub returns-in_err-add_walks-clause-contour : goal.returns-in_err-add_walks-clause-contour
returns-in_err-add_walks-clause-contour c =
    subst (λ xs. (d : Cell) → in_plane c.args.bench.now.frame xs d ≡ true ↔ IsContour (in_plane c.args.bench.now.frame c.args.bench.now.kept) (guard c.args.cutting c.args.pass) d) (sym (ap (λ (b : Grid). b.pass) c.add_walks.ensures.rest))
    (pass_contour c.args.cutting c.args.bench.now c.args.pass c.guard.result c.contour.new.bench.pass c.requires.cutting c.requires.spacious c.requires.measured c.requires.pass c.guard.ensures.value c.contour.ensures.contour)
