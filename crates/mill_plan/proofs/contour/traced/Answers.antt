use Rattle.mill_plan.proofs.MeasureLaws.{measured_by, measured_same, traced_border, traced_contour}
use Rattle.std.proofs.Common.{ap}
use Rattle.cell_grid.specs.Grid.{Grid}
use Rattle.mill_plan.proofs.contour.traced.Goals as goal

pub contour-requires : goal.contour-requires
contour-requires c = record { border = traced_border c.args.cutting c.args.bench.now c.clearance.new.bench c.guard.result c.requires.cutting c.requires.spacious c.clearance.ensures.rest c.clearance.ensures.least c.guard.ensures.value }

pub returns-clause-measured : goal.returns-clause-measured
returns-clause-measured c =
    measured_same c.clearance.new.bench c.contour.new.bench (ap (λ (g : Grid). g.frame) c.contour.ensures.rest) (ap (λ (g : Grid). g.kept) c.contour.ensures.rest) (ap (λ (g : Grid). g.clearances) c.contour.ensures.rest)
    (measured_by c.args.bench.now c.clearance.new.bench c.clearance.ensures.rest c.clearance.ensures.least)

pub returns-clause-contour : goal.returns-clause-contour
returns-clause-contour c = traced_contour c.args.cutting c.args.bench.now c.clearance.new.bench c.guard.result c.contour.new.bench.pass c.requires.cutting c.requires.spacious c.clearance.ensures.rest c.clearance.ensures.least c.guard.ensures.value c.contour.ensures.contour
