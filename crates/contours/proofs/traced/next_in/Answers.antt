use Rattle.std.proofs.Common.{ℕ, sym, ◌∙◌, arith}
use Rattle.contours.specs.Contour.{is_on}
use Rattle.contours.proofs.Windows.{window_begun, tested, passed_more}
use Rattle.contours.proofs.traced.next_in.Goals as goal

pub cells-init : goal.cells-init
cells-init c = record {
  window = window_begun c.args.bench.now c.frame-frame.result c.args.g c.args.from c.args.y c.west_of-outside.result c.east_of.result _ _ c.frame-frame.ensures.value c.west_of-outside.ensures.column c.west_of-outside.ensures.row
      c.east_of.ensures.column c.east_of.ensures.row c.leaves_column-west.ensures c.leaves_column-here.ensures;
  passed = λ k l h. absurd (omega arith);
}

pub returns-then-is_on-clause-found : goal.returns-then-is_on-clause-found
returns-then-is_on-clause-found c =
    let t = tested c.args.bench.now c.frame-frame.result c.args.g c.cells.x c.args.y c.cell_at-c.result c.east_of-in-cells.result _ _ _ _ c.frame-frame.ensures.value c.cells.invariant.window c.cell_at-c.ensures.column
    c.cell_at-c.ensures.row c.east_of-in-cells.ensures.column c.east_of-in-cells.ensures.row c.leaves_column-east.ensures c.is_on.ensures in
    λ _. sym t.on_is ∙ c.if-is_on.true

pub cells-preserved : goal.cells-preserved
cells-preserved c =
    let t = tested c.args.bench.now c.frame-frame.result c.args.g c.cells.x c.args.y c.cell_at-c.result c.east_of-in-cells.result _ _ _ _ c.frame-frame.ensures.value c.cells.invariant.window c.cell_at-c.ensures.column
    c.cell_at-c.ensures.row c.east_of-in-cells.ensures.column c.east_of-in-cells.ensures.row c.leaves_column-east.ensures c.is_on.ensures in
    record { window = t.window; passed = passed_more (λ (k : ℕ). is_on c.args.bench.now c.args.g k c.args.y) c.args.from c.cells.x c.cells.invariant.passed (sym t.on_is ∙ c.if-is_on.false) }
