use Rattle.std.proofs.Common.{◌≡◌, ◌∙◌, ◌<◌, get_or, length, false, rules}
use Rattle.poly_area.proofs.ToggleLaws.{turned, kept}
use Rattle.poly_area.proofs.Running.{run_step}
use Rattle.poly_area.proofs.marks.run_parity.Goals.{then-marks-k, else-marks-k}
use Rattle.poly_area.proofs.marks.run_parity.Goals as goal

pub columns-preserved : goal.columns-preserved
columns-preserved c =
    let same : length c.columns.marks ≡ length c.args.marks.now = search rules in
    let inside : c.columns.k < length c.args.marks.now = search rules in
    run_step c.args.marks.now c.columns.marks c.columns.odd c.if-marks-k.odd c.columns.k inside same c.columns.invariant
    (elim c.if-marks-k.branch [
      | then-marks-k w ↦ w.odd-is ∙ turned c.columns.odd (get_or c.columns.marks c.columns.k false) w.if-marks-k.true
      | else-marks-k w ↦ w.odd-is ∙ kept c.columns.odd (get_or c.columns.marks c.columns.k false) w.if-marks-k.false
    ])
