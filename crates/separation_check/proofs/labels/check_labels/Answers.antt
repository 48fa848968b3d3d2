use Rattle.std.proofs.Common.{ℕ, ◌≡◌, ◌*◌, ◌∙◌, ap, refl, arith}
use Rattle.std.proofs.Math.Nat.{mul_comm}
use Rattle.separation_check.proofs.Tears.{agreed_on, agreed_ended, no_fault}
use Rattle.separation_check.proofs.labels.check_labels.Goals as goal

pub returns-in-Some-clause-never : goal.returns-in-Some-clause-never
returns-in-Some-clause-never c = λ p. no_fault _ _ _ _ p c.in-Some.ensures.some

pub cells-preserved : goal.cells-preserved
cells-preserved c =
    let k = c.cell_at-cell.ensures in
    agreed_on _ _ _ _ _ c.cells.invariant k.inside k.place (omega arith) (c.in_default.ensures.none refl)

pub returns-clause-whole : goal.returns-clause-whole
returns-clause-whole c =
    let w = c.frame-frame.result.width in
    let h = c.frame-frame.result.height in
    let e : c.rows.y ≡ h = omega (arith, c.rows-test.false, c.rows.auto.y-end) in
    agreed_ended _ _ _ c.rows.invariant (ap (λ (y : ℕ). y * w) e ∙ mul_comm h w)
