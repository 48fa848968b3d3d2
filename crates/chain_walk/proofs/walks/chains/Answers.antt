use Rattle.std.proofs.Common.{◌≡◌, ◌*◌, ℕ, ap, ◌∙◌, arith}
use Rattle.std.proofs.Math.Nat.{mul_comm}
use Rattle.chain_walk.proofs.Chaining.{at_start, start_at, walk_at, none_at, at_same, all_at}
use Rattle.chain_walk.proofs.walks.chains.Goals as goal
use Rattle.chain_walk.proofs.walks.chains.Goals.{then-work-ne0+in_ok-walk+in_ok-push, else-work-ne0}

pub rows-init : goal.rows-init
rows-init c =
    at_start _ _ _ _ _ _ (omega arith) c.new-chains.ensures.items c.number_classes.ensures.rest c.number_classes.ensures.islands c.frame-frame.ensures.value c.frame-frame.ensures.valid
    c.frame-frame.ensures.sized.works

pub walk-requires : goal.walk-requires
walk-requires c = start_at _ _ _ _ _ _ _ c.cells.invariant c.cell_at-c.ensures.inside c.cell_at-c.ensures.place c.work.ensures c.if-work-ne0.true

pub cells-preserved : goal.cells-preserved
cells-preserved c =
    elim c.if-work-ne0.branch [
      | then-work-ne0+in_ok-walk+in_ok-push w ↦
          at_same _ _ _ _ _ _ _ w.bench-is w.chains-is
          (walk_at _ _ _ _ _ _ _ _ _ c.cell_at-c.result w.in_ok-walk.field-0 c.cells.invariant c.cell_at-c.ensures.inside c.cell_at-c.ensures.place (omega arith) c.work.ensures w.if-work-ne0.true w.walk.ensures.rest
          w.in_ok-walk.ensures.walk w.in_ok-walk.ensures.short w.in_ok-walk.ensures.starts w.in_ok-walk.ensures.walked w.in_ok-push.ensures.items)
      | else-work-ne0 w ↦
          at_same _ _ _ _ _ _ _ w.bench-is w.chains-is
          (none_at _ _ _ _ _ _ _ c.cell_at-c.result c.cells.invariant c.cell_at-c.ensures.inside c.cell_at-c.ensures.place (omega arith) c.work.ensures w.if-work-ne0.false)
    ]

pub returns-clause-walks : goal.returns-clause-walks
returns-clause-walks c =
    let e : c.rows.y ≡ c.frame-frame.result.height = omega (arith, c.rows-test.false, c.rows.auto.y-end) in
    all_at _ _ _ _ _ c.rows.invariant (ap (λ (y : ℕ). y * c.frame-frame.result.width) e ∙ mul_comm _ _)
