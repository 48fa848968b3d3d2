use Rattle.std.proofs.Common.{◌+◌, ◌≤◌, ◌<◌, Bool, length, sym, subst, rules}
use Rattle.path_order.specs.Trials.{IsTried}
use Rattle.path_order.proofs.Sweeping.{IsInSweep, sweep_begun, sweep_on, sweep_off, sweep_done, still_indices}
use Rattle.path_order.proofs.tours.sweep.Goals as goal
use Rattle.path_order.proofs.tours.sweep.Goals.{then-try_row, else-try_row}

pub rows-init : goal.rows-init
rows-init c = sweep_begun _ _ c.requires.indices

pub try_row-requires-clause-indices : goal.try_row-requires-clause-indices
try_row-requires-clause-indices c = still_indices _ _ _ _ c.requires.indices c.rows.invariant.change

pub rows-preserved : goal.rows-preserved
rows-preserved c =
    let t = c.try_row.ensures in
    let inside : c.rows.i < length c.rows.order = search rules in
    elim c.if-try_row.branch [
      | then-try_row w ↦
          subst (λ (b : Bool). IsInSweep c.args.points.now.items c.args.order.now c.try_row.new.order b (c.rows.i + 1)) (sym w.any-is)
          (sweep_on _ _ _ _ _ _ c.rows.invariant inside t.tried (subst (λ (b : Bool). IsTried c.args.points.now.items c.rows.order c.try_row.new.order b) w.if-try_row.true t.change))
      | else-try_row w ↦
          subst (λ (b : Bool). IsInSweep c.args.points.now.items c.args.order.now c.try_row.new.order b (c.rows.i + 1)) (sym w.any-is)
          (sweep_off _ _ _ _ _ _ c.rows.invariant inside t.tried (subst (λ (b : Bool). IsTried c.args.points.now.items c.rows.order c.try_row.new.order b) w.if-try_row.false t.change) (t.quiet w.if-try_row.false))
    ]

pub returns-clause-swept : goal.returns-clause-swept
returns-clause-swept c = let past : length c.args.order.now ≤ c.rows.i = search rules in sweep_done _ _ _ _ _ c.rows.invariant past
