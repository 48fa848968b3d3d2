use Rattle.std.proofs.Common.{◌+◌, ◌<◌, Bool, length, refl, sym, subst, rules}
use Rattle.path_order.specs.Trials.{IsTried}
use Rattle.path_order.proofs.Sweeping.{IsInRow, row_begun, row_on, row_off, still_indices}
use Rattle.path_order.proofs.tours.try_row.Goals as goal
use Rattle.path_order.proofs.tours.try_row.Goals.{then-try_stretch, else-try_stretch}

pub ends-init : goal.ends-init
ends-init c = (row_begun _ _ _ _ refl c.requires.indices, search rules)

pub try_stretch-requires-clause-indices : goal.try_stretch-requires-clause-indices
try_stretch-requires-clause-indices c = let q = c.ends.invariant.0 in still_indices _ _ _ _ c.requires.indices q.change

pub ends-preserved : goal.ends-preserved
ends-preserved c =
    let t = c.try_stretch.ensures in
    let inside : c.ends.j < length c.ends.order = search rules in
    elim c.if-try_stretch.branch [
      | then-try_stretch w ↦ (
        subst (λ (b : Bool). IsInRow c.args.points.now.items c.args.i c.args.order.now c.try_stretch.new.order b (c.ends.j + 1)) (sym w.any-is)
            (row_on _ _ _ _ _ _ _ _ c.ends.invariant.0 inside refl t.tried (subst (λ (b : Bool). IsTried c.args.points.now.items c.ends.order c.try_stretch.new.order b) w.if-try_stretch.true t.change)),
        t.start,
      )
      | else-try_stretch w ↦ (
        subst (λ (b : Bool). IsInRow c.args.points.now.items c.args.i c.args.order.now c.try_stretch.new.order b (c.ends.j + 1)) (sym w.any-is)
            (row_off _ _ _ _ _ _ _ _ c.ends.invariant.0 inside refl t.tried (subst (λ (b : Bool). IsTried c.args.points.now.items c.ends.order c.try_stretch.new.order b) w.if-try_stretch.false t.change) (t.quiet w.if-try_stretch.false)),
        t.start,
      )
    ]
