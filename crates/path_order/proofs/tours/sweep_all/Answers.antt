use Rattle.std.proofs.Common.{◌≡◌, Bool, subst, arith}
use Rattle.path_order.specs.Trials.{IsTried}
use Rattle.path_order.proofs.Improving.{improving_begun, improving_on, indices_still, order_still, settled, stays_ordered, improved_stable, improved_cut}
use Rattle.path_order.proofs.tours.sweep_all.Goals as goal

pub sweeps-init : goal.sweeps-init
sweeps-init c = improving_begun _ _ c.requires.nearest

pub sweep-requires-clause-indices : goal.sweep-requires-clause-indices
sweep-requires-clause-indices c = indices_still _ _ _ _ c.sweeps.invariant

pub sweeps-preserved : goal.sweeps-preserved
sweeps-preserved c =
    improving_on _ _ _ _ _ c.sweeps.invariant c.sweep.ensures.swept (subst (λ (b : Bool). IsTried c.args.points.now.items c.sweeps.order c.sweep.new.order b) c.if-not-sweep.false c.sweep.ensures.change)

pub returns-then-not-sweep-clause-improved : goal.returns-then-not-sweep-clause-improved
returns-then-not-sweep-clause-improved c =
    improved_stable _ _ _ _ _ c.sweeps.invariant c.sweeps-test.true c.sweep.ensures.swept
    (subst (λ (b : Bool). IsTried c.args.points.now.items c.sweeps.order c.sweep.new.order b) c.if-not-sweep.true c.sweep.ensures.change)

pub returns-then-not-sweep-clause-order : goal.returns-then-not-sweep-clause-order
returns-then-not-sweep-clause-order c =
    stays_ordered _ _ _ _ _ c.sweeps.invariant (subst (λ (b : Bool). IsTried c.args.points.now.items c.sweeps.order c.sweep.new.order b) c.if-not-sweep.true c.sweep.ensures.change)

pub returns-then-not-sweep-clause-settled : goal.returns-then-not-sweep-clause-settled
returns-then-not-sweep-clause-settled c =
    λ _. settled _ c.args.order.now _ _ (subst (λ (b : Bool). IsTried c.args.points.now.items c.sweeps.order c.sweep.new.order b) c.if-not-sweep.true c.sweep.ensures.change) (c.sweep.ensures.quiet c.if-not-sweep.true)

pub returns-clause-improved : goal.returns-clause-improved
returns-clause-improved c = let all : c.sweeps.shortened ≡ 64 = omega (arith, c.sweeps-test.false, c.sweeps.auto.shortened-end) in improved_cut _ _ _ _ c.sweeps.invariant all

pub returns-clause-order : goal.returns-clause-order
returns-clause-order c = order_still _ _ _ _ c.sweeps.invariant
