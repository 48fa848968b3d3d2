use Rattle.std.proofs.Common.{◌≡◌, ℕ, ◌<◌, ◌≤◌, List, length, get_or, ap, sym, subst, arith}
use Rattle.mill_plan.proofs.OrderLaws.{Rows, AreTaken, none_taken, index_in, one_taken, all_taken}
use Rattle.mill_plan.proofs.order.in_order.Goals as goal

pub order-init : goal.order-init
order-init c = subst (λ (ws : Rows). AreTaken c.args.rows.items c.args.rows.items c.args.order.now.items 0 ws) (sym c.new-walks.ensures.items) (none_taken c.args.rows.items c.args.order.now.items)

pub taken-requires : goal.taken-requires
taken-requires c =
    let same : c.deref-k-items.result.now ≡ c.args.order.now.items = c.deref-k-items.ensures.value in
    let inside = index_in c.args.rows.items c.args.order.now.items c.order.k-index c.requires (subst (λ (xs : List ℕ). c.order.k-index < length xs) same c.order-test.true) in
    let size = c.order.invariant.size in
    subst (λ (xs : List ℕ). get_or xs c.order.k-index 0 < length c.order.left.items) (sym same) (omega (arith, inside, size))

pub order-preserved : goal.order-preserved
order-preserved c =
    let same : c.deref-k-items.result.now ≡ c.args.order.now.items = c.deref-k-items.ensures.value in
    one_taken c.args.rows.items c.order.left.items c.taken.new.rows.items c.args.order.now.items c.order.k-index _ c.order.walks.items c.push.new.self.items c.taken.result c.requires
    (subst (λ (xs : List ℕ). c.order.k-index < length xs) same c.order-test.true) c.order.invariant (ap (λ (xs : List ℕ). get_or xs c.order.k-index 0) same) c.taken.ensures.walk c.taken.ensures.rest c.in_ok-push.ensures.items

pub returns : goal.returns
returns c =
    let same : c.deref-k-items.result.now ≡ c.args.order.now.items = c.deref-k-items.ensures.value in
    all_taken c.args.rows.items c.order.left.items c.args.order.now.items c.order.k-index c.order.walks.items c.order.invariant (subst (λ (xs : List ℕ). length xs ≤ c.order.k-index) same c.order-test.false)
