use Rattle.std.proofs.Common.{◌≡◌, length, subst, rules}
use Rattle.std.proofs.lemmas.Int.{to_z-of_z}
use mir.Syntax.{w64}
use mir.Val.{SFits}
use Rattle.mill_plan.specs.Cuts.{starts_of}
use Rattle.mill_plan.proofs.ProgramLaws.{in_rows, in_turn, order_is}
use Rattle.mill_plan.proofs.order.ordered.Goals as goal

pub returns-then-len-gt4096 : goal.returns-then-len-gt4096
returns-then-len-gt4096 c =
    let n : c.len.result ≡ length c.args.rows.items = search rules in
    in_rows c.args.pitch c.args.rows.items c.len.result n c.if-len-gt4096.true

pub in_order-requires : goal.in_order-requires
in_order-requires c =
    let wide : SFits w64 c.args.pitch = search rules in
    order_is c.args.pitch c.args.rows.items c.in_ok-order.order.items c.in_ok-starts.starts.items
    (subst (λ p. c.in_ok-starts.starts.items ≡ starts_of p c.args.rows.items) (to_z-of_z w64 c.args.pitch wide) c.in_ok-starts.ensures.starts) c.in_ok-order.ensures

pub returns : goal.returns
returns c =
    let wide : SFits w64 c.args.pitch = search rules in
    let n : c.len.result ≡ length c.args.rows.items = search rules in
    in_turn c.args.pitch c.args.rows.items c.in_ok-walks.walks.items c.in_ok-order.order.items c.in_ok-starts.starts.items c.len.result n c.if-len-gt4096.false
    (subst (λ p. c.in_ok-starts.starts.items ≡ starts_of p c.args.rows.items) (to_z-of_z w64 c.args.pitch wide) c.in_ok-starts.ensures.starts) c.in_ok-order.ensures c.in_ok-walks.ensures
