use Rattle.std.proofs.Common.{◌+◌, ◌≤◌, ◌<◌, Bool, false, length, cond, get_or, sym, ap, rules}
use Rattle.copper_cover.specs.Rows.{is_in_span}
use Rattle.copper_cover.proofs.RowLaws.{span_before, span_after, one_written}
use Rattle.copper_cover.proofs.RunLaws.{in_span, stays}
use Rattle.copper_cover.proofs.runs.mark.Goals as goal

pub columns-init : goal.columns-init
columns-init c = record {
  bits = span_before (λ k b. cond (is_in_span c.args.span k) c.args.on b) c.args.span (length c.args.bits.now) (λ k l out b. stays c.args.span k c.args.on b out) c.args.bits.now c.requires.from;
  most = c.requires.from;
}

pub columns-preserved : goal.columns-preserved
columns-preserved c =
    let k = c.columns.k in
    let inside : k < length c.columns.bits = search rules in
    let more : k + 1 ≤ length c.args.bits.now = search rules in
    let low = c.columns.auto.k in
    let high = c.columns-test.true in
    record {
      bits = one_written (λ k b. cond (is_in_span c.args.span k) c.args.on b) _ _ k c.args.on c.columns.invariant.bits inside
          (sym (ap (λ (t : Bool). cond t c.args.on (get_or c.columns.bits k false)) (in_span c.args.span k low high)));
      most = more;
    }

pub returns-clause-bits : goal.returns-clause-bits
returns-clause-bits c k l =
    let most = c.columns.invariant.most in
    span_after (λ k b. cond (is_in_span c.args.span k) c.args.on b) c.args.span (length c.args.bits.now) (λ k l out b. stays c.args.span k c.args.on b out) c.columns.k c.args.bits.now c.columns.bits c.columns.invariant.bits c.columns-test.false most k l
