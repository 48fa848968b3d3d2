use Rattle.std.proofs.Common.{◌≡◌, ◌||◌, ℕ, ◌<◌, ◌≤◌, ◌+◌, ◌∙◌, ap, get_or, length, false, arith, rules}
use Rattle.std.proofs.lemmas.Int.{to_z-of_z}
use mir.Val.{SFits}
use mir.Syntax.{w64}
use Rattle.board_base.specs.declared.places.Point.{Point}
use Rattle.board_base.specs.Near.{near_of}
use Rattle.copper_cover.specs.Rows.{centre_in}
use Rattle.copper_cover.proofs.RowLaws.{one_written, span_before, span_after, unmarked_out}
use Rattle.copper_cover.proofs.rows.mark_near.Goals as goal

pub columns-init : goal.columns-init
columns-init c =
    let f : SFits w64 c.args.d = c.ranges.d in
    let near = λ (k : ℕ). near_of (centre_in c.args.row k) c.args.a c.args.b c.args.d in
    let s = c.columns_near-columns.result in
    let n = length c.args.bits.now in
    simp to_z-of_z (
      span_before (λ k bit. bit || near k) s n (unmarked_out near s n (simp to_z-of_z at c.columns_near-columns.ensures.holds)) c.args.bits.now c.columns_near-columns.ensures.from,
      c.columns_near-columns.ensures.from,
    )

pub columns-preserved : goal.columns-preserved
columns-preserved c =
    let f : SFits w64 c.args.d = c.ranges.d in
    let near = λ (k : ℕ). near_of (centre_in c.args.row k) c.args.a c.args.b c.args.d in
    let inside : c.columns.k < length c.columns.bits = search rules in
    let more : c.columns.k + 1 ≤ length c.args.bits.now = search rules in
    let e : c.near_or-bit.result ≡ (get_or c.columns.bits c.columns.k false || near c.columns.k) =
    (simp to_z-of_z at c.near_or-bit.ensures) ∙ ap (λ (q : Point). get_or c.columns.bits c.columns.k false || near_of q c.args.a c.args.b c.args.d) c.centre_at-q.ensures.value in
    simp to_z-of_z (one_written (λ k bit. bit || near k) _ _ c.columns.k _ (simp to_z-of_z at c.columns.invariant.0) inside e, more)

pub returns : goal.returns
returns c k l =
    let f : SFits w64 c.args.d = c.ranges.d in
    let near = λ (k : ℕ). near_of (centre_in c.args.row k) c.args.a c.args.b c.args.d in
    let s = c.columns_near-columns.result in
    let n = length c.args.bits.now in
    let same : length c.columns.bits ≡ length c.args.bits.now = search rules in
    span_after (λ k bit. bit || near k) s n (unmarked_out near s n (simp to_z-of_z at c.columns_near-columns.ensures.holds)) c.columns.k c.args.bits.now c.columns.bits (simp to_z-of_z at c.columns.invariant.0)
    c.columns-test.false c.columns.invariant.1 k (omega (arith, same, l))
