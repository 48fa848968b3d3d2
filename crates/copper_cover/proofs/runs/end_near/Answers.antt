use Rattle.std.proofs.Common.{◌≡◌, ◌∙◌, ℕ, ◌<◌, ◌≤◌, ◌+◌, ◌-◌, ◌/◌, true, false, sym, subst, arith}
use Rattle.std.proofs.lemmas.Int.{to_z-of_z}
use mir.Val.{SFits}
use mir.Syntax.{w64}
use Rattle.copper_cover.specs.Rows.{is_near_in}
use Rattle.copper_cover.proofs.RunLaws.{none_east, half_low, half_high, half_past}
use Rattle.copper_cover.proofs.runs.end_near.Goals as goal

pub halves-preserved : goal.halves-preserved
halves-preserved c =
    let f : SFits w64 c.args.d = c.ranges.d in
    let from = c.halves.from in
    let to = c.halves.to in
    let m = from + (to - from) / 2 in
    let i = c.halves.invariant in
    let low = half_low from to in
    let high = half_high from to i.order in
    let near : is_near_in c.args.row c.args.a c.args.b c.args.d from ≡ true = simp to_z-of_z at i.near in
    let far : is_near_in c.args.row c.args.a c.args.b c.args.d m ≡ false = sym (simp to_z-of_z at c.is_near_at.ensures) ∙ c.if-is_near_at.false in
    simp to_z-of_z (record {
      low = i.low;
      order = half_past from to c.halves-test.true;
      high = under m to c.args.high high i.high;
      near = near;
      after = λ k l h. none_east c.args.row c.args.n c.args.a c.args.b c.args.d from m k c.requires.row low l far near;
    })
  where
    under : (m t h : ℕ) → m < t → t ≤ h → m ≤ h
    under m t h i j = omega arith

pub returns-clause-near : goal.returns-clause-near
returns-clause-near c k e =
    let f : SFits w64 c.args.d = c.ranges.d in
    let near : is_near_in c.args.row c.args.a c.args.b c.args.d c.halves.from ≡ true = simp to_z-of_z at c.halves.invariant.near in
    subst (λ (j : ℕ). is_near_in c.args.row c.args.a c.args.b c.args.d j ≡ true) (same c.halves.from c.halves.to k c.halves.invariant.order c.halves-test.false e) near
  where
    same : (f t k : ℕ) → f < t → t - f ≤ 1 → k + 1 ≡ t → f ≡ k
    same f t k h i e = omega arith

pub returns-clause-after : goal.returns-clause-after
returns-clause-after c =
    let f : SFits w64 c.args.d = c.ranges.d in
    simp to_z-of_z at c.halves.invariant.after
