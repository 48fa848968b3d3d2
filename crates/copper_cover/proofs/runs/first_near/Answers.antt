use Rattle.std.proofs.Common.{◌≡◌, ◌∙◌, ℕ, ◌<◌, ◌≤◌, ◌+◌, ◌-◌, ◌/◌, true, false, sym, arith}
use Rattle.std.proofs.lemmas.Int.{to_z-of_z}
use mir.Val.{SFits}
use mir.Syntax.{w64}
use Rattle.copper_cover.specs.Rows.{is_near_in}
use Rattle.copper_cover.proofs.RunLaws.{none_west, half_low, half_high}
use Rattle.copper_cover.proofs.runs.first_near.Goals as goal

pub halves-preserved : goal.halves-preserved
halves-preserved c =
    let f : SFits w64 c.args.d = c.ranges.d in
    let from = c.halves.from in
    let to = c.halves.to in
    let m = from + (to - from) / 2 in
    let i = c.halves.invariant in
    let low = half_low from to in
    let high = half_high from to c.halves-test.true in
    let near : is_near_in c.args.row c.args.a c.args.b c.args.d to ≡ true = simp to_z-of_z at i.near in
    let far : is_near_in c.args.row c.args.a c.args.b c.args.d m ≡ false = sym (simp to_z-of_z at c.is_near_at.ensures) ∙ c.if-is_near_at.false in
    simp to_z-of_z (record {
      low = past c.args.low from m i.low low;
      order = next m to high;
      high = i.high;
      near = near;
      before = λ k l h. none_west c.args.row c.args.n c.args.a c.args.b c.args.d k m to c.requires.row (within k m h) (weak m to high) far near;
    })
  where
    past : (a b m : ℕ) → a ≤ b → b ≤ m → a ≤ m + 1
    past a b m h i = omega arith

    next : (m t : ℕ) → m < t → m + 1 ≤ t
    next m t h = omega arith

    within : (k m : ℕ) → k < m + 1 → k ≤ m
    within k m h = omega arith

    weak : (m t : ℕ) → m < t → m ≤ t
    weak m t h = omega arith

pub returns-clause-before : goal.returns-clause-before
returns-clause-before c =
    let f : SFits w64 c.args.d = c.ranges.d in
    let before : (k : ℕ) → c.args.low ≤ k → k < c.halves.from → is_near_in c.args.row c.args.a c.args.b c.args.d k ≡ false = simp to_z-of_z at c.halves.invariant.before in
    λ k l h. before k l (less k c.halves.to c.halves.from h c.halves-test.false)
  where
    less : (k t f : ℕ) → k < t → t ≤ f → k < f
    less k t f h i = omega arith
