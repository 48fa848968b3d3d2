use Rattle.std.proofs.Common.{ℤ, pos, ◌+ℤ◌, ◌-ℤ◌, ◌*ℤ◌, ◌≤ℤ◌, ap, sym, subst, rules}
use Rattle.std.proofs.lemmas.Int.{to_z-of_z}
use mir.Syntax.{w64}
use mir.Val.{SFits}
use Rattle.cell_sets.specs.Contour.{reach_of}
use Rattle.mill_plan.proofs.GuardLaws.{reach_nonneg, reach_most}
use Rattle.mill_plan.proofs.measures.first_reach.Goals as goal

pub returns-clause-value : goal.returns-clause-value
unfolding reach_of
returns-clause-value c =
    let radius : SFits w64 c.args.cutting.radius = search rules in
    let tolerance : SFits w64 c.args.cutting.tolerance = search rules in
    let half : SFits w64 c.half.result = search rules in
    let twice : SFits w64 (pos 2 *ℤ c.half.result) = search rules in
    let left : SFits w64 (c.args.cutting.radius -ℤ c.args.cutting.tolerance) = search rules in
    let all : SFits w64 ((c.args.cutting.radius -ℤ c.args.cutting.tolerance) +ℤ pos 2 *ℤ c.half.result) = search rules in
    simp to_z-of_z (ap (λ (h : ℤ). (c.args.cutting.radius -ℤ c.args.cutting.tolerance) +ℤ pos 2 *ℤ h) c.half.ensures.value)

pub returns-clause-low : goal.returns-clause-low
returns-clause-low c = subst (λ (r : ℤ). pos 0 ≤ℤ r) (sym (returns-clause-value c)) (reach_nonneg c.args.cutting c.requires)

pub returns-clause-high : goal.returns-clause-high
returns-clause-high c = subst (λ (r : ℤ). r ≤ℤ pos 10400000) (sym (returns-clause-value c)) (reach_most c.args.cutting c.requires (subst (λ (h : ℤ). h ≤ℤ pos 200000) c.half.ensures.value c.half.ensures.high))
