use Rattle.std.proofs.Common.{◌≡◌, ℤ, pos, ◌-ℤ◌, ◌*ℤ◌, ◌≤ℤ◌, sym, subst, rules}
use Rattle.std.specs.Int.{int_div_euclid}
use Rattle.number_laws.proofs.Order.{le_trans_ℤ}
use mir.Syntax.{w64}
use mir.Val.{to_z, of_z}
use Rattle.mill_plan.proofs.StepLaws.{overlap_part}
use Rattle.mill_plan.proofs.cutting.less_overlap.Goals as goal

pub returns-clause-low : goal.returns-clause-low
returns-clause-low c =
    let value : to_z w64 (of_z w64 c.div_euclid.result) ≡ int_div_euclid (c.args.length *ℤ (pos 100 -ℤ pos c.args.overlap)) (pos 100) = search rules in
    subst (λ (r : ℤ). pos 0 ≤ℤ r) (sym value) (overlap_part c.args.length c.args.overlap c.requires.low c.requires.overlap).low

pub returns-clause-high : goal.returns-clause-high
returns-clause-high c =
    let value : to_z w64 (of_z w64 c.div_euclid.result) ≡ int_div_euclid (c.args.length *ℤ (pos 100 -ℤ pos c.args.overlap)) (pos 100) = search rules in
    subst (λ (r : ℤ). r ≤ℤ pos 10000000) (sym value)
    (le_trans_ℤ (int_div_euclid (c.args.length *ℤ (pos 100 -ℤ pos c.args.overlap)) (pos 100)) c.args.length (pos 10000000) (overlap_part c.args.length c.args.overlap c.requires.low c.requires.overlap).high c.requires.high)
