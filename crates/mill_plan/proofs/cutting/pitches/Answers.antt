use Rattle.std.proofs.Common.{◌≡◌, ℤ, pos, ◌-ℤ◌, ◌≤ℤ◌, sym, subst, rules}
use Rattle.std.specs.Int.{int_div_euclid}
use Rattle.number_laws.proofs.Order.{le_trans_ℤ}
use mir.Syntax.{w64}
use mir.Val.{to_z, of_z}
use Rattle.board_base.specs.Lattice.{half_diagonal_of}
use Rattle.board_base.proofs.LatticeLaws.{diagonal_nonneg}
use Rattle.mill_plan.proofs.StepLaws.{pitch_part, left_of, under_thick}
use Rattle.mill_plan.proofs.cutting.pitches.Goals as goal

pub returns-clause-low : goal.returns-clause-low
returns-clause-low c =
    let value : to_z w64 (of_z w64 c.div_euclid.result) ≡ int_div_euclid (c.args.radius -ℤ half_diagonal_of c.args.pitch) c.args.pitch = search rules in
    subst (λ (r : ℤ). pos 0 ≤ℤ r) (sym value) (pitch_part (c.args.radius -ℤ half_diagonal_of c.args.pitch) c.args.pitch (left_of c.args.radius (half_diagonal_of c.args.pitch) c.requires.fine) c.requires.wide).low

pub returns-clause-high : goal.returns-clause-high
returns-clause-high c =
    let value : to_z w64 (of_z w64 c.div_euclid.result) ≡ int_div_euclid (c.args.radius -ℤ half_diagonal_of c.args.pitch) c.args.pitch = search rules in
    subst (λ (r : ℤ). r ≤ℤ pos 5000000) (sym value)
    (le_trans_ℤ (int_div_euclid (c.args.radius -ℤ half_diagonal_of c.args.pitch) c.args.pitch) (c.args.radius -ℤ half_diagonal_of c.args.pitch) (pos 5000000)
    (pitch_part (c.args.radius -ℤ half_diagonal_of c.args.pitch) c.args.pitch (left_of c.args.radius (half_diagonal_of c.args.pitch) c.requires.fine) c.requires.wide).high
    (under_thick c.args.radius (half_diagonal_of c.args.pitch) (diagonal_nonneg c.args.pitch) c.requires.thick))
