use Rattle.std.proofs.Common.{ℤ, ◌<ℤ◌, ◌≤ℤ◌, pos, sym, subst, rules}
use Rattle.std.proofs.lemmas.Int.{to_z-of_z}
use mir.Syntax.{w64}
use mir.Val.{SFits, to_z, of_z}
use Rattle.board_base.specs.Lattice.{IsPitch, half_diagonal_of}
use Rattle.job_file.proofs.RangeLaws.{is_pitch}
use Rattle.mill_plan.proofs.cutting.clearing_stride.Goals as goal

pub stride-requires-clause-pitch : goal.stride-requires-clause-pitch
stride-requires-clause-pitch c =
    let wide : SFits w64 c.args.job.now.pitch = search rules in
    subst IsPitch (sym (to_z-of_z w64 c.args.job.now.pitch wide)) (is_pitch c.args.job.now.pitch c.requires.ranges.pitch)

pub stride-requires-clause-wide : goal.stride-requires-clause-wide
stride-requires-clause-wide c =
    let wide : SFits w64 c.args.job.now.pitch = search rules in
    subst (λ (p : ℤ). pos 2000 ≤ℤ p) (sym (to_z-of_z w64 c.args.job.now.pitch wide)) c.requires.ranges.pitch.low

pub stride-requires-clause-fine : goal.stride-requires-clause-fine
stride-requires-clause-fine c =
    let wide : SFits w64 c.args.job.now.pitch = search rules in
    let radius : SFits w64 c.radius.result = search rules in
    subst (λ (p : ℤ). half_diagonal_of p <ℤ to_z w64 (of_z w64 c.radius.result)) (sym (to_z-of_z w64 c.args.job.now.pitch wide))
    (subst (λ (r : ℤ). half_diagonal_of c.args.job.now.pitch <ℤ r) (sym (to_z-of_z w64 c.radius.result radius)) (subst (λ (r : ℤ). half_diagonal_of c.args.job.now.pitch <ℤ r) (sym c.radius.ensures.value) (c.requires.together.side_fine c.requires.side)))
