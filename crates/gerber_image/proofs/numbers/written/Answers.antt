use Rattle.std.proofs.Common.{rules, ◌≡◌, ◌≤◌, ◌<◌, ◌^◌, unsigned_abs, subst, sym, to_z-of_z, SFits, w64}
use Rattle.std.specs.Int.{w128}
use Rattle.fixed_num.specs.Units.{nanometres}
use Rattle.gerber_image.proofs.PlaceLaws.{coordinate_most, small_number}
use Rattle.gerber_image.proofs.numbers.written.Goals as goal

pub returns-clause-size : goal.returns-clause-size
returns-clause-size c written few =
    let small : unsigned_abs c.args.digits.value < 10 ^ 12 = small_number c.args.format c.args.digits c.requires.whole c.requires.decimals written few in
    let fits : SFits w64 c.args.digits.value = search rules in
    let fits_too : SFits w128 c.args.digits.value = search rules in
    let wide : SFits w128 c.nanometres.result = search rules in
    let same : c.nanometres.result ≡ nanometres c.args.format.decimal_digits c.args.unit c.args.digits.value = simp to_z-of_z at c.nanometres.ensures in
    simp to_z-of_z (subst (λ v. unsigned_abs v ≤ 25400000000000) (sym same) (coordinate_most c.args.format c.args.unit c.args.digits c.requires.whole written few))
