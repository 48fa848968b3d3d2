use Rattle.std.proofs.Common.{arith, sym, subst, length, ◌*◌, ◌<◌, ◌^◌}
use Rattle.std.specs.Str.Parse.{AllDigits}
use Rattle.fixed_num.proofs.DigitLaws.{eighteen, all_taken, size_bound, size_value}
use Rattle.fixed_num.proofs.number.size_of.Goals as goal

pub number-cut-requires-clause-start : goal.number-cut-requires-clause-start
number-cut-requires-clause-start c = eighteen c.number-whole.result (length c.args.text.now.whole.now) c.number-whole.ensures.bound c.requires.short

pub number-cut-requires-clause-digits : goal.number-cut-requires-clause-digits
number-cut-requires-clause-digits c = all_taken c.min-kept.result c.decimals-decimals.result.now (subst (AllDigits 10) (sym c.decimals-decimals.ensures) c.requires.digits.fraction)

pub overflow_mul-result : goal.overflow_mul-result
overflow_mul-result c =
    let small = eighteen c.number-whole.result (length c.args.text.now.whole.now) c.number-whole.ensures.bound c.requires.short in
    let bound : c.number-cut.result * c.pow.result < 10 ^ 30 =
    size_bound c.number-cut.result c.number-whole.result c.pow.result c.args.scale c.min-kept.result c.decimals-decimals.result.now c.number-cut.ensures.bound small c.min-kept.ensures c.pow.ensures c.requires.scale in
    omega (arith, bound)

pub returns-clause-value : goal.returns-clause-value
returns-clause-value c =
    size_value c.number-cut.result c.number-whole.result c.pow.result c.args.scale c.min-kept.result c.args.text.now.whole.now c.decimals-decimals.result.now _
    c.number-whole.ensures.value c.number-cut.ensures.value c.min-kept.ensures c.pow.ensures c.decimals-decimals.ensures

pub returns-clause-bound : goal.returns-clause-bound
returns-clause-bound c =
    let small = eighteen c.number-whole.result (length c.args.text.now.whole.now) c.number-whole.ensures.bound c.requires.short in
    size_bound c.number-cut.result c.number-whole.result c.pow.result c.args.scale c.min-kept.result c.decimals-decimals.result.now c.number-cut.ensures.bound small c.min-kept.ensures c.pow.ensures c.requires.scale
