use Rattle.std.proofs.Common.{min, rules}
use Rattle.std.specs.Str.Parse.{digits_value}
use Rattle.ngc_reader.proofs.SmallLaws.{next_digit}
use Rattle.ngc_reader.proofs.numbers.small_value.Goals as goal

pub loop-b-preserved : goal.loop-b-preserved
loop-b-preserved c =
    let ds = c.args.digits.now in
    let next = next_digit ds c.loop-b.n c.loop-b.b-index c.min-n.result (min (digits_value 10 ds) 10000) (search rules) c.loop-b.invariant.left (search rules) c.loop-b.invariant.value in
    record { value = next.value; small = search rules; left = next.left }
