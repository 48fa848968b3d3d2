-- Which cells lie round a segment.
use Rattle.std.specs.Prelude.{ℤ, pos}
use Rattle.std.specs.Int.{int_div_euclid}

-- half of a width, cut to a whole number
unfoldable pub half_cut : ℤ → ℤ
half_cut d = int_div_euclid d (pos 2)
