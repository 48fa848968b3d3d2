-- The units of files in nanometres.
use Rattle.std.specs.Prelude.{ℕ, ◌^◌, ℤ, pos, ◌*ℤ◌}
use Rattle.fixed_num.specs.Rounding.{round_div_of}
use Rattle.fixed_num.specs.declared.units.Unit.{Unit}
use Rattle.fixed_num.specs.declared.units.Unit.TheVariants.{Mm, Inch}

-- the nanometres of a unit
abbrev pub unit_size : Unit → ℕ
unit_size Mm = 1000000
unit_size Inch = 25400000

-- a number with this many decimals of the unit, to the nearest nanometre
unfoldable pub nanometres : ℕ → Unit → ℤ → ℤ
nanometres decimals unit value = round_div_of (value *ℤ pos (unit_size unit)) (pos (10 ^ decimals))
