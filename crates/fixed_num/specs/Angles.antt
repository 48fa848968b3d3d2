-- Sine and cosine. An angle is in millionths of a degree, counterclockwise, and a sine in 10^-12.
use Rattle.std.specs.Prelude.{ℕ, zero, suc, ◌-◌, ◌*◌, ◌/◌, ◌%◌, ℤ, pos, neg_ℤ, ◌+ℤ◌, ◌-ℤ◌, unsigned_abs, nat_le, if◌then◌else◌, ◌==◌}
use Rattle.std.specs.Int.{int_rem_euclid}

-- the product of two numbers in 10^-12, cut
unfoldable pub scaled : ℕ → ℕ → ℕ
scaled a b = a * b / 1000000000000

-- a power of x in 10^-12: each is the one before it times x, cut
abbrev pub power : ℕ → ℕ → ℕ
power x zero = 1000000000000
power x (suc zero) = x
power x (suc (suc n)) = scaled (power x (suc n)) x

-- the length of the arc of an angle on the circle of radius 1, in 10^-12, cut
unfoldable pub arc : ℕ → ℕ
arc t = t * 17453292520 / 1000000

-- the first terms of the sine's series, each cut
unfoldable pub sine_series : ℕ → ℤ
sine_series x =
    pos (power x 1) -ℤ pos (power x 3 / 6) +ℤ pos (power x 5 / 120) -ℤ pos (power x 7 / 5040) +ℤ pos (power x 9 / 362880)

-- the first terms of the cosine's series, each cut
unfoldable pub cosine_series : ℕ → ℤ
cosine_series x =
    pos (power x 0) -ℤ pos (power x 2 / 2) +ℤ pos (power x 4 / 24) -ℤ pos (power x 6 / 720) +ℤ pos (power x 8 / 40320)

-- the sine of an angle of the first quarter: past 45 degrees it is the cosine of what is left to 90
unfoldable pub quarter_sine : ℕ → ℤ
quarter_sine t = if nat_le t 45000000 then sine_series (arc t) else cosine_series (arc (90000000 - t))

-- the cosine of an angle of the first quarter
unfoldable pub quarter_cosine : ℕ → ℤ
quarter_cosine t = if nat_le t 45000000 then cosine_series (arc t) else sine_series (arc (90000000 - t))

-- the angle in the first turn, from 0 to 359,999,999
unfoldable pub in_turn : ℤ → ℕ
in_turn angle = unsigned_abs (int_rem_euclid angle (pos 360000000))

-- the sine at t past the start of a quarter, the first being 0
abbrev pub sine_in : ℕ → ℕ → ℤ
sine_in quarter t =
    if quarter == 0 then quarter_sine t
    else if quarter == 1 then quarter_cosine t
    else if quarter == 2 then neg_ℤ (quarter_sine t)
    else neg_ℤ (quarter_cosine t)

-- the cosine there
abbrev pub cosine_in : ℕ → ℕ → ℤ
cosine_in quarter t =
    if quarter == 0 then quarter_cosine t
    else if quarter == 1 then neg_ℤ (quarter_sine t)
    else if quarter == 2 then neg_ℤ (quarter_cosine t)
    else quarter_sine t

-- the sine of an angle
unfoldable pub sine_of : ℤ → ℤ
sine_of angle = sine_in (in_turn angle / 90000000) (in_turn angle % 90000000)

-- the cosine of an angle
unfoldable pub cosine_of : ℤ → ℤ
cosine_of angle = cosine_in (in_turn angle / 90000000) (in_turn angle % 90000000)
