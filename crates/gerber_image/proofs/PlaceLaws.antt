-- Points in the range, and the size of steps.
use Rattle.std.proofs.Common.{◌≡◌, refl, ℕ, suc, ◌+◌, ◌*◌, ◌/◌, ◌≤◌, ◌<◌, ◌^◌, ℤ, pos, negsuc, ◌*ℤ◌, unsigned_abs, Bool, true, false, not, Option, Some, None, MatchOption, arith, sym, subst, div-lt_iff_lt-mul}
use Rattle.std.specs.Prelude.{◌&&◌, cond}
use Rattle.std.proofs.lemmas.Int.{ints}
use Rattle.board_base.specs.declared.places.Point.{Point}
use Rattle.board_base.specs.Places.{IsPlace}
use Rattle.fixed_num.specs.Rounding.{rounded, round_div_of}
use Rattle.plane_arcs.proofs.RangeLaws.{inside_place}
use Rattle.plane_arcs.specs.Turned.{in_range, point_at, is_far}
use Rattle.fixed_num.specs.declared.units.Unit.{Unit}
use Rattle.fixed_num.specs.declared.units.Unit.TheVariants.{Mm, Inch}
use Rattle.apertures.specs.Texts.{length_of, IsSize}
use Rattle.gerber_image.specs.InForce.{step_length}
use Rattle.apertures.specs.Defined.{at}
use Rattle.gerber_image.specs.Checks.{is_long}
use Rattle.gerber_words.specs.Fits.{IsWritten}
use Rattle.fixed_num.specs.Units.{unit_size, nanometres}
use Rattle.gerber_words.specs.declared.commands.AxisFormat.{AxisFormat}
use Rattle.gerber_words.specs.declared.commands.Digits.{Digits}
use Rattle.gerber_words.proofs.NumeralLaws.{some_digits}
use Rattle.std.proofs.Common.{pow-add}
use Rattle.std.proofs.Math.Nat.{pow-le-pow_right, mul-le-mul_right}

chosen : (p : Point) (b : Bool) → (in_range p.x && in_range p.y) ≡ b → (r : Option Point) → r ≡ cond b (Some p) None
    → MatchOption r (not b ≡ true) (λ q. (not b ≡ false) × (q ≡ p) × IsPlace q)
chosen p true e (Some q) f = let same : q ≡ p = cc in (refl, same, rw same (inside_place p e))
chosen p true e None f = absurd cc
chosen p false e (Some q) f = absurd cc
chosen p false e None f = refl

pub point_law : (x y : ℤ) (r : Option Point) → r ≡ point_at x y → MatchOption r (is_far (at x y) ≡ true) (λ q. (is_far (at x y) ≡ false) × (q ≡ at x y) × IsPlace q)
point_law x y r e = chosen (at x y) (in_range x && in_range y) refl r e

pub step_bound : (unit : Unit) (step : ℕ) → IsSize step → step_length unit step < 2 ^ 110
unfolding length_of round_div_of rounded
step_bound Mm step h = omega (arith, h)
step_bound Inch step h = omega (arith, h)

-- a number of few digits is a short coordinate

rounded_most : (a b m : ℕ) → 0 < b → a ≤ m * b → rounded a b ≤ m
unfolding rounded
rounded_most a b m some h =
    let two : 0 < 2 * b = omega (arith, some) in
    let less : 2 * a + b < (m + 1) * (2 * b) = enough a b m some h in
    below_more ((2 * a + b) / (2 * b)) m ((div-lt_iff_lt-mul two).1 less)
  where
    enough : (a b m : ℕ) → 0 < b → a ≤ m * b → 2 * a + b < (m + 1) * (2 * b)
    enough a b m some h = omega (arith, some, h)

    below_more : (q m : ℕ) → q < m + 1 → q ≤ m
    below_more q m h = omega (arith, h)

quotient_most : (v : ℤ) (b m : ℕ) → 0 < b → unsigned_abs v ≤ m * b → unsigned_abs (round_div_of v (pos b)) ≤ m
unfolding round_div_of
quotient_most (pos a) b m some h = rounded_most a b m some h
quotient_most (negsuc a) b m some h = omega (arith, ints, rounded_most (suc a) b m some h)

-- a number below 10^n of a unit, with at most w + m digits, of which m stand behind the point
size_most : (v unit n w m : ℕ) → v < 10 ^ n → n ≤ w + m → w ≤ 6 → unit ≤ 25400000 → v * unit ≤ 25400000000000 * 10 ^ m
size_most v unit n w m h few wide small =
    let digits : 10 ^ n ≤ 10 ^ (w + m) = pow-le-pow_right (omega arith) {i = n} {j = w + m} few in
    let whole : 10 ^ w ≤ 10 ^ 6 = pow-le-pow_right (omega arith) {i = w} {j = 6} wide in
    let split : 10 ^ (w + m) ≡ 10 ^ w * 10 ^ m = pow-add 10 w m in
    let less : v ≤ 10 ^ 6 * 10 ^ m = less_than v (10 ^ n) (10 ^ (w + m)) (10 ^ w) (10 ^ m) h digits split whole in
    times_most v (10 ^ m) unit less small
  where
    less_than : (v a b c d : ℕ) → v < a → a ≤ b → b ≡ c * d → c ≤ 10 ^ 6 → v ≤ 10 ^ 6 * d
    less_than v a b c d h k e l = let more : c * d ≤ 10 ^ 6 * d = mul-le-mul_right d l in omega (arith, h, k, e, more)

    times_most : (v d unit : ℕ) → v ≤ 10 ^ 6 * d → unit ≤ 25400000 → v * unit ≤ 25400000000000 * d
    times_most v d unit h s =
        let first : v * unit ≤ 10 ^ 6 * d * unit = mul-le-mul_right unit h in
        let second : unit * (10 ^ 6 * d) ≤ 25400000 * (10 ^ 6 * d) = mul-le-mul_right (10 ^ 6 * d) s in
        omega (arith, first, second)

unit_most : (unit : Unit) → unit_size unit ≤ 25400000
unit_most Mm = omega arith
unit_most Inch = omega arith

product_size : (v : ℤ) (n : ℕ) → unsigned_abs (v *ℤ pos n) ≡ unsigned_abs v * n
product_size v n = grind (arith, ints)

pub coordinate_most : (format : AxisFormat) (unit : Unit) (digits : Digits) → format.integer_digits ≤ 6 → IsWritten digits → is_long (Some format) (Some digits) ≡ false
    → unsigned_abs (nanometres format.decimal_digits unit digits.value) ≤ 25400000000000
unfolding nanometres
coordinate_most format unit digits wide written few =
    let size = size_most (unsigned_abs digits.value) (unit_size unit) digits.count format.integer_digits format.decimal_digits written (grind (arith, few)) wide (unit_most unit) in
    quotient_most (digits.value *ℤ pos (unit_size unit)) (10 ^ format.decimal_digits) 25400000000000 (some_digits format.decimal_digits)
    (subst (λ n. n ≤ 25400000000000 * 10 ^ format.decimal_digits) (sym (product_size digits.value (unit_size unit))) size)

-- a number of at most twelve digits
pub small_number : (format : AxisFormat) (digits : Digits) → format.integer_digits ≤ 6 → format.decimal_digits ≤ 6 → IsWritten digits → is_long (Some format) (Some digits) ≡ false → unsigned_abs digits.value < 10 ^ 12
small_number format digits whole decimals written few =
    let count : digits.count ≤ 12 = within format.integer_digits format.decimal_digits digits.count whole decimals (grind (arith, few)) in
    let power : 10 ^ digits.count ≤ 10 ^ 12 = pow-le-pow_right (omega arith) {i = digits.count} {j = 12} count in
    less (unsigned_abs digits.value) (10 ^ digits.count) (10 ^ 12) written power
  where
    within : (w m n : ℕ) → w ≤ 6 → m ≤ 6 → n ≤ w + m → n ≤ 12
    within w m n a b h = omega (arith, a, b, h)

    less : (a b c : ℕ) → a < b → b ≤ c → a < c
    less a b c h k = omega (arith, h, k)
