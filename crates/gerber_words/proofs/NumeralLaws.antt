-- Digits and their numbers.
use Rattle.std.proofs.Common.{◌≡◌, ℕ, ◌*◌, ◌<◌, ◌≤◌, ◌^◌, List, true, arith, rules}
use Rattle.std.specs.Char.{is_ascii_digit}
use Rattle.std.specs.List.{list_all}
use Rattle.std.specs.Str.Parse.{AllDigits, digits_value}
use Rattle.std.proofs.lemmas.Str.Parse.{IsDigitsTest, IsNumeralModel, numerals_by_value}
use Rattle.std.proofs.Math.Nat.{pow-le-pow_right}

tells_digits : IsDigitsTest (λ ds. list_all is_ascii_digit ds ≡ true)
tells_digits = search rules

digit_test : IsNumeralModel (λ ds. list_all is_ascii_digit ds ≡ true) (digits_value 10)
digit_test = numerals_by_value _ tells_digits

-- what passes the test is digits alone
pub all_digits : (text : List ℕ) → list_all is_ascii_digit text ≡ true → AllDigits 10 text
all_digits text e = digit_test.to text e

-- a number of at most 17 digits, and one digit more
pub fits : (n i : ℕ) → n < 1 * 10 ^ i → i < 18 → n < 10 ^ 17
fits n i h few = let pow : 10 ^ i ≤ 10 ^ 17 = pow-le-pow_right (omega arith) {i = i} {j = 17} (omega (arith, few)) in omega (arith, pow, h)

-- a number of at most 18 digits
pub fits_all : (n i : ℕ) → n < 1 * 10 ^ i → i ≤ 18 → n < 10 ^ 18
fits_all n i h few = let pow : 10 ^ i ≤ 10 ^ 18 = pow-le-pow_right (omega arith) {i = i} {j = 18} few in omega (arith, pow, h)

pub some_digits : (n : ℕ) → 0 < 10 ^ n
some_digits n = let one_less : 10 ^ 0 ≤ 10 ^ n = pow-le-pow_right (omega arith) {i = 0} {j = n} (omega arith) in omega (arith, one_less)
