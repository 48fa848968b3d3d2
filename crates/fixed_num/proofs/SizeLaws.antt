-- How large the numbers are that are read.
use Rattle.std.proofs.Common.{◌≡◌, refl, ℕ, zero, suc, ◌+◌, ◌*◌, ◌-◌, ◌<◌, ◌≤◌, ◌^◌, List, [], ◌∷◌, ◌++◌, Some, None, Bool, true, false, cond, Result, Ok, Err, length, take, arith, sym, ◌∙◌, subst}
use Rattle.std.specs.Prelude.{unsigned_abs, nat_lt}
use Rattle.std.specs.Str.Parse.{AllDigits, digits_value}
use Rattle.std.proofs.lemmas.Grind.{common_steps}
use Rattle.std.proofs.lemmas.Int.Digits.{digits_value-lt}
use Rattle.std.proofs.lemmas.List.{length-take, length-append}
use Rattle.std.proofs.lemmas.Nat.{pow-add}
use Rattle.std.proofs.Math.Nat.{pow-le-pow_right}
use Rattle.board_base.specs.Binds.{◌>>=◌}
use Rattle.fixed_num.specs.Decimal.{Sign, none, plus, minus, signed, Decimal, fraction_of, IsDecimal, value_at}
use Rattle.fixed_num.specs.Spelled.{parts_of, is_decimal, decimal_of}
use Rattle.fixed_num.specs.Values.{a_number, not_long, short_of, cut_at}
use Rattle.fixed_num.specs.Sizes.{SizeLaw}
use Rattle.fixed_num.specs.declared.number.NumError.TheVariants.{TooLong}
use Rattle.fixed_num.proofs.DigitLaws.{all_append, all_taken, thirty}
use Rattle.fixed_num.proofs.SpelledLaws.{from_test}

sign_size : (s : Sign) (n : ℕ) → unsigned_abs (signed s n) ≡ n
sign_size none n = refl
sign_size plus n = refl
sign_size minus zero = refl
sign_size minus (suc n) = refl

-- what a step that may refuse has given
bound_ok : {A B E : Type 0} (r : Result A E) (f : A → Result B E) (v : B) → r >>= f ≡ Ok v → (x : A) × (r ≡ Ok x) × (f x ≡ Ok v)
bound_ok (Ok x) f v e = (x, refl, e)
bound_ok (Err e) f v h = absurd cc

found_short : (b : Bool) (d s : Decimal) → cond b (Err TooLong) (Ok d) ≡ Ok s → (b ≡ false) × (d ≡ s)
found_short true d s e = absurd cc
found_short false d s e = (refl, cc)

found_number : (b : Bool) (p d : Decimal) → a_number (cond b (Some p) None) ≡ Ok d → (b ≡ true) × (p ≡ d)
found_number true p d e = (refl, cc)
found_number false p d e = absurd cc

few : (n : ℕ) → nat_lt 18 n ≡ false → n ≤ 18
few n e = grind (arith, common_steps)

-- a decimal of at most 18 digits before the point
short_is : (bytes : List ℕ) (d : Decimal) → short_of bytes ≡ Ok d → IsDecimal d × (length d.whole ≤ 18)
unfolding short_of
short_is bytes d e =
    let first = bound_ok (a_number (decimal_of bytes)) not_long d e in
    let long = found_short (nat_lt 18 (length (first.0).whole)) first.0 d first.2 in
    let number = found_number (is_decimal (parts_of bytes)) (parts_of bytes) first.0 first.1 in
    let same : parts_of bytes ≡ d = number.1 ∙ long.1 in
    (subst IsDecimal same (from_test (parts_of bytes) number.0), subst (λ d. length d.whole ≤ 18) long.1 (few (length (first.0).whole) long.0))

-- the value of such a decimal
small : (scale : ℕ) (d : Decimal) → scale ≤ 12 → IsDecimal d → length d.whole ≤ 18 → unsigned_abs (value_at scale d) < 10 ^ 30
small scale d most digits short =
    let kept : ℕ = length (take scale (fraction_of d)) in
    let n : ℕ = digits_value 10 (d.whole ++ take scale (fraction_of d)) in
    let all = all_append d.whole (take scale (fraction_of d)) digits.whole (all_taken scale (fraction_of d) digits.fraction) in
    let count : length (d.whole ++ take scale (fraction_of d)) ≡ length d.whole + kept = length-append d.whole (take scale (fraction_of d)) in
    let below : n < 10 ^ (length d.whole + kept) = subst (λ k. n < 10 ^ k) count (digits_value-lt 10 (d.whole ++ take scale (fraction_of d)) all) in
    let power : 10 ^ (length d.whole + kept) ≤ 10 ^ (18 + kept) = pow-le-pow_right (omega arith) {i = length d.whole + kept} {j = 18 + kept} (omega (arith, short)) in
    let split : 10 ^ (18 + kept) ≡ 10 ^ 18 * 10 ^ kept = pow-add 10 18 kept in
    let room : kept + (scale - length (fraction_of d)) ≤ 12 = omega (arith, length-take scale (fraction_of d), most) in
    subst (λ k. k < 10 ^ 30) (sym (sign_size d.sign (n * 10 ^ (scale - length (fraction_of d)))))
    (thirty n 999999999999999999 kept (scale - length (fraction_of d)) (omega (arith, below, power, split)) (omega arith) room)

pub cut_small : SizeLaw
unfolding cut_at
cut_small scale bytes v most e =
    let found = bound_ok (short_of bytes) (λ d. Ok (value_at scale d)) v e in
    let is = short_is bytes found.0 found.1 in
    let same : value_at scale found.0 ≡ v = cc (found.2) in
    subst (λ z. unsigned_abs z < 10 ^ 30) same (small scale found.0 most is.0 is.1)
