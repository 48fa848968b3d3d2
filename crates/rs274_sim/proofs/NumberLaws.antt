-- Numbers and parameters are read as they are spelled.
use Rattle.std.proofs.Common.{◌≡◌, refl, ℕ, ◌+◌, ◌<◌, ◌≤◌, ◌^◌, ℤ, drop, List, [], ◌∷◌, ◌++◌, Bool, true, false, cond, Option, Some, None, Result, Ok, Err, length, ap, sym, ◌∙◌, subst, arith, append_assoc, unwrap_or}
use Rattle.std.specs.Prelude.{unsigned_abs, nat_lt, nat_le, ◌&&◌, ◌||◌, ◌==◌}
use Rattle.std.specs.Char.{is_ascii_digit}
use Rattle.std.specs.Str.Parse.{AllDigits, digits_value}
use Rattle.std.proofs.lemmas.Grind.{common_steps}
use Rattle.board_base.specs.Binds.{◌>>=◌}
use Rattle.fixed_num.specs.Decimal.{Sign, none, plus, minus, sign_text, Decimal, point_text, fraction_of, decimal_text, IsDecimal, value_at}
use Rattle.fixed_num.specs.Spelled.{sign_of as sign_at, behind_sign, decimal_of}
use Rattle.fixed_num.specs.Values.{decimals_used, a_number, not_long, not_fine, short_of, read_at}
use Rattle.fixed_num.specs.declared.number.NumError.TheVariants.{TooLong, TooFine as Fine}
use Rattle.fixed_num.proofs.SpelledLaws.{spelled_law}
use Rattle.fixed_num.proofs.UsedLaws.{used_law}
use Rattle.rs274_sim.specs.declared.line.Value.{Value, Num}
use Rattle.rs274_sim.specs.Text.{IsNumber, IsParameter, SpellsNumber}
use Rattle.rs274_sim.specs.Reading.{LineFault, BadNumber, BadParameter, TooFine, front, behind, is_decimal_byte, begins_number, by_decimal, number_of, number_text, number_at, parameter_at}
use Rattle.rs274_sim.proofs.FoundLaws.{same_ok, not_ok, bind_ok, guard_ok, passed_ok, Begins, Pass, front_behind, front_passes, front_is, behind_is, digits_pass, pass_digits}

-- bytes behind a value: no number goes on with the first of them
abbrev pub Ends : List ℕ → Type 0
Ends bytes = Begins (λ b. is_decimal_byte b ≡ false) bytes

-- ---- the value of a decimal

not_below : (n m : ℕ) → m ≤ n → nat_lt n m ≡ false
not_below n m h = grind (arith, common_steps)

from_not_below : (n m : ℕ) → nat_lt n m ≡ false → m ≤ n
from_not_below n m e = grind (arith, common_steps, e)

-- a number's text has its value
pub number_value : (d : Decimal) → IsNumber d → number_of (decimal_text d) ≡ Ok (value_at 12 d)
unfolding number_of read_at short_of
number_value d h =
    let v = value_at 12 d in
    ap (λ o. by_decimal ((a_number o >>= not_long) >>= (λ x. not_fine 12 x >>= (λ y. Ok (value_at 12 y))))) ((spelled_law (decimal_text d) d).1 (h.decimal, refl))
    ∙ ap (λ b. by_decimal (cond b (Err TooLong) (Ok d) >>= (λ x. not_fine 12 x >>= (λ y. Ok (value_at 12 y))))) (not_below 18 (length d.whole) h.not_long)
    ∙ ap (λ b. by_decimal (cond b (Err (Fine (decimals_used (fraction_of d)))) (Ok d) >>= (λ y. Ok (value_at 12 y)))) (not_below 12 (decimals_used (fraction_of d)) ((used_law 12 d).0 h.not_fine))
    ∙ ap (λ b. cond b (Err BadNumber) (Ok v)) (not_below (10 ^ 18) (unsigned_abs v) h.not_large)

-- a text with a value is that of a number
pub value_number : (text : List ℕ) (v : ℤ) → number_of text ≡ Ok v → (d : Decimal) × IsNumber d × (text ≡ decimal_text d) × (v ≡ value_at 12 d)
unfolding number_of read_at short_of
value_number text v e = by_decimal_of (decimal_of text) refl e
  where
    small : (d : Decimal) → decimal_of text ≡ Some d → nat_lt 18 (length d.whole) ≡ false → nat_lt 12 (decimals_used (fraction_of d)) ≡ false
        → cond (nat_lt (10 ^ 18) (unsigned_abs (value_at 12 d))) (Err BadNumber) (Ok (value_at 12 d)) ≡ Ok v → (d : Decimal) × IsNumber d × (text ≡ decimal_text d) × (v ≡ value_at 12 d)
    small d is long fine e =
        let found = guard_ok (nat_lt (10 ^ 18) (unsigned_abs (value_at 12 d))) BadNumber (Ok (value_at 12 d)) v e in
        let spelled = (spelled_law text d).0 is in (
          d,
          record {
            decimal = spelled.0;
            not_long = from_not_below 18 (length d.whole) long;
            not_fine = (used_law 12 d).1 (from_not_below 12 (decimals_used (fraction_of d)) fine);
            not_large = from_not_below (10 ^ 18) (unsigned_abs (value_at 12 d)) found.0;
          },
          spelled.1,
          sym (same_ok (value_at 12 d) v found.1),
        )

    by_fine : (d : Decimal) (b : Bool) → decimal_of text ≡ Some d → nat_lt 18 (length d.whole) ≡ false → nat_lt 12 (decimals_used (fraction_of d)) ≡ b
        → by_decimal (cond b (Err (Fine (decimals_used (fraction_of d)))) (Ok d) >>= (λ y. Ok (value_at 12 y))) ≡ Ok v → (d : Decimal) × IsNumber d × (text ≡ decimal_text d) × (v ≡ value_at 12 d)
    by_fine d true is long fine e = absurd (not_ok TooFine v e)
    by_fine d false is long fine e = small d is long fine e

    by_long : (d : Decimal) (b : Bool) → decimal_of text ≡ Some d → nat_lt 18 (length d.whole) ≡ b
        → by_decimal (cond b (Err TooLong) (Ok d) >>= (λ x. not_fine 12 x >>= (λ y. Ok (value_at 12 y)))) ≡ Ok v → (d : Decimal) × IsNumber d × (text ≡ decimal_text d) × (v ≡ value_at 12 d)
    by_long d true is long e = absurd (not_ok BadNumber v e)
    by_long d false is long e = by_fine d (nat_lt 12 (decimals_used (fraction_of d))) is long refl e

    by_decimal_of : (o : Option Decimal) → decimal_of text ≡ o → by_decimal ((a_number o >>= not_long) >>= (λ x. not_fine 12 x >>= (λ y. Ok (value_at 12 y)))) ≡ Ok v
        → (d : Decimal) × IsNumber d × (text ≡ decimal_text d) × (v ≡ value_at 12 d)
    by_decimal_of None is e = absurd (not_ok BadNumber v e)
    by_decimal_of (Some d) is e = by_long d (nat_lt 18 (length d.whole)) is refl e

-- ---- numbers at the front of bytes

-- bytes that begin with a digit or a point
abbrev Starts : List ℕ → Type 0
Starts [] = ⊥
Starts (b ∷ bytes) = is_decimal_byte b ≡ true

digit_is_byte : (b : ℕ) → is_ascii_digit b ≡ true → is_decimal_byte b ≡ true
digit_is_byte b e = ap (λ p. p || (b == 46)) e

no_digit : (b : ℕ) → is_decimal_byte b ≡ false → is_ascii_digit b ≡ false
no_digit b e = by_test (is_ascii_digit b) refl e
  where
    by_test : (p : Bool) → is_ascii_digit b ≡ p → (p || (b == 46)) ≡ false → p ≡ false
    by_test true e h = h
    by_test false e h = refl

pub ends_digits : (rest : List ℕ) → Ends rest → Begins (λ b. is_ascii_digit b ≡ false) rest
ends_digits [] h = tt
ends_digits (b ∷ rest) h = no_digit b h

bytes_of_digits : (ds : List ℕ) → AllDigits 10 ds → Pass is_decimal_byte ds
bytes_of_digits ds h = by_all ds (digits_pass ds h)
  where
    by_all : (ds : List ℕ) → Pass is_ascii_digit ds → Pass is_decimal_byte ds
    by_all [] h = tt
    by_all (d ∷ ds) h = (digit_is_byte d h.0, by_all ds h.1)

pass_append : (t : ℕ → Bool) (xs ys : List ℕ) → Pass t xs → Pass t ys → Pass t (xs ++ ys)
pass_append t [] ys h k = k
pass_append t (x ∷ xs) ys h k = (h.0, pass_append t xs ys h.1 k)

pass_point : (f : Option (List ℕ)) → AllDigits 10 (unwrap_or f []) → Pass is_decimal_byte (point_text f)
pass_point None h = tt
pass_point (Some ds) h = (refl, bytes_of_digits ds h)

-- what stands behind the sign of a decimal
abbrev body_of : Decimal → List ℕ
body_of d = d.whole ++ point_text d.fraction

body_passes : (d : Decimal) → IsDecimal d → Pass is_decimal_byte (body_of d)
body_passes d h = pass_append is_decimal_byte d.whole (point_text d.fraction) (bytes_of_digits d.whole h.whole) (pass_point d.fraction h.fraction)

starts_body : (whole : List ℕ) (f : Option (List ℕ)) → AllDigits 10 whole → 0 < length whole + length (unwrap_or f []) → Starts (whole ++ point_text f)
starts_body [] None h some = absurd (omega arith)
starts_body [] (Some ds) h some = refl
starts_body (w ∷ ws) f h some = digit_is_byte w (digits_pass (w ∷ ws) h).0

starts_more : (body rest : List ℕ) → Starts body → Starts (body ++ rest)
starts_more [] rest h = absurd h
starts_more (b ∷ body) rest h = h

not_sign : (b k : ℕ) → is_decimal_byte b ≡ true → k ≤ 45 → (b == k) ≡ false
not_sign b k e h = by_test (b == k) refl
  where
    by_test : (p : Bool) → (b == k) ≡ p → p ≡ false
    by_test true f = grind (arith, common_steps, e, f)
    by_test false f = refl

-- the sign at the front, and what stands behind it
at_sign : (s : Sign) (body : List ℕ) → Starts body → (sign_at (sign_text s ++ body) ≡ s) × (behind_sign (sign_text s ++ body) ≡ body)
at_sign s [] h = absurd h
at_sign none (b ∷ body) h =
    let first : sign_at (b ∷ body) ≡ none =
    ap (λ p. cond p plus (cond (b == 45) minus none)) (not_sign b 43 h (omega arith)) ∙ ap (λ p. cond p minus none) (not_sign b 45 h (omega arith)) in
    (first, ap (λ s. drop (length (sign_text s)) (b ∷ body)) first)
at_sign plus (b ∷ body) h = (refl, refl)
at_sign minus (b ∷ body) h = (refl, refl)

-- a sign and what stands behind it are all of the bytes
signed_all : (bytes : List ℕ) → sign_text (sign_at bytes) ++ behind_sign bytes ≡ bytes
signed_all [] = refl
signed_all (b ∷ bytes) = by_sign (b == 43) (b == 45) refl refl
  where
    by_sign : (p m : Bool) → (b == 43) ≡ p → (b == 45) ≡ m → sign_text (cond p plus (cond m minus none)) ++ drop (length (sign_text (cond p plus (cond m minus none)))) (b ∷ bytes) ≡ b ∷ bytes
    by_sign true m e f = ap (λ c. c ∷ bytes) (sym (grind (arith, common_steps, e)))
    by_sign false true e f = ap (λ c. c ∷ bytes) (sym (grind (arith, common_steps, f)))
    by_sign false false e f = refl

-- a number is read, whatever ends it
pub number_read : (d : Decimal) (rest : List ℕ) → IsNumber d → Ends rest → number_at (decimal_text d ++ rest) ≡ Ok (Num (value_at 12 d), rest)
unfolding number_at
number_read d rest h ends =
    let s = d.sign in
    let body = body_of d in
    let bytes = sign_text s ++ (body ++ rest) in
    let starts = starts_more body rest (starts_body d.whole d.fraction h.decimal.whole h.decimal.some_digit) in
    let sign = at_sign s (body ++ rest) starts in
    let whole : decimal_text d ≡ sign_text s ++ body = append_assoc (sign_text s) d.whole (point_text d.fraction) in
    let here : decimal_text d ++ rest ≡ bytes = ap (λ t. t ++ rest) whole ∙ append_assoc (sign_text s) body rest in
    let text : number_text bytes ≡ decimal_text d =
    ap (λ x. sign_text x ++ front is_decimal_byte (behind_sign bytes)) sign.0 ∙ ap (λ x. sign_text s ++ front is_decimal_byte x) sign.1
    ∙ ap (λ x. sign_text s ++ x) (front_is is_decimal_byte body rest (body_passes d h.decimal) ends) ∙ sym whole in
    let after : behind is_decimal_byte (behind_sign bytes) ≡ rest = ap (behind is_decimal_byte) sign.1 ∙ behind_is is_decimal_byte body rest (body_passes d h.decimal) ends in
    ap number_at here
    ∙ ap (λ t. number_of t >>= (λ v. Ok (Num v, behind is_decimal_byte (behind_sign bytes)))) text
    ∙ ap (λ (r : Result ℤ LineFault). r >>= (λ v. Ok (Num v, behind is_decimal_byte (behind_sign bytes)))) (number_value d h)
    ∙ ap (λ x. Ok (Num (value_at 12 d), x)) after

-- the front of bytes is what a value's spelling says, and the rest stands behind it
abbrev pub Split : (List ℕ → Value → Type 0) → List ℕ → Value → List ℕ → Type 0
Split Spells bytes v rest = (text : List ℕ) × (bytes ≡ text ++ rest) × Spells text v

-- what is read as a number is spelled so
pub read_number : (bytes rest : List ℕ) (v : Value) → number_at bytes ≡ Ok (v, rest) → Split SpellsNumber bytes v rest
unfolding number_at
read_number bytes rest v e =
    let after = behind is_decimal_byte (behind_sign bytes) in
    let found = bind_ok (number_of (number_text bytes)) (λ z. Ok (Num z, after)) (v, rest) e in
    let same : (Num found.0, after) ≡ (v, rest) = same_ok (Num found.0, after) (v, rest) found.2 in
    let spelled = value_number (number_text bytes) found.0 found.1 in
    let all : number_text bytes ++ after ≡ bytes =
    append_assoc (sign_text (sign_at bytes)) (front is_decimal_byte (behind_sign bytes)) after
    ∙ ap (λ x. sign_text (sign_at bytes) ++ x) (front_behind is_decimal_byte (behind_sign bytes)) ∙ signed_all bytes in (
      number_text bytes,
      sym all ∙ ap (λ p. number_text bytes ++ p.1) same,
      (spelled.0, spelled.1, spelled.2, sym (ap (λ p. p.0) same) ∙ ap Num spelled.3),
    )

-- ---- parameters at the front of bytes

both_true : (a b : Bool) → (a && b) ≡ true → (a ≡ true) × (b ≡ true)
both_true true true e = (refl, refl)
both_true true false e = absurd (grind (arith, e))
both_true false b e = absurd (grind (arith, e))

test_le : (n m : ℕ) → n ≤ m → nat_le n m ≡ true
test_le n m h = grind (arith, common_steps)

from_test_le : (n m : ℕ) → nat_le n m ≡ true → n ≤ m
from_test_le n m e = grind (arith, common_steps, e)

pub parameter_read : (digits rest : List ℕ) (n : ℕ) → IsParameter digits n → Begins (λ b. is_ascii_digit b ≡ false) rest → parameter_at (digits ++ rest) ≡ Ok (n, rest)
unfolding parameter_at
parameter_read digits rest n h ends =
    let passes = digits_pass digits h.each in
    ap (λ ds. cond (nat_le 1 (digits_value 10 ds) && nat_le (digits_value 10 ds) 5399) (Ok (digits_value 10 ds, behind is_ascii_digit (digits ++ rest))) (Err BadParameter)) (front_is is_ascii_digit digits rest passes ends)
    ∙ ap (λ k. cond (nat_le 1 k && nat_le k 5399) (Ok (k, behind is_ascii_digit (digits ++ rest))) (Err BadParameter)) h.value
    ∙ ap (λ b. cond (b && nat_le n 5399) (Ok (n, behind is_ascii_digit (digits ++ rest))) (Err BadParameter)) (test_le 1 n h.low)
    ∙ ap (λ b. cond b (Ok (n, behind is_ascii_digit (digits ++ rest))) (Err BadParameter)) (test_le n 5399 h.high)
    ∙ ap (λ x. Ok (n, x)) (behind_is is_ascii_digit digits rest passes ends)

pub read_parameter : (bytes rest : List ℕ) (n : ℕ) → parameter_at bytes ≡ Ok (n, rest) → (digits : List ℕ) × (bytes ≡ digits ++ rest) × IsParameter digits n
unfolding parameter_at
read_parameter bytes rest n e =
    let ds = front is_ascii_digit bytes in
    let k = digits_value 10 ds in
    let found = passed_ok (nat_le 1 k && nat_le k 5399) BadParameter (Ok (k, behind is_ascii_digit bytes)) (n, rest) e in
    let tests = both_true (nat_le 1 k) (nat_le k 5399) found.0 in
    let same : (k, behind is_ascii_digit bytes) ≡ (n, rest) = same_ok (k, behind is_ascii_digit bytes) (n, rest) found.1 in
    let value : k ≡ n = ap (λ p. p.0) same in (
      ds,
      sym (front_behind is_ascii_digit bytes) ∙ ap (λ p. ds ++ p.1) same,
      record {
        each = pass_digits ds (front_passes is_ascii_digit bytes);
        value = value;
        low = subst (λ j. 1 ≤ j) value (from_test_le 1 k tests.0);
        high = subst (λ j. j ≤ 5399) value (from_test_le k 5399 tests.1);
      },
    )

-- ---- the first byte of a number

pub first_byte : (d : Decimal) → IsDecimal d → (b : ℕ) × (more : List ℕ) × (decimal_text d ≡ b ∷ more) × (begins_number b ≡ true)
first_byte d h = by_sign d.sign (body_of d) (starts_body d.whole d.fraction h.whole h.some_digit) (append_assoc (sign_text d.sign) d.whole (point_text d.fraction))
  where
    or_true : (a b : Bool) → b ≡ true → (a || b) ≡ true
    or_true true b e = refl
    or_true false b e = e

    by_sign : (s : Sign) (body : List ℕ) → Starts body → decimal_text d ≡ sign_text s ++ body → (b : ℕ) × (more : List ℕ) × (decimal_text d ≡ b ∷ more) × (begins_number b ≡ true)
    by_sign s [] starts e = absurd starts
    by_sign none (b ∷ body) starts e = (b, body, e, or_true ((b == 43) || (b == 45)) (is_decimal_byte b) starts)
    by_sign plus (b ∷ body) starts e = (43, b ∷ body, e, refl)
    by_sign minus (b ∷ body) starts e = (45, b ∷ body, e, refl)
