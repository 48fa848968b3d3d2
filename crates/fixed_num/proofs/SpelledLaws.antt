-- What bytes spell, and the text of it.
use Rattle.std.proofs.Common.{◌≡◌, refl, ℕ, suc, ◌+◌, ◌<◌, ◌≤◌, List, [], ◌∷◌, ◌++◌, Option, Some, None, Bool, true, false, cond, length, take, drop, get_or, arith, rules, ap, sym, ◌∙◌, subst}
use Rattle.std.specs.Prelude.{nat_lt, ◌==◌, ◌&&◌}
use Rattle.std.specs.Char.{is_ascii_digit}
use Rattle.std.specs.List.{list_all, position, position_or_len}
use Rattle.std.specs.Str.Parse.{AllDigits, digits_value}
use Rattle.std.proofs.lemmas.Grind.{common_steps}
use Rattle.std.proofs.lemmas.List.{append-nil, take-append-drop}
use Rattle.std.proofs.Math.Seq.{drop-cons, take-append_seam}
use Rattle.std.proofs.lemmas.List.Quantifiers.{position-Some}
use Rattle.std.proofs.lemmas.Str.Parse.{digit_from_value, IsDigitsTest, IsNumeralModel, numerals_by_value}
use Rattle.fixed_num.proofs.DigitLaws.{digit_test}
use Rattle.fixed_num.specs.Decimal.{Sign, none, plus, minus, sign_text, Decimal, point_text, fraction_of, decimal_text, IsDecimal}
use Rattle.fixed_num.specs.Spelled.{sign_of, behind_sign, is_point, round_point, parts_of, is_decimal, decimal_of, DecimalLaw}

-- a test of three parts
three : (a b c : Bool) → (a && b && c) ≡ true → (a ≡ true) × (b ≡ true) × (c ≡ true)
three true true true e = (refl, refl, refl)
three true true false e = absurd (grind (arith, e))
three true false c e = absurd (grind (arith, e))
three false b c e = absurd (grind (arith, e))

positive : (n : ℕ) → nat_lt 0 n ≡ true → 0 < n
positive n e = grind (arith, common_steps)

is_positive : (n : ℕ) → 0 < n → nat_lt 0 n ≡ true
is_positive n h = grind (arith, common_steps)

-- what passes the test is a decimal
pub from_test : (d : Decimal) → is_decimal d ≡ true → IsDecimal d
from_test d e =
    let parts = three (list_all is_ascii_digit d.whole) (list_all is_ascii_digit (fraction_of d)) (nat_lt 0 (length d.whole + length (fraction_of d))) e in
    record { whole = digit_test.to d.whole parts.0; fraction = digit_test.to (fraction_of d) parts.1; some_digit = positive (length d.whole + length (fraction_of d)) parts.2 }

-- a decimal passes the test
to_test : (d : Decimal) → IsDecimal d → is_decimal d ≡ true
to_test d h = rw (digit_test.from d.whole h.whole, digit_test.from (fraction_of d) h.fraction, is_positive (length d.whole + length (fraction_of d)) h.some_digit) refl

-- a sign and what stands behind it are all of the bytes
signed_all : (bytes : List ℕ) → sign_text (sign_of bytes) ++ behind_sign bytes ≡ bytes
signed_all [] = refl
signed_all (b ∷ bytes) = by_sign (b == 43) (b == 45) refl refl
  where
    by_sign : (p m : Bool) → (b == 43) ≡ p → (b == 45) ≡ m → sign_text (cond p plus (cond m minus none)) ++ drop (length (sign_text (cond p plus (cond m minus none)))) (b ∷ bytes) ≡ b ∷ bytes
    by_sign true m e f = ap (λ c. c ∷ bytes) (sym (grind (arith, common_steps, e)))
    by_sign false true e f = ap (λ c. c ∷ bytes) (sym (grind (arith, common_steps, f)))
    by_sign false false e f = refl

-- the point is the byte at the place where it is found
found_point : (b : ℕ) → is_point b ≡ true → b ≡ 46
found_point b e = grind (arith, common_steps, e)

-- what stands round the point, and the point, are all of the bytes
pointed_all : (s : Sign) (bytes : List ℕ) (o : Option ℕ) → position is_point bytes ≡ o → (round_point s bytes o).whole ++ point_text (round_point s bytes o).fraction ≡ bytes
pointed_all s bytes None e = append-nil bytes
pointed_all s bytes (Some i) e =
    let found = position-Some is_point bytes i 0 e in
    let next : i + 1 ≡ suc i = omega arith in
    let here : drop i bytes ≡ 46 ∷ drop (i + 1) bytes =
    drop-cons bytes i 0 found.0 ∙ ap (λ b. b ∷ drop (suc i) bytes) (found_point (get_or bytes i 0) found.1) ∙ ap (λ k. 46 ∷ drop k bytes) (sym next) in
    ap (λ rest. take i bytes ++ rest) (sym here) ∙ take-append-drop i bytes

-- the text of a decimal, from its end
text_parts : (s : Sign) (whole : List ℕ) (fraction : Option (List ℕ)) → decimal_text (record { sign = s; whole = whole; fraction = fraction }) ≡ sign_text s ++ (whole ++ point_text fraction)
text_parts none whole fraction = refl
text_parts plus whole fraction = refl
text_parts minus whole fraction = refl

-- the parts of bytes are all of them
parts_all : (bytes : List ℕ) → decimal_text (parts_of bytes) ≡ bytes
unfolding parts_of
parts_all bytes = by_place (position is_point (behind_sign bytes)) refl
  where
    same_sign : (o : Option ℕ) → (round_point (sign_of bytes) (behind_sign bytes) o).sign ≡ sign_of bytes
    same_sign None = refl
    same_sign (Some i) = refl

    by_place : (o : Option ℕ) → position is_point (behind_sign bytes) ≡ o → decimal_text (round_point (sign_of bytes) (behind_sign bytes) o) ≡ bytes
    by_place o e =
        text_parts (round_point (sign_of bytes) (behind_sign bytes) o).sign (round_point (sign_of bytes) (behind_sign bytes) o).whole (round_point (sign_of bytes) (behind_sign bytes) o).fraction
        ∙ ap (λ s. sign_text s ++ ((round_point (sign_of bytes) (behind_sign bytes) o).whole ++ point_text (round_point (sign_of bytes) (behind_sign bytes) o).fraction)) (same_sign o)
        ∙ ap (λ rest. sign_text (sign_of bytes) ++ rest) (pointed_all (sign_of bytes) (behind_sign bytes) o e)
        ∙ signed_all bytes

is_no_sign : (b : ℕ) → 48 ≤ b → sign_of (b ∷ []) ≡ none
is_no_sign b low = grind (arith, common_steps)

-- digits, with a point or without, begin with no sign
no_sign : (whole : List ℕ) (fraction : Option (List ℕ)) → AllDigits 10 whole → sign_of (whole ++ point_text fraction) ≡ none
no_sign [] None all = refl
no_sign [] (Some digits) all = refl
no_sign (c ∷ cs) fraction all = is_no_sign c (digit_from_value c all.0).0

-- a sign is found before what begins with none
sign_found : (s : Sign) (rest : List ℕ) → sign_of rest ≡ none → sign_of (sign_text s ++ rest) ≡ s
sign_found none rest e = e
sign_found plus rest e = refl
sign_found minus rest e = refl

behind_text : (s : Sign) (rest : List ℕ) → drop (length (sign_text s)) (sign_text s ++ rest) ≡ rest
behind_text none rest = refl
behind_text plus rest = refl
behind_text minus rest = refl

-- what stands behind the sign
behind_found : (s : Sign) (rest : List ℕ) → sign_of rest ≡ none → behind_sign (sign_text s ++ rest) ≡ rest
behind_found s rest e = ap (λ t. drop (length (sign_text t)) (sign_text s ++ rest)) (sign_found s rest e) ∙ behind_text s rest

no_point : (b : ℕ) → 48 ≤ b → is_point b ≡ false
no_point b low = grind (arith, common_steps)

-- the point stands behind the digits, or nowhere
point_behind : (whole : List ℕ) (fraction : Option (List ℕ)) → AllDigits 10 whole → position_or_len is_point (whole ++ point_text fraction) ≡ length whole
point_behind [] None all = refl
point_behind [] (Some digits) all = refl
point_behind (c ∷ cs) fraction all = let behind = point_behind cs fraction all.1 in rw (no_point c (digit_from_value c all.0).0) (omega (arith, behind))

abbrev place_of : List ℕ → Option (List ℕ) → Option ℕ
place_of whole None = None
place_of whole (Some digits) = Some (length whole)

at_end : (n m : ℕ) → n ≡ m → nat_lt n m ≡ false
at_end n m e = grind (arith, common_steps)

before_end : (n m : ℕ) → n < m → nat_lt n m ≡ true
before_end n m h = grind (arith, common_steps)

place_found : (whole : List ℕ) (fraction : Option (List ℕ)) → AllDigits 10 whole → position is_point (whole ++ point_text fraction) ≡ place_of whole fraction
place_found whole None all =
    let here = point_behind whole None all in
    let all_of : length (whole ++ []) ≡ length whole = ap length (append-nil whole) in
    ap (λ n. cond (nat_lt n (length (whole ++ []))) (Some n) None) here ∙ ap (λ b. cond b (Some (length whole)) None) (at_end (length whole) (length (whole ++ [])) (sym all_of))
place_found whole (Some digits) all =
    let here = point_behind whole (Some digits) all in
    let more : length whole < length (whole ++ 46 ∷ digits) = grind (arith, common_steps) in
    ap (λ n. cond (nat_lt n (length (whole ++ 46 ∷ digits))) (Some n) None) here ∙ ap (λ b. cond b (Some (length whole)) None) (before_end (length whole) (length (whole ++ 46 ∷ digits)) more)

drop_point : (whole digits : List ℕ) → drop (suc (length whole)) (whole ++ 46 ∷ digits) ≡ digits
drop_point [] digits = refl
drop_point (c ∷ cs) digits = drop_point cs digits

drop_more : (whole digits : List ℕ) → drop (length whole + 1) (whole ++ 46 ∷ digits) ≡ digits
drop_more whole digits = let next : length whole + 1 ≡ suc (length whole) = omega arith in ap (λ k. drop k (whole ++ 46 ∷ digits)) next ∙ drop_point whole digits

round_found : (s : Sign) (whole : List ℕ) (fraction : Option (List ℕ)) → round_point s (whole ++ point_text fraction) (place_of whole fraction) ≡ record { sign = s; whole = whole; fraction = fraction }
round_found s whole None = λ t. record { sign = s; whole = append-nil whole t; fraction = None }
round_found s whole (Some digits) = λ t. record { sign = s; whole = take-append_seam whole (46 ∷ digits) t; fraction = Some (drop_more whole digits t) }

-- the parts of a decimal's text are the decimal
parts_found : (s : Sign) (whole : List ℕ) (fraction : Option (List ℕ)) → AllDigits 10 whole
    → parts_of (sign_text s ++ (whole ++ point_text fraction)) ≡ record { sign = s; whole = whole; fraction = fraction }
unfolding parts_of
parts_found s whole fraction all =
    let none_here = no_sign whole fraction all in
    ap (λ t. round_point t (behind_sign (sign_text s ++ (whole ++ point_text fraction))) (position is_point (behind_sign (sign_text s ++ (whole ++ point_text fraction))))) (sign_found s (whole ++ point_text fraction) none_here)
    ∙ ap (λ rest. round_point s rest (position is_point rest)) (behind_found s (whole ++ point_text fraction) none_here)
    ∙ ap (λ o. round_point s (whole ++ point_text fraction) o) (place_found whole fraction all)
    ∙ round_found s whole fraction

-- what is found where the test passes
chosen : (b : Bool) (p d : Decimal) → cond b (Some p) None ≡ Some d → (b ≡ true) × (p ≡ d)
chosen true p d e = (refl, cc)
chosen false p d e = absurd cc

spelled_from : (bytes : List ℕ) (d : Decimal) → decimal_of bytes ≡ Some d → IsDecimal d × (bytes ≡ decimal_text d)
spelled_from bytes d e =
    let found = chosen (is_decimal (parts_of bytes)) (parts_of bytes) d e in
    (subst IsDecimal found.1 (from_test (parts_of bytes) found.0), sym (parts_all bytes) ∙ ap decimal_text found.1)

spelled_to : (bytes : List ℕ) (d : Decimal) → IsDecimal d × (bytes ≡ decimal_text d) → decimal_of bytes ≡ Some d
spelled_to bytes d h =
    let parts : parts_of bytes ≡ d = ap parts_of (h.1 ∙ text_parts d.sign d.whole d.fraction) ∙ parts_found d.sign d.whole d.fraction h.0.whole in
    ap (λ p. cond (is_decimal p) (Some p) None) parts ∙ ap (λ b. cond b (Some d) None) (to_test d h.0)

pub spelled_law : DecimalLaw
spelled_law bytes d = (spelled_from bytes d, spelled_to bytes d)
