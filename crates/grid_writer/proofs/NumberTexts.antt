-- The text of a number stands for it.
use Rattle.std.proofs.Common.{◌≡◌, refl, ℕ, ◌+◌, ◌*◌, ◌/◌, ◌%◌, ◌^◌, ◌<◌, ◌≤◌, ℤ, pos, negsuc, ◌*ℤ◌, List, [], ◌∷◌, ◌++◌, Bool, true, false, cond, Option, Some, None, unwrap_or, length, ap, sym, ◌∙◌, subst, arith, length-append, decimal, ◌==◌}
use Rattle.std.specs.Prelude.{unsigned_abs}
use Rattle.std.specs.List.{AllByRecursion}
use Rattle.std.specs.Str.Parse.{AllDigits, digits_value, digits_value_after}
use Rattle.std.proofs.lemmas.Str.Parse.{digit_from_value}
use Rattle.std.proofs.lemmas.Fmt.{decimal_is_IsNumeral, length-decimal-le}
use Rattle.std.proofs.lemmas.List.{append-nil}
use Rattle.std.proofs.lemmas.List.Elements.{All-nil}
use Rattle.fixed_num.specs.Decimal.{Sign, none, value_at, EndsBy}
use Rattle.fixed_num.specs.Fixed.{digit, six_digits, sign, fixed6}
use Rattle.fixed_num.proofs.DigitLaws.{after_append}
use Rattle.rs274_sim.specs.declared.line.Value.{Value, Num}
use Rattle.rs274_sim.specs.Text.{IsNumber, IsParameter, SpellsNumber}
use Rattle.rs274_sim.proofs.ShortLines.{short_fixed}
use Rattle.rs274_sim.proofs.TextLaws.{digit_is, digit_below, six_are_digits, fixed_decimal, fixed_text as fixed_is, fixed_number, fixed_is_number}
use Rattle.rs274_sim.proofs.ValueLaws.{byte_is}
use Rattle.grid_writer.specs.Spelling.{tenths_text}

-- ---- bytes

-- a byte that is no blank and ends no line
pub record IsVisible (b : ℕ) : Type 0 where
  pub low : 33 ≤ b

pub visible_append : (xs ys : List ℕ) → AllByRecursion IsVisible xs → AllByRecursion IsVisible ys → AllByRecursion IsVisible (xs ++ ys)
visible_append [] ys h k = k
visible_append (x ∷ xs) ys h k = (h.0, visible_append xs ys h.1 k)

visible_digits : (ds : List ℕ) → AllDigits 10 ds → AllByRecursion IsVisible ds
visible_digits [] h = tt
visible_digits (d ∷ ds) h = let r = digit_from_value d h.0 in (record { low = omega arith }, visible_digits ds h.1)

pub digits_of : (n : ℕ) → n < 2 ^ 63 → AllDigits 10 (decimal n)
digits_of n h = (decimal_is_IsNumeral n (omega arith)).0.1

pub visible_decimal : (n : ℕ) → n < 2 ^ 63 → AllByRecursion IsVisible (decimal n)
visible_decimal n h = visible_digits (decimal n) (digits_of n h)

visible_sign : (z : ℤ) → AllByRecursion IsVisible (sign z)
visible_sign (pos n) = tt
visible_sign (negsuc n) = (record { low = omega arith }, tt)

-- ---- digits

-- digits behind a whole number
behind_whole : (n : ℕ) (ds : List ℕ) → n < 2 ^ 63 → digits_value 10 (decimal n ++ ds) ≡ digits_value_after 10 n ds
behind_whole n ds h = after_append 0 (decimal n) ds ∙ ap (λ v. digits_value_after 10 v ds) (decimal_is_IsNumeral n (omega arith)).1

tenth_value : (n : ℕ) → n < 2 ^ 63 → digits_value 10 (decimal (n / 10) ++ digit n ∷ []) ≡ n
tenth_value n h =
    let all : digits_value_after 10 (n / 10) (digit n ∷ []) ≡ n = omega (arith, digit_is n) in
    behind_whole (n / 10) (digit n ∷ []) (omega arith) ∙ all

-- ---- numbers

-- a whole number, and digits behind a point
is_number : (s : Sign) (w : ℕ) (f : Option (List ℕ)) → w < 10 ^ 18 → AllDigits 10 (unwrap_or f []) → EndsBy 12 (record { sign = s; whole = decimal w; fraction = f })
    → unsigned_abs (value_at 12 (record { sign = s; whole = decimal w; fraction = f })) ≤ 10 ^ 18 → IsNumber (record { sign = s; whole = decimal w; fraction = f })
is_number s w f few digits ends small = record {
  decimal = record { whole = digits_of w (omega arith); fraction = digits; some_digit = omega (arith, (decimal_is_IsNumeral w (omega arith)).0.0) };
  not_long = length-decimal-le 18 w (omega arith) few (omega arith);
  not_fine = ends;
  not_large = small;
}

-- bytes that stand for a number, no longer than this
pub record IsNumberText (bytes : List ℕ) (v : Value) (most : ℕ) : Type 0 where
  pub spells : SpellsNumber bytes v
  pub visible : AllByRecursion IsVisible bytes
  pub short : length bytes ≤ most

-- ---- six decimals

visible_fixed : (z : ℤ) → unsigned_abs z ≤ 1000000000000 → AllByRecursion IsVisible (fixed6 z)
visible_fixed z h =
    visible_append (sign z ++ decimal (unsigned_abs z / 1000000)) (46 ∷ six_digits (unsigned_abs z))
    (visible_append (sign z) (decimal (unsigned_abs z / 1000000)) (visible_sign z) (visible_decimal (unsigned_abs z / 1000000) (omega (arith, h))))
    (record { low = omega arith }, visible_digits (six_digits (unsigned_abs z)) (six_are_digits (unsigned_abs z)))

-- millionths with six decimals
pub fixed_text : (z : ℤ) → unsigned_abs z ≤ 1000000000000 → IsNumberText (fixed6 z) (Num (z *ℤ pos 1000000)) 19
fixed_text z h = record {
  spells = (
    fixed_decimal z,
    fixed_is_number z h,
    fixed_is z,
    ap Num (sym (fixed_number z (omega (arith, h)))),
  );
  visible = visible_fixed z h;
  short = short_fixed z h;
}

-- ---- tenths

whole_value : (n : ℕ) → n ≤ 1000000 → value_at 12 (record { sign = none; whole = decimal n; fraction = None }) ≡ pos (n * 1000000000000)
whole_value n h = ap (λ v. pos (v * 1000000000000)) (behind_whole n [] (omega arith))

whole_text : (n : ℕ) → n ≤ 1000000 → IsNumberText (decimal n) (Num (pos (n * 1000000000000))) 9
whole_text n h = record {
  spells = (
    record { sign = none; whole = decimal n; fraction = None },
    is_number none n None (omega arith) tt (All-nil (λ b. b ≡ 48)) (omega (arith, h, ap unsigned_abs (whole_value n h))),
    sym (append-nil (decimal n)),
    ap Num (sym (whole_value n h)),
  );
  visible = visible_decimal n (omega arith);
  short = omega (arith, length-decimal-le 7 n (omega arith) (omega (arith, h)) (omega (arith, h)));
}

part_value : (n : ℕ) → n ≤ 10000000 → value_at 12 (record { sign = none; whole = decimal (n / 10); fraction = Some (digit n ∷ []) }) ≡ pos (n * 100000000000)
part_value n h = ap (λ v. pos (v * 100000000000)) (tenth_value n (omega arith))

part_text : (n : ℕ) → n ≤ 10000000 → IsNumberText (decimal (n / 10) ++ 46 ∷ digit n ∷ []) (Num (pos (n * 100000000000))) 9
part_text n h = record {
  spells = (
    record { sign = none; whole = decimal (n / 10); fraction = Some (digit n ∷ []) },
    is_number none (n / 10) (Some (digit n ∷ [])) (omega arith) (digit_below n, tt) (All-nil (λ b. b ≡ 48)) (omega (arith, h, ap unsigned_abs (part_value n h))),
    refl,
    ap Num (sym (part_value n h)),
  );
  visible =
      visible_append (decimal (n / 10)) (46 ∷ digit n ∷ []) (visible_decimal (n / 10) (omega arith)) (record { low = omega arith }, visible_digits (digit n ∷ []) (digit_below n, tt));
  short = omega (arith, length-append (decimal (n / 10)) (46 ∷ digit n ∷ []), length-decimal-le 7 (n / 10) (omega arith) (omega (arith, h)) (omega (arith, h)));
}

-- a number of tenths, with a decimal where it isn't whole
pub tenths_is_text : (n : ℕ) → n ≤ 10000000 → IsNumberText (tenths_text n) (Num (pos (n * 100000000000))) 9
tenths_is_text n h = by_test (n % 10 == 0) refl
  where
    by_test : (b : Bool) → (n % 10 == 0) ≡ b → IsNumberText (cond b (decimal (n / 10)) (decimal (n / 10) ++ 46 ∷ digit n ∷ [])) (Num (pos (n * 100000000000))) 9
    by_test true e =
        let rest : n % 10 ≡ 0 = byte_is (n % 10) 0 e in
        let same : n / 10 * 1000000000000 ≡ n * 100000000000 = omega arith in
        subst (λ k. IsNumberText (decimal (n / 10)) (Num (pos k)) 9) same (whole_text (n / 10) (omega arith))
    by_test false e = part_text n h

-- ---- parameters

-- the number of a parameter
pub is_parameter : (k : ℕ) → 1 ≤ k → k ≤ 5399 → IsParameter (decimal k) k
is_parameter k low high = record { each = digits_of k (omega arith); value = (decimal_is_IsNumeral k (omega arith)).1; low = low; high = high }

pub short_parameter : (k : ℕ) → k ≤ 5399 → length (decimal k) ≤ 4
short_parameter k high = length-decimal-le 4 k (omega arith) (omega (arith, high)) (omega (arith, high))
