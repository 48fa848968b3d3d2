-- What is written stands for the lines that it was written from.
use Rattle.std.proofs.Common.{◌≡◌, ◌≢◌, refl, ℕ, suc, ◌+◌, ◌-◌, ◌*◌, ◌/◌, ◌%◌, ◌^◌, ◌<◌, ◌≤◌, ℤ, pos, negsuc, neg_ℤ, ◌*ℤ◌, List, [], ◌∷◌, ◌++◌, Bool, true, false, not, cond, Some, None, length, map, ap, sym, ◌∙◌, subst, arith, inl, inr, append_assoc, eqb, decimal, MatchBool}
use Rattle.std.specs.Prelude.{unsigned_abs, int_div, int_rem, ◌+ℤ◌}
use Rattle.std.specs.List.{flat_map, join_with_byte, AllByRecursion, All, AllZip, slice_split}
use Rattle.std.specs.Char.{digit_value}
use Rattle.std.specs.Str.Parse.{AllDigits, digits_value, digits_value_after}
use Rattle.std.proofs.lemmas.Int.{ints, quot-rem, rem_below}
use Rattle.std.proofs.Math.Nat.{mul-div_cancel}
use Rattle.std.proofs.lemmas.Str.{digit_value_digit}
use Rattle.std.proofs.lemmas.Str.Parse.{digit_from_value}
use Rattle.std.proofs.lemmas.Fmt.{decimal_is_IsNumeral, length-decimal-le}
use Rattle.std.proofs.lemmas.List.{append-nil}
use Rattle.std.proofs.lemmas.Bool.Decides.{nat_tests}
use Rattle.std.proofs.lemmas.List.Splits.{slice_split_at, length-slice_split}
use Rattle.std.proofs.lemmas.List.Elements.{All-from_recursion, recursion_from_All, All-nil}
use Rattle.std.specs.Str.Lines.{lines, lines_of_parts, strip_carriage_return}
use Rattle.std.proofs.Common.{get_or, take, zero, ◌==◌}
use Rattle.rs274_sim.specs.declared.line.Word.{Word}
use Rattle.rs274_sim.specs.declared.line.Line.{Line}
use Rattle.rs274_sim.specs.declared.line.Value.{Value, Num}
use Rattle.fixed_num.specs.Decimal.{Sign, none, minus, signed, Decimal, IsDecimal, decimal_text, value_at}
use Rattle.fixed_num.specs.Fixed.{digit, six_digits, sign, fixed6}
use Rattle.rs274_sim.specs.Text.{IsNumber, SpellsNumber, SpellsValue, SpellsWord, word, words_of, settings_of, SpellsPieces, SpellsPlainLine, StandsForLine, StandsFor, unblanked, is_blank}
use Rattle.rs274_sim.specs.Machine.{number, whole_part, one}
use Rattle.rs274_sim.specs.Spelling.{word_text, line_text, text_of, has_decimals, IsWritten, IsWrittenLine, millionths}

-- ---- digits

a_digit : (k : ℕ) → k < 10 → digit_value (48 + k) ≡ k
a_digit k h = omega (arith, digit_value_digit (48 + k) (omega arith, omega arith))

pub digit_is : (n : ℕ) → digit_value (digit n) ≡ n % 10
digit_is n = a_digit (n % 10) (omega arith)

-- digits behind digits
value_after_append : (n : ℕ) (xs ys : List ℕ) → digits_value_after 10 n (xs ++ ys) ≡ digits_value_after 10 (digits_value_after 10 n xs) ys
value_after_append n [] ys = refl
value_after_append n (x ∷ xs) ys = value_after_append (n * 10 + digit_value x) xs ys

all_digits_append : (xs ys : List ℕ) → AllDigits 10 xs → AllDigits 10 ys → AllDigits 10 (xs ++ ys)
all_digits_append [] ys h k = k
all_digits_append (x ∷ xs) ys h k = (h.0, all_digits_append xs ys h.1 k)

pub digit_below : (n : ℕ) → digit_value (digit n) < 10
digit_below n = omega (arith, digit_is n)

pub six_are_digits : (n : ℕ) → AllDigits 10 (six_digits n)
six_are_digits n = (digit_below (n / 100000), (digit_below (n / 10000), (digit_below (n / 1000), (digit_below (n / 100), (digit_below (n / 10), (digit_below n, tt))))))

-- the six digits behind the rest give the number
six_value : (n : ℕ) → digits_value_after 10 (n / 1000000) (six_digits n) ≡ n
six_value n =
    omega (arith, digit_is (n / 100000), digit_is (n / 10000), digit_is (n / 1000), digit_is (n / 100), digit_is (n / 10), digit_is n)

fixed_value : (n : ℕ) → n < 2 ^ 63 → digits_value 10 (decimal (n / 1000000) ++ six_digits n) ≡ n
fixed_value n h =
    value_after_append 0 (decimal (n / 1000000)) (six_digits n)
    ∙ ap (λ v. digits_value_after 10 v (six_digits n)) (decimal_is_IsNumeral (n / 1000000) (omega arith)).1
    ∙ six_value n

-- ---- decimals

pub sign_of : ℤ → Sign
sign_of (pos n) = none
sign_of (negsuc n) = minus

-- six decimals as a decimal
abbrev pub fixed_decimal : ℤ → Decimal
fixed_decimal z = record { sign = sign_of z; whole = decimal (unsigned_abs z / 1000000); fraction = Some (six_digits (unsigned_abs z)) }

abbrev whole_decimal : ℕ → Decimal
whole_decimal n = record { sign = none; whole = decimal n; fraction = None }

pub fixed_text : (z : ℤ) → fixed6 z ≡ decimal_text (fixed_decimal z)
unfolding sign_of
fixed_text (pos n) = refl
fixed_text (negsuc n) = refl

signed_value : (z : ℤ) (k : ℕ) → signed (sign_of z) (unsigned_abs z * k) ≡ z *ℤ pos k
unfolding sign_of
signed_value (pos n) k = refl
signed_value (negsuc n) k = refl

pub fixed_number : (z : ℤ) → unsigned_abs z < 2 ^ 63 → value_at 12 (fixed_decimal z) ≡ z *ℤ pos 1000000
fixed_number z h = ap (λ n. signed (sign_of z) (n * 1000000)) (fixed_value (unsigned_abs z) h) ∙ signed_value z 1000000

few_digits : (n : ℕ) → n < 2 ^ 63 → length (decimal (n / 1000000)) ≤ 18
few_digits n h = length-decimal-le 18 (n / 1000000) (omega arith) (omega arith) (omega arith)

fixed_is_decimal : (z : ℤ) → unsigned_abs z < 2 ^ 63 → IsDecimal (fixed_decimal z)
fixed_is_decimal z h = record {
  whole = (decimal_is_IsNumeral (unsigned_abs z / 1000000) (omega arith)).0.1;
  fraction = six_are_digits (unsigned_abs z);
  some_digit = omega (arith, (decimal_is_IsNumeral (unsigned_abs z / 1000000) (omega arith)).0.0);
}

pub size_neg : (n : ℕ) → unsigned_abs (neg_ℤ (pos n)) ≡ n
size_neg zero = refl
size_neg (suc n) = refl

-- the size of a number in larger units
pub size_times : (z : ℤ) (k : ℕ) → unsigned_abs (z *ℤ pos k) ≡ unsigned_abs z * k
size_times (pos n) k = refl
size_times (negsuc n) k = size_neg (suc n * k)

pub fixed_is_number : (z : ℤ) → unsigned_abs z ≤ 1000000000000 → IsNumber (fixed_decimal z)
fixed_is_number z h = record {
  decimal = fixed_is_decimal z (omega (arith, h));
  not_long = few_digits (unsigned_abs z) (omega (arith, h));
  not_fine = All-nil (λ b. b ≡ 48);
  not_large = omega (arith, h, ap unsigned_abs (fixed_number z (omega (arith, h))), size_times z 1000000);
}

whole_number : (n : ℕ) → n < 2 ^ 63 → value_at 12 (whole_decimal n) ≡ pos (n * 1000000000000)
whole_number n h = ap (λ v. pos (v * 1000000000000)) (ap (digits_value 10) (append-nil (decimal n)) ∙ (decimal_is_IsNumeral n (omega arith)).1)

-- ---- words

-- a number is a value
pub number_is_value : (depth : ℕ) (bytes : List ℕ) (v : Value) → SpellsNumber bytes v → SpellsValue depth bytes v
number_is_value zero bytes v h = inl h
number_is_value (suc depth) bytes v h = inl (inl h)

-- a word's text spells it
spells_fixed : (w : Word) (m : ℤ) → (65 ≤ w.letter) × (w.letter ≤ 90) × (w.letter ≢ 78) → w.value ≡ Num (m *ℤ pos 1000000) → unsigned_abs m ≤ 1000000000000 → SpellsWord (w.letter ∷ fixed6 m) w
spells_fixed w m upper value small =
    ((upper.0, upper.1, upper.2, inl refl), number_is_value 16 (fixed6 m) w.value (fixed_decimal m, fixed_is_number m small, fixed_text m, value ∙ ap Num (sym (fixed_number m (omega (arith, small))))))

whole_is_decimal : (n : ℕ) → n ≤ 1000000 → IsDecimal (whole_decimal n)
whole_is_decimal n h = record {
  whole = (decimal_is_IsNumeral n (omega arith)).0.1;
  fraction = tt;
  some_digit = omega (arith, (decimal_is_IsNumeral n (omega arith)).0.0);
}

whole_is_number : (n : ℕ) → n ≤ 1000000 → IsNumber (whole_decimal n)
whole_is_number n h = record {
  decimal = whole_is_decimal n h;
  not_long = length-decimal-le 18 n (omega arith) (omega arith) (omega arith);
  not_fine = All-nil (λ b. b ≡ 48);
  not_large = omega (arith, h, ap unsigned_abs (whole_number n (omega arith)));
}

spells_whole : (w : Word) (n : ℕ) → (65 ≤ w.letter) × (w.letter ≤ 90) × (w.letter ≢ 78) → w.value ≡ Num (pos (n * 1000000000000)) → n ≤ 1000000 → SpellsWord (w.letter ∷ decimal n) w
spells_whole w n upper value small = (
  (upper.0, upper.1, upper.2, inl refl),
  number_is_value 16 (decimal n) w.value (whole_decimal n, whole_is_number n small, sym (append-nil (decimal n)), value ∙ ap Num (sym (whole_number n (omega arith)))),
)

same_quotient : (m q r : ℤ) → (q *ℤ pos 1000000) +ℤ r ≡ m *ℤ pos 1000000 → unsigned_abs r < 1000000 → q ≡ m
same_quotient m q (pos r) e h = omega (arith, ints)
same_quotient m q (negsuc r) e h = omega (arith, ints)

pub millionths_of : (m : ℤ) → millionths (m *ℤ pos 1000000) ≡ m
millionths_of m = same_quotient m (int_div (m *ℤ pos 1000000) (pos 1000000)) (int_rem (m *ℤ pos 1000000) (pos 1000000)) (quot-rem (m *ℤ pos 1000000) (pos 1000000)) (rem_below (m *ℤ pos 1000000) (pos 1000000) (omega arith))

pub whole_of : (n : ℕ) → whole_part (pos (n * 1000000000000)) ≡ n
whole_of n = mul-div_cancel n (omega arith)

by_value : (w : Word) (b : Bool) → (65 ≤ w.letter) × (w.letter ≤ 90) × (w.letter ≢ 78) → MatchBool b
    ((m : ℤ) × (w.value ≡ Num (m *ℤ pos 1000000)) × (unsigned_abs m ≤ 1000000000000))
    ((n : ℕ) × (w.value ≡ Num (pos (n * one))) × (n ≤ 1000000))
    → SpellsWord (w.letter ∷ cond b (fixed6 (millionths (number w.value))) (decimal (whole_part (number w.value)))) w
by_value w true upper h =
    subst (λ z. SpellsWord (w.letter ∷ fixed6 z) w) (sym (ap (λ v. millionths (number v)) h.1 ∙ millionths_of h.0)) (spells_fixed w h.0 upper h.1 h.2)
by_value w false upper h =
    subst (λ n. SpellsWord (w.letter ∷ decimal n) w) (sym (ap (λ v. whole_part (number v)) h.1 ∙ whole_of h.0)) (spells_whole w h.0 upper h.1 h.2)

spells : (w : Word) → IsWritten w → SpellsWord (word_text w) w
spells w h = by_value w (has_decimals w) h.upper h.value

-- ---- bytes that aren't blank and end no line

record Plain (b : ℕ) : Type 0 where
  plain : (33 ≤ b) × (b < 128)

plain_append : (xs ys : List ℕ) → AllByRecursion Plain xs → AllByRecursion Plain ys → AllByRecursion Plain (xs ++ ys)
plain_append [] ys h k = k
plain_append (x ∷ xs) ys h k = (h.0, plain_append xs ys h.1 k)

plain_digits : (ds : List ℕ) → AllDigits 10 ds → AllByRecursion Plain ds
plain_digits [] h = tt
plain_digits (d ∷ ds) h = let r = digit_from_value d h.0 in (record { plain = (omega arith, omega arith) }, plain_digits ds h.1)

plain_sign : (z : ℤ) → AllByRecursion Plain (sign z)
plain_sign (pos n) = tt
plain_sign (negsuc n) = (record { plain = (omega arith, omega arith) }, tt)

plain_fixed : (z : ℤ) → unsigned_abs z < 2 ^ 63 → AllByRecursion Plain (fixed6 z)
plain_fixed z h =
    plain_append (sign z ++ decimal (unsigned_abs z / 1000000)) (46 ∷ six_digits (unsigned_abs z))
    (plain_append (sign z) (decimal (unsigned_abs z / 1000000)) (plain_sign z) (plain_digits _ (decimal_is_IsNumeral (unsigned_abs z / 1000000) (omega arith)).0.1))
    (record { plain = (omega arith, omega arith) }, plain_digits (six_digits (unsigned_abs z)) (six_are_digits (unsigned_abs z)))

plain_by_value : (w : Word) (b : Bool) → (65 ≤ w.letter) × (w.letter ≤ 90) × (w.letter ≢ 78) → MatchBool b
    ((m : ℤ) × (w.value ≡ Num (m *ℤ pos 1000000)) × (unsigned_abs m ≤ 1000000000000))
    ((n : ℕ) × (w.value ≡ Num (pos (n * one))) × (n ≤ 1000000))
    → AllByRecursion Plain (w.letter ∷ cond b (fixed6 (millionths (number w.value))) (decimal (whole_part (number w.value))))
plain_by_value w true upper h = (
  record { plain = (omega arith, omega arith) },
  subst (λ z. AllByRecursion Plain (fixed6 z)) (sym (ap (λ v. millionths (number v)) h.1 ∙ millionths_of h.0)) (plain_fixed h.0 (omega (arith, h.2))),
)
plain_by_value w false upper h = (
  record { plain = (omega arith, omega arith) },
  subst (λ n. AllByRecursion Plain (decimal n)) (sym (ap (λ v. whole_part (number v)) h.1 ∙ whole_of h.0)) (plain_digits _ (decimal_is_IsNumeral h.0 (omega arith)).0.1),
)

plain_word : (w : Word) → IsWritten w → AllByRecursion Plain (word_text w)
plain_word w h = plain_by_value w (has_decimals w) h.upper h.value

not_blank : (b : ℕ) → Plain b → not (is_blank b) ≡ true
not_blank b h = let low : 33 ≤ b = h.plain.0 in grind (arith, nat_tests)

unblanked_plain : (xs rest : List ℕ) → AllByRecursion Plain xs → unblanked (xs ++ rest) ≡ xs ++ unblanked rest
unblanked_plain [] rest h = refl
unblanked_plain (x ∷ xs) rest h =
    ap (λ b. cond b (x ∷ unblanked (xs ++ rest)) (unblanked (xs ++ rest))) (not_blank x h.0) ∙ ap (λ t. x ∷ t) (unblanked_plain xs rest h.1)

-- a line's text without its spaces is that of its words, one behind the other
unblanked_words : (ws : List Word) → AllByRecursion IsWritten ws → unblanked (join_with_byte 32 (map word_text ws)) ≡ flat_map word_text ws
unblanked_words [] h = refl
unblanked_words (w ∷ []) h = ap unblanked (sym (append-nil (word_text w))) ∙ unblanked_plain (word_text w) [] (plain_word w h.0)
unblanked_words (w ∷ v ∷ ws) h =
    unblanked_plain (word_text w) (32 ∷ join_with_byte 32 (map word_text (v ∷ ws))) (plain_word w h.0)
    ∙ ap (λ t. word_text w ++ t) (unblanked_words (v ∷ ws) h.1)

spells_words : (ws : List Word) → AllByRecursion IsWritten ws → SpellsPieces (flat_map word_text ws) (map word ws)
spells_words [] h = tt
spells_words (w ∷ ws) h = (word_text w, flat_map word_text ws, refl, spells w h.0, spells_words ws h.1)

pub same_words : (ws : List Word) → ws ≡ words_of (map word ws)
same_words [] = refl
same_words (w ∷ ws) = ap (λ t. w ∷ t) (same_words ws)

pub no_settings : (ws : List Word) → [] ≡ settings_of (map word ws)
no_settings [] = refl
no_settings (w ∷ ws) = no_settings ws

all_words : (line : Line) → IsWrittenLine line → AllByRecursion IsWritten line.words
all_words line h = recursion_from_All IsWritten line.words h.words

spells_line : (line : Line) → IsWrittenLine line → SpellsPlainLine (flat_map word_text line.words) line
spells_line line h = record {
  label = [];
  rest = flat_map word_text line.words;
  pieces = map word line.words;
  spelled = refl;
  numbered = tt;
  each = spells_words line.words (all_words line h);
  has = λ t. record { words = same_words line.words t; settings = (h.no_settings ∙ no_settings line.words) t };
}

stands_for_line : (line : Line) → IsWrittenLine line → StandsForLine (line_text line) line
stands_for_line line h =
    let written = all_words line h in
    (h.short, inr (subst (λ t. SpellsPlainLine t line) (sym (unblanked_words line.words written)) (spells_line line h)))

-- ---- lines

-- a byte that ends no line
record Inside (b : ℕ) : Type 0 where
  inside : 32 ≤ b

inside_append : (xs ys : List ℕ) → AllByRecursion Inside xs → AllByRecursion Inside ys → AllByRecursion Inside (xs ++ ys)
inside_append [] ys h k = k
inside_append (x ∷ xs) ys h k = (h.0, inside_append xs ys h.1 k)

inside_plain : (xs : List ℕ) → AllByRecursion Plain xs → AllByRecursion Inside xs
inside_plain [] h = tt
inside_plain (x ∷ xs) h = let low : 33 ≤ x = h.0.plain.0 in (record { inside = omega arith }, inside_plain xs h.1)

inside_words : (ws : List Word) → AllByRecursion IsWritten ws → AllByRecursion Inside (join_with_byte 32 (map word_text ws))
inside_words [] h = tt
inside_words (w ∷ []) h = inside_plain (word_text w) (plain_word w h.0)
inside_words (w ∷ v ∷ ws) h =
    inside_append (word_text w) (32 ∷ join_with_byte 32 (map word_text (v ∷ ws))) (inside_plain (word_text w) (plain_word w h.0))
    (record { inside = omega arith }, inside_words (v ∷ ws) h.1)

no_newline : (xs : List ℕ) → AllByRecursion Inside xs → AllByRecursion (λ b. eqb b 10 ≡ false) xs
no_newline [] h = tt
no_newline (x ∷ xs) h = let low : 32 ≤ x = h.0.inside in ((grind (arith, nat_tests)), no_newline xs h.1)

no_return : (xs : List ℕ) (k : ℕ) → AllByRecursion Inside xs → eqb (get_or xs k 0) 13 ≡ false
no_return [] k h = refl
no_return (x ∷ xs) zero h = let low : 32 ≤ x = h.0.inside in grind (arith, nat_tests)
no_return (x ∷ xs) (suc k) h = no_return xs k h.1

stripped : (xs : List ℕ) → AllByRecursion Inside xs → strip_carriage_return xs ≡ xs
stripped xs h = ap (λ b. cond b (take (length xs - 1) xs) xs) (no_return xs (length xs - 1) h)

pub parts_of : (parts : List (List ℕ)) (x bytes : List ℕ) → parts ≡ slice_split (λ b. b == 10) bytes → lines_of_parts (x ∷ parts) ≡ strip_carriage_return x ∷ lines_of_parts parts
parts_of [] x bytes e = absurd (omega (arith, ap length e, length-slice_split (λ b. b == 10) bytes))
parts_of (y ∷ more) x bytes e = refl

lines_of_text : (program : List Line) → AllByRecursion IsWrittenLine program → lines (text_of program) ≡ map line_text program
unfolding text_of
lines_of_text [] h = refl
lines_of_text (line ∷ program) h =
    let inside = inside_words line.words (all_words line h.0) in
    ap lines (append_assoc (line_text line) (10 ∷ []) (text_of program))
    ∙ ap lines_of_parts (slice_split_at (λ b. b == 10) (line_text line) 10 (text_of program) (All-from_recursion _ _ (no_newline (line_text line) inside)) refl)
    ∙ parts_of (slice_split (λ b. b == 10) (text_of program)) (line_text line) (text_of program) refl
    ∙ ap (λ x. x ∷ lines (text_of program)) (stripped (line_text line) inside)
    ∙ ap (λ t. line_text line ∷ t) (lines_of_text program h.1)

stands_zip : (program : List Line) → AllByRecursion IsWrittenLine program → AllZip StandsForLine (map line_text program) program
stands_zip [] h = tt
stands_zip (line ∷ program) h = (stands_for_line line h.0, stands_zip program h.1)

-- what is written stands for the lines that it was written from
pub stands_for : (program : List Line) → All IsWrittenLine program → StandsFor (text_of program) program
unfolding StandsFor
stands_for program h =
    let each = recursion_from_All IsWrittenLine program h in
    subst (λ ls. AllZip StandsForLine ls program) (sym (lines_of_text program each)) (stands_zip program each)
