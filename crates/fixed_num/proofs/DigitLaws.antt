-- The numbers that digits write, one digit more at a time.
use Rattle.std.proofs.Common.{◌≡◌, refl, true, rules, ℕ, suc, zero, ◌+◌, ◌*◌, ◌-◌, ◌<◌, ◌≤◌, ◌^◌, List, [], ◌∷◌, ◌++◌, length, take, drop, get_or, arith, ap, sym, ◌∙◌, subst}
use Rattle.std.specs.Char.{digit_value, is_ascii_digit}
use Rattle.std.specs.List.{list_all}
use Rattle.std.specs.Str.Parse.{AllDigits, digits_value_after}
use Rattle.std.proofs.lemmas.Grind.{common_steps}
use Rattle.std.proofs.lemmas.Nat.{pow-add}
use Rattle.std.proofs.lemmas.Str.{digit_value_digit}
use Rattle.std.proofs.lemmas.Str.Parse.{digit_from_value, IsDigitsTest, IsNumeralModel, numerals_by_value}
use Rattle.std.proofs.lemmas.List.{length-take, take_min}
use Rattle.std.proofs.Math.Nat.{pow-le-pow_right, mul-le-mul, mul_assoc}
use Rattle.std.specs.Prelude.{min}
use Rattle.std.specs.Str.Parse.{digits_value}

-- what passes the test of digits is digits alone
tells_digits : IsDigitsTest (λ ds. list_all is_ascii_digit ds ≡ true)
tells_digits = search rules

pub digit_test : IsNumeralModel (λ ds. list_all is_ascii_digit ds ≡ true) (digits_value 10)
digit_test = numerals_by_value _ tells_digits

-- a digit's value
value_of_digit : (b : ℕ) → 48 ≤ b → b ≤ 57 → digit_value b ≡ b - 48
value_of_digit b low high = omega (arith, digit_value_digit b (low, high))

-- each byte of digits is one
pub digit_in : (ds : List ℕ) (i : ℕ) → i < length ds → AllDigits 10 ds → (48 ≤ get_or ds i 0) × (get_or ds i 0 ≤ 57)
digit_in [] i h all = absurd (omega arith)
digit_in (b ∷ ds) zero h all = digit_from_value b all.0
digit_in (b ∷ ds) (suc i) h all = digit_in ds i (omega arith) all.1

one_digit : (n : ℕ) (ds : List ℕ) (i : ℕ) → i < length ds → AllDigits 10 ds
    → digits_value_after 10 n (drop i ds) ≡ digits_value_after 10 (n * 10 + (get_or ds i 0 - 48)) (drop (suc i) ds)
one_digit n [] i h all = absurd (omega arith)
one_digit n (b ∷ ds) zero h all =
    let digit = digit_from_value b all.0 in ap (λ v. digits_value_after 10 (n * 10 + v) ds) (value_of_digit b digit.0 digit.1)
one_digit n (b ∷ ds) (suc i) h all = one_digit n ds i (omega arith) all.1

-- one digit more
pub more_digit : (n : ℕ) (ds : List ℕ) (i : ℕ) → i < length ds → AllDigits 10 ds
    → digits_value_after 10 n (drop i ds) ≡ digits_value_after 10 (n * 10 + (get_or ds i 0 - 48)) (drop (i + 1) ds)
more_digit n ds i h all =
    let next : suc i ≡ i + 1 = omega arith in
    subst (λ j. digits_value_after 10 n (drop i ds) ≡ digits_value_after 10 (n * 10 + (get_or ds i 0 - 48)) (drop j ds)) next (one_digit n ds i h all)

-- all of them
pub no_digit : (n : ℕ) (ds : List ℕ) (i : ℕ) → length ds ≤ i → digits_value_after 10 n (drop i ds) ≡ n
no_digit n ds i h = let none : drop i ds ≡ [] = grind (arith, common_steps) in rw none refl

-- a number below a power of ten, and one digit more
pub more_room : (n s i b : ℕ) → n < s * 10 ^ i → b ≤ 57 → n * 10 + (b - 48) < s * 10 ^ (i + 1)
more_room n s i b h digit =
    let next : s * 10 ^ (i + 1) ≡ s * 10 ^ i * 10 = ap (λ p. s * p) (pow-add 10 i 1) ∙ sym (mul_assoc s (10 ^ i) 10) in
    omega (arith, next)

-- at most 18 digits behind a number of 18 digits
pub room : (n s i : ℕ) → n < (s + 1) * 10 ^ i → s < 10 ^ 18 → i ≤ 18 → n < 10 ^ 36
room n s i h small few =
    let pow : 10 ^ i ≤ 10 ^ 18 = pow-le-pow_right (omega arith) {i = i} {j = 18} few in
    let all : (s + 1) * 10 ^ i ≤ 10 ^ 18 * 10 ^ 18 = mul-le-mul {n₁ = s + 1} {m₁ = 10 ^ i} {n₂ = 10 ^ 18} {m₂ = 10 ^ 18} (omega (arith, small)) pow in
    omega (arith, all, h)

-- digits behind digits
pub after_append : (n : ℕ) (xs ys : List ℕ) → digits_value_after 10 n (xs ++ ys) ≡ digits_value_after 10 (digits_value_after 10 n xs) ys
after_append n [] ys = refl
after_append n (x ∷ xs) ys = after_append (n * 10 + digit_value x) xs ys

pub all_append : (xs ys : List ℕ) → AllDigits 10 xs → AllDigits 10 ys → AllDigits 10 (xs ++ ys)
all_append [] ys h k = k
all_append (x ∷ xs) ys h k = (h.0, all_append xs ys h.1 k)

pub all_taken : (i : ℕ) (ds : List ℕ) → AllDigits 10 ds → AllDigits 10 (take i ds)
all_taken zero ds all = tt
all_taken (suc i) [] all = tt
all_taken (suc i) (d ∷ ds) all = (all.0, all_taken i ds all.1)

-- at most 18 digits
pub eighteen : (n k : ℕ) → n < (0 + 1) * 10 ^ k → k ≤ 18 → n < 10 ^ 18
eighteen n k h few =
    let pow : 10 ^ k ≤ 10 ^ 18 = pow-le-pow_right (omega arith) {i = k} {j = 18} few in omega (arith, pow, h)

-- a number of at most 18 digits and k more, times a power of ten that leaves at most 12 digits more
pub thirty : (n w k z : ℕ) → n < (w + 1) * 10 ^ k → w < 10 ^ 18 → k + z ≤ 12 → n * 10 ^ z < 10 ^ 30
thirty n w k z h small few =
    let up : n + 1 ≤ 10 ^ 18 * 10 ^ k = omega (arith, h, mul-le-mul {n₁ = w + 1} {m₁ = 10 ^ k} {n₂ = 10 ^ 18} {m₂ = 10 ^ k} (omega (arith, small)) (omega arith)) in
    let pow : 10 ^ (k + z) ≤ 10 ^ 12 = pow-le-pow_right (omega arith) {i = k + z} {j = 12} few in
    let one : 0 < 10 ^ z = omega (arith, pow-le-pow_right {n = 10} (omega arith) {i = 0} {j = z} (omega arith)) in
    let bound : (n + 1) * 10 ^ z ≤ 10 ^ 18 * 10 ^ k * 10 ^ z = mul-le-mul {n₁ = n + 1} {m₁ = 10 ^ z} {n₂ = 10 ^ 18 * 10 ^ k} {m₂ = 10 ^ z} up (omega arith) in
    let same : 10 ^ 18 * 10 ^ k * 10 ^ z ≡ 10 ^ 18 * 10 ^ (k + z) = mul_assoc (10 ^ 18) (10 ^ k) (10 ^ z) ∙ ap (λ p. 10 ^ 18 * p) (sym (pow-add 10 k z)) in
    let most : 10 ^ 18 * 10 ^ (k + z) ≤ 10 ^ 18 * 10 ^ 12 = mul-le-mul {n₁ = 10 ^ 18} {m₁ = 10 ^ (k + z)} {n₂ = 10 ^ 18} {m₂ = 10 ^ 12} (omega arith) pow in
    let split : (n + 1) * 10 ^ z ≡ n * 10 ^ z + 10 ^ z = grind (arith, common_steps) in
    omega (arith, bound, same, most, one, split)

least_of : (k a b : ℕ) → k ≡ min a b → (k ≤ a) × (k ≤ b) × (min b a ≡ k)
least_of k a b e = (omega (arith, e), omega (arith, e), omega (arith, e))

-- the bound of a number whose decimals are cut at the scale
pub size_bound : (n w p scale kept : ℕ) (f : List ℕ) → n < (w + 1) * 10 ^ length (take kept f) → w < 10 ^ 18 → kept ≡ min (length f) scale → p ≡ 10 ^ (scale - kept) → scale ≤ 12 → n * p < 10 ^ 30
size_bound n w p scale kept f h small least power few =
    let below = least_of kept (length f) scale least in
    let here : length (take kept f) ≡ kept = omega (arith, length-take kept f, below.0) in
    subst (λ q. n * q < 10 ^ 30) (sym power)
    (thirty n w kept (scale - kept) (subst (λ k. n < (w + 1) * 10 ^ k) here h) small (omega (arith, below.1, few)))

-- its value
pub size_value : (n w p scale kept : ℕ) (whole f g : List ℕ) → w ≡ digits_value_after 10 0 whole → n ≡ digits_value_after 10 w (take kept f) → kept ≡ min (length f) scale → p ≡ 10 ^ (scale - kept) → f ≡ g
    → n * p ≡ digits_value 10 (whole ++ take scale g) * 10 ^ (scale - length g)
size_value n w p scale kept whole f g is_whole is_all least power same =
    let below = least_of kept (length f) scale least in
    let cut : take kept f ≡ take scale g = ap (λ k. take k f) (sym below.2) ∙ take_min scale f ∙ ap (take scale) same in
    let left : scale - kept ≡ scale - length g = omega (arith, least, ap length same) in
    let value : n ≡ digits_value 10 (whole ++ take scale g) =
    is_all ∙ ap (λ v. digits_value_after 10 v (take kept f)) is_whole ∙ ap (λ ds. digits_value_after 10 (digits_value_after 10 0 whole) ds) cut ∙ sym (after_append 0 whole (take scale g)) in
    ap (λ m. m * p) value ∙ ap (λ q. digits_value 10 (whole ++ take scale g) * q) (power ∙ ap (λ z. 10 ^ z) left)
