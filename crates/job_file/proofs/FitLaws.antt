-- What is read fits what the table says of its key.
use Rattle.std.proofs.Common.{◌≡◌, ℕ, ◌+◌, ◌≤◌, ◌%◌, Bool, true, false, cond, List, [], ◌∷◌, length, map, Option, Result, Ok, Err, refl, sym, ap, subst, arith, ℤ, pos, negsuc, nat_le}
use Rattle.std.specs.Prelude.{◌*ℤ◌, ◌≤ℤ◌, int_le}
use Rattle.std.specs.Bool.{beq}
use Rattle.std.specs.Int.{int_div_euclid}
use Rattle.std.specs.List.{list_all, AllByRecursion}
use Rattle.std.proofs.lemmas.Bool.{and_parts}
use Rattle.std.proofs.lemmas.Grind.{common_steps}
use Rattle.std.proofs.lemmas.Int.{ints}
use Rattle.std.proofs.lemmas.List.{length-map}
use Rattle.number_laws.proofs.Tests.{to_le, is_up_to}
use Rattle.number_laws.proofs.Quotients.{rounded_low, rounded_high}
use Rattle.board_base.specs.Binds.{◌>>=◌}
use Rattle.job_file.specs.declared.error.JobKind.{JobKind}
use Rattle.job_file.specs.declared.error.JobKind.TheVariants.{BadValue, OutOfRange}
use Rattle.job_file.specs.declared.keys.Kind.{Kind}
use Rattle.job_file.specs.declared.keys.Kind.TheVariants as kinds
use Rattle.job_file.specs.declared.value.Value.{Value}
use Rattle.job_file.specs.declared.value.Value.TheVariants as values
use Rattle.job_file.specs.Keys.{micrometres, kind_of}
use Rattle.job_file.specs.Numbers.{or_bad, checked, truth_of, length_of, feed_of, whole_of, without_percent, pieces, lengths_of, is_between, is_counted, is_even, is_name, is_printable, is_plain_sign}
use Rattle.job_file.specs.Reads.{ranged, even_ranged, counted, paced, named, few_lengths, all_ranged, truth_value, only_value, length_value, even_length_value, sizes_value, lengths_value, feed_value, count_value, read_of, value_read}
use Rattle.job_file.specs.Ranges.{IsLength, IsEvenLength, AreLengths, IsFeed, IsCount}
use Rattle.job_file.specs.Fits.{Fits}

-- a step that gave something, and a test that passed
pub step : {X Y E : Type 0} (r : Result X E) (f : X → Result Y E) (y : Y) → (r >>= f) ≡ Ok y → (x : X) × (r ≡ Ok x) × (f x ≡ Ok y)
step (Ok x) f y e = (x, refl, e)
step (Err k) f y e = absurd cc

passed : {A : Type 0} (test : Bool) (kind : JobKind) (x y : A) → checked test kind x ≡ Ok y → (test ≡ true) × (x ≡ y)
passed true kind x y e = (refl, cc)
passed false kind x y e = absurd cc

-- lengths

whole_thousand : (n : ℤ) → int_div_euclid (micrometres n) (pos 1000) ≡ n
whole_thousand n =
    let low = rounded_low (micrometres n) (pos 1000) (int_div_euclid (micrometres n) (pos 1000)) (omega (arith, ints)) refl in
    let high = rounded_high (micrometres n) (pos 1000) (int_div_euclid (micrometres n) (pos 1000)) (omega (arith, ints)) refl in
    omega (arith, ints, low, high)

-- an even number of micrometres
two_thousand : (n : ℤ) → is_even n ≡ true → micrometres n ≡ pos 2000 *ℤ int_div_euclid (micrometres n) (pos 2000)
two_thousand n e =
    let half = rounded_low n (pos 2) (int_div_euclid n (pos 2)) (omega (arith, ints)) refl in
    let over = rounded_high n (pos 2) (int_div_euclid n (pos 2)) (omega (arith, ints)) refl in
    let twice : n ≡ pos 2 *ℤ int_div_euclid n (pos 2) = even_half n e in
    let low = rounded_low (micrometres n) (pos 2000) (int_div_euclid (micrometres n) (pos 2000)) (omega (arith, ints)) refl in
    let high = rounded_high (micrometres n) (pos 2000) (int_div_euclid (micrometres n) (pos 2000)) (omega (arith, ints)) refl in
    omega (arith, ints, twice, low, high)
  where
    even_half : (n : ℤ) → is_even n ≡ true → n ≡ pos 2 *ℤ int_div_euclid n (pos 2)
    even_half (pos n) e = let even : n % 2 ≡ 0 = grind (arith, common_steps, e) in omega (arith, ints, even)
    even_half (negsuc n) e = let even : (n + 1) % 2 ≡ 0 = grind (arith, common_steps, e) in omega (arith, ints, even)

at_least : (a b : ℤ) → int_le a b ≡ true → micrometres a ≤ℤ micrometres b
at_least a b e = let le = to_le a b e in omega (arith, ints, le)

pub is_length : (least most n : ℤ) → is_between least most n ≡ true → IsLength least most (micrometres n)
is_length least most n e =
    let ends = and_parts (int_le least n) (int_le n most) e in
    record {
      whole = ap micrometres (sym (whole_thousand n));
      low = at_least least n ends.0;
      high = at_least n most ends.1;
    }

pub is_even_length : (least most n : ℤ) → is_even n ≡ true → is_between least most n ≡ true → IsEvenLength least most (micrometres n)
is_even_length least most n even e =
    let ends = and_parts (int_le least n) (int_le n most) e in
    record {
      even = two_thousand n even;
      low = at_least least n ends.0;
      high = at_least n most ends.1;
    }

are_lengths : (least most : ℤ) (ns : List ℤ) → list_all (is_between least most) ns ≡ true → AllByRecursion (IsLength least most) (map micrometres ns)
are_lengths least most [] e = tt
are_lengths least most (n ∷ ns) e =
    let two = and_parts (is_between least most n) (list_all (is_between least most) ns) e in
    (is_length least most n two.0, are_lengths least most ns two.1)

pub is_feed : (v : ℤ) → is_between (pos 1000) (pos 6000000) v ≡ true → IsFeed v
is_feed v e =
    let ends = and_parts (int_le (pos 1000) v) (int_le v (pos 6000000)) e in
    record { low = to_le (pos 1000) v ends.0; high = to_le v (pos 6000000) ends.1 }

pub is_count : (least most n : ℕ) → is_counted least most n ≡ true → IsCount least most n
is_count least most n e =
    let ends = and_parts (nat_le least n) (nat_le n most) e in
    record { low = is_up_to least n ends.0; high = is_up_to n most ends.1 }

same_truth : (a b : Bool) → beq a b ≡ true → a ≡ b
same_truth true true e = refl
same_truth true false e = absurd cc
same_truth false true e = absurd cc
same_truth false false e = refl

-- each kind

abbrev pub FitsWhole : Kind → Result Value JobKind → Type 0
FitsWhole kind r = (v : Value) → r ≡ Ok v → Fits kind v

name_fits : (text : List ℕ) → FitsWhole kinds.Name (named (is_name 200 is_printable text) text)
name_fits text v e = let p = passed (is_name 200 is_printable text) BadValue (values.Text text) v e in subst (Fits kinds.Name) p.1 p.0

base_fits : (text : List ℕ) → FitsWhole kinds.BaseName (named (is_name 64 is_plain_sign text) text)
base_fits text v e = let p = passed (is_name 64 is_plain_sign text) BadValue (values.Text text) v e in subst (Fits kinds.BaseName) p.1 p.0

abbrev done : Value → Result Value JobKind
done v = Ok v

ok_is : (x y : Value) → done x ≡ done y → x ≡ y
ok_is x y e = cc

truth_fits : (d : Bool) (text : List ℕ) → FitsWhole (kinds.Truth d) (truth_value text)
truth_fits d text v e =
    let s = step (or_bad (truth_of text)) (λ truth. Ok (values.Truth truth)) v e in
    subst (Fits (kinds.Truth d)) (ok_is (values.Truth s.0) v s.2) tt

only_fits : (only : Bool) (text : List ℕ) → FitsWhole (kinds.Only only) (only_value only text)
only_fits only text v e =
    let s = step (or_bad (truth_of text)) (λ truth. checked (beq truth only) BadValue (values.Truth truth)) v e in
    let p = passed (beq s.0 only) BadValue (values.Truth s.0) v s.2 in
    subst (Fits (kinds.Only only)) p.1 (same_truth s.0 only p.0)

length_fits : (least most d : ℤ) (text : List ℕ) → FitsWhole (kinds.Length least most d) (length_value least most text)
length_fits least most d text v e =
    let s = step (or_bad (length_of text)) (ranged least most) v e in
    let p = passed (is_between least most s.0) OutOfRange (values.Size (micrometres s.0)) v s.2 in
    subst (Fits (kinds.Length least most d)) p.1 (is_length least most s.0 p.0)

even_if : (b : Bool) (r : Result Value JobKind) (v : Value) → cond b r (Err BadValue) ≡ Ok v → (b ≡ true) × (r ≡ Ok v)
even_if true r v e = (refl, e)
even_if false r v e = absurd cc

even_fits : (least most d : ℤ) (text : List ℕ) → FitsWhole (kinds.EvenLength least most d) (even_length_value least most text)
even_fits least most d text v e =
    let s = step (or_bad (length_of text)) (even_ranged least most) v e in
    let even = even_if (is_even s.0) (ranged least most s.0) v s.2 in
    let p = passed (is_between least most s.0) OutOfRange (values.Size (micrometres s.0)) v even.1 in
    subst (Fits (kinds.EvenLength least most d)) p.1 (is_even_length least most s.0 even.0 p.0)

feed_fits : (d : ℤ) (text : List ℕ) → FitsWhole (kinds.Feed d) (feed_value text)
feed_fits d text v e =
    let s = step (or_bad (feed_of text)) paced v e in
    let p = passed (is_between (pos 1000) (pos 6000000) s.0) OutOfRange (values.Size s.0) v s.2 in
    subst (Fits (kinds.Feed d)) p.1 (is_feed s.0 p.0)

count_fits : (least most d : ℕ) (text : List ℕ) → FitsWhole (kinds.Whole least most d) (count_value least most text)
count_fits least most d text v e =
    let s = step (or_bad (whole_of text)) (counted least most) v e in
    let p = passed (is_counted least most s.0) OutOfRange (values.Count s.0) v s.2 in
    subst (Fits (kinds.Whole least most d)) p.1 (is_count least most s.0 p.0)

percent_fits : (least most d : ℕ) (text : List ℕ) → FitsWhole (kinds.Percent least most d) (count_value least most text)
percent_fits least most d text v e =
    let s = step (or_bad (whole_of text)) (counted least most) v e in
    let p = passed (is_counted least most s.0) OutOfRange (values.Count s.0) v s.2 in
    subst (Fits (kinds.Percent least most d)) p.1 (is_count least most s.0 p.0)

few_fits : (few : ℕ) (text : List ℕ) (ns : List ℤ) → few_lengths few text ≡ Ok ns → length ns ≤ few
unfolding few_lengths
few_fits few text ns e =
    let s = step (or_bad (lengths_of (pieces text))) (λ ns. checked (nat_le (length ns) few) BadValue ns) ns e in
    let p = passed (nat_le (length s.0) few) BadValue s.0 ns s.2 in
    let within = is_up_to (length s.0) few p.0 in
    subst (λ ns. length ns ≤ few) p.1 within

lengths_fits : (few : ℕ) (least most : ℤ) (d : Option ℤ) (text : List ℕ) → FitsWhole (kinds.Lengths few least most d) (lengths_value few least most text)
lengths_fits few least most d text v e =
    let s = step (few_lengths few text) (sizes_value least most) v e in
    let t = step (all_ranged least most s.0) (λ sizes. Ok (values.Lengths sizes)) v s.2 in
    let p = passed (list_all (is_between least most) s.0) OutOfRange (map micrometres s.0) t.0 t.1 in
    let within : length (map micrometres s.0) ≤ few = rw (length-map s.0 micrometres) (few_fits few text s.0 s.1) in
    let all : AreLengths few least most (map micrometres s.0) = record { few_of = within; each = are_lengths least most s.0 p.0 } in
    subst (Fits (kinds.Lengths few least most d)) (ok_is (values.Lengths t.0) v t.2) (subst (AreLengths few least most) p.1 all)

-- what is read as a value of a kind is one
pub reads_fit : (kind : Kind) (text : List ℕ) → FitsWhole kind (read_of kind text)
unfolding read_of
reads_fit kinds.Name text = name_fits text
reads_fit kinds.BaseName text = base_fits text
reads_fit (kinds.Truth d) text = truth_fits d text
reads_fit (kinds.Only only) text = only_fits only text
reads_fit (kinds.Length least most d) text = length_fits least most d text
reads_fit (kinds.EvenLength least most d) text = even_fits least most d text
reads_fit (kinds.Lengths few least most d) text = lengths_fits few least most d text
reads_fit (kinds.Feed d) text = feed_fits d text
reads_fit (kinds.Whole least most d) text = count_fits least most d text
reads_fit (kinds.Percent least most d) text = percent_fits least most d (without_percent text)

-- what is read as a value of a key is one of its kind
pub value_fits_key : (key : ℕ) (text : List ℕ) → FitsWhole (kind_of key) (value_read key text)
unfolding value_read
value_fits_key key text v e = reads_fit (kind_of key) text v e
