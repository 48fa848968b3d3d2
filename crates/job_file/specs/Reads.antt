-- What a text says as the value of a key.
use Rattle.std.specs.Prelude.{◌≡◌, ℕ, ℤ, pos, List, length, map, Bool, if◌then◌else◌, nat_le, Result, Ok, Err}
use Rattle.std.specs.List.{list_all}
use Rattle.std.specs.Bool.{beq}
use Rattle.board_base.specs.Binds.{◌>>=◌}
use Rattle.job_file.specs.declared.error.JobKind.{JobKind}
use Rattle.job_file.specs.declared.error.JobKind.TheVariants.{BadValue, OutOfRange, Memory}
use Rattle.job_file.specs.declared.keys.Kind.{Kind}
use Rattle.job_file.specs.declared.keys.Kind.TheVariants as kinds
use Rattle.job_file.specs.declared.value.Value.{Value}
use Rattle.job_file.specs.declared.value.Value.TheVariants.{Text, Size, Count, Truth, Lengths}
use Rattle.job_file.specs.Keys.{micrometres, kind_of}
use Rattle.job_file.specs.Numbers.{or_bad, checked, length_of, feed_of, whole_of, without_percent, truth_of, is_between, is_counted, is_even, is_name, is_printable, is_plain_sign, pieces, lengths_of}

-- a length of so many micrometres, in its range
abbrev pub ranged : ℤ → ℤ → ℤ → Result Value JobKind
ranged least most n = checked (is_between least most n) OutOfRange (Size (micrometres n))

-- the same of an even number
abbrev pub even_ranged : ℤ → ℤ → ℤ → Result Value JobKind
even_ranged least most n = if is_even n then ranged least most n else Err BadValue

-- a whole number in its range
abbrev pub counted : ℕ → ℕ → ℕ → Result Value JobKind
counted least most n = checked (is_counted least most n) OutOfRange (Count n)

-- a feed of so many thousandths of a millimetre a minute, in the range of feeds
abbrev pub paced : ℤ → Result Value JobKind
paced v = checked (is_between (pos 1000) (pos 6000000) v) OutOfRange (Size v)

-- a text that is a name
abbrev pub named : Bool → List ℕ → Result Value JobKind
named fits text = checked fits BadValue (Text text)

-- lengths between commas, not more than so many
unfoldable pub few_lengths : ℕ → List ℕ → Result (List ℤ) JobKind
few_lengths few text = do
  lengths ← or_bad (lengths_of (pieces text))
  checked (nat_le (length lengths) few) BadValue lengths

-- lengths of so many micrometres, each in its range
abbrev pub all_ranged : ℤ → ℤ → List ℤ → Result (List ℤ) JobKind
all_ranged least most lengths = checked (list_all (is_between least most) lengths) OutOfRange (map micrometres lengths)

-- the values of each kind

abbrev pub truth_value : List ℕ → Result Value JobKind
truth_value text = do
  truth ← or_bad (truth_of text)
  Ok (Truth truth)

abbrev pub only_value : Bool → List ℕ → Result Value JobKind
only_value only text = do
  truth ← or_bad (truth_of text)
  checked (beq truth only) BadValue (Truth truth)

abbrev pub length_value : ℤ → ℤ → List ℕ → Result Value JobKind
length_value least most text = do
  n ← or_bad (length_of text)
  ranged least most n

abbrev pub even_length_value : ℤ → ℤ → List ℕ → Result Value JobKind
even_length_value least most text = do
  n ← or_bad (length_of text)
  even_ranged least most n

abbrev pub sizes_value : ℤ → ℤ → List ℤ → Result Value JobKind
sizes_value least most lengths = do
  sizes ← all_ranged least most lengths
  Ok (Lengths sizes)

abbrev pub lengths_value : ℕ → ℤ → ℤ → List ℕ → Result Value JobKind
lengths_value few least most text = do
  lengths ← few_lengths few text
  sizes_value least most lengths

abbrev pub feed_value : List ℕ → Result Value JobKind
feed_value text = do
  v ← or_bad (feed_of text)
  paced v

abbrev pub count_value : ℕ → ℕ → List ℕ → Result Value JobKind
count_value least most text = do
  n ← or_bad (whole_of text)
  counted least most n

-- the value that a text is
unfoldable pub read_of : Kind → List ℕ → Result Value JobKind
read_of kinds.Name text = named (is_name 200 is_printable text) text
read_of kinds.BaseName text = named (is_name 64 is_plain_sign text) text
read_of (kinds.Truth default) text = truth_value text
read_of (kinds.Only only) text = only_value only text
read_of (kinds.Length least most default) text = length_value least most text
read_of (kinds.EvenLength least most default) text = even_length_value least most text
read_of (kinds.Lengths few least most default) text = lengths_value few least most text
read_of (kinds.Feed default) text = feed_value text
read_of (kinds.Whole least most default) text = count_value least most text
read_of (kinds.Percent least most default) text = count_value least most (without_percent text)

-- the value that a text is of the key with this number
unfoldable pub value_read : ℕ → List ℕ → Result Value JobKind
value_read key text = read_of (kind_of key) text

-- a refusal is the one that is expected, or want of memory
abbrev pub Fails : {Y : Type 0} → Result Y JobKind → JobKind → Type 0
Fails expected Memory = Unit {0}
Fails expected kind = expected ≡ Err kind

-- an answer is the one that is expected, or want of memory
abbrev pub AnswersBy : {X Y : Type 0} → (X → Y) → Result Y JobKind → Result X JobKind → Type 0
AnswersBy view expected (Ok x) = expected ≡ Ok (view x)
AnswersBy view expected (Err kind) = Fails expected kind

abbrev pub Answers : {X : Type 0} → Result X JobKind → Result X JobKind → Type 0
Answers expected (Ok x) = expected ≡ Ok x
Answers expected (Err kind) = Fails expected kind
