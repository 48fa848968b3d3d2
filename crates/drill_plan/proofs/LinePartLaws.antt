-- Which lines stand in which part of a drill file.
use Rattle.std.proofs.Common.{◌≡◌, ℕ, ◌-◌, ◌<◌, ◌≤◌, ◌^◌, Bool, true, false, List, [], ◌∷◌, length, take, Option, Some, None, IfSome, unwrap_or, refl, arith}
use Rattle.std.specs.Prelude.{⊤, if◌then◌else◌, ◌==◌, ◌&&◌, nat_lt, nat_le, codes}
use Rattle.std.specs.Char.{is_ascii_digit}
use Rattle.std.specs.List.{AllByRecursion, list_all}
use Rattle.std.specs.Option.{option_or}
use Rattle.std.specs.Str.{bytes_eq}
use Rattle.std.specs.Str.Parse.{AllDigits, digits_value}
use Rattle.std.proofs.lemmas.Str.Parse.{tells_digits, numerals_by_value, digits_value_short}
use Rattle.number_laws.proofs.Tests.{first_of, second_of, is_up_to}
use Rattle.board_base.specs.OptionBinds.{◌>>=◌}
use Rattle.text_cut.specs.Split.{after}
use Rattle.fixed_num.specs.declared.units.Unit.{Unit}
use Rattle.fixed_num.specs.declared.units.Unit.TheVariants as units
use Rattle.excellon.specs.declared.line.Pair.{Pair}
use Rattle.excellon.specs.declared.line.Word.{Word}
use Rattle.excellon.specs.declared.line.Word.TheVariants as words
use Rattle.excellon.specs.declared.line.Part.{Part}
use Rattle.excellon.specs.declared.line.Part.TheVariants as parts
use Rattle.excellon.specs.declared.line.Said.{Said}
use Rattle.excellon.specs.declared.line.Said.TheVariants as says
use Rattle.excellon.specs.Words.{word_in, is_blank, is_left_out, start_words}
use Rattle.excellon.specs.Numerals.{without_zeros, tool_number, number_before}
use Rattle.excellon.specs.Header.{header_words, is_count, counts_of, format_of, fills_of, behind_comma, with_unit, letters_of, size_in, header_of, other_header, definition_of, metric_of, inch_of}
use Rattle.excellon.specs.Body.{body_words, body_of, other_body, selection_of, pair_of, whole_pair, move_of, cut_of, behind_pair, coordinates_of, comment_of, line_of, filled_of, said_of}
use Rattle.excellon.proofs.NumeralLaws.{all_digits, digits_left}
use Rattle.fixed_num.specs.Numerals.{is_numeral, short_value}

-- tools are defined in the header, whose end is told there; holes are drilled in the body, with tools of at most 9,999
abbrev pub FitsPart : Part → Said → Type 0
FitsPart part says.Begin = part ≡ parts.Start
FitsPart part says.EndHeader = part ≡ parts.Header
FitsPart part (says.Define number size) = part ≡ parts.Header
FitsPart part (says.Go way) = part ≡ parts.Body
FitsPart part (says.Select number) = number ≤ 9999
FitsPart part said = ⊤

-- ---- what may be missing

if_some : {X : Type 0} (P : X → Type 0) (b : Bool) (o p : Option X) → IfSome o P → IfSome p P → IfSome (if b then o else p) P
if_some P true o p h k = h
if_some P false o p h k = k

or_some : {X : Type 0} (P : X → Type 0) (o p : Option X) → IfSome o P → IfSome p P → IfSome (option_or o p) P
or_some P None p h k = k
or_some P (Some x) p h k = h

then_some : {X Y : Type 0} (Q : X → Type 0) (P : Y → Type 0) (o : Option X) (f : X → Option Y) → IfSome o Q → ((x : X) → Q x → IfSome (f x) P) → IfSome (o >>= f) P
then_some Q P None f h k = tt
then_some Q P (Some x) f h k = k x h

any_some : {X : Type 0} (o : Option X) → IfSome o (λ x. ⊤)
any_some None = tt
any_some (Some x) = tt

-- whatever comes first
behind : {X Y : Type 0} (P : Y → Type 0) (o : Option X) (f : X → Option Y) → ((x : X) → IfSome (f x) P) → IfSome (o >>= f) P
behind P o f k = then_some (λ x. ⊤) P o f (any_some o) (λ x _. k x)

or_else : {X : Type 0} (P : X → Type 0) (o : Option X) (d : X) → IfSome o P → P d → P (unwrap_or o d)
or_else P None d h k = k
or_else P (Some x) d h k = h

word_fits : (P : Said → Type 0) (words : List (List ℕ × Said)) (text : List ℕ) → AllByRecursion (λ w. P w.1) words → IfSome (word_in words text) P
word_fits P [] text all = tt
word_fits P (word ∷ words) text all = if_some P (bytes_eq text word.0) (Some word.1) (word_in words text) all.0 (word_fits P words text all.1)

-- ---- tools

small : (digits : List ℕ) → AllDigits 10 digits → length digits ≤ 4 → short_value digits ≤ 9999
unfolding short_value
small digits all few = by_size (nat_le (length digits) 18)
  where
    below : digits_value 10 digits < 10 ^ 4
    below = digits_value_short (numerals_by_value (AllDigits 10) tells_digits) digits 4 all few

    by_size : (b : Bool) → (if b then digits_value 10 digits else 0) ≤ 9999
    by_size true = omega (arith, below)
    by_size false = omega arith

tool_fits : (text : List ℕ) → IfSome (tool_number text) (λ number. number ≤ 9999)
unfolding tool_number
tool_fits text = by_test (is_numeral text && nat_le (length (without_zeros text)) 4) refl
  where
    by_test : (b : Bool) → (is_numeral text && nat_le (length (without_zeros text)) 4) ≡ b → IfSome (if b then Some (short_value (without_zeros text)) else None) (λ number. number ≤ 9999)
    by_test false e = tt
    by_test true e =
        small (without_zeros text) (digits_left text (all_digits text (second_of (nat_lt 0 (length text)) (list_all is_ascii_digit text) (first_of (is_numeral text) (nat_le (length (without_zeros text)) 4) e))))
        (is_up_to (length (without_zeros text)) 4 (second_of (is_numeral text) (nat_le (length (without_zeros text)) 4) e))

-- ---- lines

abbrev InHeader : Said → Type 0
InHeader = FitsPart parts.Header

abbrev InBody : Said → Type 0
InBody = FitsPart parts.Body

definition_fits : (text : List ℕ) → IfSome (definition_of text) InHeader
unfolding definition_of
definition_fits text = behind InHeader (tool_number (take (number_before text) text)) (λ number. size_in (letters_of text) >>= defined number) (λ number. behind InHeader (size_in (letters_of text)) (defined number) (λ size. refl))
  where
    defined : ℕ → Option ℕ → Option Said
    defined number size = Some (says.Define number (unwrap_or size 0))

unit_fits : (unit : Unit) (text : List ℕ) → IfSome (with_unit unit text) InHeader
unit_fits unit text = behind InHeader (behind_comma (fills_of text).1) (λ format. Some (says.Unit unit (fills_of text).0 format)) (λ format. tt)

metric_fits : (text : List ℕ) → IfSome (metric_of text) InHeader
metric_fits text = behind InHeader (after (codes "METRIC") text) (with_unit units.Mm) (unit_fits units.Mm)

inch_fits : (text : List ℕ) → IfSome (inch_of text) InHeader
inch_fits text = behind InHeader (after (codes "INCH") text) (with_unit units.Inch) (unit_fits units.Inch)

other_header_fits : (text : List ℕ) → IfSome (other_header text) InHeader
other_header_fits [] = tt
other_header_fits (b ∷ rest) =
    if_some InHeader (b == 84) (definition_of rest) _ (definition_fits rest)
    (if_some InHeader (is_left_out (b ∷ rest)) (Some says.Unsupported) _ tt (or_some InHeader (metric_of (b ∷ rest)) (inch_of (b ∷ rest)) (metric_fits (b ∷ rest)) (inch_fits (b ∷ rest))))

header_fits : (text : List ℕ) → IfSome (header_of text) InHeader
unfolding header_of
header_fits text = or_some InHeader (word_in header_words text) (other_header text) (word_fits InHeader header_words text (tt, (tt, (tt, (tt, (tt, (tt, (tt, (refl, (refl, tt)))))))))) (other_header_fits text)

selection_fits : (text : List ℕ) → IfSome (selection_of text) InBody
selection_fits text = then_some (λ number. number ≤ 9999) InBody (tool_number text) (λ number. Some (says.Select number)) (tool_fits text) (λ number few. few)

-- a word and coordinates
go : Word → Option Pair → Pair → Option Said
go word from to = Some (says.Go (record { word = word; from = from; to = to }))

go_fits : (word : Word) (from : Option Pair) (text : List ℕ) → IfSome (whole_pair text >>= go word from) InBody
unfolding go
go_fits word from text = behind InBody (whole_pair text) (go word from) (λ to. refl)

move_fits : (text : List ℕ) → IfSome (move_of text) InBody
unfolding go
move_fits text = behind InBody (after (codes "G00") text) (λ rest. whole_pair rest >>= go words.Move None) (go_fits words.Move None)

cut_fits : (text : List ℕ) → IfSome (cut_of text) InBody
unfolding go
cut_fits text = behind InBody (after (codes "G01") text) (λ rest. whole_pair rest >>= go words.Cut None) (go_fits words.Cut None)

behind_fits : (from : Pair) (rest : List ℕ) → IfSome (behind_pair from rest) InBody
unfolding go
behind_fits from [] = refl
behind_fits from (b ∷ rest) = behind InBody (after (codes "G85") (b ∷ rest)) (λ text. whole_pair text >>= go words.Plain (Some from)) (go_fits words.Plain (Some from))

coordinates_fit : (text : List ℕ) → IfSome (coordinates_of text) InBody
coordinates_fit text = behind InBody (pair_of text) (λ pair. behind_pair pair.0 pair.1) (λ pair. behind_fits pair.0 pair.1)

other_body_fits : (text : List ℕ) → IfSome (other_body text) InBody
other_body_fits [] = tt
other_body_fits (b ∷ rest) =
    if_some InBody (b == 84) (selection_of rest) _ (selection_fits rest)
    (if_some InBody (is_left_out (b ∷ rest)) (Some says.Unsupported) _ tt
    (or_some InBody (move_of (b ∷ rest)) _ (move_fits (b ∷ rest)) (or_some InBody (cut_of (b ∷ rest)) (coordinates_of (b ∷ rest)) (cut_fits (b ∷ rest)) (coordinates_fit (b ∷ rest)))))

body_fits : (text : List ℕ) → IfSome (body_of text) InBody
unfolding body_of
body_fits text = or_some InBody (word_in body_words text) (other_body text) (word_fits InBody body_words text (tt, (tt, (tt, (tt, (tt, (tt, (tt, tt)))))))) (other_body_fits text)

-- ---- comments

counts_fit : (text : List ℕ) → IfSome (counts_of text) InHeader
counts_fit [] = tt
counts_fit (m ∷ []) = tt
counts_fit (m ∷ c ∷ []) = tt
counts_fit (m ∷ c ∷ n ∷ []) = if_some InHeader (is_count m && (c == 58) && is_count n) (Some (says.Format (record { whole = m - 48; decimals = n - 48 }))) None tt tt
counts_fit (m ∷ c ∷ n ∷ b ∷ rest) = tt

comment_fits : (part : Part) (text : List ℕ) → FitsPart part (comment_of part text)
comment_fits parts.Start text = tt
comment_fits parts.Header text = or_else InHeader (format_of text) says.Ignored (behind InHeader (after (codes ";FILE_FORMAT=") text) counts_of counts_fit) tt
comment_fits parts.Body text = tt

-- ---- all of them

line_fits : (part : Part) (text : List ℕ) → IfSome (line_of part text) (FitsPart part)
line_fits parts.Start text = word_fits (FitsPart parts.Start) start_words text (tt, (refl, tt))
line_fits parts.Header text = header_fits text
line_fits parts.Body text = body_fits text

filled_fits : (part : Part) (text : List ℕ) → IfSome (filled_of part text) (FitsPart part)
filled_fits part [] = tt
filled_fits part (b ∷ rest) = if_some (FitsPart part) (b == 59) (Some (comment_of part (b ∷ rest))) (line_of part (b ∷ rest)) (comment_fits part (b ∷ rest)) (line_fits part (b ∷ rest))

-- what a line says may be said in its part of the file
pub said_fits : (part : Part) (text : List ℕ) → IfSome (said_of part text) (FitsPart part)
unfolding said_of
said_fits part text = if_some (FitsPart part) (is_blank text) (Some says.Ignored) (filled_of part text) tt (filled_fits part text)
