-- Cutting off the first line.
use Rattle.std.proofs.Common.{◌≡◌, refl, ℕ, ◌+◌, ◌-◌, ◌<◌, List, [], ◌∷◌, Some, None, Bool, true, false, cond, length, take, drop, map, arith, ap, sym, ◌∙◌, ◌==◌, length-drop}
use Rattle.std.specs.List.{position, slice_split}
use Rattle.std.specs.Str.Lines.{lines, lines_of_parts, strip_carriage_return}
use Rattle.std.proofs.lemmas.Grind.{common_steps}
use Rattle.std.proofs.lemmas.List.Splits.{length-slice_split}
use Rattle.text_cut.specs.Split.{is_byte}
use Rattle.text_cut.specs.Lines.{Line, lines_in, lines_from, HasNoLine, HasLine, TextsAreLines}
use Rattle.text_cut.proofs.PositionLaws.{found_at, split_found, split_none}

is_feed : ℕ → Bool
is_feed = is_byte 10

-- there is a part always
some_parts : (bytes : List ℕ) → 0 < length (slice_split (is_byte 10) bytes)
some_parts bytes = omega (arith, length-slice_split (is_byte 10) bytes)

-- a part before others is a line
more_lines : (x : List ℕ) (parts : List (List ℕ)) → 0 < length parts → lines_of_parts (x ∷ parts) ≡ strip_carriage_return x ∷ lines_of_parts parts
more_lines x [] some = absurd (omega arith)
more_lines x (y ∷ parts) some = refl

more_lines_in : (at : ℕ) (x : List ℕ) (parts : List (List ℕ)) → 0 < length parts
    → lines_in at (x ∷ parts) ≡ record { offset = at; text = strip_carriage_return x } ∷ lines_in (at + length x + 1) parts
more_lines_in at x [] some = absurd (omega arith)
more_lines_in at x (y ∷ parts) some = refl

-- the line before the first line feed, and the lines behind it
pub first_line : (bytes : List ℕ) (i : ℕ) → position (is_byte 10) bytes ≡ Some i → lines bytes ≡ strip_carriage_return (take i bytes) ∷ lines (drop (i + 1) bytes)
first_line bytes i e =
    ap lines_of_parts (split_found (is_byte 10) bytes i e)
    ∙ more_lines (take i bytes) (slice_split (is_byte 10) (drop (i + 1) bytes)) (some_parts (drop (i + 1) bytes))

-- so many bytes are cut off
cut_off : (bytes : List ℕ) (i : ℕ) → i < length bytes → length bytes - length (drop (i + 1) bytes) ≡ i + 1
cut_off bytes i h = omega (arith, h, length-drop (i + 1) bytes)

pub first_offset : (bytes : List ℕ) (i : ℕ) → position (is_byte 10) bytes ≡ Some i → HasLine bytes (strip_carriage_return (take i bytes)) (drop (i + 1) bytes)
unfolding lines_from
first_offset bytes i e = λ at.
    let found : i < length bytes = (found_at (is_byte 10) bytes i e).1 in
    let size : length (take i bytes) ≡ i = grind (arith, common_steps, found) in
    let behind : at + length (take i bytes) + 1 ≡ at + (length bytes - length (drop (i + 1) bytes)) = omega (arith, size, cut_off bytes i found) in
    ap (lines_in at) (split_found (is_byte 10) bytes i e)
    ∙ more_lines_in at (take i bytes) (slice_split (is_byte 10) (drop (i + 1) bytes)) (some_parts (drop (i + 1) bytes))
    ∙ ap (λ n. record { offset = at; text = strip_carriage_return (take i bytes) } ∷ lines_in n (slice_split (is_byte 10) (drop (i + 1) bytes))) behind

-- what is behind the first line feed
pub first_rest : (bytes : List ℕ) (i : ℕ) → position (is_byte 10) bytes ≡ Some i → drop (i + 1) bytes ≡ drop (length bytes - length (drop (i + 1) bytes)) bytes
first_rest bytes i e = ap (λ n. drop n bytes) (sym (cut_off bytes i (found_at (is_byte 10) bytes i e).1))

-- a last line without a line feed
alone : (bytes : List ℕ) → 0 < length bytes → lines_of_parts (bytes ∷ []) ≡ bytes ∷ []
alone [] some = absurd (omega arith)
alone (b ∷ bytes) some = grind (arith, common_steps)

pub last_line : (bytes : List ℕ) → 0 < length bytes → position (is_byte 10) bytes ≡ None → lines bytes ≡ bytes ∷ []
last_line bytes some e = ap lines_of_parts (split_none (is_byte 10) bytes e) ∙ alone bytes some

alone_in : (at : ℕ) (bytes : List ℕ) → 0 < length bytes → lines_in at (bytes ∷ []) ≡ record { offset = at; text = bytes } ∷ []
alone_in at [] some = absurd (omega arith)
alone_in at (b ∷ bytes) some = grind (arith, common_steps)

pub last_offset : (bytes : List ℕ) → 0 < length bytes → position (is_byte 10) bytes ≡ None → HasLine bytes bytes []
unfolding lines_from
last_offset bytes some e = λ at. ap (lines_in at) (split_none (is_byte 10) bytes e) ∙ alone_in at bytes some

-- no bytes have no line
pub no_line : (bytes : List ℕ) → length bytes ≡ 0 → HasNoLine bytes
unfolding lines_from
no_line [] e = λ at. refl
no_line (b ∷ bytes) e = absurd (omega (arith, e))

texts_in : (at : ℕ) (parts : List (List ℕ)) → map (λ (line : Line). line.text) (lines_in at parts) ≡ lines_of_parts parts
texts_in at [] = refl
texts_in at (x ∷ []) = by_test (length x == 0)
  where
    by_test : (b : Bool) → map (λ (line : Line). line.text) (cond b [] (record { offset = at; text = x } ∷ [])) ≡ cond b [] (x ∷ [])
    by_test true = refl
    by_test false = refl
texts_in at (x ∷ y ∷ parts) = ap (λ texts. strip_carriage_return x ∷ texts) (texts_in (at + length x + 1) (y ∷ parts))

pub texts_are_lines : TextsAreLines
unfolding lines_from
texts_are_lines at bytes = texts_in at (slice_split (is_byte 10) bytes)
