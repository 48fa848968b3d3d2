-- Lines and their offsets.
use Rattle.std.specs.Prelude.{◌≡◌, ℕ, ◌+◌, ◌-◌, List, [], ◌∷◌, length, map, if◌then◌else◌, ◌==◌}
use Rattle.std.specs.List.{slice_split}
use Rattle.std.specs.Str.Lines.{lines, strip_carriage_return}
use Rattle.text_cut.specs.Split.{is_byte}

-- a line's text without its end, and the offset of its first byte
pub record Line : Type 0 where
  pub offset : ℕ
  pub text : List ℕ

-- the lines in the parts between line feeds, of which the first stands at an offset: an empty last part is no line, and a part before
-- a line feed loses one carriage return at its end
abbrev pub lines_in : ℕ → List (List ℕ) → List Line
lines_in at [] = []
lines_in at (text ∷ []) = if length text == 0 then [] else record { offset = at; text = text } ∷ []
lines_in at (text ∷ next ∷ texts) = record { offset = at; text = strip_carriage_return text } ∷ lines_in (at + length text + 1) (next ∷ texts)

-- the lines of bytes of which the first stands at an offset
unfoldable pub lines_from : ℕ → List ℕ → List Line
lines_from at bytes = lines_in at (slice_split (is_byte 10) bytes)

-- bytes without a line
abbrev pub HasNoLine : List ℕ → Type 0
HasNoLine bytes = (at : ℕ) → lines_from at bytes ≡ []

-- the first line of bytes has this text, and this rest has the others
abbrev pub HasLine : List ℕ → List ℕ → List ℕ → Type 0
HasLine bytes text rest = (at : ℕ) → lines_from at bytes ≡ record { offset = at; text = text } ∷ lines_from (at + (length bytes - length rest)) rest

-- lines with their offsets are the lines
abbrev pub TextsAreLines : Type 0
TextsAreLines = (at : ℕ) (bytes : List ℕ) → map (λ (line : Line). line.text) (lines_from at bytes) ≡ lines bytes
