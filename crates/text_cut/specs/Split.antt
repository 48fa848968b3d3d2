-- What stands behind a start, and round a byte.
use Rattle.std.specs.Prelude.{ℕ, ◌+◌, List, Bool, Option, Some, None, length, take, drop, if◌then◌else◌, ◌==◌}
use Rattle.std.specs.List.{position}
use Rattle.std.specs.Str.{bytes_eq}

-- what stands behind these bytes, where the text begins with them
abbrev pub after : List ℕ → List ℕ → Option (List ℕ)
after start text = if bytes_eq (take (length start) text) start then Some (drop (length start) text) else None

-- this byte
abbrev pub is_byte : ℕ → ℕ → Bool
is_byte byte b = b == byte

-- what stands before a place, and behind it
abbrev pub round_place : List ℕ → Option ℕ → Option (List ℕ × List ℕ)
round_place text None = None
round_place text (Some i) = Some (take i text, drop (i + 1) text)

-- what stands before the first such byte, and behind it
unfoldable pub halves : ℕ → List ℕ → Option (List ℕ × List ℕ)
halves byte text = round_place text (position (is_byte byte) text)
