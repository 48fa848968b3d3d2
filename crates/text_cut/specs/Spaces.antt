-- Spaces at the ends of a text.
use Rattle.std.specs.Prelude.{ℕ, ◌-◌, List, length, take, drop, Bool, ◌==◌}
use Rattle.std.specs.List.{prefix_len, suffix_len}

abbrev pub is_space : ℕ → Bool
is_space b = b == 32

-- without the spaces at its front
abbrev pub without_first : List ℕ → List ℕ
without_first text = drop (prefix_len is_space text) text

-- without the spaces at its end
abbrev pub without_last : List ℕ → List ℕ
without_last text = take (length text - suffix_len is_space text) text

-- without the spaces at both ends
unfoldable pub trimmed : List ℕ → List ℕ
trimmed text = without_last (without_first text)
