-- Leading digits.
use Rattle.std.specs.Prelude.{ℕ, List, not}
use Rattle.std.specs.Char.{is_ascii_digit}
use Rattle.std.specs.List.{position_or_len}

-- how many digits stand in front
unfoldable pub digits_before : List ℕ → ℕ
digits_before text = position_or_len (λ b. not (is_ascii_digit b)) text
