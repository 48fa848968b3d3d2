-- What deprecated settings say.
use Rattle.std.specs.Prelude.{ℕ, List, [], ◌∷◌, length, codes, Option, Some, None, Bool, false, if◌then◌else◌, ◌&&◌, ◌||◌, ◌==◌, nat_lt}
use Rattle.std.specs.List.{list_all}
use Rattle.std.specs.Option.{option_or}
use Rattle.std.specs.Str.{bytes_eq}
use Rattle.board_base.specs.OptionBinds.{◌>>=◌}
use Rattle.text_cut.specs.Split.{after, halves}
use Rattle.gerber_words.specs.declared.commands.Command.{Command}
use Rattle.gerber_words.specs.declared.commands.Command.TheVariants as commands

-- a 0 or 1, and behind a point one or more zeros
abbrev pub is_plain : ℕ → List ℕ → Bool
is_plain digit [] = false
is_plain digit (b ∷ []) = b == digit
is_plain digit (b ∷ point ∷ zeros) = (b == digit) && (point == 46) && nat_lt 0 (length zeros) && list_all (λ z. z == 48) zeros

-- a pair of them behind A and B
unfoldable pub pair_of : List ℕ → ℕ → List ℕ → Option Command
pair_of start digit text = do
  rest ← after start text
  round_b ← halves 66 rest
  if is_plain digit round_b.0 && is_plain digit round_b.1 then Some commands.DeprecatedSetting else None

-- IR and a 0
unfoldable pub no_rotation_of : List ℕ → Option Command
no_rotation_of text = do
  rest ← after (codes "IR") text
  if is_plain 48 rest then Some commands.DeprecatedSetting else None

-- the old commands that say what holds without them
abbrev pub old_of : List ℕ → Option Command
old_of text =
    if bytes_eq text (codes "IPPOS") || bytes_eq text (codes "ASAXBY") then Some commands.DeprecatedSetting
    else option_or (no_rotation_of text)
    (option_or (pair_of (codes "OFA") 48 text) (option_or (pair_of (codes "MIA") 48 text) (pair_of (codes "SFA") 49 text)))
