-- What settings say: formats, units, polarity, mirror, rotation and scale.
use Rattle.std.specs.Prelude.{ℕ, ℤ, pos, ◌-◌, List, [], ◌∷◌, codes, Option, Some, None, Result, Ok, Err, Bool, true, false, not, if◌then◌else◌, ◌&&◌, ◌||◌, ◌==◌, nat_le}
use Rattle.std.specs.Char.{is_ascii_digit, is_ascii_uppercase}
use Rattle.std.specs.List.{list_all, list_any}
use Rattle.std.specs.Option.{option_or}
use Rattle.std.specs.Ordering.{int_eq}
use Rattle.std.specs.Str.{bytes_eq}
use Rattle.board_base.specs.OptionBinds.{◌>>=◌}
use Rattle.fixed_num.specs.Angles.{in_turn}
use Rattle.fixed_num.specs.Values.{read_at, cut_at}
use Rattle.fixed_num.specs.declared.number.NumError.{NumError}
use Rattle.fixed_num.specs.declared.number.NumError.TheVariants.{TooFine}
use Rattle.fixed_num.specs.declared.units.Unit.TheVariants as units
use Rattle.apertures.specs.declared.place.Mirror.TheVariants as mirrors
use Rattle.text_cut.specs.Split.{after}
use Rattle.gerber_words.specs.declared.commands.Command.{Command}
use Rattle.gerber_words.specs.declared.commands.Command.TheVariants as commands

-- a digit from a first one to 6
abbrev pub is_count : ℕ → ℕ → Bool
is_count first b = nat_le first b && nat_le b 54

-- one to six integer digits and two to six decimals of X, and then of Y
abbrev pub counts_of : List ℕ → Option Command
counts_of (n ∷ m ∷ y ∷ k ∷ l ∷ []) =
    if is_count 49 n && is_count 50 m && (y == 89) && is_count 49 k && is_count 50 l then Some (commands.Format (record {
      x = record { integer_digits = n - 48; decimal_digits = m - 48 };
      y = record { integer_digits = k - 48; decimal_digits = l - 48 };
    }))
    else None
counts_of _ = None

-- a capital letter or a digit
abbrev pub is_capital_or_digit : ℕ → Bool
is_capital_or_digit b = is_ascii_uppercase b || is_ascii_digit b

-- a letter of another kind of format: not L, A, X or Y
abbrev pub is_other_letter : ℕ → Bool
is_other_letter b = is_ascii_uppercase b && not ((b == 76) || (b == 65) || (b == 88) || (b == 89))

-- capital letters and digits alone, and a letter of another kind of format
abbrev pub is_other_format : List ℕ → Bool
is_other_format text = list_all is_capital_or_digit text && list_any is_other_letter text

-- absolute coordinates without leading zeros, and the digits of X and Y
abbrev pub known_format : List ℕ → Option Command
known_format text = do
  counts ← after (codes "LAX") text
  counts_of counts

-- a format, known or another
abbrev pub format_in : List ℕ → Option Command
format_in text = option_or (known_format text) (if is_other_format text then Some commands.Unsupported else None)

-- FS
unfoldable pub format_of : List ℕ → Option Command
format_of text = do
  rest ← after (codes "FS") text
  format_in rest

-- MOMM or MOIN
abbrev pub unit_of : List ℕ → Option Command
unit_of text =
    if bytes_eq text (codes "MOMM") then Some (commands.Unit units.Mm true)
    else if bytes_eq text (codes "MOIN") then Some (commands.Unit units.Inch true)
    else None

-- LPD or LPC
abbrev pub polarity_of : List ℕ → Option Command
polarity_of text =
    if bytes_eq text (codes "LPD") then Some (commands.Polarity true)
    else if bytes_eq text (codes "LPC") then Some (commands.Polarity false)
    else None

-- LMN, LMX, LMY or LMXY
abbrev pub mirror_of : List ℕ → Option Command
mirror_of text =
    if bytes_eq text (codes "LMN") then Some (commands.Mirror mirrors.Keep)
    else if bytes_eq text (codes "LMX") then Some (commands.Mirror mirrors.X)
    else if bytes_eq text (codes "LMY") then Some (commands.Mirror mirrors.Y)
    else if bytes_eq text (codes "LMXY") then Some (commands.Mirror mirrors.Xy)
    else None

-- an angle that is read, in the first turn
abbrev pub turned : {E : Type 0} → Result ℤ E → Option Command
turned (Ok angle) = Some (commands.Rotation (in_turn angle))
turned (Err e) = None

-- LR and an angle in degrees, cut to millionths
unfoldable pub rotation_of : List ℕ → Option Command
rotation_of text = do
  rest ← after (codes "LR") text
  turned (cut_at 6 rest)

-- a scale of exactly 1, or another
abbrev pub scaled : Result ℤ NumError → Option Command
scaled (Ok scale) = Some (if int_eq scale (pos 1) then commands.DeprecatedSetting else commands.Unsupported)
scaled (Err (TooFine decimals)) = Some commands.Unsupported
scaled (Err e) = None

-- LS and a scale
unfoldable pub scale_of : List ℕ → Option Command
scale_of text = do
  rest ← after (codes "LS") text
  scaled (read_at 0 rest)
