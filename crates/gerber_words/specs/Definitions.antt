-- What definitions of apertures and macros say.
use Rattle.std.specs.Prelude.{ℕ, List, [], ◌∷◌, take, drop, codes, Option, Some, None, if◌then◌else◌, ◌&&◌, ◌==◌, nat_le}
use Rattle.board_base.specs.OptionBinds.{◌>>=◌}
use Rattle.text_cut.specs.Split.{after, halves}
use Rattle.gerber_words.specs.Numerals.{number_of}
use Rattle.text_cut.specs.Digits.{digits_before}
use Rattle.gerber_words.specs.Words.{greatest}
use Rattle.gerber_words.specs.declared.commands.Command.{Command}
use Rattle.gerber_words.specs.declared.commands.Command.TheVariants as commands

-- an aperture's number and its template
abbrev pub defined_in : ℕ → List ℕ → Option Command
defined_in number template = if nat_le 10 number && nat_le number greatest then Some (commands.Define number template) else None

-- ADD, a number and a template
unfoldable pub definition_of : List ℕ → Option Command
definition_of text = do
  rest ← after (codes "ADD") text
  number ← number_of (take (digits_before rest) rest)
  defined_in number (drop (digits_before rest) rest)

-- the macro round the first star: a macro without one has no body, which is as much as a comment
abbrev pub macro_round : List ℕ → Option (List ℕ × List ℕ) → Command
macro_round text None = commands.DefineMacro text (codes "0")
macro_round text (Some cut) = commands.DefineMacro cut.0 cut.1

-- a macro has a name, which goes up to the first star
abbrev pub macro_in : List ℕ → Option Command
macro_in [] = None
macro_in (b ∷ rest) = if b == 42 then None else Some (macro_round (b ∷ rest) (halves 42 (b ∷ rest)))

-- AM
unfoldable pub macro_of : List ℕ → Option Command
macro_of text = do
  rest ← after (codes "AM") text
  macro_in rest
