-- What the texts of commands say.
use Rattle.std.specs.Prelude.{ℕ, Bool, true, false, not, List, Option}
use Rattle.std.specs.List.{filter}
use Rattle.gerber_lexer.specs.Cut.{is_break}
use Rattle.gerber_words.specs.Words.{word_of}
use Rattle.gerber_words.specs.Extended.{extended_of}
use Rattle.gerber_words.specs.declared.commands.Command.{Command}

-- a text without its line breaks
abbrev pub without_breaks : List ℕ → List ℕ
without_breaks text = filter (λ b. not (is_break b)) text

-- what a text says: line breaks don't count in an extended command
abbrev pub command_of : List ℕ → Bool → Option Command
command_of text true = extended_of (without_breaks text)
command_of text false = word_of text
