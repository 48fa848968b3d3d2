-- What extended commands say. The text is without its star and without line breaks.
use Rattle.std.specs.Prelude.{ℕ, List, codes, Option, Some, None, is_some, Bool, if◌then◌else◌, ◌||◌}
use Rattle.std.specs.Option.{option_or}
use Rattle.text_cut.specs.Split.{after}
use Rattle.gerber_words.specs.declared.commands.Command.{Command}
use Rattle.gerber_words.specs.declared.commands.Command.TheVariants as commands
use Rattle.gerber_words.specs.Settings.{format_of, unit_of, polarity_of, mirror_of, rotation_of, scale_of}
use Rattle.gerber_words.specs.Repeats.{repeat_of}
use Rattle.gerber_words.specs.Definitions.{definition_of, macro_of}
use Rattle.gerber_words.specs.Deprecated.{old_of}

-- the text begins so
abbrev pub begins : List ℕ → List ℕ → Bool
begins start text = is_some (after start text)

-- attributes and names, with anything behind them
abbrev pub is_note : List ℕ → Bool
is_note text =
    begins (codes "TF") text || begins (codes "TA") text || begins (codes "TO") text || begins (codes "TD") text
    || begins (codes "IN") text || begins (codes "LN") text

-- notes, and blocks of apertures
abbrev pub note_of : List ℕ → Option Command
note_of text = if is_note text then Some commands.Ignored else if begins (codes "AB") text then Some commands.Unsupported else None

-- settings
abbrev pub setting_of : List ℕ → Option Command
setting_of text = option_or (format_of text) (option_or (unit_of text) (option_or (polarity_of text) (mirror_of text)))

-- the others but definitions
abbrev pub plain_of : List ℕ → Option Command
plain_of text =
    option_or (note_of text)
    (option_or (setting_of text)
    (option_or (rotation_of text) (option_or (scale_of text) (option_or (repeat_of text) (old_of text)))))

-- an extended command
abbrev pub extended_of : List ℕ → Option Command
extended_of text = option_or (plain_of text) (option_or (macro_of text) (definition_of text))
