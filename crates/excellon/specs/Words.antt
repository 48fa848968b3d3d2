-- Lines that are one word, and what is left out.
use Rattle.std.specs.Prelude.{ℕ, List, [], ◌∷◌, length, codes, Option, Some, None, is_some, Bool, true, false, if◌then◌else◌, ◌||◌, ◌==◌}
use Rattle.std.specs.List.{list_all}
use Rattle.std.specs.Str.{bytes_eq}
use Rattle.text_cut.specs.Split.{after}
use Rattle.excellon.specs.declared.line.Said.{Said}
use Rattle.excellon.specs.declared.line.Said.TheVariants as says

-- what the word says that is the whole text, if it is one of these
abbrev pub word_in : List (List ℕ × Said) → List ℕ → Option Said
word_in [] text = None
word_in (word ∷ words) text = if bytes_eq text word.0 then Some word.1 else word_in words text

-- spaces alone, or nothing
abbrev pub is_blank : List ℕ → Bool
is_blank text = list_all (λ b. b == 32) text

-- repeats, arcs, steps in place of coordinates, and the word that asks for them
abbrev pub is_left_out : List ℕ → Bool
is_left_out text = is_some (after (codes "R") text) || is_some (after (codes "G02") text) || is_some (after (codes "G03") text) || is_some (after (codes "G91") text) || bytes_eq text (codes "ICI,ON")

-- the lines before the header
abbrev pub start_words : List (List ℕ × Said)
start_words = (codes "%", says.Ignored) ∷ (codes "M48", says.Begin) ∷ []
