-- How texts are cut into a name and values.
use Rattle.std.specs.Prelude.{◌≡◌, ℕ, ◌<◌, List, ◌∷◌, ◌++◌, false, length, Err}
use Rattle.std.specs.List.{All, join_with_byte}
use Rattle.apertures.specs.declared.aperture.ApertureError.TheVariants.{Syntax}
use Rattle.apertures.specs.Texts.{is_comma, is_times, named, template_of, values_of, values_behind}

-- a text without the letter X
abbrev pub IsValueText : List ℕ → Type 0
IsValueText text = All (λ b. is_times b ≡ false) text

-- a name without a comma
abbrev pub IsName : List ℕ → Type 0
IsName name = All (λ b. is_comma b ≡ false) name

-- a name, a comma, and at least one text with the letter X between them
abbrev pub spelled : List ℕ → List (List ℕ) → List ℕ
spelled name texts = name ++ 44 ∷ join_with_byte 88 texts

-- such a text has this name and these values, and a name alone has none
pub record TextLaw : Type 0 where
  pub template : (name : List ℕ) (texts : List (List ℕ)) → IsName name → template_of (spelled name texts) ≡ named name
  pub values : (name : List ℕ) (texts : List (List ℕ)) → IsName name → All IsValueText texts → 0 < length texts → values_behind (spelled name texts) ≡ values_of texts
  pub bare_template : (name : List ℕ) → IsName name → template_of name ≡ named name
  pub bare_values : (name : List ℕ) → IsName name → values_behind name ≡ Err Syntax
