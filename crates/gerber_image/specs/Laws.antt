-- Laws of what is in force and of what bytes stand for.
use Rattle.std.specs.Prelude.{◌≡◌, ℕ, List, [], ◌∷◌, ◌++◌, Option, Some, None, ⊤}
use Rattle.gerber_image.specs.InForce.{last_set, sets_format, sets_unit, sets_dark, sets_mirror, sets_angle, sets_mode, sets_multi_quadrant, sets_region, sets_selected, sets_act, sets_aperture, sets_x, sets_y, sets_repeat, format_at, unit_at, macros_at, sets_macro}
use Rattle.apertures.specs.Defined.{macro_named}
use Rattle.gerber_image.specs.Checks.{held}
use Rattle.gerber_image.specs.State.{after}
use Rattle.gerber_image.specs.Gerber.{Outcome, StandsFor}
use Rattle.gerber_words.specs.declared.commands.Command.{Command}

-- none of these commands, the nearest first, sets the thing; behind them stand those of `past`
abbrev pub NoneSets : {A : Type 0} → (List Command → Command → Option A) → List Command → List Command → Type 0
NoneSets sets past [] = ⊤
NoneSets sets past (command ∷ nearer) = (sets (nearer ++ past) command ≡ None) × NoneSets sets past nearer

-- what a command has set is what the last one has set, until another one sets the thing
abbrev pub StaysSet : {A : Type 0} → (List Command → Command → Option A) → Type 0
StaysSet {A} sets = (nearer past : List Command) (command : Command) (value : A) → sets past command ≡ Some value → NoneSets sets (command ∷ past) nearer → last_set sets (nearer ++ command ∷ past) ≡ Some value

-- the same of each thing that may be in force
pub record EachStaysSet : Type 0 where
  pub format : StaysSet (λ _. sets_format)
  pub unit : StaysSet (λ _. sets_unit)
  pub dark : StaysSet (λ _. sets_dark)
  pub mirror : StaysSet (λ _. sets_mirror)
  pub angle : StaysSet (λ _. sets_angle)
  pub mode : StaysSet (λ _. sets_mode)
  pub multi_quadrant : StaysSet (λ _. sets_multi_quadrant)
  pub region : StaysSet (λ _. sets_region)
  pub selected : StaysSet (λ _. sets_selected)
  pub macro : (name : List ℕ) → StaysSet (λ _. sets_macro name)
  pub aperture : (number : ℕ) → StaysSet (λ past. sets_aperture number (unit_at past) (macros_at past))
  pub x : StaysSet (λ past. sets_x (format_at past) (unit_at past))
  pub y : StaysSet (λ past. sets_y (format_at past) (unit_at past))
  pub act : StaysSet (λ _. sets_act)
  pub repeat : StaysSet (λ past. sets_repeat (unit_at past))

-- the last definition of a name counts
abbrev pub LastMacroCounts : Type 0
LastMacroCounts = (past : List Command) (name : List ℕ) → macro_named name (macros_at past) ≡ last_set (λ _. sets_macro name) past

-- what is kept behind a command is what is in force there, with the contours, the block and the image
abbrev pub KeepsPace : Type 0
KeepsPace = (past : List Command) (command : Command) → after (held past) command ≡ held (command ∷ past)

-- bytes stand for one thing at most
abbrev pub OneOutcome : Type 0
OneOutcome = (bytes : List ℕ) (a b : Outcome) → StandsFor bytes a → StandsFor bytes b → a ≡ b
