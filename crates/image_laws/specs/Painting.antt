-- The image in the words of the format: the objects in order, with each repeat replaced by its copies. `past` has the
-- commands before a place, the nearest first.
use Rattle.std.specs.Prelude.{◌≡◌, ℕ, Bool, true, false, List, [], ◌∷◌, ◌++◌, Some, None, ⊤}
use Rattle.shape_parts.specs.declared.shape.Painted.{Painted}
use Rattle.gerber_image.specs.InForce.{in_force, repeat_at}
use Rattle.gerber_image.specs.Regions.{region_of}
use Rattle.gerber_image.specs.Image.{object_of, outline_at, painted_by, copies_of}
use Rattle.gerber_image.specs.declared.repeat.Repeat.{Repeat}
use Rattle.gerber_words.specs.declared.commands.Command.{Command}
use Rattle.gerber_words.specs.declared.commands.Command.TheVariants as commands

-- SR, alone or with counts
abbrev pub is_repeat : Command → Bool
is_repeat (commands.OpenRepeat columns rows dx dy) = true
is_repeat commands.CloseRepeat = true
is_repeat _ = false

-- none of these commands is one
abbrev pub HasNoRepeat : List Command → Type 0
HasNoRepeat [] = ⊤
HasNoRepeat (command ∷ nearer) = (is_repeat command ≡ false) × HasNoRepeat nearer

-- the object of a command behind those of `past`, if it has one
abbrev pub object_at : List Command → Command → List Painted
object_at past (commands.Operate o) = object_of (in_force past) o
object_at past commands.EndRegion = region_of (in_force past).dark (outline_at past) ∷ []
object_at past _ = []

-- the objects of the commands of `nearer`, in their order
abbrev pub objects_of : List Command → List Command → List Painted
objects_of past [] = []
objects_of past (command ∷ nearer) = objects_of past nearer ++ object_at (nearer ++ past) command

pub record ImageLaw : Type 0 where
  -- where no repeat is open, commands paint their objects
  pub plain : (nearer past : List Command) → HasNoRepeat nearer → repeat_at past ≡ None → painted_by (nearer ++ past) ≡ painted_by past ++ objects_of past nearer
  -- the SR that closes a repeat paints the copies of the objects since the one that opened it
  pub closed : (nearer past : List Command) (columns rows dx dy : ℕ) (r : Repeat) → HasNoRepeat nearer → repeat_at (commands.OpenRepeat columns rows dx dy ∷ past) ≡ Some r
      → painted_by (commands.CloseRepeat ∷ nearer ++ commands.OpenRepeat columns rows dx dy ∷ past) ≡ painted_by (commands.OpenRepeat columns rows dx dy ∷ past) ++ copies_of r (objects_of (commands.OpenRepeat columns rows dx dy ∷ past) nearer)
  -- and so does the SR that opens the next one
  pub reopened : (nearer past : List Command) (columns rows dx dy columns' rows' dx' dy' : ℕ) (r : Repeat) → HasNoRepeat nearer → repeat_at (commands.OpenRepeat columns rows dx dy ∷ past) ≡ Some r
      → painted_by (commands.OpenRepeat columns' rows' dx' dy' ∷ nearer ++ commands.OpenRepeat columns rows dx dy ∷ past) ≡ painted_by (commands.OpenRepeat columns rows dx dy ∷ past) ++ copies_of r (objects_of (commands.OpenRepeat columns rows dx dy ∷ past) nearer)
