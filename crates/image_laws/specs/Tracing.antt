-- The contours of a region in the words of the format. `past` has the commands before a place, the nearest first.
use Rattle.std.specs.Prelude.{◌≡◌, Bool, true, false, List, [], ◌∷◌, ◌++◌, Option, Some, ⊤}
use Rattle.std.specs.Option.{option_or}
use Rattle.board_base.specs.declared.places.Point.{Point}
use Rattle.apertures.specs.Defined.{at}
use Rattle.gerber_image.specs.InForce.{InForce, in_force, region_at}
use Rattle.gerber_image.specs.Routes.{place_after, route, added}
use Rattle.gerber_image.specs.Regions.{contours_of}
use Rattle.gerber_image.specs.Image.{outline_at}
use Rattle.gerber_words.specs.declared.commands.Act.{Act}
use Rattle.gerber_words.specs.declared.commands.Act.TheVariants as acts
use Rattle.gerber_words.specs.declared.commands.Operation.{Operation}
use Rattle.gerber_words.specs.declared.commands.Command.{Command}
use Rattle.gerber_words.specs.declared.commands.Command.TheVariants as commands

-- a move
abbrev pub is_move : Option Act → Bool
is_move (Some acts.Move) = true
is_move _ = false

-- G36, G37 or a move
abbrev pub ends_contour : List Command → Command → Bool
ends_contour past commands.BeginRegion = true
ends_contour past commands.EndRegion = true
ends_contour past (commands.Operate o) = is_move (option_or o.act (in_force past).act)
ends_contour past _ = false

-- none of the commands of `nearer` is one
abbrev pub GoesOn : List Command → List Command → Type 0
GoesOn past [] = ⊤
GoesOn past (command ∷ nearer) = (ends_contour (nearer ++ past) command ≡ false) × GoesOn past nearer

-- the points that an act adds: those of a draw's way but the first
abbrev pub drawn : Option Act → InForce → Operation → List Point
drawn (Some acts.Draw) now o = added (route now o)
drawn _ now o = []

-- the points that a command behind those of `past` adds
abbrev pub points_at : List Command → Command → List Point
points_at past (commands.Operate o) = drawn (option_or o.act (in_force past).act) (in_force past) o
points_at past _ = []

-- the points that the commands of `nearer` add, in their order
abbrev pub points_of : List Command → List Command → List Point
points_of past [] = []
points_of past (command ∷ nearer) = points_of past nearer ++ points_at (nearer ++ past) command

pub record RegionLaw : Type 0 where
  -- the first contour of a region: the current point, and what the draws behind G36 add
  pub first : (nearer past : List Command) → GoesOn (commands.BeginRegion ∷ past) nearer
      → outline_at (nearer ++ commands.BeginRegion ∷ past)
      ≡ record { ended = []; points = at (in_force past).x (in_force past).y ∷ points_of (commands.BeginRegion ∷ past) nearer }
  -- each further contour: the place of a move, and what the draws behind it add; the contours before it are those before the move
  pub next : (nearer past : List Command) (o : Operation) → region_at past ≡ true → option_or o.act (in_force past).act ≡ Some acts.Move → GoesOn (commands.Operate o ∷ past) nearer
      → outline_at (nearer ++ commands.Operate o ∷ past)
      ≡ record { ended = contours_of (outline_at past); points = place_after (in_force past) o ∷ points_of (commands.Operate o ∷ past) nearer }
