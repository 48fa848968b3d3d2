-- What commands paint.
use Rattle.std.specs.Prelude.{ℕ, ◌+◌, ◌*◌, ℤ, pos, ◌+ℤ◌, Bool, List, [], ◌∷◌, ◌++◌, Option, Some, None, is_none, Result, Ok, if◌then◌else◌, map}
use Rattle.std.specs.Option.{option_or}
use Rattle.std.specs.List.{flat_map, range_with_len}
use Rattle.board_base.specs.declared.places.Point.{Point}
use Rattle.plane_arcs.specs.declared.arcs.ArcError.{ArcError}
use Rattle.shape_parts.specs.declared.shape.Part.{Part}
use Rattle.shape_parts.specs.declared.shape.Part.TheVariants.{Disc, Capsule, Area}
use Rattle.shape_parts.specs.declared.shape.Piece.{Piece}
use Rattle.shape_parts.specs.declared.shape.Painted.{Painted}
use Rattle.apertures.specs.Figures.{Figure}
use Rattle.shape_parts.specs.Vertices.{vertices_of}
use Rattle.apertures.specs.Defined.{at}
use Rattle.apertures.specs.Placed.{placed}
use Rattle.gerber_image.specs.InForce.{InForce, in_force}
use Rattle.gerber_image.specs.Routes.{place_after, route, added, strokes}
use Rattle.gerber_image.specs.Regions.{Outline, no_outline, contours_of, region_of}
use Rattle.gerber_words.specs.declared.commands.Act.{Act}
use Rattle.gerber_words.specs.declared.commands.Act.TheVariants as acts
use Rattle.gerber_words.specs.declared.commands.Operation.{Operation}
use Rattle.gerber_image.specs.declared.repeat.Repeat.{Repeat}
use Rattle.gerber_words.specs.declared.commands.Command.{Command}
use Rattle.gerber_words.specs.declared.commands.Command.TheVariants as commands

-- the selected aperture
abbrev pub figure_of : Option ℕ → (ℕ → Option Figure) → Option Figure
figure_of (Some number) aperture = aperture number
figure_of None aperture = None

-- the strokes along the points, where the aperture makes strokes
abbrev pub stroked : Bool → Result (List Point) ArcError → Option ℤ → List Painted
stroked dark (Ok points) (Some d) = record { shape = strokes d points; dark = dark } ∷ []
stroked dark _ _ = []

-- the shape of the aperture at a point, mirrored and turned, where it stays in the range
abbrev pub flashed : Bool → Option (List Piece) → List Painted
flashed dark (Some shape) = record { shape = shape; dark = dark } ∷ []
flashed dark None = []

-- what an act paints outside regions
abbrev pub acted : Option Act → InForce → Operation → Option Figure → List Painted
acted (Some acts.Draw) now o (Some figure) = stroked now.dark (route now o) figure.stroke
acted (Some acts.Flash) now o (Some figure) = flashed now.dark (placed (place_after now o) now.mirror (pos now.angle) figure.pieces)
acted _ now o _ = []

-- the object of an operation, if it has one
abbrev pub object_of : InForce → Operation → List Painted
object_of now o = if now.region then [] else acted (option_or o.act now.act) now o (figure_of now.selected now.aperture)

-- the contours behind an act in a region: a move ends one and starts the next, a draw adds its points
abbrev pub traced : Option Act → InForce → Outline → Operation → Outline
traced (Some acts.Draw) now outline o = record { ended = outline.ended; points = outline.points ++ added (route now o) }
traced (Some acts.Move) now outline o = record { ended = contours_of outline; points = place_after now o ∷ [] }
traced _ now outline o = outline

-- The contours of the open region behind a command. The first starts at the current point.
abbrev pub outline_after : InForce → Outline → Command → Outline
outline_after now outline commands.BeginRegion = record { ended = []; points = at now.x now.y ∷ [] }
outline_after now outline commands.EndRegion = no_outline
outline_after now outline (commands.Operate o) = if now.region then traced (option_or o.act now.act) now outline o else outline
outline_after now outline _ = outline

-- a point shifted by whole steps
abbrev pub shifted_point : ℤ → ℤ → Point → Point
shifted_point dx dy p = at (p.x +ℤ dx) (p.y +ℤ dy)

-- the same of a part
abbrev pub shifted_part : ℤ → ℤ → Part → Part
shifted_part dx dy (Disc c d) = Disc (shifted_point dx dy c) d
shifted_part dx dy (Capsule a b d) = Capsule (shifted_point dx dy a) (shifted_point dx dy b) d
shifted_part dx dy (Area loops) = Area (map (map (shifted_point dx dy)) loops)

-- the same of a piece
abbrev pub shifted_piece : ℤ → ℤ → Piece → Piece
shifted_piece dx dy p = record { part = shifted_part dx dy p.part; on = p.on }

-- the same of an object
abbrev pub shifted : ℤ → ℤ → Painted → Painted
shifted dx dy p = record { shape = map (shifted_piece dx dy) p.shape; dark = p.dark }

-- a copy of a block
abbrev pub copy : Repeat → List Painted → ℕ → ℕ → List Painted
copy r block i j = map (shifted (pos (i * r.dx)) (pos (j * r.dy))) block

-- the copies of a block: for each X copy, in it for each Y copy
abbrev pub copies_of : Repeat → List Painted → List Painted
copies_of r block = flat_map (λ i. flat_map (copy r block i) (range_with_len 0 r.rows)) (range_with_len 0 r.columns)

-- the copies of an open repeat
abbrev pub copies : Option Repeat → List Painted → List Painted
copies None block = []
copies (Some r) block = copies_of r block

-- The block of the open repeat behind a command: SR ends it, and an operation or the end of a region adds to it where
-- a repeat is open.
abbrev pub block_after : InForce → Outline → List Painted → Command → List Painted
block_after now outline block (commands.Operate o) = if is_none now.repeat then block else block ++ object_of now o
block_after now outline block commands.EndRegion = if is_none now.repeat then block else block ++ region_of now.dark outline ∷ []
block_after now outline block (commands.OpenRepeat columns rows dx dy) = []
block_after now outline block commands.CloseRepeat = []
block_after now outline block _ = block

-- What is painted behind a command: an operation and the end of a region paint their object where no repeat is open, and
-- SR the copies of the block of an open one.
abbrev pub painted_after : InForce → Outline → List Painted → List Painted → Command → List Painted
painted_after now outline block painted (commands.Operate o) = if is_none now.repeat then painted ++ object_of now o else painted
painted_after now outline block painted commands.EndRegion = if is_none now.repeat then painted ++ region_of now.dark outline ∷ [] else painted
painted_after now outline block painted (commands.OpenRepeat columns rows dx dy) = painted ++ copies now.repeat block
painted_after now outline block painted commands.CloseRepeat = painted ++ copies now.repeat block
painted_after now outline block painted _ = painted

-- the contours of the open region
abbrev pub outline_at : List Command → Outline
outline_at [] = no_outline
outline_at (command ∷ past) = outline_after (in_force past) (outline_at past) command

-- the objects since the open repeat was opened
abbrev pub block_at : List Command → List Painted
block_at [] = []
block_at (command ∷ past) = block_after (in_force past) (outline_at past) (block_at past) command

-- the image of these commands
abbrev pub painted_by : List Command → List Painted
painted_by [] = []
painted_by (command ∷ past) = painted_after (in_force past) (outline_at past) (block_at past) (painted_by past) command

-- how many points the areas of the objects have
abbrev pub vertices_in : List Painted → ℕ
vertices_in [] = 0
vertices_in (p ∷ painted) = vertices_of p.shape + vertices_in painted
