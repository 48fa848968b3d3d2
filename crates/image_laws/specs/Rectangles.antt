-- The rectangle round a shape, and round what is dark, as the least one round a set of squares.
use Rattle.std.specs.Prelude.{◌≡◌, ℤ, pos, ◌+ℤ◌, ◌-ℤ◌, int_lt, cond, List, [], ◌∷◌, ◌++◌, map, MatchOption}
use Rattle.std.specs.List.{Contains}
use Rattle.board_base.specs.declared.places.Point.{Point}
use Rattle.board_base.specs.declared.places.Bounds.{Bounds}
use Rattle.poly_area.specs.Area.{edges_of}
use Rattle.shape_parts.specs.declared.shape.Part.{Part}
use Rattle.shape_parts.specs.declared.shape.Part.TheVariants.{Disc, Capsule, Area}
use Rattle.shape_parts.specs.declared.shape.Piece.{Piece}
use Rattle.shape_parts.specs.declared.shape.Painted.{Painted}
use Rattle.shape_parts.specs.Boxes.{half_up, shape_box}
use Rattle.shape_parts.specs.BoxLaw.{HasSquare}
use Rattle.copper_cover.specs.Kept.{dark_rectangle}

-- a square: its middle, and half of its side
pub record Square : Type 0 where
  pub middle : Point
  pub half : ℤ

-- the square of this half side round a point
abbrev pub square : Point → ℤ → Square
square p r = record { middle = p; half = r }

-- the squares of a part: round its ends, where it has a width, or the points of an area
abbrev pub squares_of : Part → List Square
squares_of (Disc c d) = cond (int_lt (pos 0) d) (square c (half_up d) ∷ []) []
squares_of (Capsule a b d) = cond (int_lt (pos 0) d) (square a (half_up d) ∷ square b (half_up d) ∷ []) []
squares_of (Area loops) = map (λ e. square e.from (pos 0)) (edges_of loops)

-- those of the parts that are on
abbrev pub squares_in : List Piece → List Square
squares_in [] = []
squares_in (p ∷ pieces) = cond p.on (squares_of p.part) [] ++ squares_in pieces

-- those of the objects that are dark
abbrev pub dark_squares : List Painted → List Square
dark_squares [] = []
dark_squares (o ∷ painted) = cond o.dark (squares_in o.shape) [] ++ dark_squares painted

-- the rectangle holds the squares, and each side of it is one of theirs: it passes none of them, and no less holds them all
pub record IsRound (squares : List Square) (b : Bounds) : Type 0 where
  pub holds : (s : Square) → Contains squares s → HasSquare b s.middle s.half
  pub west : (s : Square) × Contains squares s × (b.x0 ≡ s.middle.x -ℤ s.half)
  pub south : (s : Square) × Contains squares s × (b.y0 ≡ s.middle.y -ℤ s.half)
  pub east : (s : Square) × Contains squares s × (b.x1 ≡ s.middle.x +ℤ s.half)
  pub north : (s : Square) × Contains squares s × (b.y1 ≡ s.middle.y +ℤ s.half)

-- the rectangle of a shape, and the one of what is dark, is the least one round its squares, and there is none exactly
-- where it has no square
pub record RectangleLaw : Type 0 where
  pub shape : (pieces : List Piece) → MatchOption (shape_box pieces) (squares_in pieces ≡ []) (IsRound (squares_in pieces))
  pub dark : (painted : List Painted) → MatchOption (dark_rectangle painted) (dark_squares painted ≡ []) (IsRound (dark_squares painted))
