-- Where the cells lie that a shape touches.
use Rattle.std.specs.Prelude.{◌≡◌, ℤ, pos, ◌+ℤ◌, ◌-ℤ◌, ◌≤ℤ◌, true, List, Option, Some, None}
use Rattle.board_base.specs.declared.places.Point.{Point}
use Rattle.board_base.specs.declared.places.Bounds.{Bounds}
use Rattle.shape_parts.specs.declared.shape.Piece.{Piece}
use Rattle.shape_parts.specs.Shapes.{shape_touches}
use Rattle.shape_parts.specs.Boxes.{shape_box}

-- the square of half side r round p lies in the rectangle; with r below 0, p lies in the rectangle grown by -r
pub record HasSquare (b : Bounds) (p : Point) (r : ℤ) : Type 0 where
  pub west : (b.x0 +ℤ r) ≤ℤ p.x
  pub east : (p.x +ℤ r) ≤ℤ b.x1
  pub south : (b.y0 +ℤ r) ≤ℤ p.y
  pub north : (p.y +ℤ r) ≤ℤ b.y1

-- the same, of a rectangle that is there
abbrev pub Has : Option Bounds → Point → ℤ → Type 0
Has None p r = ⊥
Has (Some b) p r = HasSquare b p r

-- a cell that a shape touches has its centre in the shape's rectangle grown by h
abbrev pub BoxLaw : Type 0
BoxLaw =
    (c : Point) (h : ℤ) (pieces : List Piece) → pos 0 ≤ℤ h → shape_touches c h pieces ≡ true → Has (shape_box pieces) c (pos 0 -ℤ h)
