-- Which points and cells a part holds, touches and covers. A cell is named by its centre c and half its diagonal h.
use Rattle.std.specs.List.{HoldsAt}
use Rattle.std.specs.Prelude.{ℕ, List, ℤ, pos, ◌+ℤ◌, ◌-ℤ◌, ◌*ℤ◌, ◌≤ℤ◌, int_lt, Bool, not, ◌&&◌, ◌||◌}
use Rattle.board_base.specs.declared.places.Point.{Point}
use Rattle.board_base.specs.Near.{near_of}
use Rattle.board_base.specs.Places.{IsPlace}
use Rattle.poly_area.specs.Area.{area_holds, area_near}
use Rattle.shape_parts.specs.declared.shape.Part.{Part}
use Rattle.shape_parts.specs.declared.shape.Piece.{Piece}
use Rattle.shape_parts.specs.declared.shape.Part.TheVariants.{Disc, Capsule, Area}

-- the width that a cell of half diagonal h adds
unfoldable pub twice : ℤ → ℤ
twice h = pos 2 *ℤ h

-- the width d with h more on each side
unfoldable pub grown : ℤ → ℤ → ℤ
grown d h = d +ℤ pos 2 *ℤ h

-- the width d with h less on each side
unfoldable pub shrunk : ℤ → ℤ → ℤ
shrunk d h = d -ℤ pos 2 *ℤ h

-- the part holds q
abbrev pub part_holds : Point → Part → Bool
part_holds q (Disc c d) = int_lt (pos 0) d && near_of q c c d
part_holds q (Capsule a b d) = int_lt (pos 0) d && near_of q a b d
part_holds q (Area loops) = area_holds q loops

-- grown by h, the part reaches the centre c; an area does by an edge, or by holding c
abbrev pub part_touches : Point → ℤ → Part → Bool
part_touches c h (Disc a d) = int_lt (pos 0) d && near_of c a a (grown d h)
part_touches c h (Capsule a b d) = int_lt (pos 0) d && near_of c a b (grown d h)
part_touches c h (Area loops) = area_near c (twice h) loops || area_holds c loops

-- shrunk by h, the part still reaches the centre c; an area does where no edge comes so near and it holds c
abbrev pub part_covers : Point → ℤ → Part → Bool
part_covers c h (Disc a d) = int_lt (twice h) d && near_of c a a (shrunk d h)
part_covers c h (Capsule a b d) = int_lt (twice h) d && near_of c a b (shrunk d h)
part_covers c h (Area loops) = not (area_near c (twice h) loops) && area_holds c loops

-- a width: at most a metre
pub record IsWidth (d : ℤ) : Type 0 where
  pub low : pos 0 ≤ℤ d
  pub high : d ≤ℤ pos 1000000000

-- a part that a shape may hold: a disc or a capsule at places, of some width, or any area, whose points are places by its own rule
abbrev pub IsPart : Part → Type 0
IsPart (Disc c d) = IsPlace c × IsWidth d
IsPart (Capsule a b d) = IsPlace a × IsPlace b × IsWidth d
IsPart (Area loops) = Unit {0}

-- a piece that a shape may hold
abbrev pub IsPiece : Piece → Type 0
IsPiece p = IsPart p.part

-- the fact holds of piece k
abbrev pub HoldsPiece : List Piece → ℕ → (Piece → Type 0) → Type 0
HoldsPiece pieces k P = HoldsAt P pieces k
