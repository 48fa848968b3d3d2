-- The parts that the primitives of a macro paint. Values are in 10^-9 of the unit, in the order of their fields.
use Rattle.std.specs.Prelude.{ℕ, ◌+◌, ◌*◌, ℤ, pos, neg_ℤ, ◌*ℤ◌, int_le, List, [], ◌∷◌, ◌++◌, map, Bool, true, false, if◌then◌else◌, ◌==◌, Option, Some, None, Result, Ok, Err}
use Rattle.std.specs.List.{All, range_with_len}
use Rattle.board_base.specs.Binds.{◌>>=◌}
use Rattle.board_base.specs.declared.places.Point.{Point}
use Rattle.fixed_num.specs.Rounding.{round_div_of}
use Rattle.plane_arcs.specs.Turned.{rotated, point_at}
use Rattle.plane_arcs.specs.Vectors.{vector, added, vector_length}
use Rattle.plane_arcs.specs.Arcs.{points_round}
use Rattle.shape_parts.specs.declared.shape.Part.{Part}
use Rattle.shape_parts.specs.declared.shape.Part.TheVariants.{Disc, Area}
use Rattle.shape_parts.specs.declared.shape.Piece.{Piece}
use Rattle.macro_eval.specs.declared.machine.Primitive.{Primitive}
use Rattle.macro_eval.specs.Values.{IsValue}
use Rattle.macro_eval.specs.Fields.{field}
use Rattle.apertures.specs.declared.aperture.ApertureError.{ApertureError}
use Rattle.apertures.specs.declared.aperture.ApertureError.TheVariants.{OutOfRange}
use Rattle.fixed_num.specs.declared.units.Unit.{Unit}
use Rattle.fixed_num.specs.declared.units.Unit.TheVariants.{Mm, Inch}
use Rattle.apertures.specs.Outlines.{at, corners, vertices}
use Rattle.apertures.specs.Texts.{not_below, width_of, count_of, turn_of}

-- values that a macro may have
abbrev pub HasValues : Primitive → Type 0
HasValues p = All IsValue p.values

-- a value as a length in whole nanometres: the nearest, half away from zero
unfoldable pub length_at : Unit → ℤ → ℤ
length_at Mm v = round_div_of v (pos 1000)
length_at Inch v = round_div_of (v *ℤ pos 254) (pos 10000)

-- the point of fields k and k + 1
abbrev pub point_in : Unit → List ℤ → ℕ → Point
point_in unit values k = at (length_at unit (field values k)) (length_at unit (field values (k + 1)))

-- the size of field k, at most a metre
abbrev pub size_in : Unit → List ℤ → ℕ → Result ℤ ApertureError
size_in unit values k = do
  size ← not_below (field values k)
  width_of unit size

-- the number of points or vertices of field 1
abbrev pub count_in : ℕ → List ℤ → Result ℕ ApertureError
count_in most values = do
  size ← not_below (field values 1)
  count_of most size

-- a point that is there, or one past the range
abbrev pub in_range_or : Option Point → Result Point ApertureError
in_range_or None = Err OutOfRange
in_range_or (Some p) = Ok p

-- The point turned about the macro's origin, where it is then in the range. Where it was before doesn't count;
-- whole turns leave it.
abbrev pub turned_point : ℕ → Point → Result Point ApertureError
turned_point turn p = in_range_or (if turn == 0 then point_at p.x p.y else rotated p (pos turn))

-- all of these points turned, where all are then in the range
abbrev pub turned_points : ℕ → List Point → Result (List Point) ApertureError
turned_points turn [] = Ok []
turned_points turn (p ∷ ps) = do
  q ← turned_point turn p
  qs ← turned_points turn ps
  Ok (q ∷ qs)

-- an area of one loop through these points, turned
abbrev pub turned_area : ℕ → List Point → Result Part ApertureError
turned_area turn points = do
  turned ← turned_points turn points
  Ok (Area (turned ∷ []))

-- the disc of a diameter about a point that is turned
abbrev pub turned_disc : ℕ → Point → ℤ → Result Part ApertureError
turned_disc turn p d = do
  c ← turned_point turn p
  Ok (Disc c d)

-- 1, a circle: exposure, diameter, centre, and where it is given an angle
abbrev pub circle_part : Unit → List ℤ → Result Part ApertureError
circle_part unit values = do
  d ← size_in unit values 1
  turned_disc (turn_of (field values 4)) (point_in unit values 2) d

-- the n points of an outline
abbrev pub outline_points : Unit → List ℤ → ℕ → List Point
outline_points unit values n = map (λ k. point_in unit values (2 * k + 2)) (range_with_len 0 n)

-- 4, an outline: exposure, the number of points, the points and the first one again, and an angle
abbrev pub outline_part : Unit → List ℤ → Result Part ApertureError
outline_part unit values = do
  n ← count_in 5000 values
  turned_area (turn_of (field values (2 * n + 4))) (outline_points unit values n)

-- 5, a polygon: exposure, the number of vertices, the centre, a diameter and an angle. The centre is turned; the
-- vertices stand about it, the first one at the angle.
abbrev pub polygon_part : Unit → List ℤ → Result Part ApertureError
polygon_part unit values = do
  n ← count_in 12 values
  d ← size_in unit values 4
  c ← turned_point (turn_of (field values 5)) (point_in unit values 2)
  turned_area 0 (points_round c (vertices d n (turn_of (field values 5))))

-- a box about a point, turned
abbrev pub turned_box : ℕ → Point → ℤ → ℤ → Result Part ApertureError
turned_box turn p w h = turned_area turn (points_round p (corners w h))

-- 21, a centre line: exposure, a width, a height, the centre and an angle
abbrev pub box_part : Unit → List ℤ → Result Part ApertureError
box_part unit values = do
  w ← size_in unit values 1
  h ← size_in unit values 2
  turned_box (turn_of (field values 5)) (point_in unit values 3) w h

-- from a line to its side at half of a width: half of the width by its way, to the nearest on each axis
unfoldable pub side_of : Point → ℤ → Point
side_of way w =
    at (round_div_of (neg_ℤ way.y *ℤ w) (pos (2 * vector_length way))) (round_div_of (way.x *ℤ w) (pos (2 * vector_length way)))

-- the opposite way
abbrev pub opposite : Point → Point
opposite v = at (neg_ℤ v.x) (neg_ℤ v.y)

-- the four corners of a line: its start and end moved to one side, its end and start moved to the other
unfoldable pub line_corners : Point → Point → Point → List Point
line_corners a b side = added a side ∷ added b side ∷ added b (opposite side) ∷ added a (opposite side) ∷ []

-- a line of a width between two points, turned; none where it has no length
unfoldable pub turned_line : ℕ → Point → Point → ℤ → Result (Option Part) ApertureError
turned_line turn a b w =
    if vector_length (vector a b) == 0 then Ok None
    else do
      part ← turned_area turn (line_corners a b (side_of (vector a b) w))
      Ok (Some part)

-- 20, a vector line: exposure, a width, two points and an angle
abbrev pub line_part : Unit → List ℤ → Result (Option Part) ApertureError
line_part unit values = do
  w ← size_in unit values 1
  turned_line (turn_of (field values 6)) (point_in unit values 2) (point_in unit values 4) w

-- whether a primitive is on
abbrev pub is_on : List ℤ → Bool
is_on values = int_le (pos 1) (field values 0)

-- a part that is on or off
abbrev pub piece : Bool → Part → Piece
piece on part = record { part = part; on = on }

-- the two bars of a cross about a point: as wide as the gap, and as high as it
abbrev pub cross_bars : ℕ → Point → ℤ → ℤ → Result (List Piece) ApertureError
cross_bars turn c gap outer = do
  upright ← turned_box turn c gap outer
  level ← turned_box turn c outer gap
  Ok (piece false upright ∷ piece false level ∷ [])

-- 7, a thermal: the centre, the outer and the inner diameter, the gap and an angle: a disc, and off it an inner disc
-- and the two bars of a cross
abbrev pub thermal_pieces : Unit → List ℤ → Result (List Piece) ApertureError
thermal_pieces unit values = do
  outer ← size_in unit values 2
  inner ← size_in unit values 3
  gap ← size_in unit values 4
  ring ← turned_disc (turn_of (field values 5)) (point_in unit values 0) outer
  hole ← turned_disc (turn_of (field values 5)) (point_in unit values 0) inner
  bars ← cross_bars (turn_of (field values 5)) (point_in unit values 0) gap outer
  Ok (piece true ring ∷ piece false hole ∷ bars)

-- the piece of a part
abbrev pub one_piece : Bool → Result Part ApertureError → Result (List Piece) ApertureError
one_piece on found = do
  part ← found
  Ok (piece on part ∷ [])

-- the piece of a part that may be missing
abbrev pub piece_of_some : Bool → Option Part → List Piece
piece_of_some on None = []
piece_of_some on (Some part) = piece on part ∷ []

-- the same of what is found
abbrev pub line_pieces : Bool → Result (Option Part) ApertureError → Result (List Piece) ApertureError
line_pieces on found = do
  part ← found
  Ok (piece_of_some on part)

-- the pieces of a primitive, by its code
unfoldable pub pieces_of : Unit → Primitive → Result (List Piece) ApertureError
pieces_of unit p =
    if p.code == 1 then one_piece (is_on p.values) (circle_part unit p.values)
    else if p.code == 4 then one_piece (is_on p.values) (outline_part unit p.values)
    else if p.code == 5 then one_piece (is_on p.values) (polygon_part unit p.values)
    else if p.code == 7 then thermal_pieces unit p.values
    else if p.code == 20 then line_pieces (is_on p.values) (line_part unit p.values)
    else one_piece (is_on p.values) (box_part unit p.values)

-- the pieces of all primitives, in order; one that is off takes away from those before it
abbrev pub all_pieces : Unit → List Primitive → Result (List Piece) ApertureError
all_pieces unit [] = Ok []
all_pieces unit (p ∷ ps) = do
  first ← pieces_of unit p
  others ← all_pieces unit ps
  Ok (first ++ others)
