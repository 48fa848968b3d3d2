-- The rectangle round what is dark, and where the kept cells lie.
use Rattle.std.specs.Prelude.{◌≡◌, ℤ, pos, ◌-ℤ◌, ◌≤ℤ◌, Bool, true, not, cond, ◌&&◌, ◌||◌, List, Option, Some, None}
use Rattle.std.specs.List.{fold}
use Rattle.board_base.specs.declared.places.Point.{Point}
use Rattle.board_base.specs.declared.places.Bounds.{Bounds}
use Rattle.shape_parts.specs.declared.shape.Painted.{Painted}
use Rattle.board_base.specs.declared.places.Cell.{Cell}
use Rattle.board_base.specs.Lattice.{centre_of, half_diagonal_of}
use Rattle.shape_parts.specs.Shapes.{shape_touches, shape_covers}
use Rattle.shape_parts.specs.Boxes.{hull, shape_box}
use Rattle.shape_parts.specs.BoxLaw.{Has}
use Rattle.shape_parts.specs.Cover.{is_kept}

-- the objects keep the cell
unfoldable pub keeps : ℤ → List Painted → Cell → Bool
keeps pitch painted c = is_kept (centre_of pitch c) (half_diagonal_of pitch) painted

-- an object painted over a cell keeps what it touches, where it is dark, and takes away what it covers, where it is clear
abbrev pub kept_after : Point → ℤ → Bool → Painted → Bool
kept_after c h kept o = (o.dark && shape_touches c h o.shape) || (kept && not (not o.dark && shape_covers c h o.shape))

-- the same of a cell of the lattice
unfoldable pub keeps_after : ℤ → Bool → Painted → Cell → Bool
keeps_after pitch kept o c = kept_after (centre_of pitch c) (half_diagonal_of pitch) kept o

-- the least rectangle that holds both, where there are two
abbrev pub joined : Option Bounds → Option Bounds → Option Bounds
joined None w = w
joined (Some a) None = Some a
joined (Some a) (Some b) = Some (hull a b)

-- the rectangle grown by a dark object
abbrev pub object_box : Option Bounds → Painted → Option Bounds
object_box box o = cond o.dark (joined box (shape_box o.shape)) box

-- the rectangle round all dark objects
abbrev pub dark_rectangle : List Painted → Option Bounds
dark_rectangle painted = fold object_box None painted

-- a kept cell has its centre in the dark rectangle grown by h
abbrev pub KeptLaw : Type 0
KeptLaw =
    (c : Point) (h : ℤ) (painted : List Painted) → pos 0 ≤ℤ h → is_kept c h painted ≡ true → Has (dark_rectangle painted) c (pos 0 -ℤ h)
