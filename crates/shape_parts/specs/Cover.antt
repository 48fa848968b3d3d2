-- Which points are dark, and which cells are kept for them.
use Rattle.std.specs.Prelude.{◌≡◌, ℤ, Bool, true, not, ◌&&◌, List}
use Rattle.board_base.specs.declared.places.Point.{Point}
use Rattle.shape_parts.specs.declared.shape.Painted.{Painted}
use Rattle.shape_parts.specs.Stands.{stands}
use Rattle.board_base.specs.Lattice.{centre_of, cell_of, IsPitch, IsHalfDiagonal}
use Rattle.shape_parts.specs.Shapes.{shape_holds, shape_touches, shape_covers}

-- the last object whose shape holds q is dark
abbrev pub is_dark : Point → List Painted → Bool
is_dark q = stands (λ o. o.dark && shape_holds q o.shape) (λ o. not o.dark && shape_holds q o.shape)

-- a dark object touches the cell round c, and no later clear object covers it
abbrev pub is_kept : Point → ℤ → List Painted → Bool
is_kept c h = stands (λ o. o.dark && shape_touches c h o.shape) (λ o. not o.dark && shape_covers c h o.shape)

-- every dark point lies in a kept cell
abbrev pub CoverLaw : Type 0
CoverLaw =
    (p h : ℤ) (painted : List Painted) (q : Point) → IsPitch p → IsHalfDiagonal p h → is_dark q painted ≡ true → is_kept (centre_of p (cell_of p q)) h painted ≡ true
