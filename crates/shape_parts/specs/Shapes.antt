-- Which points and cells a shape holds, touches and covers. A later part overrides the earlier ones.
use Rattle.std.specs.Prelude.{ℤ, Bool, not, ◌&&◌, List}
use Rattle.board_base.specs.declared.places.Point.{Point}
use Rattle.shape_parts.specs.declared.shape.Piece.{Piece}
use Rattle.shape_parts.specs.Stands.{stands}
use Rattle.shape_parts.specs.Parts.{part_holds, part_touches, part_covers}

-- the last part that holds q is on
abbrev pub shape_holds : Point → List Piece → Bool
shape_holds q = stands (λ p. p.on && part_holds q p.part) (λ p. not p.on && part_holds q p.part)

-- an on part touches the cell round c, and no later off part covers it
abbrev pub shape_touches : Point → ℤ → List Piece → Bool
shape_touches c h = stands (λ p. p.on && part_touches c h p.part) (λ p. not p.on && part_covers c h p.part)

-- an on part covers the cell round c, and no later off part touches it
abbrev pub shape_covers : Point → ℤ → List Piece → Bool
shape_covers c h = stands (λ p. p.on && part_covers c h p.part) (λ p. not p.on && part_touches c h p.part)
