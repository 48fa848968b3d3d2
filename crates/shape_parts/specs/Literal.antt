-- The definitions in the words that they stand for.
use Rattle.std.specs.Prelude.{◌≡◌, Bool, false, cond, List, [], ◌∷◌, Option, Some, None}
use Rattle.board_base.specs.declared.places.Point.{Point}
use Rattle.shape_parts.specs.declared.shape.Piece.{Piece}
use Rattle.shape_parts.specs.declared.shape.Painted.{Painted}
use Rattle.shape_parts.specs.Parts.{part_holds}
use Rattle.shape_parts.specs.Shapes.{shape_holds}
use Rattle.shape_parts.specs.Cover.{is_dark}

-- the first that is there
abbrev pub else_of : {X : Type 0} → Option X → Option X → Option X
else_of (Some y) o = Some y
else_of None o = o

-- the last member that passes the test
abbrev pub last_that : {X : Type 0} → (X → Bool) → List X → Option X
last_that test [] = None
last_that test (x ∷ xs) = else_of (last_that test xs) (cond (test x) (Some x) None)

-- there is one, and it has the mark
abbrev pub is_there : {X : Type 0} → (X → Bool) → Option X → Bool
is_there mark (Some x) = mark x
is_there mark None = false

-- the definitions in the words that they stand for
pub record Literal : Type 0 where
  pub shape : (q : Point) (pieces : List Piece) → shape_holds q pieces ≡ is_there (λ p. p.on) (last_that (λ p. part_holds q p.part) pieces)
  pub object : (q : Point) (painted : List Painted) → is_dark q painted ≡ is_there (λ o. o.dark) (last_that (λ o. shape_holds q o.shape) painted)
