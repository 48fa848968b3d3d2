-- Which cells a cutter may visit, and the border of these.
use Rattle.std.specs.Prelude.{◌≡◌, ℤ, pos, ◌+ℤ◌, ◌-ℤ◌, ◌*ℤ◌, ◌<ℤ◌, Bool, true}
use Rattle.std.specs.Int.{int_div_euclid}
use Rattle.board_base.specs.declared.places.Cell.{Cell}
use Rattle.board_base.specs.Lattice.{dist2, AreNeighbours}

-- how far a centre must stay from the centre of a kept cell: the radius less the tolerance, and twice the half diagonal
unfoldable pub reach_of : ℤ → ℤ → ℤ → ℤ
reach_of radius tolerance h = (radius -ℤ tolerance) +ℤ pos 2 *ℤ h

-- the squared index distance that an allowed cell must pass
unfoldable pub guard_of : ℤ → ℤ → ℤ
guard_of reach pitch = int_div_euclid (reach *ℤ reach) (pitch *ℤ pitch)

-- every kept cell is farther from the cell than the guard
abbrev pub IsAllowed : (Cell → Bool) → ℤ → Cell → Type 0
IsAllowed kept guard c = (k : Cell) → kept k ≡ true → guard <ℤ dist2 c k

-- an allowed cell that has a neighbour which isn't
abbrev pub IsContour : (Cell → Bool) → ℤ → Cell → Type 0
IsContour kept guard c = IsAllowed kept guard c × (b : Cell) × AreNeighbours c b × (IsAllowed kept guard b → ⊥)
