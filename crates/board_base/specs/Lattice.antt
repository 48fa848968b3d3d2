-- The lattice of square cells.
use Rattle.std.specs.Prelude.{◌≡◌, ◌≢◌, ℕ, zero, suc, ◌*◌, ◌≤◌, ◌↔◌, nat_le, ℤ, pos, ◌+ℤ◌, ◌-ℤ◌, ◌*ℤ◌, ◌≤ℤ◌, ◌<ℤ◌, unsigned_abs, Bool, if◌then◌else◌}
use Rattle.std.specs.Int.{int_div_euclid}
use Rattle.board_base.specs.declared.places.Point.{Point}
use Rattle.board_base.specs.declared.places.Cell.{Cell}
use Rattle.board_base.specs.declared.places.CellBox.{CellBox}

-- a pitch of cells in nanometres: even, from 250 to 200,000
pub record IsPitch (p : ℤ) : Type 0 where
  pub even : p ≡ pos 2 *ℤ int_div_euclid p (pos 2)
  pub low : pos 250 ≤ℤ p
  pub high : p ≤ℤ pos 200000

-- half of an even pitch
unfoldable pub half_of : ℤ → ℤ
half_of p = int_div_euclid p (pos 2)

-- the middle of the column or row i
unfoldable pub middle : ℤ → ℤ → ℤ
middle p i = i *ℤ p +ℤ half_of p

-- the centre of a cell
abbrev pub centre_of : ℤ → Cell → Point
centre_of p c = record { x = middle p c.i; y = middle p c.j }

-- the cell so many columns east
abbrev pub east_by : Cell → ℕ → Cell
east_by c k = record { i = c.i +ℤ pos k; j = c.j }

-- a limit for columns and rows: at most 1 m for a coordinate, with 2 m for half of a width beside it
abbrev pub IsLimit : ℤ → Type 0
IsLimit v = unsigned_abs v ≤ 3000000000

-- no column or row at such a limit has a larger index: 3 m and a cell of 0.2 mm, in cells of 250 nm
abbrev pub most_index : ℕ
most_index = 12000801

-- a column or row is at `first` or past it exactly where its middle is at the limit or past it
pub record IsFirst (p limit first : ℤ) : Type 0 where
  pub all : (i : ℤ) → (first ≤ℤ i) ↔ (limit ≤ℤ middle p i)

-- a column or row is at `last` or before it exactly where its middle is at the limit or before it
pub record IsLast (p limit last : ℤ) : Type 0 where
  pub all : (i : ℤ) → (i ≤ℤ last) ↔ (middle p i ≤ℤ limit)

-- the cell that holds a point
abbrev pub cell_of : ℤ → Point → Cell
cell_of p q = record { i = int_div_euclid q.x p; j = int_div_euclid q.y p }

-- one cell, or two that meet at a side or a corner
pub record IsBeside (a b : Cell) : Type 0 where
  pub west : (a.i -ℤ b.i) ≤ℤ pos 1
  pub east : (b.i -ℤ a.i) ≤ℤ pos 1
  pub south : (a.j -ℤ b.j) ≤ℤ pos 1
  pub north : (b.j -ℤ a.j) ≤ℤ pos 1

-- one of the eight cells round the other
pub record AreNeighbours (a b : Cell) : Type 0 where
  pub apart : a ≢ b
  pub beside : IsBeside a b

-- the cell lies in the box, whose ends belong to it
pub record IsInBox (b : CellBox) (c : Cell) : Type 0 where
  pub west : b.i0 ≤ℤ c.i
  pub east : c.i ≤ℤ b.i1
  pub south : b.j0 ≤ℤ c.j
  pub north : c.j ≤ℤ b.j1

-- the squared distance of the indices
unfoldable pub dist2 : Cell → Cell → ℤ
dist2 a b = (a.i -ℤ b.i) *ℤ (a.i -ℤ b.i) +ℤ (a.j -ℤ b.j) *ℤ (a.j -ℤ b.j)

-- the least number up to the bound that passes the test, or the bound
abbrev pub least : (ℕ → Bool) → ℕ → ℕ
least test zero = zero
least test (suc k) = if test (least test k) then least test k else suc k

-- the least whole number whose square, taken twice, is no less than the square of p
unfoldable pub least_diagonal : ℕ → ℕ
least_diagonal p = least (λ h. nat_le (p * p) (2 * (h * h))) p

-- half the diagonal of a cell, rounded up
unfoldable pub half_diagonal_of : ℤ → ℤ
half_diagonal_of p = pos (least_diagonal (unsigned_abs p))

-- h is that number
pub record IsHalfDiagonal (p h : ℤ) : Type 0 where
  pub positive : pos 0 <ℤ h
  pub enough : (p *ℤ p) ≤ℤ (pos 2 *ℤ (h *ℤ h))
  pub least : (pos 2 *ℤ ((h -ℤ pos 1) *ℤ (h -ℤ pos 1))) <ℤ (p *ℤ p)

-- a length that may stand for half the diagonal of a cell
pub record IsCellReach (h : ℤ) : Type 0 where
  pub low : pos 0 <ℤ h
  pub high : h ≤ℤ pos 200000

-- r is the quotient of n by p, rounded down
pub record IsQuotient (n p r : ℤ) : Type 0 where
  pub low : (p *ℤ r) ≤ℤ n
  pub high : n <ℤ (p *ℤ r +ℤ p)
