-- Orders of points.
use Rattle.std.specs.Prelude.{◌≡◌, ◌≢◌, ℕ, zero, suc, ◌<◌, ◌≤◌, ◌⊎◌, pos, ◌-ℤ◌, unsigned_abs, max, List, length, slice_index, slice_index_or}
use Rattle.std.specs.List.{range_with_len, All}
use Rattle.std.specs.List.Sorted.{IsPermutation}
use Rattle.board_base.specs.declared.places.Point.{Point}
use Rattle.board_base.specs.Places.{IsPlace, origin}

-- the Chebyshev distance: the greater of the distances in x and in y
unfoldable pub far_of : Point → Point → ℕ
far_of a b = max (unsigned_abs (a.x -ℤ b.x)) (unsigned_abs (a.y -ℤ b.y))

-- the point with an index
abbrev pub point_at : List Point → ℕ → Point
point_at points k = slice_index_or points k origin

-- all points are places of the board, and there are few enough to be numbered
pub record ArePlaces (points : List Point) : Type 0 where
  pub few : length points < 4294967296
  pub each : All IsPlace points

-- the indices of so many points in another order
abbrev pub IsOrder : ℕ → List ℕ → Type 0
IsOrder n order = IsPermutation (range_with_len 0 n) order

-- where the way to entry k begins
abbrev pub place_before : List Point → Point → List ℕ → ℕ → Point
place_before points from order zero = from
place_before points from order (suc k) = point_at points (slice_index order k)

-- p is nearer to the place than q, or as near and its index isn't higher
abbrev pub IsNearer : List Point → Point → ℕ → ℕ → Type 0
IsNearer points place p q = (far_of (point_at points p) place < far_of (point_at points q) place) ⊎ ((far_of (point_at points p) place ≡ far_of (point_at points q) place) × (p ≤ q))

-- each entry is the nearest to the place before it of the indices that stand nowhere earlier, the lower one on a tie
pub record IsNearestOrder (points : List Point) (from : Point) (order : List ℕ) : Type 0 where
  pub order_of : IsOrder (length points) order
  pub nearest : (k other : ℕ) → k < length order → other < length points → ((i : ℕ) → i < k → slice_index order i ≢ other) → IsNearer points (place_before points from order k) (slice_index order k) other

-- there is one nearest order of given points from a place
abbrev pub OneOrder : Type 0
OneOrder = (points : List Point) (from : Point) (one other : List ℕ) → IsNearestOrder points from one → IsNearestOrder points from other → one ≡ other
