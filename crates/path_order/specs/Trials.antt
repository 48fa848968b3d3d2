-- What the functions of this crate pass to one another.
use Rattle.std.specs.Prelude.{◌≡◌, ℕ, zero, suc, ◌-◌, ◌<◌, ◌≤◌, Bool, true, false, List, [], ◌∷◌, length, Option, MatchOption, slice_index, slice_index_or}
use Rattle.std.specs.List.{All}
use Rattle.board_base.specs.declared.places.Point.{Point}
use Rattle.std.specs.List.Sorted.{IsPermutation}
use Rattle.board_base.specs.Places.{IsPlace}
use Rattle.path_order.specs.declared.tours.Start.{Start}
use Rattle.path_order.specs.Tours.{way_of, turned}
use Rattle.path_order.specs.Orders.{far_of, point_at, IsNearer}

-- the distance from the last of some points to a place, or 0
abbrev pub to_place : List Point → Point → ℕ
to_place [] p = 0
to_place (a ∷ []) p = far_of a p
to_place (a ∷ b ∷ points) p = to_place (b ∷ points) p

-- the distance from a place to the first of some points, or 0
abbrev pub from_place : Point → List Point → ℕ
from_place p [] = 0
from_place p (a ∷ points) = far_of p a

-- the distance to a place from the entry before entry i, or 0
abbrev pub way_from : ℕ → Point → Point → ℕ
way_from zero before p = 0
way_from (suc i) before p = far_of before p

-- where the stretches that begin at i begin: the entry before them, which is i itself where none is, and entry i
pub record IsStart (points : List Point) (order : List ℕ) (i : ℕ) (start : Start) : Type 0 where
  pub before : start.before ≡ point_at points (slice_index order (i - 1))
  pub first : start.first ≡ point_at points (slice_index order i)
  pub way : start.way ≡ way_from i start.before start.first
  pub small : start.way ≤ 1000000000
  pub places : IsPlace start.before × IsPlace start.first

-- whether an index is used
abbrev pub is_used : List Bool → ℕ → Bool
is_used used k = slice_index_or used k true

-- of the indices below n that are not used, the one nearest to the place, the lower one on a tie
pub record IsNearestUnused (points : List Point) (used : List Bool) (place : Point) (n k : ℕ) : Type 0 where
  pub inside : k < n
  pub unused : is_used used k ≡ false
  pub least : (other : ℕ) → other < n → is_used used other ≡ false → IsNearer points place k other

-- that index, or none where all below n are used
abbrev pub IsBest : List Point → List Bool → Point → ℕ → Option ℕ → Type 0
IsBest points used place n best = MatchOption best ((k : ℕ) → k < n → is_used used k ≡ true) (IsNearestUnused points used place n)

-- each entry is the index of a point
abbrev pub AreIndices : List Point → List ℕ → Type 0
AreIndices points order = All (λ k. k < length points) order

-- no stretch that begins at i and ends before `turn` shortens the travel when it is turned round
abbrev pub IsQuietRow : List Point → List ℕ → ℕ → ℕ → Type 0
IsQuietRow points order i turn = (j : ℕ) → i < j → j < turn → way_of points order ≤ way_of points (turned i j order)

-- the same of all stretches that begin before `turn`
abbrev pub IsQuiet : List Point → List ℕ → ℕ → Type 0
IsQuiet points order turn = (i : ℕ) → i < turn → IsQuietRow points order i (length order)

-- what trying some stretches did to an order: it is another order of the same indices, shorter where one was turned round
pub record IsTried (points : List Point) (old new : List ℕ) (any : Bool) : Type 0 where
  pub moved : IsPermutation old new
  pub shorter : any ≡ true → way_of points new < way_of points old
  pub same : any ≡ false → new ≡ old
