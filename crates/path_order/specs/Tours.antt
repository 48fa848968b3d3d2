-- Tours: orders that are swept until no reversal of a stretch shortens them.
use Rattle.std.specs.Prelude.{◌≡◌, ℕ, zero, suc, ◌+◌, ◌-◌, ◌<◌, ◌≤◌, nat_lt, true, false, cond, List, [], ◌∷◌, ◌++◌, length, map, take, drop, reverse}
use Rattle.board_base.specs.declared.places.Point.{Point}
use Rattle.board_base.specs.Places.{origin}
use Rattle.path_order.specs.declared.tours.Sweeps.{Sweeps}
use Rattle.path_order.specs.Orders.{far_of, point_at, IsNearestOrder}

-- the sum of the distances of successive points
abbrev pub travel_of : List Point → ℕ
travel_of [] = 0
travel_of (a ∷ []) = 0
travel_of (a ∷ b ∷ points) = far_of a b + travel_of (b ∷ points)

-- the travel of the points in an order
abbrev pub way_of : List Point → List ℕ → ℕ
way_of points order = travel_of (map (point_at points) order)

-- the list with the entries i to j turned round
unfoldable pub turned : {X : Type 0} → ℕ → ℕ → List X → List X
turned i j xs = take i xs ++ (reverse (take (j + 1 - i) (drop i xs)) ++ drop (j + 1) xs)

-- the order with the stretch from i to j turned round where that shortens the travel
unfoldable pub tried : List Point → ℕ → ℕ → List ℕ → List ℕ
tried points i j order = cond (nat_lt (way_of points (turned i j order)) (way_of points order)) (turned i j order) order

-- what the stretches leave that begin at i and end at j or later, so many, each tried in its turn
abbrev pub tries : List Point → ℕ → ℕ → ℕ → List ℕ → List ℕ
tries points i j zero order = order
tries points i j (suc n) order = tries points i (j + 1) n (tried points i j order)

-- what the stretches leave that begin at i or later, for so many beginnings, in a list of this size
abbrev pub rows : List Point → ℕ → ℕ → ℕ → List ℕ → List ℕ
rows points size i zero order = order
rows points size i (suc n) order = rows points size (i + 1) n (tries points i (i + 1) (size - (i + 1)) order)

-- the sweep: what all stretches leave
unfoldable pub swept : List Point → List ℕ → List ℕ
swept points order = rows points (length order) 0 (length order) order

-- so many sweeps
abbrev pub swept_times : List Point → ℕ → List ℕ → List ℕ
swept_times points zero order = order
swept_times points (suc k) order = swept points (swept_times points k order)

-- the order is swept from the start until a sweep shortens nothing, or until 64 sweeps shortened it
pub record IsTour (points : List Point) (start order : List ℕ) (sweeps : Sweeps) : Type 0 where
  pub ends : order ≡ swept_times points sweeps.shortened start
  pub shorter : (k : ℕ) → k < sweeps.shortened → way_of points (swept_times points (k + 1) start) < way_of points (swept_times points k start)
  pub settled : sweeps.stable ≡ true → (sweeps.shortened < 64) × (way_of points order ≤ way_of points (swept points order))
  pub cut_off : sweeps.stable ≡ false → sweeps.shortened ≡ 64

-- no reversal of a stretch shortens the travel
abbrev pub IsSettled : List Point → List ℕ → Type 0
IsSettled points order = (i j : ℕ) → i < j → j < length order → way_of points order ≤ way_of points (turned i j order)

-- the tour from the nearest order, and what is gained: at least one for each sweep
pub record IsImproved (points : List Point) (order : List ℕ) (sweeps : Sweeps) : Type 0 where
  pub start : List ℕ
  pub nearest : IsNearestOrder points origin start
  pub tour : IsTour points start order sweeps
  pub gained : way_of points order + sweeps.shortened ≤ way_of points start

-- there is one tour of given points
abbrev pub OneTour : Type 0
OneTour = (points : List Point) (one other : List ℕ) (often oft : Sweeps) → IsImproved points one often → IsImproved points other oft → (one ≡ other) × (often ≡ oft)
