-- What groups say of pairs of islands, and where tests may differ.
use Rattle.std.specs.Prelude.{◌≡◌, ◌≢◌, ◌↔◌, ℕ, ◌<◌, Bool, true, false, List}
use Rattle.board_base.specs.declared.places.Cell.{Cell}
use Rattle.cell_grid.specs.declared.frames.Frame.{Frame}
use Rattle.cell_grid.specs.Cells.{in_frame, IsOnBorder}
use Rattle.cell_sets.specs.Chains.{IsLinked}
use Rattle.cell_sets.specs.Groups.{AreGroups, IsListedPair, AreJoined}

-- a pair of islands stands in some group exactly where a chain of free cells joins it
abbrev pub PairLaw : Type 0
PairLaw =
    (free : Cell → Bool) (number : Cell → ℕ) (groups : List (List ℕ)) → AreGroups (λ c. free c ≡ true) number groups → (u v : ℕ) → 0 < u → 0 < v → u ≢ v
    → IsListedPair groups u v ↔ AreJoined (λ c. free c ≡ true) number u v

-- the tests agree on the cells of the frame, and no cell of its border is free
pub record AgreeInside (f : Frame) (t u : Cell → Bool) : Type 0 where
  pub agree : (c : Cell) → in_frame f c ≡ true → t c ≡ u c
  pub border : (c : Cell) → IsOnBorder f c → t c ≡ false

-- by such tests the same chains begin in the frame, whatever they say of the cells outside
abbrev pub InnerChains : Type 0
InnerChains = (f : Frame) (t u : Cell → Bool) → AgreeInside f t u → (a b : Cell) → in_frame f a ≡ true → IsLinked t a b ↔ IsLinked u a b

-- and the islands of the frame stand in the same groups
abbrev pub InnerGroups : Type 0
InnerGroups =
    (f : Frame) (t u : Cell → Bool) (number : Cell → ℕ) (groups : List (List ℕ)) → AgreeInside f t u → ((c : Cell) → in_frame f c ≡ false → number c ≡ 0)
    → AreGroups (λ c. t c ≡ true) number groups → AreGroups (λ c. u c ≡ true) number groups
