-- What is said of copies in one tile is said of the board.
use Rattle.std.proofs.Common.{◌≡◌, ◌≢◌, ℕ, ◌<◌, ℤ, pos, ◌+ℤ◌, ◌*ℤ◌, List, [], ◌∷◌, refl, sym, subst, ◌∙◌, arith}
use Rattle.std.specs.List.{Contains}
use Rattle.std.proofs.lemmas.Int.{ints}
use Rattle.board_base.specs.declared.places.Cell.{Cell}
use Rattle.cell_sets.specs.Chains.{IsLinkedOver}
use Rattle.cell_sets.specs.Groups.{AreJoined, IsListedPair}
use Rattle.mill_program.specs.declared.cuts.Corner.{Corner}
use Rattle.tiling.specs.Tiles.{cut_in}
use Rattle.tiling.specs.Copies.{Tile, first_tile, tiles_of, shift_in, cell_in}
use Rattle.side_runs.specs.Alone.{alone}
use Rattle.side_runs.specs.Sides.{AreJoinedIn}
use Rattle.side_runs.proofs.AloneLaws.{none_far, the_first, here}

-- ---- the first tile

not_shifted : (p x : ℤ) → x +ℤ pos 0 *ℤ p ≡ x
not_shifted p x = omega (arith, ints)

-- one tile in one row is the board's own
pub only_tile : (step : Tile) → tiles_of 1 1 step ≡ alone
unfolding tiles_of
only_tile step i = record { east = none_far step.east i; north = none_far step.north i } ∷ []

-- ---- cells, islands and cuts

-- where islands that free cells join stand in one group, they do so in the one tile
pub parted_alone : (Free : Cell → Type 0) (number : Cell → ℕ) (groups : List (List ℕ)) → ((u v : ℕ) → 0 < u → 0 < v → u ≢ v → AreJoined Free number u v → IsListedPair groups u v)
    → (s t : Tile) (u v : ℕ) → Contains alone s → Contains alone t → 0 < u → 0 < v → AreJoinedIn Free number s u t v → (s ≡ t) × (u ≢ v → IsListedPair groups u v)
parted_alone Free number groups parts s t u v s_in t_in su sv joined = (
  sym (the_first s s_in) ∙ the_first t t_in,
  λ ne. parts u v su sv ne (
    joined.0,
    joined.1,
    (
      joined.2,
      joined.3,
      subst (λ (x : Cell). IsLinkedOver Free x joined.1) (here s s_in joined.0) (subst (λ (x : Cell). IsLinkedOver Free (cell_in s joined.0) x) (here t t_in joined.1) joined.4),
    ),
  ),
)

pub cut_alone : (p : ℤ) (cut : List Corner) → cut_in (shift_in p first_tile) cut ≡ cut
cut_alone p [] = refl
cut_alone p (c ∷ cut) = λ i. record { x = not_shifted p c.x i; y = not_shifted p c.y i; z = c.z } ∷ cut_alone p cut i
