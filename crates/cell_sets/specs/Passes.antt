-- What several passes visit.
use Rattle.std.specs.Prelude.{◌≡◌, ◌↔◌, ◌⊎◌, ℕ, ◌+◌, ◌<◌, ◌≤◌, ℤ, pos, ◌+ℤ◌, ◌-ℤ◌, ◌*ℤ◌, ◌≤ℤ◌, ◌<ℤ◌, Bool, true, List, Option, Some}
use Rattle.board_base.specs.declared.places.Cell.{Cell}
use Rattle.cell_sets.specs.Contour.{guard_of, IsAllowed, IsContour}
use Rattle.board_base.specs.declared.places.CellBox.{CellBox}
use Rattle.board_base.specs.Lattice.{IsInBox}
use Rattle.cell_sets.specs.Chains.{IsLinkedOver}
use Rattle.cell_sets.specs.Groups.{AreGroups}
use Rattle.cell_sets.specs.Sweep.{IsSwept, IsUnswept}
use Rattle.cell_sets.specs.Cleared.{IsOnClearingRow, stride_of}
use Rattle.cell_sets.specs.Barrier.{IsBarrier}

-- the squared index distance that a cell of pass j must pass: a step farther out for each pass
unfoldable pub guard_at : ℤ → ℤ → ℤ → ℕ → ℤ
guard_at reach step p j = guard_of (reach +ℤ pos j *ℤ step) p

-- the box whose rows are cleared, and the stride from one clearing row to the next
pub record ClearingRows : Type 0 where
  pub inner : CellBox
  pub stride : ℕ

-- on the contour of one of the passes from 0 to `last`
abbrev pub IsOnPass : (ℕ → ℤ) → ℕ → (Cell → Bool) → Cell → Type 0
IsOnPass guard last kept c = (j : ℕ) × ((j ≤ last) × IsContour kept (guard j) c)

-- allowed, and on a clearing row, where rows are cleared
pub record IsCleared (guard : ℤ) (rows : Option ClearingRows) (kept : Cell → Bool) (c : Cell) : Type 0 where
  pub cleared : ClearingRows
  pub given : rows ≡ Some cleared
  pub row : IsOnClearingRow cleared.stride cleared.inner c
  pub allowed : IsAllowed kept guard c

-- on a pass, or cleared
abbrev pub IsVisitedBy : (ℕ → ℤ) → ℕ → Option ClearingRows → (Cell → Bool) → Cell → Type 0
IsVisitedBy guard last rows kept c = IsOnPass guard last kept c ⊎ IsCleared (guard 0) rows kept c

-- the test says which cells the first pass allows
abbrev pub IsAllowedTest : ℤ → ℤ → ℤ → (Cell → Bool) → (Cell → Bool) → Type 0
IsAllowedTest reach step p kept allowed = (c : Cell) → allowed c ≡ true ↔ IsAllowed kept (guard_at reach step p 0) c

-- the visited cells of any passes and rows are allowed, and part what all allowed cells part
abbrev pub Passes : Type 0
Passes =
    (p reach step : ℤ) (last : ℕ) (rows : Option ClearingRows) (kept allowed visited : Cell → Bool) → pos 0 <ℤ p → pos 0 ≤ℤ reach → pos 0 ≤ℤ step
    → IsAllowedTest reach step p kept allowed → ((c : Cell) → visited c ≡ true ↔ IsVisitedBy (guard_at reach step p) last rows kept c)
    → IsBarrier allowed visited kept

-- from kept cells the same chains lead past what the passes and rows sweep as past what all allowed cells sweep
abbrev pub PassesPart : Type 0
PassesPart =
    (p reach step : ℤ) (w last : ℕ) (rows : Option ClearingRows) (kept allowed : Cell → Bool) → pos 0 <ℤ p → pos 0 ≤ℤ reach → pos 0 ≤ℤ step → IsAllowedTest reach step p kept allowed
    → (a b : Cell) → kept a ≡ true
    → IsLinkedOver (IsUnswept w (IsVisitedBy (guard_at reach step p) last rows kept)) a b ↔ IsLinkedOver (IsUnswept w (IsAllowed kept (guard_at reach step p 0))) a b

-- so the groups past these are the groups past all allowed cells
abbrev pub PassesGroup : Type 0
PassesGroup =
    (p reach step : ℤ) (w last : ℕ) (rows : Option ClearingRows) (kept allowed : Cell → Bool) (number : Cell → ℕ) (groups : List (List ℕ)) → pos 0 <ℤ p → pos 0 ≤ℤ reach → pos 0 ≤ℤ step
    → IsAllowedTest reach step p kept allowed → ((c : Cell) → 0 < number c → kept c ≡ true)
    → AreGroups (IsUnswept w (IsVisitedBy (guard_at reach step p) last rows kept)) number groups → AreGroups (IsUnswept w (IsAllowed kept (guard_at reach step p 0))) number groups

-- where rows at the stride are cleared, the visited cells sweep each cell of the box that all allowed cells sweep
abbrev pub RowsClear : Type 0
RowsClear =
    (p h r reach step : ℤ) (overlap w last : ℕ) (inner : CellBox) (kept allowed : Cell → Bool) → pos 0 <ℤ p → h <ℤ r → ((r -ℤ h) *ℤ (r -ℤ h)) <ℤ (pos (w + 1) *ℤ (p *ℤ p))
    → IsAllowedTest reach step p kept allowed → (c : Cell) → IsInBox inner c → IsSwept w (IsAllowed kept (guard_at reach step p 0)) c
    → IsSwept w (IsVisitedBy (guard_at reach step p) last (Some (record { inner = inner; stride = stride_of p h r overlap })) kept) c
