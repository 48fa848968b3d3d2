-- That an image has one frame, one numbering of its islands, and one list of their groups.
use Rattle.std.specs.Prelude.{◌≡◌, ℕ, Bool, true, List, Result}
use Rattle.board_base.specs.declared.places.Cell.{Cell}
use Rattle.cell_grid.specs.declared.frames.Frame.{Frame}
use Rattle.cell_grid.specs.declared.frames.GridError.{GridError}
use Rattle.cell_sets.specs.Count.{IsListOf}
use Rattle.cell_sets.specs.Groups.{AreGroups}
use Rattle.cell_sets.specs.Islands.{AreIslands}
use Rattle.shape_parts.specs.declared.shape.Painted.{Painted}
use Rattle.mill_plan.specs.declared.cutting.Cutting.{Cutting}
use Rattle.mill_plan.specs.declared.limits.LimitHit.{LimitHit}
use Rattle.mill_plan.specs.Frame.{IsFrameOf, HitsLimit}

pub record OneImage : Type 0 where
  -- an image has one frame, or one refusal of it
  pub frame : (k : Cutting) (painted : List Painted) (a b : Result Frame GridError) → IsFrameOf k painted a → IsFrameOf k painted b → a ≡ b
  -- it passes one limit at most
  pub limit : (k : Cutting) (painted : List Painted) (hit other : LimitHit) → HitsLimit k painted hit → HitsLimit k painted other → other ≡ hit
  -- where the kept cells stand in a list, each has one number of an island
  pub numbers : (kept : Cell → Bool) (cells : List Cell) (p q : Cell → ℕ) (n m : ℕ) → IsListOf (λ c. kept c ≡ true) cells → AreIslands kept p n → AreIslands kept q m
      → (c : Cell) → p c ≡ q c
  -- the groups of numbered islands that free cells join are one list
  pub groups : (free : Cell → Bool) (number : Cell → ℕ) (groups others : List (List ℕ)) → AreGroups (λ c. free c ≡ true) number groups → AreGroups (λ c. free c ≡ true) number others → groups ≡ others
