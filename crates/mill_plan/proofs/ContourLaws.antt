-- The contour of the first pass on a grid over its image's frame.
use Rattle.std.proofs.Common.{◌≡◌, ◌↔◌, Bool, true, List, sym, subst}
use Rattle.board_base.specs.declared.places.Cell.{Cell}
use Rattle.cell_sets.specs.Contour.{IsContour}
use Rattle.cell_grid.specs.declared.frames.Frame.{Frame}
use Rattle.cell_grid.specs.declared.frames.GridError.{GridError}
use Rattle.cell_grid.specs.declared.frames.GridError.TheVariants.{PastReach, TooWide, TooManyCells, Memory as GridMemory}
use Rattle.cell_grid.specs.Grid.{Grid}
use Rattle.cell_grid.specs.Cells.{in_plane}
use Rattle.shape_parts.specs.declared.shape.Painted.{Painted}
use Rattle.mill_plan.specs.declared.cutting.Cutting.{Cutting}
use Rattle.mill_plan.specs.declared.limits.LimitHit.TheVariants.{Islands}
use Rattle.mill_plan.specs.declared.limits.PlanError.TheVariants.{Limit}
use Rattle.mill_plan.specs.Cutting.{guard, kept_by}
use Rattle.mill_plan.specs.Frame.{error_of}
use Rattle.mill_plan.proofs.SideLaws.{same_test}

-- no frame is refused for its islands
pub no_islands : (e : GridError) → error_of e ≡ Limit Islands → ⊥
no_islands (PastReach v) e = cc
no_islands (TooWide s) e = cc
no_islands (TooManyCells n) e = cc
no_islands GridMemory e = cc

-- the contour of the grid's kept cells is that of the image's
pub contour_of : (k : Cutting) (painted : List Painted) (a b : Grid) → b.frame ≡ a.frame → ((c : Cell) → in_plane a.frame a.kept c ≡ kept_by k painted c)
    → ((c : Cell) → in_plane a.frame b.pass c ≡ true ↔ IsContour (in_plane a.frame a.kept) (guard k 0) c) → (c : Cell) → in_plane b.frame b.pass c ≡ true ↔ IsContour (kept_by k painted) (guard k 0) c
contour_of k painted a b frame kept contour =
    subst (λ (f : Frame). (c : Cell) → in_plane f b.pass c ≡ true ↔ IsContour (kept_by k painted) (guard k 0) c) (sym frame)
    (subst (λ (t : Cell → Bool). (c : Cell) → in_plane a.frame b.pass c ≡ true ↔ IsContour t (guard k 0) c) (same_test (in_plane a.frame a.kept) (kept_by k painted) kept) contour)
