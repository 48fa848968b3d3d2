-- The visited cells of a side lie in its frame, and the border and all that is outside is allowed.
use Rattle.std.proofs.Common.{◌≡◌, inl, inr, ℕ, ◌≤◌, ℤ, ◌≤ℤ◌, ◌<ℤ◌, true, false, List, Option, Ok, subst, arith}
use borrow.Author.Differences.{ints}
use Rattle.number_laws.proofs.Tests.{by_bool}
use Rattle.board_base.specs.declared.places.Cell.{Cell}
use Rattle.board_base.specs.Lattice.{dist2}
use Rattle.cell_sets.specs.Contour.{IsAllowed, IsContour}
use Rattle.cell_sets.specs.Passes.{ClearingRows, IsVisitedBy}
use Rattle.cell_sets.proofs.CellLaws.{beside_sym}
use Rattle.cell_grid.specs.declared.frames.Frame.{Frame}
use Rattle.cell_grid.specs.Cells.{in_frame, IsOnBorder}
use Rattle.cell_grid.proofs.CellsLaws.{in_frame_is, in_frame_true, border_of}
use Rattle.copper_cover.proofs.KeptLaws.{kept_law_holds}
use Rattle.shape_parts.specs.declared.shape.Painted.{Painted}
use Rattle.mill_plan.specs.declared.cutting.Cutting.{Cutting}
use Rattle.mill_plan.specs.Cutting.{IsCutting, guard, kept_by, AreClearingRows, IsVisited}
use Rattle.mill_plan.specs.Frame.{IsFrameOf}
use Rattle.mill_plan.specs.Raster.{IsFarAtEdge}
use Rattle.mill_plan.proofs.GuardLaws.{guard_le}
use Rattle.mill_plan.proofs.OneFrame.{box_inside}
use Rattle.mill_plan.proofs.SideLaws.{edge_far}

module _ (k : Cutting) (painted : List Painted) (f : Frame) (ok : IsCutting k) (framed : IsFrameOf k painted (Ok f)) where
  far : IsFarAtEdge (guard k k.last) (kept_by k painted) f
  far = edge_far k painted f framed kept_law_holds

  least : (j : ℕ) (d : ℤ) → j ≤ k.last → guard k k.last <ℤ d → guard k j <ℤ d
  least j d early h = by (guard k j) (guard k k.last) d (guard_le k j k.last ok early) h
    where
      by : (a b c : ℤ) → a ≤ℤ b → b <ℤ c → a <ℤ c
      by a b c h k = omega (arith, ints)

  -- each pass may visit the border, and what is outside
  pub border_free : (j : ℕ) (c : Cell) → j ≤ k.last → IsOnBorder f c → IsAllowed (kept_by k painted) (guard k j) c
  border_free j c early border d on = least j (dist2 c d) early (far.border c d border on)

  pub outside_free : (j : ℕ) (c : Cell) → j ≤ k.last → in_frame f c ≡ false → IsAllowed (kept_by k painted) (guard k j) c
  outside_free j c early out d on = least j (dist2 c d) early (far.outside c d out on)

  pub kept_inside : (c : Cell) → kept_by k painted c ≡ true → in_frame f c ≡ true
  kept_inside c on = far.inside c on

  -- a cell outside has no neighbour that a pass may not visit
  contour_inside : (j : ℕ) (c : Cell) → j ≤ k.last → IsContour (kept_by k painted) (guard k j) c → in_frame f c ≡ true
  contour_inside j c early (here, b, beside, not) =
      by_bool (in_frame f c) (λ there. there) (λ out. absurd (not
      (by_bool (in_frame f b)
      (λ there. border_free j b early (border_of f b c (in_frame_is f b there) out (beside_sym c b beside.beside)))
      (λ gone. outside_free j b early gone))))

  pub visited_inside : (c : Cell) → IsVisited k painted c → in_frame f c ≡ true
  visited_inside c v = by v.0 v.1 v.2
    where
      by : (rows : Option ClearingRows) → AreClearingRows k painted rows → IsVisitedBy (guard k) k.last rows (kept_by k painted) c → in_frame f c ≡ true
      by rows are (inl pass) = contour_inside pass.0 c pass.1.0 pass.1.1
      by rows are (inr row) = in_frame_true f c (box_inside k painted f row.cleared framed (subst (AreClearingRows k painted) row.given are) c row.row.inside)
