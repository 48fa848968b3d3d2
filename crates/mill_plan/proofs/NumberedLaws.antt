-- What numbering leaves of a side's grid.
use Rattle.std.proofs.Common.{◌≡◌, ℕ, ◌≤◌, Bool, false, List, Ok, ap, sym, subst}
use Rattle.board_base.specs.declared.places.Cell.{Cell}
use Rattle.cell_sets.specs.Islands.{AreIslands}
use Rattle.cell_grid.specs.declared.frames.Frame.{Frame}
use Rattle.cell_grid.specs.Grid.{Grid}
use Rattle.cell_grid.specs.Cells.{in_plane, number_in}
use Rattle.shape_parts.specs.declared.shape.Painted.{Painted}
use Rattle.mill_plan.specs.declared.cutting.Cutting.{Cutting}
use Rattle.mill_plan.specs.Cutting.{kept_by}
use Rattle.mill_plan.specs.Frame.{IsFrameOf}
use Rattle.mill_plan.specs.Passes.{IsSpacious}
use Rattle.mill_plan.specs.Side.{IsNumberedSide}
use Rattle.mill_plan.proofs.MeasureLaws.{space_same}
use Rattle.mill_plan.proofs.SideLaws.{same_test}

-- nothing but the numbers changed
abbrev pub OnlyNumbers : Grid → Grid → Type 0
OnlyNumbers a b = b ≡ record a { labels = b.labels; works = b.works; waiting = b.waiting; put = b.put }

module _ (k : Cutting) (painted : List Painted) (a b : Grid) (rest : OnlyNumbers a b) where
  frame_same : b.frame ≡ a.frame
  frame_same = ap (λ (g : Grid). g.frame) rest

  pub numbered_is : (n : ℕ) → IsFrameOf k painted (Ok a.frame) → ((c : Cell) → in_plane a.frame a.kept c ≡ kept_by k painted c) → ((c : Cell) → in_plane a.frame a.swept c ≡ false)
      → AreIslands (in_plane a.frame a.kept) (number_in a.frame 0 b.labels) n → n ≤ 65535 → IsNumberedSide k painted n b
  numbered_is n framed kept unswept islands few = subst (λ (g : Grid). IsNumberedSide k painted n g) (sym way) (record {
    framed = framed;
    kept = kept;
    unswept = unswept;
    islands = subst (λ (t : Cell → Bool). AreIslands t (number_in a.frame 0 b.labels) n) (same_test (in_plane a.frame a.kept) (kept_by k painted) kept) islands;
    few = few;
  })
    where
      way : b ≡ record b { frame = a.frame; kept = a.kept; swept = a.swept }
      way = λ i. record b { frame = frame_same i; kept = ap (λ (g : Grid). g.kept) rest i; swept = ap (λ (g : Grid). g.swept) rest i }

  pub numbered_spacious : IsSpacious k a → IsSpacious k b
  numbered_spacious s = space_same k a b frame_same (ap (λ (g : Grid). g.kept) rest) s

  pub numbered_unvisited : ((c : Cell) → in_plane a.frame a.visited c ≡ false) → (c : Cell) → in_plane b.frame b.visited c ≡ false
  numbered_unvisited off c = subst (λ (f : Frame). in_plane f b.visited c ≡ false) (sym frame_same) (subst (λ (xs : List Bool). in_plane a.frame xs c ≡ false) (sym (ap (λ (g : Grid). g.visited) rest)) (off c))
