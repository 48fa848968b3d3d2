-- Places, kept cells and the border of a side's frame.
use Rattle.std.proofs.Common.{◌≡◌, Bool, false, List, slice_index_or, Ok, sym, ap, ◌∙◌}
use Rattle.std.proofs.lemmas.Bool.{false≢true}
use Rattle.number_laws.proofs.Tests.{by_bool, cond_false}
use Rattle.board_base.proofs.LatticeLaws.{diagonal_nonneg}
use Rattle.board_base.specs.declared.places.Cell.{Cell}
use Rattle.cell_grid.specs.declared.frames.Frame.{Frame}
use Rattle.cell_grid.specs.Place.{InFrame, place_of}
use Rattle.cell_grid.specs.Cells.{in_frame, in_plane}
use Rattle.cell_grid.proofs.CellsLaws.{in_frame_is}
use Rattle.copper_cover.specs.Kept.{keeps, KeptLaw}
use Rattle.shape_parts.specs.declared.shape.Painted.{Painted}
use Rattle.mill_plan.specs.declared.cutting.Cutting.{Cutting}
use Rattle.mill_plan.specs.Cutting.{guard, kept_by}
use Rattle.mill_plan.specs.Frame.{IsFrameOf}
use Rattle.mill_plan.specs.Raster.{IsFarAtEdge}
use Rattle.mill_plan.proofs.FrameLaws.{kept_roomy, far_at_edge}

-- ---- the kept cells

-- the border of the frame is far from the cells that the image keeps
pub edge_far : (cutting : Cutting) (painted : List Painted) (f : Frame) → IsFrameOf cutting painted (Ok f) → KeptLaw → IsFarAtEdge (guard cutting cutting.last) (kept_by cutting painted) f
edge_far cutting painted f framed law = far_at_edge cutting (kept_by cutting painted) f framed.margin framed.margin_is (kept_roomy cutting painted f framed (diagonal_nonneg cutting.pitch) law)

-- the plane has the kept cells, on the whole plane
pub covers_all : (cutting : Cutting) (painted : List Painted) (f : Frame) (kept : List Bool) → f.pitch ≡ cutting.pitch → IsFarAtEdge (guard cutting cutting.last) (kept_by cutting painted) f
    → ((c : Cell) → InFrame f c → in_plane f kept c ≡ keeps f.pitch painted c) → (c : Cell) → in_plane f kept c ≡ kept_by cutting painted c
covers_all cutting painted f kept pitch far inside c = by_bool (in_frame f c)
    (λ t. inside c (in_frame_is f c t) ∙ ap (λ p. keeps p painted c) pitch)
    (λ t. cond_false (in_frame f c) (slice_index_or kept (place_of f c) false) false t ∙ sym (by_bool (kept_by cutting painted c) (λ on. absurd (false≢true (sym t ∙ far.inside c on))) (λ off. off)))

-- the tests are one
pub same_test : (s t : Cell → Bool) → ((c : Cell) → s c ≡ t c) → s ≡ t
same_test s t h = λ i c. h c i
