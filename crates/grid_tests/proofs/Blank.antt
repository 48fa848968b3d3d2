-- The border of a blank grid is above every clearance that is asked for.
use Rattle.std.proofs.Common.{◌≡◌, ℕ, true, cond, nat_lt, ap, ◌∙◌}
use Rattle.std.proofs.lemmas.List.{get_or-replicate}
use Rattle.board_base.specs.declared.places.Cell.{Cell}
use Rattle.cell_grid.specs.declared.frames.Frame.{Frame}
use Rattle.cell_grid.specs.Grid.{blank_of}
use Rattle.cell_grid.specs.Place.{place_of, cells_of}
use Rattle.cell_grid.specs.Cells.{in_frame, is_above, IsOnBorder}
use Rattle.cell_grid.proofs.PlaceLaws.{place_below}
use Rattle.cell_grid.proofs.CellsLaws.{in_frame_is}

pub blank_above : (f : Frame) (c : Cell) → IsOnBorder f c → is_above f (blank_of f).clearances 8 c ≡ true
blank_above f c b =
    ap (λ (n : ℕ). cond (in_frame f c) (nat_lt 8 n) true) (get_or-replicate (cells_of f) (place_of f c) 4294967295 0 (place_below f c (in_frame_is f c b.inside)))
    ∙ ap (λ t. cond t true true) b.inside
