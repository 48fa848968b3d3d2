-- The first probe over a frame stands at a place.
use Rattle.std.proofs.Common.{◌≡◌, ℤ, Ok, sym, subst}
use Rattle.std.specs.Prelude.{unsigned_abs}
use Rattle.board_base.specs.Places.{IsCoordinate}
use Rattle.cell_grid.specs.declared.frames.Frame.{Frame}
use Rattle.mill_program.specs.declared.probes.ProbeGrid.{ProbeGrid}
use Rattle.levelling.specs.Grids.{IsInReach, probed, axis_of, grid_with, grid_of}
use Rattle.levelling.proofs.GridLaws.{first_place}
use Rattle.side_levels.proofs.ProbedLaws.{probed_in, not_refused}

-- a place of the machine in both axes
pub record IsPlaced (g : ProbeGrid) : Type 0 where
  pub x : IsCoordinate g.x0
  pub y : IsCoordinate g.y0

pub first_placed : (f : Frame) (dx dy range feed : ℤ) (g : ProbeGrid) → IsInReach f → grid_of f dx dy range feed ≡ Ok g → IsPlaced g
unfolding grid_of
first_placed f dx dy range feed g h e =
    let p = probed_in f h in
    let q : Frame = probed f in
    let at = first_place q p.0 p.1 in
    subst IsPlaced (sym (not_refused (grid_with q (axis_of (unsigned_abs q.pitch) q.width (unsigned_abs dx)) (axis_of (unsigned_abs q.pitch) q.height (unsigned_abs dy)) range feed) g e).0) (record { x = at.0; y = at.1 })
