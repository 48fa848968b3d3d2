-- How far from zero a surface can be.
use Rattle.std.specs.Prelude.{ℤ, neg_ℤ, ◌*ℤ◌, ◌≤ℤ◌, List}
use Rattle.board_base.specs.declared.places.Point.{Point}
use Rattle.rs274_sim.specs.Cutter.{nanometre}
use Rattle.mill_program.specs.declared.probes.ProbeGrid.{ProbeGrid}
use Rattle.mill_program.specs.Probes.{IsGrid, FitGrid, surface_of}

-- no further from zero than the range
pub record IsInRange (range z : ℤ) : Type 0 where
  pub low : neg_ℤ range ≤ℤ z
  pub high : z ≤ℤ range

-- the surface that fitting answers give is within the range of the probes, everywhere
abbrev pub SurfaceRangeLaw : Type 0
SurfaceRangeLaw = (g : ProbeGrid) (answers : List ℤ) (q : Point) → IsGrid g → FitGrid g answers → IsInRange (g.range *ℤ nanometre) (surface_of g answers q)
