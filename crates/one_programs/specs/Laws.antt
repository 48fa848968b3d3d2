-- That one job and one image have one program, and one report of it.
use Rattle.std.specs.Prelude.{◌≡◌, List}
use Rattle.board_base.specs.declared.places.Cell.{Cell}
use Rattle.shape_parts.specs.declared.shape.Painted.{Painted}
use Rattle.job_file.specs.declared.job.Job.{Job}
use Rattle.mill_plan.specs.declared.isolation.Isolation.{Isolation}
use Rattle.mill_plan.specs.Job.{IsSideJob}
use Rattle.mill_plan.specs.Isolated.{IsIsolationOf}
use Rattle.outline_plan.specs.declared.plan.OutlineCut.{OutlineCut}
use Rattle.outline_plan.specs.Job.{IsOutlineJob}
use Rattle.outline_plan.specs.CutOut.{CutsOut}

-- ---- programs

-- a side has one frame and one program
abbrev pub OneSide : Type 0
OneSide =
    (job : Job) (painted : List Painted) (plan other : Isolation) → IsSideJob job → IsIsolationOf job painted plan → IsIsolationOf job painted other → (plan.frame ≡ other.frame) × (plan.program ≡ other.program)

-- an outline has one frame and one program
abbrev pub OneOutline : Type 0
OneOutline =
    (job : Job) (painted : List Painted) (plan other : OutlineCut) → IsOutlineJob job → CutsOut job painted plan → CutsOut job painted other → (plan.frame ≡ other.frame) × (plan.program ≡ other.program)

-- ---- reports

-- the frames, counts and groups of two sides are the same
pub record AreSidesAlike (plan other : Isolation) : Type 0 where
  pub frame : plan.frame ≡ other.frame
  pub kept : plan.kept ≡ other.kept
  pub islands : plan.islands ≡ other.islands
  pub centres : plan.centres ≡ other.centres
  pub chains : plan.chains ≡ other.chains
  pub groups : plan.groups.items ≡ other.groups.items

-- the frames, counts and bridges of two outlines are the same
pub record AreOutlinesAlike (plan other : OutlineCut) : Type 0 where
  pub frame : plan.frame ≡ other.frame
  pub chains : plan.chains ≡ other.chains
  pub passes : plan.passes ≡ other.passes
  pub bridges : (plan.bridges).items ≡ (other.bridges).items

-- what is reported of a side is one, and each cell has one number of an island
abbrev pub OneSideReport : Type 0
OneSideReport =
    (job : Job) (painted : List Painted) (plan other : Isolation) → IsSideJob job → (a : IsIsolationOf job painted plan) → (b : IsIsolationOf job painted other)
    → AreSidesAlike plan other × ((c : Cell) → a.number c ≡ b.number c)

-- what is reported of an outline is one
abbrev pub OneOutlineReport : Type 0
OneOutlineReport =
    (job : Job) (painted : List Painted) (plan other : OutlineCut) → IsOutlineJob job → CutsOut job painted plan → CutsOut job painted other → AreOutlinesAlike plan other
