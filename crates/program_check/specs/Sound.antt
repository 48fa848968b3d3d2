-- What holds of any program that passes the check, by whomever it was made.
use Rattle.std.specs.Prelude.{◌≡◌, ℕ, ℤ, pos, ◌*ℤ◌, true, List}
use Rattle.board_base.specs.declared.places.Cell.{Cell}
use Rattle.board_base.specs.declared.places.Point.{Point}
use Rattle.board_base.specs.declared.places.Move.{Move}
use Rattle.board_base.specs.Near.{near_of}
use Rattle.cell_grid.specs.declared.frames.Frame.{Frame}
use Rattle.shape_parts.specs.declared.shape.Painted.{Painted}
use Rattle.shape_parts.specs.Cover.{is_dark}
use Rattle.rs274_sim.specs.Cutter.{nanometre, scaled, width_of, NoBite}
use Rattle.mill_plan.specs.declared.cutting.Cutting.{Cutting}
use Rattle.mill_plan.specs.Cutting.{bite_of}
use Rattle.program_check.specs.Cutters.{IsCutter}
use Rattle.program_check.specs.Deep.{Surface, IsDeepOver}
use Rattle.program_check.specs.Hits.{IsClear}
use Rattle.program_check.specs.Marks.{IsMarked, IsWhollySweptBy, ArePrinted, PartsOthersBy}

-- where no kept cell is hit, no dark point is within the radius less the tolerance of a low move
abbrev pub ClearLaw : Type 0
ClearLaw =
    (k : Cutting) (painted : List Painted) (safe : ℤ) (moves : List Move) → IsCutter k → IsClear k painted safe moves
    → NoBite (safe *ℤ nanometre) (λ q. is_dark q painted ≡ true) (bite_of k) moves

-- a marked cell is wholly swept
abbrev pub MarkLaw : Type 0
MarkLaw =
    (k : Cutting) (f : Frame) (surface : Surface) (work : ℤ) (moves : List Move) (c : Cell)
    → IsCutter k → IsMarked k f (IsDeepOver surface work) moves c → IsWhollySweptBy k (IsDeepOver surface work) moves c

-- the printed groups have each pair of islands that cells not wholly swept join
abbrev pub PartsLaw : Type 0
PartsLaw =
    (k : Cutting) (f : Frame) (surface : Surface) (work : ℤ) (moves : List Move) (number : Cell → ℕ) (groups : List (List ℕ))
    → IsCutter k → ArePrinted k f (IsDeepOver surface work) moves number groups → PartsOthersBy k (IsDeepOver surface work) number groups moves

-- near in the units of the machine is near in nanometres, both ways: the check may reckon in nanometres
abbrev pub UnitLaw : Type 0
UnitLaw = (q a b : Point) (r : ℤ) → near_of (scaled q) (scaled a) (scaled b) (width_of r) ≡ near_of q a b (pos 2 *ℤ r)
