-- What holds of programs that go along allowed cells: they pass the check, and what is printed of them is listed.
use Rattle.std.specs.Prelude.{◌≡◌, ◌≢◌, ◌↔◌, ℕ, ◌<◌, ◌≤◌, ℤ, pos, ◌+ℤ◌, ◌*ℤ◌, ◌≤ℤ◌, Bool, true, false, List}
use Rattle.std.specs.List.{Contains}
use Rattle.board_base.specs.declared.places.Cell.{Cell}
use Rattle.board_base.specs.declared.places.Point.{Point}
use Rattle.board_base.specs.declared.places.Move.{Move}
use Rattle.board_base.specs.Lattice.{centre_of, half_diagonal_of, AreNeighbours}
use Rattle.board_base.specs.Near.{near_of}
use Rattle.cell_sets.specs.Contour.{IsAllowed}
use Rattle.cell_sets.specs.Chains.{IsLinkedOver}
use Rattle.cell_sets.specs.Groups.{IsListedPair}
use Rattle.cell_sets.specs.Sweep.{IsSwept}
use Rattle.cell_sets.specs.Barrier.{IsBarrier, IsPast}
use Rattle.cell_grid.specs.declared.frames.Frame.{Frame}
use Rattle.cell_grid.specs.Cells.{in_frame, IsOnBorder}
use Rattle.chain_walk.specs.Runs.{IsUnit, stepped}
use Rattle.shape_parts.specs.declared.shape.Painted.{Painted}
use Rattle.rs274_sim.specs.Cutter.{nanometre, scaled, under, width_of, IsLow, Sweeps}
use Rattle.mill_plan.specs.declared.cutting.Cutting.{Cutting}
use Rattle.mill_plan.specs.Cutting.{guard, kept_by, sweep_of}
use Rattle.mill_plan.specs.Isolated.{AreJoinedGroups}
use Rattle.program_check.specs.Cutters.{IsCutter}
use Rattle.program_check.specs.Deep.{Surface, IsDeepOver}
use Rattle.program_check.specs.Hits.{IsClear}
use Rattle.program_check.specs.Marks.{IsPassedBy, IsReached, ArePrinted}

-- the move leads straight from centre to centre, by whole steps of the lattice in one of the eight directions or by none, over cells that have P
pub record IsAlong (k : Cutting) (P : Cell → Type 0) (move : Move) : Type 0 where
  pub first : Cell
  pub east : ℤ
  pub north : ℤ
  pub count : ℕ
  pub unit_east : IsUnit east
  pub unit_north : IsUnit north
  pub from : under move.from ≡ scaled (centre_of k.pitch first)
  pub to : under move.to ≡ scaled (centre_of k.pitch (stepped first east north count))
  pub each : (n : ℕ) → n ≤ count → P (stepped first east north n)

-- what is within r of the move is within r and half a diagonal of the centre of a cell that has P
abbrev pub Follows : Cutting → (Cell → Type 0) → Move → Type 0
Follows k P move =
    (q : Point) (r : ℤ) → pos 0 ≤ℤ r → Sweeps move q r
    → (a : Cell) × P a × (near_of (scaled q) (scaled (centre_of k.pitch a)) (scaled (centre_of k.pitch a)) (width_of (r +ℤ half_diagonal_of k.pitch)) ≡ true)

-- the half step
abbrev pub AlongLaw : Type 0
AlongLaw = (k : Cutting) (test : Cell → Bool) (move : Move) → IsCutter k → IsAlong k (λ c. test c ≡ true) move → Follows k (λ c. test c ≡ true) move

-- moves that follow allowed cells wherever they are low hit no kept cell
abbrev pub OwnClearLaw : Type 0
OwnClearLaw =
    (k : Cutting) (painted : List Painted) (safe : ℤ) (moves : List Move) → IsCutter k
    → ((move : Move) → Contains moves move → IsLow (safe *ℤ nanometre) move → Follows k (IsAllowed (kept_by k painted) (guard k 0)) move)
    → IsClear k painted safe moves

-- where the centre of each visited cell is passed, each cell that they sweep is reached
abbrev pub OwnMarkLaw : Type 0
OwnMarkLaw =
    (k : Cutting) (surface : Surface) (work : ℤ) (moves : List Move) (visited : Cell → Bool) (c : Cell) → IsCutter k
    → ((v : Cell) → visited v ≡ true → IsPassedBy (IsDeepOver surface work) moves (centre_of k.pitch v) (pos 0))
    → IsSwept (sweep_of k) (λ v. visited v ≡ true) c → IsReached k (IsDeepOver surface work) moves c

-- visited cells lie in the frame, cells outside it are allowed, and those of it that aren't marked aren't swept from visited ones
pub record MarksSwept (w : ℕ) (allowed visited : Cell → Bool) (f : Frame) (Marked : Cell → Type 0) : Type 0 where
  pub inside : (c : Cell) → visited c ≡ true → in_frame f c ≡ true
  pub outside : (c : Cell) → in_frame f c ≡ false → allowed c ≡ true
  pub unmarked : (c : Cell) → in_frame f c ≡ true → (Marked c → ⊥) → IsPast w visited c

-- a chain of unmarked cells from a kept cell is one past all that the allowed cells sweep
abbrev pub OwnChainLaw : Type 0
OwnChainLaw =
    (w : ℕ) (allowed visited kept marked : Cell → Bool) (f : Frame) → IsBarrier allowed visited kept → MarksSwept w allowed visited f (λ c. marked c ≡ true)
    → (a b : Cell) → kept a ≡ true → IsLinkedOver (λ c. marked c ≡ true → ⊥) a b → IsLinkedOver (IsPast w allowed) a b

-- where the frame's border and all cells outside are allowed, an allowed cell beside one that isn't lies in the frame: so contours do
abbrev pub OwnFrameLaw : Type 0
OwnFrameLaw =
    (f : Frame) (allowed : Cell → Bool) → ((c : Cell) → in_frame f c ≡ false → allowed c ≡ true) → ((c : Cell) → IsOnBorder f c → allowed c ≡ true)
    → (c b : Cell) → AreNeighbours c b → allowed b ≡ false → in_frame f c ≡ true

-- each pair of the one list stands in the other too
abbrev pub ListsOnly : List (List ℕ) → List (List ℕ) → Type 0
ListsOnly printed listed = (u v : ℕ) → 0 < u → 0 < v → u ≢ v → IsListedPair printed u v → IsListedPair listed u v

-- a program of a side over its frame: low moves follow allowed cells, and the visited cells' centres are passed
pub record IsOwn (k : Cutting) (painted : List Painted) (f : Frame) (safe : ℤ) (Deep : Move → Type 0) (moves : List Move) (allowed visited : Cell → Bool) : Type 0 where
  pub allowed_are : (c : Cell) → allowed c ≡ true ↔ IsAllowed (kept_by k painted) (guard k 0) c
  pub barrier : IsBarrier allowed visited (kept_by k painted)
  pub inside : (c : Cell) → visited c ≡ true → in_frame f c ≡ true
  pub outside : (c : Cell) → in_frame f c ≡ false → allowed c ≡ true
  pub follows : (move : Move) → Contains moves move → IsLow (safe *ℤ nanometre) move → Follows k (λ c. allowed c ≡ true) move
  pub passes : (v : Cell) → visited v ≡ true → IsPassedBy Deep moves (centre_of k.pitch v) (pos 0)

-- such a program hits no kept cell, and what is printed of it is listed by the groups past all allowed cells
pub record OwnProgram (k : Cutting) (painted : List Painted) (safe : ℤ) (moves : List Move) (printed listed : List (List ℕ)) : Type 0 where
  pub clear : IsClear k painted safe moves
  pub lists : ListsOnly printed listed

-- it does, where no cell but kept ones has a number above 0
abbrev pub OwnLaw : Type 0
OwnLaw =
    (k : Cutting) (painted : List Painted) (f : Frame) (safe : ℤ) (surface : Surface) (work : ℤ) (moves : List Move) (allowed visited : Cell → Bool)
    (number : Cell → ℕ) (printed listed : List (List ℕ)) → IsCutter k → IsOwn k painted f safe (IsDeepOver surface work) moves allowed visited
    → ((c : Cell) → 0 < number c → kept_by k painted c ≡ true) → ArePrinted k f (IsDeepOver surface work) moves number printed → AreJoinedGroups k painted number listed
    → OwnProgram k painted safe moves printed listed
