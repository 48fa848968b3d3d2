-- What the run of a program cuts: its strokes, and the way that each of them goes.
use Rattle.std.specs.Prelude.{◌≡◌, ℕ, ◌<◌, ℤ, ◌*ℤ◌, List, [], ◌∷◌, ◌++◌, length, map}
use Rattle.std.specs.List.{All, AllZip, flat_map}
use Rattle.board_base.specs.declared.places.Pos.{Pos}
use Rattle.board_base.specs.declared.places.Move.{Move}
use Rattle.rs274_sim.specs.Cutter.{IsLow, nanometre}
use Rattle.mill_program.specs.declared.cuts.Corner.{Corner}
use Rattle.mill_program.specs.declared.cuts.ToolRun.{ToolRun}
use Rattle.mill_program.specs.declared.cuts.Program.{Program}
use Rattle.mill_program.specs.Conditions.{IsProgram, IsRunnable}
use Rattle.mill_program.specs.Moves.{moves_of, unnumbered, place_of, at_height, last_of}

-- ---- strokes of moves

-- no move is low
abbrev pub AreHigh : ℤ → List Move → Type 0
AreHigh height moves = All (λ m. IsLow height m → ⊥) moves

-- the first move isn't low, or there is none
abbrev pub BeginsHigh : ℤ → List Move → Type 0
BeginsHigh height [] = Unit {0}
BeginsHigh height (m ∷ moves) = IsLow height m → ⊥

-- low moves, no low one before them, and none right behind them
pub record IsFirstStroke (height : ℤ) (before stroke after : List Move) : Type 0 where
  pub high : AreHigh height before
  pub some : 0 < length stroke
  pub low : All (IsLow height) stroke
  pub ends : BeginsHigh height after

-- the maximal stretches of low moves, in their order
abbrev pub AreStrokes : ℤ → List (List Move) → List Move → Type 0
AreStrokes height [] moves = AreHigh height moves
AreStrokes height (stroke ∷ strokes) moves = (before after : List Move) × (moves ≡ before ++ (stroke ++ after)) × IsFirstStroke height before stroke after × AreStrokes height strokes after

-- ---- what they cut

-- the moves lead through the positions, from each to the next
abbrev pub LeadThrough : List Pos → List Move → Type 0
LeadThrough [] moves = ⊥
LeadThrough (p ∷ []) [] = Unit {0}
LeadThrough (p ∷ []) (m ∷ moves) = ⊥
LeadThrough (p ∷ q ∷ ps) [] = ⊥
LeadThrough (p ∷ q ∷ ps) (m ∷ moves) = (m.from ≡ p) × (m.to ≡ q) × LeadThrough (q ∷ ps) moves

-- straight down to the first position, from each to the next, and straight up from the last
abbrev pub way_over : ℤ → List Pos → List Pos
way_over safe [] = []
way_over safe (p ∷ ps) = at_height safe p ∷ p ∷ ps ++ at_height safe (last_of p ps) ∷ []

-- what one stroke has to cut, and with which tool
pub record Wanted : Type 0 where
  pub tool : ℕ
  pub places : List Pos

-- the stroke cuts that, and nothing else
pub record IsStrokeOf (safe : ℤ) (want : Wanted) (stroke : List Move) : Type 0 where
  pub way : LeadThrough (way_over safe want.places) stroke
  pub tool : All (λ m. m.tool ≡ want.tool) stroke

-- the strokes of the moves are those that are wanted, in their order, and nothing else is low
pub record CutsExactly (safe : ℤ) (wants : List Wanted) (moves : List Move) : Type 0 where
  pub strokes : List (List Move)
  pub are : AreStrokes (safe *ℤ nanometre) strokes moves
  pub each : AllZip (IsStrokeOf safe) wants strokes

-- ---- the strokes of a program

-- what a cut of a tool run has to cut
abbrev pub wanted_cut : ToolRun → List Corner → Wanted
wanted_cut run cut = record { tool = run.tool; places = map place_of cut }

-- what the tool runs of a program have to cut
abbrev pub wanted : List ToolRun → List Wanted
wanted runs = flat_map (λ run. map (wanted_cut run) run.cuts) runs

-- the run of a program cuts what its tool runs say, in their order, and nothing else
abbrev pub StrokeLaw : Type 0
StrokeLaw = (p : Program) (moves : List Move) → IsProgram p → IsRunnable p → map unnumbered moves ≡ moves_of p → CutsExactly p.safe (wanted p.runs) moves

-- moves have one list of strokes
abbrev pub OneStrokesLaw : Type 0
OneStrokesLaw = (height : ℤ) (a b : List (List Move)) (moves : List Move) → AreStrokes height a moves → AreStrokes height b moves → a ≡ b
