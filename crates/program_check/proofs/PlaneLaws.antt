-- The groups of free cells are those past the marks, and a flat surface.
use Rattle.std.proofs.Common.{◌≡◌, ◌↔◌, ℤ, pos, ◌+ℤ◌, ◌*ℤ◌, ◌≤ℤ◌, Bool, true, List, None, sym, ◌∙◌, arith}
use Rattle.std.proofs.lemmas.Bool.{false≢true}
use borrow.Author.Differences.{ints}
use Rattle.number_laws.proofs.Tests.{by_bool}
use Rattle.board_base.specs.declared.places.Cell.{Cell}
use Rattle.board_base.specs.declared.places.Point.{Point}
use Rattle.board_base.specs.declared.places.Move.{Move}
use Rattle.cell_sets.proofs.Links.{linked_over, linked_same, groups_carried}
use Rattle.cell_grid.specs.declared.frames.Frame.{Frame}
use Rattle.cell_grid.specs.Cells.{in_frame}
use Rattle.rs274_sim.specs.Cutter.{nanometre, IsDeep}
use Rattle.mill_program.specs.Probes.{surface}
use Rattle.mill_plan.specs.declared.cutting.Cutting.{Cutting}
use Rattle.mill_plan.specs.Mills.{IsWhollySwept}
use Rattle.program_check.specs.Deep.{IsDeepOver}
use Rattle.program_check.specs.Marks.{IsPassedBy, IsMarked, IsWhollySweptBy}
use Rattle.program_check.specs.Planes.{AreFreeCells, PlaneLaw, FlatLaw}

free_unmarked : (k : Cutting) (f : Frame) (Deep : Move → Type 0) (moves : List Move) (free : Cell → Bool) → AreFreeCells k f Deep moves free → (c : Cell) → free c ≡ true ↔ (IsMarked k f Deep moves c → ⊥)
free_unmarked k f Deep moves free are c = (
  (λ e marked. false≢true (sym ((are.inside c marked.0).1 marked.1) ∙ e)),
  (λ none. by_bool (free c) (λ e. e) (λ e.
      by_bool (in_frame f c) (λ there. absurd (none (there, (are.inside c there).0 e))) (λ out. are.outside c out))),
)

pub plane_holds : PlaneLaw
plane_holds k f over work moves free number groups are groups_are =
    let Deep : Move → Type 0 = IsDeepOver over work in
    let same = free_unmarked k f Deep moves free are in
    groups_carried (λ c. free c ≡ true) (λ c. IsMarked k f Deep moves c → ⊥) number groups
    (λ a b some. linked_same (λ c. free c ≡ true) (λ c. IsMarked k f Deep moves c → ⊥) same a b) (λ a some. same a) groups_are

-- ---- a flat surface

deep_flat : (answers : List ℤ) (work : ℤ) (move : Move) → IsDeepOver (surface None answers) work move ↔ IsDeep (work *ℤ nanometre) move
deep_flat answers work move = (
  (λ deep. (deep.0, down move.from.z (work *ℤ nanometre) deep.1, down move.to.z (work *ℤ nanometre) deep.2)),
  (λ deep. (deep.0, up move.from.z (work *ℤ nanometre) deep.1, up move.to.z (work *ℤ nanometre) deep.2)),
)
  where
    down : (z w : ℤ) → z ≤ℤ (w +ℤ pos 0) → z ≤ℤ w
    down z w h = omega (arith, ints)

    up : (z w : ℤ) → z ≤ℤ w → z ≤ℤ (w +ℤ pos 0)
    up z w h = omega (arith, ints)

passed_over : (Deep Deep' : Move → Type 0) (moves : List Move) (q : Point) (r : ℤ) → ((move : Move) → Deep move → Deep' move) → IsPassedBy Deep moves q r → IsPassedBy Deep' moves q r
passed_over Deep Deep' moves q r over p = (p.0, p.1, over p.0 p.2, p.3)

swept_flat : (answers : List ℤ) (k : Cutting) (work : ℤ) (moves : List Move) (c : Cell) → IsWhollySweptBy k (IsDeepOver (surface None answers) work) moves c ↔ IsWhollySwept k work moves c
swept_flat answers k work moves c = (
  (λ swept q inside. passed_over (IsDeepOver (surface None answers) work) (IsDeep (work *ℤ nanometre)) moves q k.radius (λ move. (deep_flat answers work move).0) (swept q inside)),
  (λ swept q inside. passed_over (IsDeep (work *ℤ nanometre)) (IsDeepOver (surface None answers) work) moves q k.radius (λ move. (deep_flat answers work move).1) (swept q inside)),
)

pub flat_holds : FlatLaw
flat_holds = record {
  deep = deep_flat;
  swept = swept_flat;
  parts = λ answers k work number groups moves parts u v su sv ne joined. parts u v su sv ne (
    joined.0,
    joined.1,
    (
      joined.2.0,
      joined.2.1,
      linked_over (λ c. IsWhollySwept k work moves c → ⊥) (λ c. IsWhollySweptBy k (IsDeepOver (surface None answers) work) moves c → ⊥) (λ c left swept. left ((swept_flat answers k work moves c).0 swept)) joined.0 joined.1 joined.2.2,
    ),
  );
}
