-- A side has one frame, one program and one report.
use Rattle.std.proofs.Common.{◌≡◌, ℕ, ◌≤◌, true, List, [], ◌++◌, length, get_or, Result, Ok, refl, sym, ap, subst, ◌∙◌, arith}
use Rattle.std.proofs.lemmas.List.{get_or_default, same_lists}
use Rattle.board_base.specs.declared.places.Cell.{Cell}
use Rattle.cell_grid.specs.declared.frames.Frame.{Frame}
use Rattle.cell_grid.specs.declared.frames.GridError.{GridError}
use Rattle.cell_sets.specs.Groups.{AreGroups}
use Rattle.cell_sets.proofs.Counts.{one_count}
use Rattle.shape_parts.specs.declared.shape.Painted.{Painted}
use Rattle.mill_program.specs.declared.cuts.Program.{Program}
use Rattle.job_file.specs.declared.job.Job.{Job}
use Rattle.mill_plan.specs.declared.cutting.Cutting.{Cutting}
use Rattle.mill_plan.specs.declared.isolation.Isolation.{Isolation}
use Rattle.mill_plan.specs.Cutting.{kept_by, side_cutting, IsVisited}
use Rattle.mill_plan.specs.Cuts.{all_of, program_along, AreSideWalks, IsTracedProgramOf}
use Rattle.mill_plan.specs.Isolated.{IsLeft, IsIsolationOf}
use Rattle.mill_plan.proofs.OneFrame.{one_frame}
use Rattle.one_programs.specs.Laws.{OneSide, OneSideReport}
use Rattle.one_programs.proofs.CellOrder.{one_cell_count}
use Rattle.one_programs.proofs.Numbering.{one_numbering}
use Rattle.one_programs.proofs.Grouping.{one_grouping}
use Rattle.one_programs.proofs.WalkLaws.{one_pass, one_clearing}

-- ---- the walks, the runs and the program

abbrev Passes : Type 0
Passes = List (List (List Cell))

one_passes : (k : Cutting) (painted : List Painted) (passes others : Passes) (runs rests : List (List Cell)) → AreSideWalks k painted passes runs → AreSideWalks k painted others rests → passes ≡ others
one_passes k painted passes others runs rests a b =
    let size : length passes ≡ length others = a.count ∙ sym b.count in
    same_lists passes others size
    (λ n d l. (let early : n ≤ k.last = omega (arith, l, a.count) in
    get_or_default passes n d [] l ∙ one_pass k painted painted refl n (get_or passes n []) (get_or others n []) (a.walks n early) (b.walks n early) ∙ get_or_default others n [] d (omega (arith, l, size))))

-- the program, and how many walks it goes along
record AreOne (program another : Program) (count other : ℕ) : Type 0 where
  programs : program ≡ another
  counts : count ≡ other

one_traced : (job : Job) (painted : List Painted) (program another : Program) (count other : ℕ) → IsTracedProgramOf job painted program count → IsTracedProgramOf job painted another other → AreOne program another count other
one_traced job painted program another count other a b =
    let passes : a.passes ≡ b.passes = one_passes (side_cutting job) painted a.passes b.passes a.runs b.runs a.along b.along in
    let runs : a.runs ≡ b.runs = one_clearing (side_cutting job) painted a.runs b.runs a.along.cleared b.along.cleared in
    record {
      programs = a.is ∙ (λ t. program_along job (all_of (passes t) ++ runs t)) ∙ sym b.is;
      counts = sym a.size ∙ ap (λ (p : Passes). length (all_of p)) passes ∙ b.size;
    }

-- ---- the laws

one_side_frame : (job : Job) (painted : List Painted) (plan other : Isolation) → IsIsolationOf job painted plan → IsIsolationOf job painted other → plan.frame ≡ other.frame
one_side_frame job painted plan other a b = given plan.frame other.frame (one_frame (side_cutting job) painted (Ok plan.frame) (Ok other.frame) a.framed b.framed)
  where
    given : (f g : Frame) → ◌≡◌ {A = Result Frame GridError} (Ok f) (Ok g) → f ≡ g
    given f g e = cc

pub one_side : OneSide
one_side job painted plan other is a b =
    let traced = one_traced job painted plan.program other.program plan.chains other.chains a.traced b.traced in
    (one_side_frame job painted plan other a b, traced.programs)

pub one_side_report : OneSideReport
one_side_report job painted plan other is a b =
    let traced = one_traced job painted plan.program other.program plan.chains other.chains a.traced b.traced in
    let numbers : (c : Cell) → a.number c ≡ b.number c = one_numbering (kept_by (side_cutting job) painted) a.kept.cells a.kept.all a.number b.number plan.islands other.islands a.islands b.islands in
    let number : a.number ≡ b.number = λ t c. numbers c t in (
      record {
        frame = one_side_frame job painted plan other a b;
        kept = one_cell_count (λ c. kept_by (side_cutting job) painted c ≡ true) plan.kept other.kept a.kept b.kept;
        islands = one_count (kept_by (side_cutting job) painted) a.number b.number plan.islands other.islands a.islands b.islands;
        centres = one_cell_count (IsVisited (side_cutting job) painted) plan.centres other.centres a.centres b.centres;
        chains = traced.counts;
        groups =
            one_grouping (IsLeft (side_cutting job) painted) a.number plan.groups.items other.groups.items a.groups
            (subst (λ (n : Cell → ℕ). AreGroups (IsLeft (side_cutting job) painted) n other.groups.items) (sym number) b.groups);
      },
      numbers,
    )
