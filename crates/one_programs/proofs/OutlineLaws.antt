-- An outline has one frame, one program and one report.
use Rattle.std.proofs.Common.{◌≡◌, List, length, Ok, sym, ap, ◌∙◌}
use Rattle.board_base.specs.declared.places.Cell.{Cell}
use Rattle.shape_parts.specs.declared.shape.Painted.{Painted}
use Rattle.job_file.specs.declared.job.Job.{Job}
use Rattle.mill_plan.specs.Cutting.{kept_by}
use Rattle.mill_plan.proofs.SideLaws.{same_test}
use Rattle.outline_plan.specs.declared.plan.OutlineCut.{OutlineCut}
use Rattle.outline_plan.specs.Job.{outline_cutting, listed_bridges}
use Rattle.outline_plan.specs.Cuts.{outline_cuts, outline_program}
use Rattle.outline_plan.specs.CutOut.{board_of, CutsOut}
use Rattle.outline_plan.proofs.AnswerLaws.{one_answer}
use Rattle.one_programs.specs.Laws.{OneOutline, OneOutlineReport}
use Rattle.one_programs.proofs.BoardLaws.{one_kept}
use Rattle.one_programs.proofs.WalkLaws.{one_pass}

module _ (job : Job) (painted : List Painted) (plan other : OutlineCut) (a : CutsOut job painted plan) (b : CutsOut job painted other) where
  one_outline_frame : plan.frame ≡ other.frame
  one_outline_frame = one_answer job painted (Ok plan) (Ok other) (λ e. cc) (λ e. cc) a b

  one_round : a.walks ≡ b.walks
  one_round =
      let kept : kept_by (outline_cutting job) (board_of a.loops) ≡ kept_by (outline_cutting job) (board_of b.loops) =
      same_test (kept_by (outline_cutting job) (board_of a.loops)) (kept_by (outline_cutting job) (board_of b.loops)) (one_kept painted (outline_cutting job).pitch a.loops b.loops a.board.board b.board.board) in
      one_pass (outline_cutting job) (board_of a.loops) (board_of b.loops) kept 0 a.walks b.walks a.are b.are

  one_bridges : (plan.bridges).items ≡ (other.bridges).items
  one_bridges = a.listed ∙ ap (listed_bridges job) one_round ∙ sym b.listed

  one_outline_program : plan.program ≡ other.program
  one_outline_program = a.words ∙ (λ t. outline_program job (outline_cuts job (one_bridges t) (one_round t))) ∙ sym b.words

pub one_outline : OneOutline
one_outline job painted plan other is a b = (one_outline_frame job painted plan other a b, one_outline_program job painted plan other a b)

pub one_outline_report : OneOutlineReport
one_outline_report job painted plan other is a b = record {
  frame = one_outline_frame job painted plan other a b;
  chains = a.count ∙ ap (λ (walks : List (List Cell)). length walks) (one_round job painted plan other a b) ∙ sym b.count;
  passes = a.levels ∙ sym b.levels;
  bridges = one_bridges job painted plan other a b;
}
