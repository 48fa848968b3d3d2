-- An outline has one answer.
use Rattle.std.proofs.Common.{◌≡◌, ◌≢◌, ◌⊎◌, inl, inr, List, Option, MatchOption, Result, Ok, Err, refl, sym, ap, ◌∙◌, subst}
use Rattle.board_base.specs.declared.places.Point.{Point}
use Rattle.board_base.specs.declared.places.Bounds.{Bounds}
use Rattle.shape_parts.specs.declared.shape.Painted.{Painted}
use Rattle.cell_grid.specs.declared.frames.Frame.{Frame}
use Rattle.cell_grid.specs.declared.frames.GridError.{GridError}
use Rattle.cell_grid.specs.declared.frames.GridError.TheVariants.{PastReach, TooWide, TooManyCells, Memory as GridMemory}
use Rattle.cell_grid.specs.Boxes.{no_cells, IsFramed}
use Rattle.copper_cover.specs.Kept.{dark_rectangle}
use Rattle.outline_loops.specs.declared.refusals.OutlineError.{OutlineError}
use Rattle.outline_loops.specs.declared.refusals.OutlineError.TheVariants.{OpenOutline, EmptyOutline, TooManyPoints, Memory as NoMemory}
use Rattle.outline_loops.specs.Answers.{IsClosedBoard, Answers as BoardAnswers}
use Rattle.outline_loops.proofs.AnswerLaws.{one_answer as one_board_answer}
use Rattle.job_file.specs.declared.job.Job.{Job}
use Rattle.mill_plan.specs.declared.cutting.Cutting.{Cutting}
use Rattle.mill_plan.specs.declared.limits.LimitHit.TheVariants.{Reach, Side, Cells, Islands, Objects, Vertices, Holes, Probes, Tile}
use Rattle.mill_plan.specs.Frame.{IsFrameOf}
use Rattle.mill_plan.proofs.OneFrame.{one_frame}
use Rattle.outline_plan.specs.declared.plan.OutlineCut.{OutlineCut}
use Rattle.outline_plan.specs.declared.errors.OutlinePlanError.{OutlinePlanError}
use Rattle.outline_plan.specs.declared.errors.OutlinePlanError.TheVariants.{Outline, Limit, Memory}
use Rattle.outline_plan.specs.Job.{outline_cutting}
use Rattle.outline_plan.specs.CutOut.{board_of}
use Rattle.outline_plan.specs.Answers.{Answers}
use Rattle.outline_plan.specs.Made.{refusal_of}
use Rattle.outline_plan.specs.Laws.{AreAlike, OneAnswer}
use Rattle.outline_plan.proofs.BoardLaws.{one_rectangle}

-- images with one rectangle have one frame
frame_carried : (k : Cutting) (a b : List Painted) (answer : Result Frame GridError) → dark_rectangle a ≡ dark_rectangle b → IsFrameOf k a answer → IsFrameOf k b answer
frame_carried k a b answer e h = record {
  margin = h.margin;
  margin_is = h.margin_is;
  frame = subst (λ (box : Option Bounds). MatchOption box (answer ≡ Ok (no_cells k.pitch)) (λ r. IsFramed k.pitch h.margin r answer)) e h.frame;
}

-- ---- two kinds of answers

-- a plan over the frame, or the refusal of the frame
abbrev IsAnswered : Result OutlineCut OutlinePlanError → Result Frame GridError → Type 0
IsAnswered (Ok plan) (Ok frame) = plan.frame ≡ frame
IsAnswered (Ok plan) (Err error) = ⊥
IsAnswered (Err error) (Ok frame) = ⊥
IsAnswered (Err error) (Err (PastReach value)) = error ≡ Limit (Reach value)
IsAnswered (Err error) (Err (TooWide side)) = error ≡ Limit (Side side)
IsAnswered (Err error) (Err (TooManyCells cells)) = error ≡ Limit (Cells cells)
IsAnswered (Err error) (Err GridMemory) = ⊥

-- the outline has no board
record IsBoardless (painted : List Painted) (r : Result OutlineCut OutlinePlanError) : Type 0 where
  cause : OutlineError
  some : cause ≢ NoMemory
  refused : BoardAnswers painted (Err cause)
  is : r ≡ Err (refusal_of cause)

-- the outline has a board, and this is the answer for its frame
record IsOfBoard (job : Job) (painted : List Painted) (r : Result OutlineCut OutlinePlanError) : Type 0 where
  loops : List (List Point)
  board : IsClosedBoard painted loops
  answer : Result Frame GridError
  framed : IsFrameOf (outline_cutting job) (board_of loops) answer
  is : IsAnswered r answer

kind_of : (job : Job) (painted : List Painted) (r : Result OutlineCut OutlinePlanError) → r ≢ Err Memory → Answers job painted r → IsBoardless painted r ⊎ IsOfBoard job painted r
kind_of job painted (Ok plan) some h = inr (record { loops = h.loops; board = h.board; answer = Ok plan.frame; framed = h.framed; is = refl })
kind_of job painted (Err (Outline (OpenOutline at degree))) some h = inl (record { cause = OpenOutline at degree; some = λ e. cc; refused = h; is = refl })
kind_of job painted (Err (Outline EmptyOutline)) some h = inl (record { cause = EmptyOutline; some = λ e. cc; refused = h; is = refl })
kind_of job painted (Err (Outline (TooManyPoints count))) some h = absurd h
kind_of job painted (Err (Outline NoMemory)) some h = absurd h
kind_of job painted (Err (Limit (Reach value))) some h = inr (record { loops = h.loops; board = h.board; answer = Err (PastReach value); framed = h.past; is = refl })
kind_of job painted (Err (Limit (Side side))) some h = inr (record { loops = h.loops; board = h.board; answer = Err (TooWide side); framed = h.past; is = refl })
kind_of job painted (Err (Limit (Cells cells))) some h = inr (record { loops = h.loops; board = h.board; answer = Err (TooManyCells cells); framed = h.past; is = refl })
kind_of job painted (Err (Limit Islands)) some h = absurd h
kind_of job painted (Err (Limit Objects)) some h = absurd h
kind_of job painted (Err (Limit Holes)) some h = absurd h
kind_of job painted (Err (Limit (Probes count))) some h = absurd h
kind_of job painted (Err (Limit (Tile x y))) some h = absurd h
kind_of job painted (Err (Limit Vertices)) some h = inl (record { cause = TooManyPoints h.0; some = λ e. cc; refused = h.1; is = refl })
kind_of job painted (Err Memory) some h = absurd (some refl)

-- ---- one answer

board_stays : (painted : List Painted) (loops : List (List Point)) (cause : OutlineError) → IsClosedBoard painted loops → cause ≢ NoMemory → BoardAnswers painted (Err cause) → ⊥
board_stays painted loops cause board some refused = one_board_answer painted (Ok loops) (Err cause) (λ e. cc) (λ e. some (error_in cause NoMemory e)) board refused
  where
    error_in : (a b : OutlineError) → ◌≡◌ {A = Result (List (List Point)) OutlineError} (Err a) (Err b) → a ≡ b
    error_in a b e = cc

one_cause : (painted : List Painted) (a b : OutlineError) → a ≢ NoMemory → b ≢ NoMemory → BoardAnswers painted (Err a) → BoardAnswers painted (Err b) → a ≡ b
one_cause painted a b na nb ra rb = one_board_answer painted (Err a) (Err b) (λ e. na (error_in a NoMemory e)) (λ e. nb (error_in b NoMemory e)) ra rb
  where
    error_in : (a b : OutlineError) → ◌≡◌ {A = Result (List (List Point)) OutlineError} (Err a) (Err b) → a ≡ b
    error_in a b e = cc

answered_alike : (r s : Result OutlineCut OutlinePlanError) (answer : Result Frame GridError) → IsAnswered r answer → IsAnswered s answer → AreAlike r s
answered_alike (Ok plan) (Ok other) (Ok frame) a b = a ∙ sym b
answered_alike (Ok plan) s (Err error) a b = absurd a
answered_alike (Ok plan) (Err error) (Ok frame) a b = absurd b
answered_alike (Err error) s (Ok frame) a b = absurd a
answered_alike (Err error) (Ok plan) (Err e) a b = absurd b
answered_alike (Err error) (Err other) (Err (PastReach value)) a b = a ∙ sym b
answered_alike (Err error) (Err other) (Err (TooWide side)) a b = a ∙ sym b
answered_alike (Err error) (Err other) (Err (TooManyCells cells)) a b = a ∙ sym b
answered_alike (Err error) (Err other) (Err GridMemory) a b = absurd a

pub one_answer : OneAnswer
one_answer job painted r s nr ns a b = by (kind_of job painted r nr a) (kind_of job painted s ns b)
  where
    by : IsBoardless painted r ⊎ IsOfBoard job painted r → IsBoardless painted s ⊎ IsOfBoard job painted s → AreAlike r s
    by (inl h) (inl k) =
        subst (λ (x : Result OutlineCut OutlinePlanError). AreAlike x s) (sym h.is)
        (subst (λ (y : Result OutlineCut OutlinePlanError). AreAlike (Err (refusal_of h.cause)) y) (sym k.is) (ap refusal_of (one_cause painted h.cause k.cause h.some k.some h.refused k.refused)))
    by (inl h) (inr k) = absurd (board_stays painted k.loops h.cause k.board h.some h.refused)
    by (inr h) (inl k) = absurd (board_stays painted h.loops k.cause h.board k.some k.refused)
    by (inr h) (inr k) =
        let there = frame_carried (outline_cutting job) (board_of k.loops) (board_of h.loops) k.answer (one_rectangle painted k.loops h.loops k.board.board h.board.board) k.framed in
        let same = one_frame (outline_cutting job) (board_of h.loops) h.answer k.answer h.framed there in
        answered_alike r s k.answer (subst (IsAnswered r) same h.is) k.is
