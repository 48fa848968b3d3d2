-- A refusal of a check is its only answer.
use Rattle.std.proofs.Common.{◌≡◌, ◌⊎◌, inl, inr, ℕ, ℤ, Bool, List, Option, Result, Ok, Err, sym, ap, subst, ◌∙◌}
use Rattle.board_base.specs.declared.places.Cell.{Cell}
use Rattle.board_base.specs.declared.places.Move.{Move}
use Rattle.board_base.specs.declared.places.Side.{Side}
use Rattle.cell_sets.specs.Islands.{OneCount}
use Rattle.cell_grid.specs.declared.frames.Frame.{Frame}
use Rattle.cell_grid.specs.declared.frames.GridError.{GridError}
use Rattle.shape_parts.specs.declared.shape.Painted.{Painted}
use Rattle.rs274_sim.specs.declared.line.Line.{Line}
use Rattle.rs274_sim.specs.Machine.{run_of}
use Rattle.mill_program.specs.declared.probes.ProbeGrid.{ProbeGrid}
use Rattle.job_file.specs.declared.job.Job.{Job}
use Rattle.mill_plan.specs.declared.cutting.Cutting.{Cutting}
use Rattle.mill_plan.specs.Cutting.{side_cutting, kept_by}
use Rattle.mill_plan.specs.Frame.{error_of}
use Rattle.mill_plan.proofs.LimitLaws.{too_many, errors, framed_apart}
use Rattle.mill_plan.proofs.OneFrame.{one_frame}
use Rattle.mill_plan.proofs.FrameLaws.{same_frame}
use Rattle.program_check.specs.Deep.{Surface}
use Rattle.program_check.specs.Hits.{OneHit}
use Rattle.side_check.specs.declared.fault.SideFault.{SideFault}
use Rattle.side_check.specs.declared.fault.SideFault.TheVariants.{Hit, Memory}
use Rattle.endings.specs.Steps.{Is, Then}
use Rattle.side_check.specs.Found.{fault_of, IsFrameFound, AreNumbered, grid_over_side, surface_or_missing, moves_or_fault, IsUnhit, Findings, AreFindings, AreFound}

-- where the one step refuses, the other gives the same refusal and nothing else
abbrev OneRefusal : {B : Type 0} → (Result B SideFault → Type 0) → (Result B SideFault → Type 0) → Type 0
OneRefusal {B = B} P Q = (e : SideFault) (x : Result B SideFault) → P (Err e) → Q x → x ≡ Err e

not_both : {A : Type 0} (a : A) (e : SideFault) → ◌≡◌ {A = Result A SideFault} (Ok a) (Err e) → ⊥
not_both a e h = cc

-- the fault of an answer
pub fault_in : {A : Type 0} (d e : SideFault) → ◌≡◌ {A = Result A SideFault} (Err d) (Err e) → d ≡ e
fault_in d e h = cc

carried : {A B : Type 0} (d e : SideFault) → ◌≡◌ {A = Result A SideFault} (Err d) (Err e) → ◌≡◌ {A = Result B SideFault} (Err d) (Err e)
carried d e h = ap (λ (f : SideFault). Err f) (fault_in d e h)

-- a step and the next one give one refusal, where each does
one_then : {A B : Type 0} (First : Result A SideFault → Type 0) (Next Next' : A → Result B SideFault → Type 0) → OneRefusal First First
    → ((a b : A) → First (Ok a) → First (Ok b) → OneRefusal (Next a) (Next' b)) → OneRefusal (Then First Next) (Then First Next')
one_then First Next Next' one next e (Ok y) (inl h) (b, k, more) = absurd (not_both b e (one e (Ok b) h k))
one_then First Next Next' one next e (Ok y) (inr (a, h, less)) (b, k, more) = next a b h k e (Ok y) less more
one_then First Next Next' one next e (Err d) (inl h) (inl k) = carried d e (one e (Err d) h k)
one_then First Next Next' one next e (Err d) (inl h) (inr (b, k, more)) = absurd (not_both b e (one e (Ok b) h k))
one_then First Next Next' one next e (Err d) (inr (a, h, less)) (inl k) = absurd (not_both a d (one d (Ok a) k h))
one_then First Next Next' one next e (Err d) (inr (a, h, less)) (inr (b, k, more)) = next a b h k e (Err d) less more

-- ---- steps that compute

one_is : {A : Type 0} (r : Result A SideFault) → OneRefusal (Is r) (Is r)
one_is r e x h k = k ∙ sym h

same_is : {A : Type 0} (r : Result A SideFault) (a b : A) → Is r (Ok a) → Is r (Ok b) → a ≡ b
same_is {A = A} r a b h k = same a b (h ∙ sym k)
  where
    same : (a b : A) → ◌≡◌ {A = Result A SideFault} (Ok a) (Ok b) → a ≡ b
    same a b h = cc

then_is : {A B : Type 0} (r : Result A SideFault) (Next Next' : A → Result B SideFault → Type 0) → ((a : A) → OneRefusal (Next a) (Next' a)) → OneRefusal (Then (Is r) Next) (Then (Is r) Next')
then_is {A = A} r Next Next' next = one_then (Is r) Next Next' (one_is r) (λ a b h k. subst (λ (c : A). OneRefusal (Next a) (Next' c)) (same_is r a b h k) (next a))

-- ---- the others

one_framed : (k : Cutting) (painted : List Painted) → OneRefusal (IsFrameFound k painted) (IsFrameFound k painted)
one_framed k painted e (Ok f) (error, (framed, is)) framed' = absurd (framed_apart k painted error f framed framed')
one_framed k painted e (Err d) (error, (framed, is)) (error', (framed', is')) =
    let same : error' ≡ error = errors k painted error' error framed' framed in
    ap (λ (x : SideFault). Err x) (is' ∙ ap (λ (x : GridError). fault_of (error_of x)) same ∙ sym is)

one_numbered : (kept : Cell → Bool) → OneCount → OneRefusal (AreNumbered kept) (AreNumbered kept)
one_numbered kept law e (Ok number) (is, many) (count, (islands, few)) = absurd (too_many kept number many.number count many.count law islands few many.islands many.more)
one_numbered kept law e (Err d) (is, many) (is', many') = ap (λ (x : SideFault). Err x) (is' ∙ sym is)

one_unhit : (k : Cutting) (painted : List Painted) (safe : ℤ) (moves : List Move) → OneHit → OneRefusal (IsUnhit k painted safe moves) (IsUnhit k painted safe moves)
one_unhit k painted safe moves law e (Ok clear) (line, c, (is, first)) (same, none) = absurd (none first.move c first.hit)
one_unhit k painted safe moves law e (Err d) (line, c, (is, first)) (line', c', (is', first')) =
    let same = law k painted safe moves line' line c' c first' first in
    ap (λ (x : SideFault). Err x) (is' ∙ ap (λ (n : ℕ). Hit c' n) same.0 ∙ ap (λ (x : Cell). Hit x line) same.1 ∙ sym is)

-- ---- the chain, from its end

module _ (job : Job) (side : Side) (painted : List Painted) (lines : List Line) (answers : List ℤ) where
  abbrev AfterRun : Frame → (Cell → ℕ) → Surface → List Move → Result Findings SideFault → Type 0
  AfterRun f number over moves = Then (IsUnhit (side_cutting job) painted job.zsafe moves) (λ clear. AreFindings (side_cutting job) f number over job.zwork clear)

  abbrev AfterSurface : Frame → (Cell → ℕ) → Surface → Result Findings SideFault → Type 0
  AfterSurface f number over = Then (Is (moves_or_fault (run_of answers lines))) (λ moves. AfterRun f number over moves)

  abbrev AfterGrid : Frame → (Cell → ℕ) → Option ProbeGrid → Result Findings SideFault → Type 0
  AfterGrid f number grid = Then (Is (surface_or_missing grid answers)) (λ over. AfterSurface f number over)

  abbrev AfterNumbers : Frame → (Cell → ℕ) → Result Findings SideFault → Type 0
  AfterNumbers f number = Then (Is (grid_over_side side job f)) (λ grid. AfterGrid f number grid)

  abbrev AfterFrame : Frame → Result Findings SideFault → Type 0
  AfterFrame f = Then (AreNumbered (kept_by (side_cutting job) painted)) (λ number. AfterNumbers f number)

  module _ (counts : OneCount) (hits : OneHit) where
    one_run : (f : Frame) (number number' : Cell → ℕ) (over : Surface) (moves : List Move) → OneRefusal (AfterRun f number over moves) (AfterRun f number' over moves)
    one_run f number number' over moves =
        one_then (IsUnhit (side_cutting job) painted job.zsafe moves) (λ clear. AreFindings (side_cutting job) f number over job.zwork clear) (λ clear. AreFindings (side_cutting job) f number' over job.zwork clear)
        (one_unhit (side_cutting job) painted job.zsafe moves hits) (λ a b h j e x none more. absurd none)

    one_surface : (f : Frame) (number number' : Cell → ℕ) (over : Surface) → OneRefusal (AfterSurface f number over) (AfterSurface f number' over)
    one_surface f number number' over =
        then_is (moves_or_fault (run_of answers lines)) (λ moves. AfterRun f number over moves) (λ moves. AfterRun f number' over moves) (λ moves. one_run f number number' over moves)

    one_grid : (f : Frame) (number number' : Cell → ℕ) (grid : Option ProbeGrid) → OneRefusal (AfterGrid f number grid) (AfterGrid f number' grid)
    one_grid f number number' grid =
        then_is (surface_or_missing grid answers) (λ over. AfterSurface f number over) (λ over. AfterSurface f number' over) (λ over. one_surface f number number' over)

    one_numbers : (f : Frame) (number number' : Cell → ℕ) → OneRefusal (AfterNumbers f number) (AfterNumbers f number')
    one_numbers f number number' =
        then_is (grid_over_side side job f) (λ grid. AfterGrid f number grid) (λ grid. AfterGrid f number' grid) (λ grid. one_grid f number number' grid)

    one_after : (f : Frame) → OneRefusal (AfterFrame f) (AfterFrame f)
    one_after f =
        one_then (AreNumbered (kept_by (side_cutting job) painted)) (λ number. AfterNumbers f number) (λ number. AfterNumbers f number)
        (one_numbered (kept_by (side_cutting job) painted) counts) (λ number number' h j. one_numbers f number number')

    one_chain : OneRefusal (Then (IsFrameFound (side_cutting job) painted) (λ f. AfterFrame f)) (Then (IsFrameFound (side_cutting job) painted) (λ f. AfterFrame f))
    one_chain =
        one_then (IsFrameFound (side_cutting job) painted) (λ f. AfterFrame f) (λ f. AfterFrame f) (one_framed (side_cutting job) painted)
        (λ f g h j. subst (λ (u : Frame). OneRefusal (AfterFrame f) (AfterFrame u)) (same_frame f g (one_frame (side_cutting job) painted (Ok f) (Ok g) h j)) (one_after f))

    -- where the check refuses, it has no other answer
    pub one_found : (e : SideFault) (x : Result Findings SideFault) → AreFound job side painted lines answers (Err e) → AreFound job side painted lines answers x → x ≡ Err e
    unfolding AreFound
    one_found e x h k = one_chain e x h k

    pub not_refused : (found : Findings) → AreFound job side painted lines answers (Ok found) → (e : SideFault) → AreFound job side painted lines answers (Err e) → ⊥
    not_refused found h e k = not_both found e (one_found e (Ok found) k h)

    -- a refusal is want of memory, or the one answer
    pub one_answer : (e fault : SideFault) (x : Result Findings SideFault) → fault ≡ e → (fault ≡ Memory) ⊎ AreFound job side painted lines answers (Err fault) → AreFound job side painted lines answers x → (e ≡ Memory) ⊎ (x ≡ Err e)
    one_answer e fault x same (inl memory) h = inl (sym same ∙ memory)
    one_answer e fault x same (inr refused) h = inr (one_found fault x refused h ∙ ap (λ (f : SideFault). Err f) same)
