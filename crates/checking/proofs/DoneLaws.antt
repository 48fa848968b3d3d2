-- What is accepted and found is sound and exact.
use Rattle.std.proofs.Common.{◌≡◌, ℕ, List, Some, Result, Ok, Err, sym, ap, subst}
use Rattle.board_base.specs.declared.places.Cell.{Cell}
use Rattle.board_base.specs.declared.places.Move.{Move}
use Rattle.board_base.specs.declared.places.Role.{Role}
use Rattle.board_base.specs.declared.places.Role.TheVariants as roles
use Rattle.board_base.specs.declared.places.Side.{Side}
use Rattle.board_base.specs.Files.{Files}
use Rattle.board_base.specs.Sink.{appended}
use Rattle.cell_grid.specs.declared.frames.Frame.{Frame}
use Rattle.cell_sets.specs.Islands.{AreIslands}
use Rattle.rs274_sim.specs.declared.fault.SimFault.{SimFault}
use Rattle.rs274_sim.specs.declared.line.Line.{Line}
use Rattle.rs274_sim.specs.Machine.{run_of}
use Rattle.rs274_sim.specs.Reading.{LineFault, program_of, ReadingLaw}
use Rattle.rs274_sim.specs.Text.{StandsFor}
use Rattle.job_file.specs.declared.job.Job.{Job}
use Rattle.job_file.proofs.FitLaws.{step}
use Rattle.mill_plan.specs.Cutting.{kept_by, side_cutting}
use Rattle.mill_plan.specs.Job.{IsSideJob}
use Rattle.program_check.specs.Cutters.{IsCutter}
use Rattle.program_check.specs.Deep.{Surface, IsDeepOver}
use Rattle.program_check.specs.Hits.{IsClear}
use Rattle.program_check.specs.Marks.{ArePrinted}
use Rattle.program_check.specs.Sound.{ClearLaw, PartsLaw}
use Rattle.side_check.specs.declared.fault.SideFault.{SideFault}
use Rattle.side_check.specs.Found.{Findings, moves_or_fault, AreFound}
use Rattle.endings.specs.declared.status.Status.TheVariants.{Done}
use Rattle.endings.specs.Answers.{usage}
use Rattle.endings.specs.Ending.{Ending, with_ok}
use Rattle.endings.specs.Reads.{Reading, held_in}
use Rattle.endings.specs.Run.{Tells}
use Rattle.endings.proofs.RunLaws.{all_told, given_by}
use Rattle.mill_inputs.specs.Accepted.{job_bytes, image}
use Rattle.mill_inputs.proofs.ContentLaws.{ok_is}
use Rattle.simulation.specs.Answers.{answers_of}
use Rattle.simulation.specs.Simulated.{read_as}
use Rattle.checking.specs.Words.{words_of}
use Rattle.checking.specs.Accepted.{Accepts, side_job_in, layer_role, as_milled, Inputs, inputs_of, contents_of, accepted}
use Rattle.checking.specs.Checked.{Finds, Checked, joined_lines, CheckEnds}
use Rattle.checking.specs.Sound.{IsSoundFor, IsSound, IsExactFor, IsExact, Passed, AfterDone}
use Rattle.checking.proofs.JobLaws.{side_job_fits}
use Rattle.checking.proofs.CutterLaws.{job_cutter}
use Rattle.checking.proofs.EndLaws.{IsChecked, of_done}

-- ---- what is accepted

-- the job mills the side, and the program's bytes are read as its lines
pub record IsRead (x : Accepts) : Type 0 where
  pub job : IsSideJob x.job
  pub lines : program_of x.program ≡ Ok x.lines

read_lines : (role : Role) (r : Result (List Line) (LineFault × ℕ)) (lines : List Line) → read_as role r ≡ Ok lines → r ≡ Ok lines
read_lines role (Ok found) lines e = ap Ok (ok_is found lines e)
read_lines role (Err fault) lines e = absurd (cc)

contents_read : (side : Side) (job : Job) (raw : Inputs) (x : Accepts) → IsSideJob job → contents_of side job raw ≡ Ok x → IsRead x
unfolding contents_of
contents_read side job raw x ok e =
    let p = step (image (layer_role side) raw.layer) _ x e in
    let l = step (read_as roles.Ngc (program_of raw.sources.program)) _ x p.2 in
    let a = step (read_as roles.Probes (answers_of raw.sources.probes)) _ x l.2 in
    subst IsRead
    (ok_is (record { job = job; side = side; painted = as_milled side p.0; program = raw.sources.program; lines = l.0; answers = a.0 }) x a.2)
    (record { job = ok; lines = read_lines roles.Ngc (program_of raw.sources.program) l.0 l.1 })

pub accepted_read : (words : List (List ℕ)) (given : Reading) (x : Accepts) → accepted words given ≡ Ok x → IsRead x
unfolding accepted
accepted_read words given x e =
    let w = step (usage (words_of words)) _ x e in
    let t = step (job_bytes w.0.job given) _ x w.2 in
    let j = step (side_job_in w.0.side t.0 words) _ x t.2 in
    let r = step (inputs_of w.0 j.0 given) _ x j.2 in
    contents_read w.0.side j.0 r.0 x (side_job_fits w.0.side t.0 words j.0 j.1) r.2

-- ---- what is found

abbrev IsGood : Accepts → Findings → Type 0
IsGood x found = IsSoundFor x found × IsExactFor x found

ran : (r : Result (List Move) (SimFault × ℕ)) (moves : List Move) → ◌≡◌ {A = Result (List Move) SideFault} (Ok moves) (moves_or_fault r) → r ≡ Ok moves
ran (Ok found) moves e = cc
ran (Err stop) moves e = absurd (cc)

good_at : (x : Accepts) (f : Frame) (number : Cell → ℕ) (over : Surface) (moves : List Move) (groups : List (List ℕ)) (count : ℕ)
    → ClearLaw → PartsLaw → IsCutter (side_cutting x.job) → StandsFor x.program x.lines → run_of x.answers x.lines ≡ Ok moves
    → AreIslands (kept_by (side_cutting x.job) x.painted) number count → IsClear (side_cutting x.job) x.painted x.job.zsafe moves
    → ArePrinted (side_cutting x.job) f (IsDeepOver over x.job.zwork) moves number groups
    → IsGood x (record { frame = f; number = number; surface = over; moves = moves; groups = groups })
good_at x f number over moves groups count clear_law parts_law ok stands run islands clear printed = (
  record {
    stands = stands;
    run = run;
    no_bite = clear_law (side_cutting x.job) x.painted x.job.zsafe moves ok clear;
    count = count;
    islands = islands;
    parts = parts_law (side_cutting x.job) f over x.job.zwork moves number groups ok printed;
  },
  printed,
)

good : (x : Accepts) (found : Findings) → ClearLaw → PartsLaw → IsCutter (side_cutting x.job) → StandsFor x.program x.lines → Finds x (Ok found) → IsGood x found
unfolding AreFound
good x found clear_law parts_law ok stands are =
    let n = are.2 in
    let g = n.2 in
    let o = g.2 in
    let m = o.2 in
    let h = m.2 in
    let e = h.2.0 in
    let moves : List Move = h.0 in
    let run : run_of x.answers x.lines ≡ Ok moves = subst (λ (ms : List Move). run_of x.answers x.lines ≡ Ok ms) (sym h.1.0) (ran (run_of x.answers x.lines) m.0 m.1) in
    let clear : IsClear (side_cutting x.job) x.painted x.job.zsafe moves = subst (λ (ms : List Move). IsClear (side_cutting x.job) x.painted x.job.zsafe ms) (sym h.1.0) h.1.1 in
    subst (λ (y : Findings). IsGood x y) (sym e)
    (good_at x are.0 n.0 o.0 moves found.groups n.1.0 clear_law parts_law ok stands run n.1.1.0 clear h.2.1)

-- ---- after Done

passed : (P : Checked → Type 0) → ((c : Checked) → IsSideJob c.accepts.job → StandsFor c.accepts.program c.accepts.lines → Finds c.accepts (Ok c.found) → P c) → ReadingLaw → AfterDone P
passed P good reading words result shelf_before shelf_now before now tells done =
    all_told shelf_before.files (λ files. Passed P words files before now)
    (λ files told. from_end files told (subst (λ s. Tells (CheckEnds words) s shelf_before shelf_now before now) done tells))
  where
    made : (files : Files) (c : Checked) → IsChecked words (held_in files) c → now.text ≡ appended (with_ok Done (joined_lines c.found.groups)) before.text → Passed P words files before now
    made files c is text =
        let read = accepted_read words (held_in files) c.accepts is.0 in
        record {
          checked = c;
          given = is.0;
          finds = is.1;
          told = text;
          holds = good c read.job ((reading c.accepts.program c.accepts.lines).1 read.lines) is.1;
        }

    from_end : (files : Files) → shelf_before.files ≡ Some files → Tells (CheckEnds words) Done shelf_before shelf_now before now → Passed P words files before now
    from_end files told t =
        let ends = subst (λ (given : Reading). CheckEnds words given t.2) (given_by shelf_before.files files t.0 told t.1) t.3 in
        let c = of_done words (held_in files) t.2 ends t.4.0 in
        made files c.0 c.1 (subst (λ (e : Ending). now.text ≡ appended e.lines before.text) c.2 t.4.1)

pub sound_after : ClearLaw → PartsLaw → ReadingLaw → AfterDone IsSound
sound_after clear parts reading = passed IsSound (λ c job stands finds. (good c.accepts c.found clear parts (job_cutter c.accepts.job job) stands finds).0) reading

pub exact_after : ClearLaw → PartsLaw → ReadingLaw → AfterDone IsExact
exact_after clear parts reading = passed IsExact (λ c job stands finds. (good c.accepts c.found clear parts (job_cutter c.accepts.job job) stands finds).1) reading
