-- The program of a side passes the check, and what is told of it is listed.
use Rattle.std.proofs.Common.{◌≡◌, ◌⊎◌, ℕ, ◌*◌, ◌≤◌, ◌<◌, ℤ, Bool, true, false, nat_lt, length, List, Option, Some, None, Result, Ok, Err, inl, inr, refl, sym, ap, ◌∙◌, subst, arith}
use Rattle.std.specs.Prelude.{if◌then◌else◌}
use Rattle.std.proofs.lemmas.Bool.{ltb-true}
use Rattle.board_base.specs.declared.places.Cell.{Cell}
use Rattle.board_base.specs.declared.places.Move.{Move}
use Rattle.board_base.specs.declared.places.Side.{Side as BoardSide}
use Rattle.board_base.specs.declared.places.Side.TheVariants.{Front, Back}
use Rattle.board_base.specs.declared.places.Role.{Role}
use Rattle.board_base.specs.Files.{Files}
use Rattle.board_base.specs.Shelf.{ShelfState}
use Rattle.board_base.specs.Sink.{SinkState}
use Rattle.cell_grid.specs.declared.frames.Frame.{Frame}
use Rattle.cell_sets.specs.Islands.{OneCount}
use Rattle.shape_parts.specs.declared.shape.Painted.{Painted}
use Rattle.rs274_sim.specs.Machine.{run_of}
use Rattle.rs274_sim.specs.Reading.{program_of, ReadingLaw}
use Rattle.rs274_sim.specs.Runs.{RunsTo}
use Rattle.rs274_sim.proofs.FoundLaws.{same_ok}
use Rattle.mill_program.specs.declared.cuts.Program.{Program}
use Rattle.mill_program.specs.declared.probes.ProbeGrid.{ProbeGrid}
use Rattle.mill_program.specs.GridLines.{lines_over}
use Rattle.mill_program.specs.Probes.{Fit, surface}
use Rattle.mill_program.proofs.GridLineLaws.{grid_line_law}
use Rattle.tiling.specs.Copies.{Tile}
use Rattle.levelling.specs.declared.grids.TooManyProbes.{TooManyProbes}
use Rattle.levelling.specs.Grids.{grid_of}
use Rattle.levelling.specs.Pieces.{levelled}
use Rattle.grid_writer.specs.Conditions.{IsWritable}
use Rattle.grid_writer.specs.Laws.{SpellingOverLaw}
use Rattle.job_file.specs.declared.job.Job.{Job}
use Rattle.mill_plan.specs.declared.isolation.Isolation.{Isolation}
use Rattle.mill_plan.specs.declared.limits.LimitHit.TheVariants.{Islands, Probes}
use Rattle.mill_plan.specs.Cutting.{side_cutting}
use Rattle.mill_plan.specs.Frame.{IsFrameOf}
use Rattle.mill_plan.specs.Isolated.{IsIsolationOf}
use Rattle.mill_plan.specs.Job.{IsSideJob}
use Rattle.mill_plan.proofs.LimitLaws.{no_limit}
use Rattle.mill_plan.proofs.OneFrame.{one_frame}
use Rattle.program_check.specs.Deep.{Surface, IsDeepOver}
use Rattle.program_check.specs.Hits.{IsClear}
use Rattle.program_check.specs.Marks.{ArePrinted}
use Rattle.program_check.specs.Own.{IsOwn, OwnClearLaw, ListsOnly}
use Rattle.side_runs.specs.OwnSide.{OwnSideLaw, OwnMovesLaw}
use Rattle.side_levels.specs.Probed.{IsGridOver}
use Rattle.side_levels.specs.LevelledSide.{LevelledRunLaw}
use Rattle.side_surfaces.specs.Runs.{InReach}
use Rattle.side_surfaces.specs.Levelled.{LevelledSidesLaw}
use Rattle.side_check.specs.declared.fault.SideFault.{SideFault}
use Rattle.side_check.specs.declared.fault.SideFault.TheVariants.{Limit as LimitFault, NoProbeAnswer}
use Rattle.side_check.specs.Found.{Findings, grid_or_limit, grid_over_side, surface_or_missing, moves_or_fault, AreFound}
use Rattle.endings.specs.declared.status.Status.{Status}
use Rattle.endings.specs.declared.status.Status.TheVariants.{Done, Usage, Job as JobRefused, Gerber, Drill, Outline, TooLong, Limit, ReadFault, WriteFault, Ngc, Watch, Cell as CellHit, Memory}
use Rattle.endings.specs.Answers.{IfTold, ToldAnd}
use Rattle.endings.specs.Ending.{Ending, Command, Reaches, refusal}
use Rattle.endings.specs.Reads.{Reading, held_in}
use Rattle.endings.specs.Run.{HasCause}
use Rattle.endings.proofs.RunLaws.{all_told}
use Rattle.mill_inputs.proofs.ContentLaws.{ok_is}
use Rattle.mill_outputs.specs.Done.{AfterDone as AfterMill}
use Rattle.mill_outputs.specs.Written.{levelled_if}
use Rattle.mill_outputs.specs.Mill.{program_text}
use Rattle.mill_outputs.specs.Headline.{OfSides}
use Rattle.mill_outputs.proofs.HeadlineLaws.{sides_after_done}
use Rattle.mill_outputs.proofs.SideLaws.{IsOverGrid, IsSideIn, no_grid, its_grid}
use Rattle.mill_outputs.proofs.TextLaws.{plain_written, levelled_written}
use Rattle.mill_outputs.proofs.TileLaws.{TilingLaws, IsTiled, in_one_tile}
use Rattle.checking.specs.Accepted.{Accepts, accepted}
use Rattle.checking.specs.Checked.{Finds, Checked, CheckEnds}
use Rattle.checking.specs.Own.{IsOwnProgram, GivesOwn, NoneRose, IsListedBy, PassesAs, OwnPasses}
use Rattle.checking.specs.Sound.{IsExact, Passed, AfterDone}
use Rattle.checking.proofs.CutterLaws.{job_cutter}
use Rattle.checking.proofs.DoneLaws.{accepted_read}
use Rattle.checking.proofs.EndLaws.{EndsOf, ends_of}

-- ---- the program

apart : {A E : Type 0} (a : A) (fault : E) → ◌≡◌ {A = Result A E} (Err fault) (Ok a) → ⊥
apart a fault e = cc

-- ---- its grid

-- a grid over a side is that of a job that levels its front
asked_for : (x : Accepts) (f : Frame) (g : ProbeGrid) → grid_over_side x.side x.job f ≡ Ok (Some g) → (x.job.al_front ≡ true) × IsGridOver x.job f g
asked_for x f g e = by_side x.side e
  where
    same : (g h : ProbeGrid) → ◌≡◌ {A = Result (Option ProbeGrid) SideFault} (Ok (Some h)) (Ok (Some g)) → h ≡ g
    same g h e = cc

    none : (g : ProbeGrid) → ◌≡◌ {A = Result (Option ProbeGrid) SideFault} (Ok None) (Ok (Some g)) → ⊥
    none g e = cc

    by : (b : Bool) (r : Result ProbeGrid TooManyProbes) → (if b then grid_or_limit r else Ok None) ≡ Ok (Some g) → (b ≡ true) × (r ≡ Ok g)
    by true (Ok h) e = (refl, ap Ok (same g h e))
    by true (Err many) e = absurd (apart (Some g) (LimitFault (Probes many.count)) e)
    by false r e = absurd (none g e)

    by_side : (side : BoardSide) → grid_over_side side x.job f ≡ Ok (Some g) → (x.job.al_front ≡ true) × IsGridOver x.job f g
    by_side Front e = by x.job.al_front (grid_of f x.job.al_x x.job.al_y x.job.al_range x.job.al_probefeed) e
    by_side Back e = absurd (none g e)

-- answers that fit are enough
surface_there : (grid : Option ProbeGrid) (answers : List ℤ) → Fit grid answers → surface_or_missing grid answers ≡ Ok (surface grid answers)
surface_there None answers fits = refl
surface_there (Some g) answers fits = by_test (nat_lt (length answers) (g.nx * g.ny)) (λ less. clash (length answers) (g.nx * g.ny) fits.enough (ltb-true (length answers) (g.nx * g.ny) less))
  where
    clash : (m n : ℕ) → n ≤ m → m < n → ⊥
    clash m n h k = omega (arith, h, k)

    by_test : (b : Bool) → (b ≡ true → ⊥) → (if b then Err (NoProbeAnswer (length answers)) else Ok (surface (Some g) answers)) ≡ Ok (surface (Some g) answers)
    by_test true never = absurd (never refl)
    by_test false never = refl

-- ---- its lines and their run

-- the program can be written
writable : LevelledSidesLaw → (x : Accepts) (plan : Isolation) → IsSideJob x.job → IsIsolationOf x.job x.painted plan → (grid : Option ProbeGrid) → grid_over_side x.side x.job plan.frame ≡ Ok grid
    → IsWritable (levelled_if grid x.job.pitch plan.program)
writable levels x plan ok i None over = plain_written plan.program i.program
writable levels x plan ok i (Some g) over =
    let asked = asked_for x plan.frame g over in
    let l = levels.side x.job x.painted plan g ok i asked.0 asked.1 in
    levelled_written g (levelled g x.job.pitch plan.program) l.program (record { is_grid = l.program.is_grid; x0 = l.first_x; y0 = l.first_y })

-- the lines that are read are those that were written
lines_are : SpellingOverLaw → ReadingLaw → LevelledSidesLaw → (x : Accepts) (plan : Isolation) → IsSideJob x.job → program_of x.program ≡ Ok x.lines → (own : IsOwnProgram x plan)
    → x.lines ≡ lines_over (levelled_if own.grid x.job.pitch plan.program)
lines_are spelling reading levels x plan ok read own =
    let p : Program = levelled_if own.grid x.job.pitch plan.program in
    let is : program_of (program_text p) ≡ Ok (lines_over p) = (reading (program_text p) (lines_over p)).0 (spelling p (writable levels x plan ok own.planned own.grid own.over)) in
    same_ok x.lines (lines_over p) (sym read ∙ ap program_of own.written ∙ is)

-- its run comes to its end, it is a side's own over the surface, and hits no kept cell
record IsOwnRun (x : Accepts) (plan : Isolation) (grid : Option ProbeGrid) (moves : List Move) : Type 0 where
  pub run : run_of x.answers x.lines ≡ Ok moves
  pub allowed : Cell → Bool
  pub visited : Cell → Bool
  pub own : IsOwn (side_cutting x.job) x.painted plan.frame x.job.zsafe (IsDeepOver (surface grid x.answers) x.job.zwork) moves allowed visited
  pub clear : IsClear (side_cutting x.job) x.painted x.job.zsafe moves

-- so it is without a grid
plain_run : OwnSideLaw → OwnClearLaw → (x : Accepts) (plan : Isolation) → IsSideJob x.job → IsIsolationOf x.job x.painted plan → x.lines ≡ lines_over plan.program → (moves : List Move) × IsOwnRun x plan None moves
unfolding RunsTo
plain_run side_law clear_law x plan ok i lines =
    let e = i.mills x.answers in
    let o = side_law x.job x.painted plan x.answers e.0 ok i e.1 in (
      e.0,
      record {
        run = ap (run_of x.answers) (lines ∙ grid_line_law plan.program i.program.grid) ∙ e.1;
        allowed = o.allowed;
        visited = o.visited;
        own = o.own;
        clear = clear_law (side_cutting x.job) x.painted x.job.zsafe e.0 (job_cutter x.job ok) (λ move there low q r r_in swept. (
            let f = (o.own).follows move there low q r r_in swept in
            (f.0, ((o.own).allowed_are f.0).0 f.1, f.2)));
      },
    )

own_run : OwnSideLaw → OwnClearLaw → LevelledRunLaw → (x : Accepts) (plan : Isolation) → IsSideJob x.job → IsIsolationOf x.job x.painted plan → (grid : Option ProbeGrid) → grid_over_side x.side x.job plan.frame ≡ Ok grid
    → Fit grid x.answers → InReach grid → x.lines ≡ lines_over (levelled_if grid x.job.pitch plan.program) → (moves : List Move) × IsOwnRun x plan grid moves
own_run side_law clear_law level_law x plan ok i None over fits reach lines = plain_run side_law clear_law x plan ok i lines
own_run side_law clear_law level_law x plan ok i (Some g) over fits reach lines =
    let asked = asked_for x plan.frame g over in
    let r = level_law x.job x.painted plan g x.answers ok i asked.0 asked.1 fits reach in
    let m = r.3 in
    (r.0, record { run = ap (run_of x.answers) lines ∙ r.1; allowed = m.own.allowed; visited = m.own.visited; own = m.own.own; clear = m.clear })

-- ---- what is found of it

frame_is : (x : Accepts) (plan : Isolation) (f : Frame) → IsOwnProgram x plan → IsFrameOf (side_cutting x.job) x.painted (Ok f) → f ≡ plan.frame
frame_is x plan f own framed = same_ok f plan.frame (one_frame (side_cutting x.job) x.painted (Ok f) (Ok plan.frame) framed (own.planned).framed)

grid_there : (x : Accepts) (plan : Isolation) (f : Frame) → (own : IsOwnProgram x plan) → IsFrameOf (side_cutting x.job) x.painted (Ok f) → grid_over_side x.side x.job f ≡ Ok own.grid
grid_there x plan f own framed = subst (λ (f : Frame). grid_over_side x.side x.job f ≡ Ok own.grid) (sym (frame_is x plan f own framed)) own.over

grid_is : (x : Accepts) (plan : Isolation) (f : Frame) (grid : Option ProbeGrid) → (own : IsOwnProgram x plan) → IsFrameOf (side_cutting x.job) x.painted (Ok f)
    → ◌≡◌ {A = Result (Option ProbeGrid) SideFault} (Ok grid) (grid_over_side x.side x.job f) → grid ≡ own.grid
grid_is x plan f grid own framed is = same_ok grid own.grid (is ∙ grid_there x plan f own framed)

surface_is : (x : Accepts) (plan : Isolation) (grid : Option ProbeGrid) → (own : IsOwnProgram x plan) → grid ≡ own.grid → surface_or_missing grid x.answers ≡ Ok (surface own.grid x.answers)
surface_is x plan grid own is = ap (λ g. surface_or_missing g x.answers) is ∙ surface_there own.grid x.answers own.fits

moves_are : (x : Accepts) (plan : Isolation) (grid : Option ProbeGrid) (moves : List Move) → IsOwnRun x plan grid moves → moves_or_fault (run_of x.answers x.lines) ≡ Ok moves
moves_are x plan grid moves own = ap moves_or_fault own.run

-- no step refuses
no_fault : OneCount → (x : Accepts) (plan : Isolation) (moves : List Move) → (own : IsOwnProgram x plan) → IsOwnRun x plan own.grid moves → (fault : SideFault) → Finds x (Err fault) → ⊥
unfolding AreFound
no_fault one_count x plan moves own runs fault (inl (error, (framed, is))) =
    apart plan.frame error (one_frame (side_cutting x.job) x.painted (Err error) (Ok plan.frame) framed (own.planned).framed)
no_fault one_count x plan moves own runs fault (inr (f, framed, inl (is, many))) =
    let p = own.planned in
    no_limit (side_cutting x.job) x.painted plan.frame p.number plan.islands one_count p.framed p.islands p.few Islands (record { frame = f; framed = framed; many = many })
no_fault one_count x plan moves own runs fault (inr (f, framed, inr (number, numbered, inl is))) = apart own.grid fault (is ∙ grid_there x plan f own framed)
no_fault one_count x plan moves own runs fault (inr (f, framed, inr (number, numbered, inr (grid, grid_is_there, inl is)))) =
    apart (surface own.grid x.answers) fault (is ∙ surface_is x plan grid own (grid_is x plan f grid own framed grid_is_there))
no_fault one_count x plan moves own runs fault (inr (f, framed, inr (number, numbered, inr (grid, grid_is_there, inr (over, over_there, inl is))))) =
    apart moves fault (is ∙ moves_are x plan own.grid moves runs)
no_fault one_count x plan moves own runs fault (inr (f, framed, inr (number, numbered, inr (grid, grid_is_there, inr (over, over_there, inr (found, found_there, inl (line, cell, (is, first)))))))) =
    let same : found ≡ moves = same_ok found moves (found_there ∙ moves_are x plan own.grid moves runs) in
    (subst (λ (ms : List Move). IsClear (side_cutting x.job) x.painted x.job.zsafe ms) (sym same) runs.clear) first.move cell first.hit
no_fault one_count x plan moves own runs fault (inr (f, framed, inr (number, numbered, inr (grid, grid_is_there, inr (over, over_there, inr (found, found_there, inr (clear, clear_there, none))))))) = none

-- each pair of a group that is found is listed
found_listed : OwnMovesLaw → (x : Accepts) (plan : Isolation) (moves : List Move) → IsSideJob x.job → (own : IsOwnProgram x plan) → IsOwnRun x plan own.grid moves → (found : Findings) → Finds x (Ok found)
    → ListsOnly found.groups plan.groups.items
unfolding AreFound
found_listed moves_law x plan moves ok own runs found are =
    let n = are.2 in
    let g = n.2 in
    let o = g.2 in
    let m = o.2 in
    let h = m.2 in
    let its : Surface = surface own.grid x.answers in
    let over : o.0 ≡ its = same_ok o.0 its (o.1 ∙ surface_is x plan g.0 own (grid_is x plan are.0 g.0 own are.1 g.1)) in
    let same : h.0 ≡ moves = h.1.0 ∙ same_ok m.0 moves (m.1 ∙ moves_are x plan own.grid moves runs) in
    let as_run : ArePrinted (side_cutting x.job) are.0 (IsDeepOver o.0 x.job.zwork) moves n.0 found.groups =
    subst (λ (ms : List Move). ArePrinted (side_cutting x.job) are.0 (IsDeepOver o.0 x.job.zwork) ms n.0 found.groups) same h.2.1 in
    let over_its : ArePrinted (side_cutting x.job) are.0 (IsDeepOver its x.job.zwork) moves n.0 found.groups =
    subst (λ (s : Surface). ArePrinted (side_cutting x.job) are.0 (IsDeepOver s x.job.zwork) moves n.0 found.groups) over as_run in
    (moves_law x.job x.painted plan its moves runs.allowed runs.visited are.0 n.0 n.1.0 found.groups ok own.planned runs.own are.1 n.1.1.0 over_its).lists

-- ---- what is answered

-- where each ending of a command with these files is Done, and no fault was counted, Done is answered, unless memory was wanting
done_or_memory : (ends : Command) (files : Files) (result : Status) (before now : ShelfState) (k l : SinkState) → before.files ≡ Some files → ((e : Ending) → ends (held_in files) e → e.status ≡ Done)
    → NoneRose before now k l → HasCause ends result before now k l → (result ≡ Done) ⊎ (result ≡ Memory)
done_or_memory ends files result before now k l told only none cause = by_result result cause
  where
    is_done : (s : Status) → Reaches ends (Some files) (λ e. e.status ≡ s) → s ≡ Done
    is_done s r = sym r.4 ∙ only r.2 (subst (λ (given : Reading). ends given r.2) r.1 r.3)

    done : (s : Status) → Reaches ends before.files (λ e. e.status ≡ s) → (s ≡ Done) ⊎ (s ≡ Memory)
    done s r = inl (is_done s (subst (λ o. Reaches ends o (λ e. e.status ≡ s)) told r))

    missing_end : (role : Role) (o : Option Files) → ToldAnd o (λ files. ends (held_in files) (refusal (ReadFault role))) → Reaches ends o (λ e. e.status ≡ ReadFault role)
    missing_end role None missing = absurd missing
    missing_end role (Some files) missing = (held_in files, refl, refusal (ReadFault role), missing, refl)

    by_result : (s : Status) → HasCause ends s before now k l → (s ≡ Done) ⊎ (s ≡ Memory)
    by_result Memory cause = inr refl
    by_result Done cause = inl refl
    by_result (WriteFault role) (inl put) = absurd (none.puts put.1)
    by_result (WriteFault role) (inr write) = absurd (none.writes write.1)
    by_result (ReadFault role) (inl read) = absurd (none.reads read.0)
    by_result (ReadFault role) (inr missing) = done (ReadFault role) (missing_end role before.files missing)
    by_result (TooLong role) cause = done (TooLong role) cause.0
    by_result (Usage word) cause = done (Usage word) cause
    by_result (JobRefused error) cause = done (JobRefused error) cause
    by_result (Gerber role error) cause = done (Gerber role error) cause
    by_result (Drill error) cause = done (Drill error) cause
    by_result (Outline error) cause = done (Outline error) cause
    by_result (Ngc role fault line) cause = done (Ngc role fault line) cause
    by_result (Watch watcher at) cause = done (Watch watcher at) cause
    by_result (CellHit i j line) cause = done (CellHit i j line) cause
    by_result (Limit hit) cause = done (Limit hit) cause

-- ---- all of it

module _ (one_count : OneCount) (reading : ReadingLaw) (spelling : SpellingOverLaw) (levels : LevelledSidesLaw) (clear_law : OwnClearLaw) (side_law : OwnSideLaw) (level_law : LevelledRunLaw) (moves_law : OwnMovesLaw) (exact : AfterDone IsExact) where
  module _ (words : List (List ℕ)) (files : Files) (x : Accepts) (plan : Isolation) (good : accepted words (held_in files) ≡ Ok x) (own : IsOwnProgram x plan) where
    read : IsSideJob x.job × (program_of x.program ≡ Ok x.lines)
    read = let r = accepted_read words (held_in files) x good in (r.job, r.lines)

    runs : (moves : List Move) × IsOwnRun x plan own.grid moves
    runs =
        own_run side_law clear_law level_law x plan read.0 own.planned own.grid own.over own.fits own.reach (lines_are spelling reading levels x plan read.0 read.1 own)

    only_done : (e : Ending) → CheckEnds words (held_in files) e → e.status ≡ Done
    only_done e ends = by_end (ends_of words (held_in files) x e good ends)
      where
        by_end : EndsOf x e → e.status ≡ Done
        by_end (inl faulted) = absurd (no_fault one_count x plan runs.0 own runs.1 faulted.0 faulted.1)
        by_end (inr found) = ap (λ (e : Ending). e.status) found.2

    listed : (c : Checked) → accepted words (held_in files) ≡ Ok c.accepts → Finds c.accepts (Ok c.found) → IsListedBy plan c
    listed c given finds =
        found_listed moves_law x plan runs.0 read.0 own runs.1 c.found (subst (λ (y : Accepts). Finds y (Ok c.found)) (ok_is c.accepts x (sym given ∙ good)) finds)

    passed : (before now : SinkState) → Passed IsExact words files before now → Passed (IsListedBy plan) words files before now
    passed before now p = record { checked = p.checked; given = p.given; finds = p.finds; told = p.told; holds = listed p.checked p.given p.finds }

  pub own_passes : OwnPasses
  own_passes words result shelf_before shelf_now before now cause tells =
      all_told shelf_before.files (λ files. (x : Accepts) (plan : Isolation) → accepted words (held_in files) ≡ Ok x → IsOwnProgram x plan → NoneRose shelf_before shelf_now before now → PassesAs plan words files result before now)
      (λ files told x plan good own none. record {
        answer = done_or_memory (CheckEnds words) files result shelf_before shelf_now before now told (only_done words files x plan good own) none cause;
        told = λ done. passed words files x plan good own before now (subst (λ o. IfTold o (λ files. Passed IsExact words files before now)) told (exact words result shelf_before shelf_now before now tells done));
      })

-- ---- what was milled

-- in one tile a side's program is the plan's, over its grid, if any
written_as : TilingLaws → (job : Job) (tiles : List Tile) (image : List Painted) (plan : Isolation) (q : Program) → IsSideIn job tiles image plan q → job.tile_x ≡ 1 → job.tile_y ≡ 1 → q ≡ levelled_if q.grid job.pitch plan.program
written_as laws job tiles image plan q s across up = by_case s.made
  where
    by_case : IsTiled job.pitch tiles plan.program q ⊎ IsOverGrid job tiles plan q → q ≡ levelled_if q.grid job.pitch plan.program
    by_case (inl t) =
        in_one_tile laws job tiles s.by plan.program q across up s.rows t.is ∙ ap (λ (g : Option ProbeGrid). levelled_if g job.pitch plan.program) (sym (no_grid job.pitch tiles plan.program q t))
    by_case (inr o) = o.is ∙ ap (λ (g : Option ProbeGrid). levelled_if g job.pitch plan.program) (sym (its_grid job tiles plan q o))

-- a side that was milled in one tile has such a program
pub own_written : TilingLaws → AfterMill (OfSides GivesOwn)
own_written laws =
    sides_after_done laws GivesOwn (λ job tiles image plan q s x same_job same_image same_program across up over fits reach. record {
      planned = subst (λ (painted : List Painted). IsIsolationOf x.job painted plan) (sym same_image) (subst (λ (j : Job). IsIsolationOf j image plan) (sym same_job) s.isolates);
      grid = q.grid;
      over = over;
      written = same_program
          ∙ ap program_text (written_as laws job tiles image plan q s (ap (λ (j : Job). j.tile_x) (sym same_job) ∙ across) (ap (λ (j : Job). j.tile_y) (sym same_job) ∙ up)
          ∙ ap (λ (j : Job). levelled_if q.grid j.pitch plan.program) (sym same_job));
      fits = fits;
      reach = reach;
    })
