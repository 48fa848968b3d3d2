-- The run of a program's lines over a grid makes its moves over the surface.
use Rattle.std.proofs.Common.{◌≡◌, refl, ℕ, ◌*◌, ◌≤◌, ℤ, pos, List, [], ◌∷◌, ◌++◌, true, false, Ok, Option, Some, None, ap, sym, ◌∙◌, append_assoc, append-nil, map, length, arith}
use Rattle.std.specs.List.{flat_map, All, AllByRecursion}
use Rattle.std.proofs.lemmas.List.Elements.{recursion_from_All}
use Rattle.board_base.specs.Places.{IsCoordinate}
use Rattle.board_base.specs.declared.places.Pos.{Pos}
use Rattle.board_base.specs.declared.places.Move.{Move}
use Rattle.board_base.specs.declared.places.MoveKind.TheVariants.{Rapid}
use Rattle.rs274_sim.specs.Evaluation.{Parameters}
use Rattle.rs274_sim.specs.declared.line.Line.{Line}
use Rattle.rs274_sim.specs.Machine.{one, Machine, start, run_from, run_of}
use Rattle.rs274_sim.proofs.TextLaws.{whole_of}
use Rattle.mill_program.specs.declared.cuts.Corner.{Corner}
use Rattle.mill_program.specs.declared.cuts.ToolRun.{ToolRun}
use Rattle.mill_program.specs.declared.probes.ProbeGrid.{ProbeGrid}
use Rattle.mill_program.specs.Conditions.{IsCorner, IsCut, IsToolRun}
use Rattle.mill_program.specs.Heights.{HasAnswers, HeightLaw}
use Rattle.mill_program.specs.Lines.{words, mode_line, height_line, stop_line, tool_line, spindle_line, wait_line, end_line, foot_lines}
use Rattle.mill_program.specs.GridLines.{probe_lines, cut_over, run_over, lines_over}
use Rattle.mill_program.specs.Moves.{unnumbered, standing, turning_in, rapid, at_height, zero_pos}
use Rattle.mill_program.proofs.StepLaws.{at_rapid, to_tool, to_speed, to_stop, to_wait, to_mode, count_passes}
use Rattle.grid_runs.specs.Conditions.{IsCornerOver}
use Rattle.grid_runs.specs.Moves.{place_on, standing_in, probes_moves, after_probes, probes_in, cuts_at, after_cuts_at, runs_over, moves_over}
use Rattle.grid_runs.specs.RunLaw.{GridRunLaw}
use Rattle.grid_runs.proofs.BlockLaws.{Makes, one_behind, one_still}
use Rattle.grid_runs.proofs.AnswerLaws.{all_probed, all_kept}
use Rattle.grid_runs.proofs.ProbeRuns.{working, to_level, CanProbe, probes_from}
use Rattle.grid_runs.proofs.CutRuns.{IsGridCorner, CanCut, all_cuts}

-- ---- corners

grid_corners : (g : ProbeGrid) (cut : List Corner) → AllByRecursion IsCorner cut → AllByRecursion (IsCornerOver g) cut → AllByRecursion (IsGridCorner g) cut
grid_corners g [] h k = tt
grid_corners g (c ∷ cs) h k = (record { flat = h.0; over = k.0 }, grid_corners g cs h.1 k.1)

grid_cuts : (g : ProbeGrid) (cuts : List (List Corner)) → AllByRecursion IsCut cuts → AllByRecursion (All (IsCornerOver g)) cuts → AllByRecursion (AllByRecursion (IsGridCorner g)) cuts
grid_cuts g [] h k = tt
grid_cuts g (cut ∷ cuts) h k = (grid_corners g cut (recursion_from_All IsCorner cut h.0.corners) (recursion_from_All (IsCornerOver g) cut k.0), grid_cuts g cuts h.1 k.1)

-- ---- parts of a program

-- the modes, up to where the tool is changed
to_change : {answers : List ℤ} (change : ℤ) → IsCoordinate change
    → Makes answers start (words mode_line ∷ words (height_line change) ∷ []) (rapid standing zero_pos (at_height change zero_pos) ∷ []) (at_rapid start (at_height change zero_pos))
to_change {answers = answers} change h = one_behind (one_still refl (λ n. to_mode answers n start)) (to_level change start h)

-- the change of the tool
tool_changed : {answers : List ℤ} (run : ToolRun) (change : ℤ) → IsToolRun run
    → Makes answers (at_rapid start (at_height change zero_pos)) (words stop_line ∷ words (tool_line run) ∷ []) [] (working (standing_in run) (at_height change zero_pos) (pos 0) (Some Rapid) (λ n. pos 0) 0)
tool_changed {answers = answers} run change r =
    let high = at_rapid start (at_height change zero_pos) in
    let with_tool : ℕ → Machine = λ t. working (record { turning = false; speed = 0; tool = t }) (at_height change zero_pos) (pos 0) (Some Rapid) (λ n. pos 0) 0 in
    one_behind {next = high} (one_still refl (λ n. to_stop answers n high))
    (one_still {next = with_tool run.tool} refl (λ n. to_tool answers n high (pos (run.tool * one)) (count_passes 9999 run.tool r.tool) ∙ ap (λ t. Ok (with_tool t, None)) (whole_of run.tool)))

-- the spindle turns
turned : {answers : List ℤ} (run : ToolRun) (p : Pos) (f : ℤ) (ps : Parameters) (used : ℕ) → IsToolRun run
    → Makes answers (working (standing_in run) p f (Some Rapid) ps used) (words (spindle_line run) ∷ words wait_line ∷ []) [] (working (turning_in run) p f (Some Rapid) ps used)
turned {answers = answers} run p f ps used r =
    let still = working (standing_in run) p f (Some Rapid) ps used in
    let at_speed : ℕ → Machine = λ v. working (record { turning = true; speed = v; tool = run.tool }) p f (Some Rapid) ps used in
    one_behind {next = at_speed run.speed}
    (one_still refl (λ n. to_speed answers n still (pos (run.speed * one)) (count_passes 100000 run.speed r.speed) ∙ ap (λ v. Ok (at_speed v, None)) (whole_of run.speed)))
    (one_still refl (λ n. to_wait answers n (at_speed run.speed)))

-- up in the end, and the spindle stands
lifted : {answers : List ℤ} (change : ℤ) (m : Machine) → IsCoordinate change
    → Makes answers m (words (height_line change) ∷ words stop_line ∷ []) (rapid (record { turning = m.turning; speed = m.speed; tool = m.tool }) m.at (at_height change m.at) ∷ [])
    (record m { at = at_height change m.at; turning = false; motion = Some Rapid })
lifted {answers = answers} change m h = one_behind (to_level change m h) (one_still refl (λ n. to_stop answers n (at_rapid m (at_height change m.at))))

-- ---- whole programs

-- lines that the machine runs from its start, to their end, with these moves
record RunsTo (answers : List ℤ) (lines : List Line) (expected : List Move) : Type 0 where
  moves : List Move
  runs : run_from answers 0 start lines ≡ Ok moves
  same : map unnumbered moves ≡ expected

-- the last line behind others
ended : {answers : List ℤ} {lines : List Line} {expected : List Move} {next : Machine} → Makes answers start lines expected next → RunsTo answers (lines ++ words end_line ∷ []) expected
ended {answers = answers} {lines = lines} {expected = expected} {next = next} h = record {
  moves = h.made 0;
  runs = h.runs 0 (words end_line ∷ []) ∙ ap Ok (append-nil (h.made 0));
  same = h.same 0;
}

-- a program without tool runs
no_run : {answers : List ℤ} (g : ProbeGrid) (safe change : ℤ) → IsCoordinate change → RunsTo answers (words mode_line ∷ foot_lines change) (runs_over g answers safe change standing zero_pos [])
no_run {answers = answers} g safe change h = ended (one_behind (one_still refl (λ n. to_mode answers n start)) (lifted change start h))

-- the parts of one tool run, and its last lines
regrouped : (probes cuts lift end : List Line) (spindle wait down : Line)
    → (probes ++ (spindle ∷ wait ∷ down ∷ (cuts ++ lift))) ++ end ≡ ((probes ++ (spindle ∷ wait ∷ down ∷ cuts)) ++ []) ++ (lift ++ end)
regrouped probes cuts lift end spindle wait down =
    append_assoc probes (spindle ∷ wait ∷ down ∷ (cuts ++ lift)) end
    ∙ ap (λ t. probes ++ (spindle ∷ wait ∷ down ∷ t)) (append_assoc cuts lift end)
    ∙ sym (append_assoc probes (spindle ∷ wait ∷ down ∷ cuts) (lift ++ end))
    ∙ ap (λ t. t ++ (lift ++ end)) (sym (append-nil (probes ++ (spindle ∷ wait ∷ down ∷ cuts))))

-- the lines of one tool run by what its probes and its cuts do
one_by : {answers : List ℤ} (safe change : ℤ) (run : ToolRun) (end last : Pos) (e f : ℤ) (ps : Parameters) (used : ℕ) (probe_ls cut_ls : List Line) (probes cuts : List Move) → IsCoordinate safe → IsCoordinate change → IsToolRun run
    → Makes answers (working (standing_in run) (at_height safe zero_pos) (pos 0) (Some Rapid) (λ n. pos 0) 0) probe_ls probes (working (standing_in run) end e (Some Rapid) ps used)
    → Makes answers (working (turning_in run) (at_height safe end) e (Some Rapid) ps used) cut_ls cuts (working (turning_in run) last f (Some Rapid) ps used)
    → RunsTo answers
    (
    words mode_line ∷ words (height_line change) ∷ words stop_line ∷ words (tool_line run) ∷ words (height_line safe)
    ∷ ((probe_ls ++ (words (spindle_line run) ∷ words wait_line ∷ words (height_line safe) ∷ cut_ls)) ++ []) ++ foot_lines change
    )
    (
    rapid standing zero_pos (at_height change zero_pos)
    ∷ rapid (standing_in run) (at_height change zero_pos) (at_height safe zero_pos)
    ∷ probes ++ (rapid (turning_in run) end (at_height safe end) ∷ cuts ++ (rapid (turning_in run) last (at_height change last) ∷ []))
    )
one_by {answers = answers} safe change run end last e f ps used probe_ls cut_ls probes cuts s h r probed cut =
    let spindle = words (spindle_line run) in
    let down = words (height_line safe) in
    let lift : List Line = words (height_line change) ∷ words stop_line ∷ [] in
    let run_to = ended
    (one_behind (to_change change h)
    (one_behind (tool_changed run change r)
    (one_behind (to_level safe (working (standing_in run) (at_height change zero_pos) (pos 0) (Some Rapid) (λ n. pos 0) 0) s)
    (one_behind probed
    (one_behind (turned run end e ps used r)
    (one_behind (to_level safe (working (turning_in run) end e (Some Rapid) ps used) s)
    (one_behind cut (lifted change (working (turning_in run) last f (Some Rapid) ps used) h)))))))) in
    record {
      moves = run_to.moves;
      runs =
          ap (λ t. run_from answers 0 start (words mode_line ∷ words (height_line change) ∷ words stop_line ∷ words (tool_line run) ∷ words (height_line safe) ∷ t))
          (sym (regrouped probe_ls cut_ls lift (words end_line ∷ []) spindle (words wait_line) down))
          ∙ run_to.runs;
      same = run_to.same;
    }

-- a program of one tool run
one_run : HeightLaw → (g : ProbeGrid) (answers : List ℤ) (safe change : ℤ) (run : ToolRun) → CanProbe g answers safe → IsCoordinate change → IsToolRun run → All (All (IsCornerOver g)) run.cuts
    → RunsTo answers (words mode_line ∷ flat_map (run_over (Some g) safe change) (run ∷ []) ++ foot_lines change) (runs_over g answers safe change standing zero_pos (run ∷ []))
one_run law g answers safe change run c h r w =
    let ps = all_probed g answers (λ n. pos 0) (probes_in g) in
    let end = after_probes g safe (at_height safe zero_pos) (probes_in g) in
    let kept : HasAnswers g answers ps = all_kept g answers (λ n. pos 0) c.grid.few in
    let can : CanCut g answers safe ps = record { grid = c.grid; fit = c.fit; safe_in = c.safe_in; value = λ corner z. law g answers ps corner c.grid c.fit z kept } in
    let corners = grid_cuts g run.cuts (recursion_from_All IsCut run.cuts r.cuts) (recursion_from_All (All (IsCornerOver g)) run.cuts w) in
    let probes = probes_from g answers safe run (g.nx * g.ny) 0 zero_pos (pos 0) (λ n. pos 0) c (omega arith) in
    let cuts = all_cuts g answers safe run ps probes.1 run.cuts end probes.0 can r corners in
    one_by safe change run end (after_cuts_at (place_on g answers) safe (at_height safe end) run.cuts) probes.0 cuts.0 ps probes.1 (flat_map (probe_lines safe g) (probes_in g)) (flat_map (cut_over (Some g) safe run) run.cuts)
    (probes_moves g answers safe run (at_height safe zero_pos) (probes_in g)) (cuts_at (place_on g answers) safe run (at_height safe end) run.cuts) c.safe_in h r probes.2 cuts.1

-- a program of one tool run at most
all_runs : HeightLaw → (g : ProbeGrid) (answers : List ℤ) (safe change : ℤ) (runs : List ToolRun) → length runs ≤ 1 → CanProbe g answers safe → IsCoordinate change → AllByRecursion IsToolRun runs
    → AllByRecursion (λ run. All (All (IsCornerOver g)) run.cuts) runs → RunsTo answers (words mode_line ∷ flat_map (run_over (Some g) safe change) runs ++ foot_lines change) (runs_over g answers safe change standing zero_pos runs)
all_runs law g answers safe change [] few c h r w = no_run g safe change h
all_runs law g answers safe change (run ∷ []) few c h r w = one_run law g answers safe change run c h r.0 w.0
all_runs law g answers safe change (run ∷ other ∷ runs) few c h r w = absurd (omega (arith, few))

-- the lines of a program over a grid run to their end, and make its moves
pub grid_run : HeightLaw → GridRunLaw
unfolding run_of lines_over moves_over
grid_run law g answers p h w fit reach =
    let can : CanProbe g answers p.safe = record { grid = h.is_grid; fit = fit; reach = reach; safe_in = h.safe; range = h.range } in
    let run_to = all_runs law g answers p.safe p.change p.runs h.one can h.change (recursion_from_All IsToolRun p.runs h.runs) (recursion_from_All (λ run. All (All (IsCornerOver g)) run.cuts) p.runs h.corners) in (
      run_to.moves,
      ap (λ (grid : Option ProbeGrid). run_from answers 0 start (words mode_line ∷ flat_map (run_over grid p.safe p.change) p.runs ++ foot_lines p.change)) h.grid ∙ run_to.runs,
      run_to.same,
    )
