-- What the run of a drill list's program drills.
use Rattle.std.proofs.Common.{◌≡◌, ℕ, ◌+◌, List, [], ◌∷◌, ◌++◌, map, refl, ap, subst, ◌∙◌}
use Rattle.std.specs.List.{flat_map, enumerate_from}
use Rattle.std.proofs.lemmas.List.{map-append}
use Rattle.std.proofs.lemmas.Simd.{map-map}
use Rattle.job_file.specs.declared.job.Job.{Job}
use Rattle.drill_plan.specs.declared.plans.ToolPlan.{ToolPlan}
use Rattle.drill_plan.specs.Laws.{EntriesLaw}
use Rattle.mill_program.specs.RunLaw.{RunLaw}
use Rattle.rs274_sim.specs.Runs.{RunsTo}
use Rattle.mill_program.specs.Strokes.{StrokeLaw, Wanted, CutsExactly, wanted_cut, wanted}
use Rattle.drill_program.specs.Program.{hole_cut, slot_cut, tool_run, program_of}
use Rattle.drill_program.specs.Holes.{tool_wants, HolesLaw}
use Rattle.drill_program.proofs.ProgramLaws.{program_in, program_runs}

-- what a tool run has to cut
pub tool_wanted : (job : Job) (number : ℕ) (t : ToolPlan) → map (wanted_cut (tool_run job number t)) (tool_run job number t).cuts ≡ tool_wants job number t
unfolding tool_run
tool_wanted job number t =
    let cut = wanted_cut (tool_run job number t) in
    map-append cut (map (hole_cut job) t.holes) (map (slot_cut job) t.slots)
    ∙ ap (λ l. l ++ map cut (map (slot_cut job) t.slots)) (map-map cut (hole_cut job) t.holes)
    ∙ ap (λ l. map (λ p. cut (hole_cut job p)) t.holes ++ l) (map-map cut (slot_cut job) t.slots)

-- what the program has to cut
all_wanted : (job : Job) (n : ℕ) (plan : List ToolPlan) → wanted (map (λ t. tool_run job t.0 t.1) (enumerate_from n plan)) ≡ flat_map (λ t. tool_wants job t.0 t.1) (enumerate_from n plan)
all_wanted job n [] = refl
all_wanted job n (t ∷ plan) =
    ap (λ l. l ++ wanted (map (λ t. tool_run job t.0 t.1) (enumerate_from (n + 1) plan))) (tool_wanted job n t)
    ∙ ap (λ l. tool_wants job n t ++ l) (all_wanted job (n + 1) plan)

-- by the laws of runs, of strokes and of drill lists
pub holes_law : RunLaw → StrokeLaw → EntriesLaw → HolesLaw
unfolding RunsTo program_of
holes_law run_law stroke_law entries_law job file plan ok high limits d answers =
    let valid = program_in job ok plan limits in
    let can_run = program_runs job ok plan high in
    let run = run_law answers (program_of job plan) valid can_run in (
      run.0,
      run.1,
      record {
        strokes = subst (λ (wants : List Wanted). CutsExactly job.zsafe wants run.0) (all_wanted job 1 plan) (stroke_law (program_of job plan) run.0 valid can_run run.2);
        listed = entries_law file job.drills_available plan d;
      },
    )
