-- An outline in tiles.
use Rattle.std.proofs.Common.{◌≡◌, ℕ, ◌<◌, ℤ, pos, neg_ℤ, ◌*ℤ◌, ◌<ℤ◌, ◌≤ℤ◌, true, List, [], ◌∷◌, length, map, inl, inr, ap, sym, ◌∙◌, subst, arith}
use Rattle.std.specs.List.{All, Contains, range_with_len}
use Rattle.std.proofs.lemmas.Int.{ints}
use Rattle.std.proofs.lemmas.List.Elements.{All-head, All-tail, All-contains}
use Rattle.board_base.specs.declared.places.Cell.{Cell}
use Rattle.board_base.specs.declared.places.Point.{Point}
use Rattle.board_base.specs.declared.places.Move.{Move}
use Rattle.poly_area.specs.Area.{area_holds}
use Rattle.rs274_sim.specs.Cutter.{IsLow, Sweeps, nanometre}
use Rattle.mill_program.specs.declared.cuts.Corner.{Corner}
use Rattle.mill_program.specs.declared.cuts.ToolRun.{ToolRun}
use Rattle.mill_program.specs.declared.cuts.Program.{Program}
use Rattle.mill_program.specs.Conditions.{IsRunnableCut, IsRunnable}
use Rattle.mill_program.specs.RunLaw.{RunLaw}
use Rattle.mill_program.specs.Strokes.{wanted}
use Rattle.mill_program.proofs.StrokeLaws.{scaled_up}
use Rattle.tiling.specs.Alike.{CutAlike, HaveLowOf, StretchLaw, CutsAlikeLaw, LowAlikeLaw}
use Rattle.tiling.proofs.RunsLaws.{runs_in_tiles, no_bite_alike}
use Rattle.outline_bridges.specs.declared.steps.Step.{Step}
use Rattle.outline_bridges.specs.OverLaw.{SomeOver, IsCutOver, OverLaw}
use Rattle.outline_loops.proofs.DrawnLaws.{to_flat_map}
use Rattle.job_file.specs.declared.job.Job.{Job}
use Rattle.job_file.specs.Checks.{radius_of}
use Rattle.job_file.specs.Ranges.{IsInRanges}
use Rattle.mill_plan.proofs.ProgramLaws.{image_of, in_range}
use Rattle.outline_plan.specs.Job.{bridge_width, levels_count, level_at}
use Rattle.outline_plan.specs.Cuts.{steps_at, cut_at, walk_cuts, outline_cuts, outline_run, outline_program}
use Rattle.outline_plan.specs.CutOut.{IsCutStep, Outlines}
use Rattle.outline_tiles.specs.Tiled.{TiledOutlineLaw}

-- ---- heights

-- where a cut goes over a step, the step is as low as the cut
over_below : (safe : ℤ) (c : Corner) (cs : List Corner) (s : Step) → SomeOver c cs s → All (λ (e : Corner). e.z <ℤ safe) (c ∷ cs) → s.z <ℤ safe
over_below safe c [] s over below = absurd over
over_below safe c (e ∷ es) s (inl g) below = subst (λ z. z <ℤ safe) g.from_level (All-head (λ (d : Corner). d.z <ℤ safe) c (e ∷ es) below)
over_below safe c (e ∷ es) s (inr over) below = over_below safe e es s over (All-tail (λ (d : Corner). d.z <ℤ safe) c (e ∷ es) below)

cut_below : (safe : ℤ) (cut : List Corner) (s : Step) → IsCutOver cut s → All (λ (e : Corner). e.z <ℤ safe) cut → s.z <ℤ safe
cut_below safe [] s over below = absurd over
cut_below safe (c ∷ cs) s over below = over_below safe c cs s over below

-- bridges are below the safe height
bridges_below : (job : Job) → IsInRanges job → job.zbridges ≤ℤ job.zsafe
bridges_below job ok = by job.zbridges job.zsafe ok.zbridges.high ok.zsafe.low
  where
    by : (z s : ℤ) → z ≤ℤ neg_ℤ (pos 1000) → (pos 100 *ℤ pos 1000) ≤ℤ s → z ≤ℤ s
    by z s h k = omega (arith, ints)

module _ (job : Job) (loops : List (List Point)) (bridges : List Point) (walks : List (List Cell)) (over : OverLaw) (can : IsRunnable (outline_program job (outline_cuts job bridges walks))) where
  abbrev program : Program
  program = outline_program job (outline_cuts job bridges walks)

  abbrev height : ℤ
  height = job.zsafe *ℤ nanometre

  -- each step of each level of each walk is below the safe height
  step_below : (w : List Cell) (k : ℕ) (s : Step) → Contains walks w → k < levels_count job → Contains (steps_at job bridges w (level_at job k)) s → s.z <ℤ job.zsafe
  step_below w k s there l on =
      let cuts : All (IsRunnableCut job.zsafe) (outline_cuts job bridges walks) =
      All-head (λ (run : ToolRun). All (IsRunnableCut job.zsafe) run.cuts) (outline_run job (outline_cuts job bridges walks)) [] can.cuts in
      let level : Contains (walk_cuts job bridges w) (cut_at job bridges w (level_at job k)) =
      image_of (cut_at job bridges w) (map (level_at job) (range_with_len 0 (levels_count job))) (level_at job k)
      (image_of (level_at job) (range_with_len 0 (levels_count job)) k (in_range (levels_count job) k l)) in
      let cut = All-contains (IsRunnableCut job.zsafe) (outline_cuts job bridges walks) (cut_at job bridges w (level_at job k)) cuts
      (to_flat_map (walk_cuts job bridges) walks w (cut_at job bridges w (level_at job k)) there level) in
      cut_below job.zsafe (cut_at job bridges w (level_at job k)) s (over (record { level = level_at job k; lifted = job.zbridges; d = bridge_width job }) bridges job.pitch w s on) cut.below

  -- ---- what passes to moves that cut alike

  step_alike : (plain moves : List Move) (s : Step) → HaveLowOf height plain moves → s.z <ℤ job.zsafe → IsCutStep plain s → IsCutStep moves s
  step_alike plain moves s alike below cut =
      let deep : (s.z *ℤ nanometre) <ℤ height = omega (arith, ints, below) in
      let low : IsLow height cut.move = (cut.turning, inl (subst (λ z. z <ℤ height) (sym cut.from_height) deep)) in
      let n = alike cut.move cut.there low in
      record {
        move = n.0;
        there = n.1;
        turning = ap (λ (m : Move). m.turning) (sym n.2) ∙ cut.turning;
        from_height = ap (λ (m : Move). (m.from).z) (sym n.2) ∙ cut.from_height;
        to_height = ap (λ (m : Move). (m.to).z) (sym n.2) ∙ cut.to_height;
        from_on = subst (λ (m : Move). Sweeps m s.from (pos 0)) n.2 cut.from_on;
        to_on = subst (λ (m : Move). Sweeps m s.to (pos 0)) n.2 cut.to_on;
      }

  outlines_alike : IsInRanges job → CutsAlikeLaw → LowAlikeLaw → (plain moves : List Move) → CutAlike height plain moves → Outlines job loops bridges walks program plain → Outlines job loops bridges walks program moves
  outlines_alike ok cuts low plain moves alike o =
      let both = low height plain moves alike in
      let level : height ≤ℤ height = omega (arith, ints) in
      record {
        no_bite = no_bite_alike height height (λ q. area_holds q loops ≡ true) (radius_of job.cutter_diameter) plain moves level both.0 o.no_bite;
        stands = no_bite_alike height (job.zbridges *ℤ nanometre) (Contains bridges) (radius_of (bridge_width job)) plain moves (scaled_up job.zbridges job.zsafe (bridges_below job ok)) both.0 o.stands;
        steps = λ w k s there l on. step_alike plain moves s both.1 (step_below w k s there l on) (o.steps w k s there l on);
        cuts = cuts job.zsafe (wanted program.runs) plain moves alike o.cuts;
      }

-- ---- the law

-- what passes between moves, in the program's own words
passes_in : (job : Job) (loops : List (List Point)) (bridges : List Point) (walks : List (List Cell)) (p : Program) → p ≡ outline_program job (outline_cuts job bridges walks) → OverLaw → IsRunnable p → IsInRanges job → CutsAlikeLaw → LowAlikeLaw
    → (plain moves : List Move) → CutAlike (p.safe *ℤ nanometre) plain moves → Outlines job loops bridges walks p plain → Outlines job loops bridges walks p moves
passes_in job loops bridges walks p is over can ok cuts low plain moves alike o =
    let can_run : IsRunnable (outline_program job (outline_cuts job bridges walks)) = subst IsRunnable is can in
    subst (λ (q : Program). Outlines job loops bridges walks q moves) (sym is)
    (outlines_alike job loops bridges walks over can_run ok cuts low plain moves (subst (λ (q : Program). CutAlike (q.safe *ℤ nanometre) plain moves) is alike)
    (subst (λ (q : Program). Outlines job loops bridges walks q plain) is o))

-- by the laws of runs, of stretches, of moves that cut alike, and of cuts along walks
pub tiled_outline : RunLaw → OverLaw → StretchLaw → CutsAlikeLaw → LowAlikeLaw → TiledOutlineLaw
tiled_outline run over stretch cuts low job painted plan shifts some ok h valid =
    let bridges : List Point = (plan.bridges).items in
    let one : length (plan.program).runs ≡ 1 = ap (λ (p : Program). length p.runs) h.words in
    runs_in_tiles run stretch shifts plan.program (Outlines job h.loops bridges h.walks plan.program) some one h.valid h.runnable valid
    (passes_in job h.loops bridges h.walks plan.program h.words over h.runnable ok cuts low) h.outlines
