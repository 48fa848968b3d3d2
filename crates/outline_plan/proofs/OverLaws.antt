-- The run of a program goes over the steps of its cuts.
use Rattle.std.proofs.Common.{◌≡◌, ◌⊎◌, inl, inr, ℕ, zero, suc, ◌<◌, ℤ, pos, ◌*ℤ◌, true, List, [], ◌∷◌, ◌++◌, map, refl, sym, ap, subst, ◌∙◌, arith}
use Rattle.std.specs.List.{Contains, range_with_len}
use Rattle.std.proofs.lemmas.List.Elements.{Contains-append_left, Contains-append_right}
use Rattle.board_base.specs.declared.places.Pos.{Pos}
use Rattle.board_base.specs.declared.places.Cell.{Cell}
use Rattle.board_base.specs.declared.places.Point.{Point}
use Rattle.board_base.specs.declared.places.Move.{Move}
use Rattle.board_base.specs.Near.{near_of}
use Rattle.rs274_sim.specs.Cutter.{nanometre, scaled, under, width_of}
use Rattle.mill_program.specs.declared.cuts.Corner.{Corner}
use Rattle.mill_program.specs.declared.cuts.ToolRun.{ToolRun}
use Rattle.mill_program.specs.Moves.{standing, turning_in, rapid, feeding, place_of as pos_of, at_height, over, zero_pos, step_move, step_moves, last_of, cut_moves, after_cut, cuts_moves, after_cuts, moves_of, unnumbered}
use Rattle.outline_bridges.specs.declared.steps.Step.{Step}
use Rattle.outline_bridges.specs.CutLaw.{place_of}
use Rattle.outline_bridges.specs.OverLaw.{GoesOver, SomeOver, IsCutOver}
use Rattle.outline_loops.proofs.DrawnLaws.{to_flat_map}
use Rattle.job_file.specs.declared.job.Job.{Job}
use Rattle.mill_plan.proofs.MoveLaws.{from_numbered}
use Rattle.mill_plan.proofs.ProgramLaws.{image_of, in_range}
use Rattle.outline_plan.specs.Job.{levels_count, level_at}
use Rattle.outline_plan.specs.Cuts.{cut_at, walk_cuts, outline_cuts, outline_run, outline_program}
use Rattle.outline_plan.specs.CutOut.{IsCutStep}
use Rattle.mill_plan.proofs.UnitLaws.{upscaled}
use Rattle.outline_plan.proofs.UnitLaws.{under_corner}

-- ---- the part that goes over a step

-- c and e are successive corners
abbrev AreNext : List Corner → Corner → Corner → Type 0
AreNext [] c e = ⊥
AreNext (x ∷ []) c e = ⊥
AreNext (x ∷ y ∷ cs) c e = ((x ≡ c) × (y ≡ e)) ⊎ AreNext (y ∷ cs) c e

-- two successive corners between which the cut goes over the step
record IsPartOver (cut : List Corner) (s : Step) : Type 0 where
  from : Corner
  to : Corner
  next : AreNext cut from to
  over : GoesOver from to s

part_from : (s : Step) (c : Corner) (cs : List Corner) → SomeOver c cs s → IsPartOver (c ∷ cs) s
part_from s c [] h = absurd h
part_from s c (e ∷ es) (inl g) = record { from = c; to = e; next = inl (refl, refl); over = g }
part_from s c (e ∷ es) (inr h) = let p = part_from s e es h in record { from = p.from; to = p.to; next = inr p.next; over = p.over }

part_of : (s : Step) (cut : List Corner) → IsCutOver cut s → IsPartOver cut s
part_of s [] h = absurd h
part_of s (c ∷ cs) h = part_from s c cs h

-- ---- its move

module _ (safe : ℤ) (run : ToolRun) (c e : Corner) where
  steps_there : (x : Corner) (cs : List Corner) → AreNext (x ∷ cs) c e → Contains (step_moves run x cs) (step_move run c e)
  steps_there x [] h = absurd h
  steps_there x (y ∷ cs) (inl k) = (0, omega arith, ap (λ (z : Corner). step_move run z y) k.0 ∙ ap (step_move run c) k.1)
  steps_there x (y ∷ cs) (inr k) = let found = steps_there y cs k in (suc found.0, omega (arith, found.1), found.2)

  cut_there : (from : Pos) (cut : List Corner) → AreNext cut c e → Contains (cut_moves safe run from cut) (step_move run c e)
  cut_there from [] h = absurd h
  cut_there from (x ∷ cs) h =
      let last = rapid (turning_in run) (pos_of (last_of x cs)) (over safe (last_of x cs)) in
      Contains-append_right (rapid (turning_in run) from (over safe x) ∷ feeding run run.plunge (over safe x) (pos_of x) ∷ []) (step_moves run x cs ++ last ∷ []) (step_move run c e)
      (Contains-append_left (step_moves run x cs) (last ∷ []) (step_move run c e) (steps_there x cs h))

  cuts_there : (cuts : List (List Corner)) (from : Pos) (cut : List Corner) → Contains cuts cut → AreNext cut c e → Contains (cuts_moves safe run from cuts) (step_move run c e)
  cuts_there [] from cut there h = absurd (omega (arith, there.1))
  cuts_there (first ∷ cuts) from cut (zero, inside, here) h =
      Contains-append_left (cut_moves safe run from first) (cuts_moves safe run (after_cut safe from first) cuts) (step_move run c e) (cut_there from first (subst (λ (z : List Corner). AreNext z c e) (sym here) h))
  cuts_there (first ∷ cuts) from cut (suc k, inside, here) h =
      Contains-append_right (cut_moves safe run from first) (cuts_moves safe run (after_cut safe from first) cuts) (step_move run c e) (cuts_there cuts (after_cut safe from first) cut (k, omega (arith, inside), here) h)

program_there : (job : Job) (cuts : List (List Corner)) (cut : List Corner) (c e : Corner) → Contains cuts cut → AreNext cut c e → Contains (moves_of (outline_program job cuts)) (step_move (outline_run job cuts) c e)
unfolding moves_of
program_there job cuts cut c e there h =
    let run : ToolRun = outline_run job cuts in
    let start = at_height job.zsafe (at_height job.zchange zero_pos) in
    let end = after_cuts job.zsafe start cuts in
    Contains-append_right (rapid standing zero_pos (at_height job.zchange zero_pos) ∷ rapid (turning_in run) (at_height job.zchange zero_pos) start ∷ []) _ (step_move run c e)
    (Contains-append_left (cuts_moves job.zsafe run start cuts) (rapid (turning_in run) end (at_height job.zchange end) ∷ []) (step_move run c e) (cuts_there job.zsafe run c e cuts start cut there h))

-- ---- the cuts of a walk

level_there : (job : Job) (bridges : List Point) (walks : List (List Cell)) (w : List Cell) (k : ℕ) → Contains walks w → k < levels_count job → Contains (outline_cuts job bridges walks) (cut_at job bridges w (level_at job k))
level_there job bridges walks w k there l =
    to_flat_map (walk_cuts job bridges) walks w (cut_at job bridges w (level_at job k)) there
    (image_of (cut_at job bridges w) (map (level_at job) (range_with_len 0 (levels_count job))) (level_at job k) (image_of (level_at job) (range_with_len 0 (levels_count job)) k (in_range (levels_count job) k l)))

-- ---- the step

-- the run goes over each step that a cut goes over, at its height
pub step_cut : (job : Job) (bridges : List Point) (walks : List (List Cell)) (moves : List Move) (w : List Cell) (k : ℕ) (s : Step) → map unnumbered moves ≡ moves_of (outline_program job (outline_cuts job bridges walks))
    → Contains walks w → k < levels_count job → IsCutOver (cut_at job bridges w (level_at job k)) s → IsCutStep moves s
unfolding width_of
step_cut job bridges walks moves w k s e there l cut_over =
    let cuts : List (List Corner) = outline_cuts job bridges walks in
    let p = part_of s (cut_at job bridges w (level_at job k)) cut_over in
    let step : Move = step_move (outline_run job cuts) p.from p.to in
    let found = from_numbered moves step
    (subst (λ (steps : List Move). Contains steps step) (sym e) (program_there job cuts (cut_at job bridges w (level_at job k)) p.from p.to (level_there job bridges walks w k there l) p.next)) in
    let same : unnumbered found.0 ≡ step = found.2 in
    record {
      move = found.0;
      there = found.1;
      turning = ap (λ (m : Move). m.turning) same;
      from_height = ap (λ (m : Move). (m.from).z) same ∙ ap (λ z. z *ℤ nanometre) (p.over).from_level;
      to_height = ap (λ (m : Move). (m.to).z) same ∙ ap (λ z. z *ℤ nanometre) (p.over).to_level;
      from_on = subst (λ (m : Move). near_of (scaled s.from) (under m.from) (under m.to) ((pos 2 *ℤ pos 0) *ℤ nanometre) ≡ true) (sym same) (on s.from p.from p.to (p.over).from_on);
      to_on = subst (λ (m : Move). near_of (scaled s.to) (under m.from) (under m.to) ((pos 2 *ℤ pos 0) *ℤ nanometre) ≡ true) (sym same) (on s.to p.from p.to (p.over).to_on);
    }
  where
    on : (q : Point) (c e : Corner) → near_of q (place_of c) (place_of e) (pos 0) ≡ true → near_of (scaled q) (under (pos_of c)) (under (pos_of e)) ((pos 2 *ℤ pos 0) *ℤ nanometre) ≡ true
    on q c e near =
        subst (λ (x : Point). near_of (scaled q) x (under (pos_of e)) (pos 0 *ℤ nanometre) ≡ true) (sym (under_corner c))
        (subst (λ (y : Point). near_of (scaled q) (scaled (place_of c)) y (pos 0 *ℤ nanometre) ≡ true) (sym (under_corner e)) (upscaled q (place_of c) (place_of e) (pos 0) near))
