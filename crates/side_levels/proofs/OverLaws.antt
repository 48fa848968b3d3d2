-- Where the low moves of a levelled program are.
use Rattle.std.proofs.Common.{◌≡◌, ℕ, zero, suc, ℤ, pos, neg_ℤ, ◌+ℤ◌, ◌*ℤ◌, ◌≤ℤ◌, ◌<ℤ◌, false, inl, inr, List, [], ◌∷◌, ◌++◌, map, Some, refl, sym, ap, subst, ◌∙◌, arith}
use Rattle.std.specs.Int.{int_div_euclid}
use Rattle.std.specs.List.{All, AllZip, Contains}
use Rattle.std.proofs.lemmas.Bool.{false≢true}
use Rattle.std.proofs.lemmas.Int.{ints}
use Rattle.std.proofs.lemmas.List.Elements.{All-nil, All-cons, All-append, Contains-append_left, Contains-append_right}
use Rattle.number_laws.proofs.Quotients.{rounded_low, rounded_high}
use Rattle.board_base.specs.declared.places.Pos.{Pos}
use Rattle.board_base.specs.declared.places.Point.{Point}
use Rattle.board_base.specs.declared.places.Cell.{Cell}
use Rattle.board_base.specs.declared.places.Move.{Move}
use Rattle.board_base.specs.Lattice.{centre_of}
use Rattle.cell_sets.proofs.Barriers.{refl_le}
use Rattle.chain_walk.specs.Runs.{IsRun, IsOnRun, AreSuccessive}
use Rattle.rs274_sim.specs.Cutter.{nanometre, scaled, under, IsLow}
use Rattle.mill_program.specs.declared.cuts.Corner.{Corner}
use Rattle.mill_program.specs.declared.cuts.ToolRun.{ToolRun}
use Rattle.mill_program.specs.declared.probes.ProbeGrid.{ProbeGrid}
use Rattle.mill_program.specs.Heights.{place_over}
use Rattle.mill_program.specs.Moves.{standing, turning_in, rapid, feeding, at_height, zero_pos, last_of}
use Rattle.mill_program.specs.Probes.{IsGrid, FitGrid, surface, surface_of, probe_place, answer_of}
use Rattle.mill_program.proofs.StrokeLaws.{not_low, scaled_up}
use Rattle.grid_runs.specs.Moves.{place_on, above, standing_in, probing, probes_moves, after_probes, probes_in, step_at, steps_at, cut_at, after_cut_at, cuts_at, after_cuts_at, moves_over}
use Rattle.grid_runs.proofs.SurfaceLaws.{surface_within}
use Rattle.job_file.specs.declared.job.Job.{Job}
use Rattle.mill_plan.specs.Cuts.{corner_of}
use Rattle.mill_plan.proofs.JobLaws.{IsMilling}
use Rattle.mill_plan.proofs.MoveLaws.{IsOverRun, IsGuarded, spot_run, at_least}
use Rattle.program_check.specs.Deep.{point_under, IsDeepAt}
use Rattle.side_levels.specs.Lattices.{IsCutAlong, run_with, program_over}
use Rattle.side_levels.specs.LevelledSide.{IsDeepOn}
use Rattle.side_levels.proofs.CutCells.{run_end}

-- ---- heights over the surface

whole_back : (v : ℤ) → int_div_euclid (v *ℤ nanometre) nanometre ≡ v
whole_back v =
    by (int_div_euclid (v *ℤ nanometre) nanometre) (rounded_low (v *ℤ nanometre) nanometre (int_div_euclid (v *ℤ nanometre) nanometre) some refl)
    (rounded_high (v *ℤ nanometre) nanometre (int_div_euclid (v *ℤ nanometre) nanometre) some refl)
  where
    some : pos 0 <ℤ nanometre
    some = omega (arith, ints)

    by : (q : ℤ) → (nanometre *ℤ q) ≤ℤ (v *ℤ nanometre) → (v *ℤ nanometre) <ℤ (nanometre *ℤ q +ℤ nanometre) → q ≡ v
    by q h k = omega (arith, ints, h, k)

-- a position over a corner stands over its point
point_on : (g : ProbeGrid) (answers : List ℤ) (c : Corner) → point_under (place_on g answers c) ≡ place_over c
point_on g answers c = λ i. record { x = whole_back c.x i; y = whole_back c.y i }

-- a corner over the surface is at its own height over it
deep_at : (job : Job) (g : ProbeGrid) (answers : List ℤ) (c : Cell) → IsDeepAt (surface (Some g) answers) job.zwork (place_on g answers (corner_of job c))
unfolding corner_of
deep_at job g answers c =
    subst (λ (q : Point). (job.zwork *ℤ nanometre +ℤ surface_of g answers (place_over (corner_of job c))) ≤ℤ (job.zwork *ℤ nanometre +ℤ surface_of g answers q)) (sym (point_on g answers (corner_of job c)))
    (refl_le (job.zwork *ℤ nanometre +ℤ surface_of g answers (place_over (corner_of job c))))

-- a deep move is low, where the range is below the safe height
pub deep_low : (job : Job) (g : ProbeGrid) (answers : List ℤ) (move : Move) → IsMilling job → IsGrid g → g.range <ℤ job.zsafe → FitGrid g answers → IsDeepOn job g answers move → IsLow (job.zsafe *ℤ nanometre) move
deep_low job g answers move ok grid under fit deep =
    (deep.0, inl (by job.zwork job.zsafe g.range (surface_of g answers (point_under move.from)) (move.from).z ok.deep under (surface_within g answers (point_under move.from) grid fit).high deep.1))
  where
    by : (work safe range s z : ℤ) → work ≤ℤ neg_ℤ (pos 1000) → range <ℤ safe → s ≤ℤ (range *ℤ nanometre) → z ≤ℤ (work *ℤ nanometre +ℤ s) → z <ℤ (safe *ℤ nanometre)
    by work safe range s z h k l m = omega (arith, ints, h, k, l, m)

-- ---- moves

module _ (job : Job) (g : ProbeGrid) (answers : List ℤ) (walks : List (List Cell)) (run : ToolRun) where
  abbrev place : Corner → Pos
  place = place_on g answers

  abbrev Guarded : Move → Type 0
  Guarded = IsGuarded job walks

  at_corner : (c : Cell) → under (place (corner_of job c)) ≡ scaled (centre_of job.pitch c)
  unfolding corner_of scaled
  at_corner c = refl

  over_corner : (c : Cell) → under (at_height job.zsafe (place (corner_of job c))) ≡ scaled (centre_of job.pitch c)
  unfolding corner_of scaled
  over_corner c = refl

  -- the step at the depth, from corner to corner
  abbrev pub step_on : Cell → Cell → Move
  step_on x y = step_at place run (corner_of job x) (corner_of job y)

  pub step_deep : (x y : Cell) → IsDeepOn job g answers (step_on x y)
  step_deep x y = (refl, deep_at job g answers x, deep_at job g answers y)

  pub step_from : (x y : Cell) → under (step_on x y).from ≡ scaled (centre_of job.pitch x)
  step_from x y = at_corner x

  pub step_to : (x y : Cell) → under (step_on x y).to ≡ scaled (centre_of job.pitch y)
  step_to x y = at_corner y

  spot_over : (w : List Cell) (c : Cell) (move : Move) → Contains walks w → Contains w c → under move.from ≡ scaled (centre_of job.pitch c) → under move.to ≡ scaled (centre_of job.pitch c) → IsOverRun job walks move
  spot_over w c move there inside a b = record { walk = w; there = there; from = c; to = c; run = spot_run w c inside; starts = a; stops = b }

  last_corner : (c : Cell) (cells : List Cell) → last_of (corner_of job c) (map (corner_of job) cells) ≡ corner_of job (last_of c cells)
  last_corner c [] = refl
  last_corner c (d ∷ cells) = last_corner d cells

  last_in : (w : List Cell) (c : Cell) (cells : List Cell) → Contains w c → ((x y : Cell) → AreSuccessive (c ∷ cells) x y → IsRun w x y) → Contains w (last_of c cells)
  last_in w c [] there runs = there
  last_in w c (d ∷ cells) there runs = last_in w d cells (run_end w c d (runs c d (inl (refl, refl)))) (λ x y h. runs x y (inr h))

  steps_guarded : (w : List Cell) (c : Cell) (cells : List Cell) → Contains walks w → ((x y : Cell) → AreSuccessive (c ∷ cells) x y → IsRun w x y) → All Guarded (steps_at place run (corner_of job c) (map (corner_of job) cells))
  steps_guarded w c [] there runs = All-nil Guarded
  steps_guarded w c (d ∷ cells) there runs =
      All-cons Guarded (step_on c d) (steps_at place run (corner_of job d) (map (corner_of job) cells))
      (λ low. record { walk = w; there = there; from = c; to = d; run = runs c d (inl (refl, refl)); starts = at_corner c; stops = at_corner d })
      (steps_guarded w d cells there (λ x y h. runs x y (inr h)))

  corners_guarded : (w : List Cell) (c : Cell) (cells : List Cell) (from : Pos) → from.z ≡ job.zsafe *ℤ nanometre → Contains walks w → Contains w c → ((x y : Cell) → AreSuccessive (c ∷ cells) x y → IsRun w x y)
      → All Guarded (cut_at place job.zsafe run from (map (corner_of job) (c ∷ cells)))
  corners_guarded w c cells from safe there inside runs =
      let over = at_height job.zsafe (place (corner_of job c)) in
      let end : Corner = last_of (corner_of job c) (map (corner_of job) cells) in
      let end_is : end ≡ corner_of job (last_of c cells) = last_corner c cells in
      let first = rapid (turning_in run) from over in
      let second = feeding run run.plunge over (place (corner_of job c)) in
      let steps = steps_at place run (corner_of job c) (map (corner_of job) cells) in
      let last = rapid (turning_in run) (place end) (at_height job.zsafe (place end)) in
      All-cons Guarded first (second ∷ steps ++ last ∷ [])
      (λ low. absurd (not_low (job.zsafe *ℤ nanometre) first (at_least from.z (job.zsafe *ℤ nanometre) safe) (refl_le (job.zsafe *ℤ nanometre)) low))
      (All-cons Guarded second (steps ++ last ∷ []) (λ low. spot_over w c second there inside (over_corner c) (at_corner c))
      (All-append Guarded steps (last ∷ []) (steps_guarded w c cells there runs)
      (All-cons Guarded last []
      (λ low. spot_over w (last_of c cells) last there (last_in w c cells inside runs)
      (ap (λ (e : Corner). under (place e)) end_is ∙ at_corner (last_of c cells)) (ap (λ (e : Corner). under (at_height job.zsafe (place e))) end_is ∙ over_corner (last_of c cells)))
      (All-nil Guarded))))

  cut_guarded : (w : List Cell) (cut : List Corner) (from : Pos) → from.z ≡ job.zsafe *ℤ nanometre → Contains walks w → IsCutAlong job w cut → All Guarded (cut_at place job.zsafe run from cut)
  cut_guarded w cut from safe there a = subst (λ (cs : List Corner). All Guarded (cut_at place job.zsafe run from cs)) (sym a.is) (by a.cells a.inside a.runs)
    where
      by : (cells : List Cell) → ((c : Cell) → Contains cells c → Contains w c) → ((x y : Cell) → AreSuccessive cells x y → IsRun w x y) → All Guarded (cut_at place job.zsafe run from (map (corner_of job) cells))
      by [] inside runs = All-nil Guarded
      by (c ∷ cells) inside runs = corners_guarded w c cells from safe there (inside c (0, omega arith, refl)) runs

  cut_height : (cut : List Corner) (from : Pos) → from.z ≡ job.zsafe *ℤ nanometre → (after_cut_at place job.zsafe from cut).z ≡ job.zsafe *ℤ nanometre
  cut_height [] from safe = safe
  cut_height (c ∷ cs) from safe = refl

  cuts_guarded : (some : List (List Cell)) (cuts : List (List Corner)) (from : Pos) → from.z ≡ job.zsafe *ℤ nanometre → ((w : List Cell) → Contains some w → Contains walks w) → AllZip (IsCutAlong job) some cuts
      → All Guarded (cuts_at place job.zsafe run from cuts)
  cuts_guarded [] [] from safe within along = All-nil Guarded
  cuts_guarded [] (cut ∷ cuts) from safe within along = absurd along
  cuts_guarded (w ∷ some) [] from safe within along = absurd along
  cuts_guarded (w ∷ some) (cut ∷ cuts) from safe within along =
      All-append Guarded (cut_at place job.zsafe run from cut) (cuts_at place job.zsafe run (after_cut_at place job.zsafe from cut) cuts)
      (cut_guarded w cut from safe (within w (0, omega arith, refl)) along.0)
      (cuts_guarded some cuts (after_cut_at place job.zsafe from cut) (cut_height cut from safe) (λ v m. within v (suc m.0, omega (arith, m.1), m.2)) along.1)

  pub cuts_height : (cuts : List (List Corner)) (from : Pos) → from.z ≡ job.zsafe *ℤ nanometre → (after_cuts_at place job.zsafe from cuts).z ≡ job.zsafe *ℤ nanometre
  cuts_height [] from safe = safe
  cuts_height (cut ∷ cuts) from safe = cuts_height cuts (after_cut_at place job.zsafe from cut) (cut_height cut from safe)

  -- ---- probes

  still : (move : Move) → move.turning ≡ false → Guarded move
  still move e low = absurd (false≢true (sym e ∙ low.0))

  probes_guarded : (from : Pos) (ks : List ℕ) → All Guarded (probes_moves g answers job.zsafe run from ks)
  probes_guarded from [] = All-nil Guarded
  probes_guarded from (k ∷ ks) =
      let high = above job.zsafe (probe_place g k) in
      let low = above (answer_of answers k) (probe_place g k) in
      let rest = probes_moves g answers job.zsafe run high ks in
      let over = rapid (standing_in run) from high in
      let down = probing g run high low in
      let up = rapid (standing_in run) low high in
      All-cons Guarded over (down ∷ up ∷ rest) (still over refl) (All-cons Guarded down (up ∷ rest) (still down refl) (All-cons Guarded up rest (still up refl) (probes_guarded high ks)))

  probes_height : (from : Pos) (ks : List ℕ) → from.z ≡ job.zsafe *ℤ nanometre → (after_probes g job.zsafe from ks).z ≡ job.zsafe *ℤ nanometre
  probes_height from [] safe = safe
  probes_height from (k ∷ ks) safe = probes_height (above job.zsafe (probe_place g k)) ks refl

  -- ---- the steps are there

  steps_there : (c : Cell) (cells : List Cell) (x y : Cell) → AreSuccessive (c ∷ cells) x y → Contains (steps_at place run (corner_of job c) (map (corner_of job) cells)) (step_on x y)
  steps_there c [] x y h = absurd h
  steps_there c (d ∷ cells) x y (inl k) = (0, omega arith, ap (λ (z : Cell). step_on z d) k.0 ∙ ap (step_on x) k.1)
  steps_there c (d ∷ cells) x y (inr k) = let found = steps_there d cells x y k in (suc found.0, omega (arith, found.1), found.2)

  corners_there : (cells : List Cell) (from : Pos) (x y : Cell) → AreSuccessive cells x y → Contains (cut_at place job.zsafe run from (map (corner_of job) cells)) (step_on x y)
  corners_there [] from x y h = absurd h
  corners_there (c ∷ cells) from x y h =
      let over = at_height job.zsafe (place (corner_of job c)) in
      let end : Corner = last_of (corner_of job c) (map (corner_of job) cells) in
      let last = rapid (turning_in run) (place end) (at_height job.zsafe (place end)) in
      let steps = steps_at place run (corner_of job c) (map (corner_of job) cells) in
      Contains-append_right (rapid (turning_in run) from over ∷ feeding run run.plunge over (place (corner_of job c)) ∷ []) (steps ++ last ∷ []) (step_on x y)
      (Contains-append_left steps (last ∷ []) (step_on x y) (steps_there c cells x y h))

  -- a step over a cell of one of the walks
  pub record IsStepOn (moves : List Move) (c : Cell) : Type 0 where
    pub walk : List Cell
    pub from : Cell
    pub to : Cell
    pub on : IsOnRun walk from to c
    pub there : Contains moves (step_on from to)

  cut_there : (w : List Cell) (cut : List Corner) (from : Pos) (c : Cell) → IsCutAlong job w cut → Contains w c → IsStepOn (cut_at place job.zsafe run from cut) c
  cut_there w cut from c a m =
      let f = a.covers c m in
      record { walk = w; from = f.0; to = f.1; on = f.2.1; there = subst (λ (cs : List Corner). Contains (cut_at place job.zsafe run from cs) (step_on f.0 f.1)) (sym a.is) (corners_there a.cells from f.0 f.1 f.2.0) }

  cuts_there : (some : List (List Cell)) (cuts : List (List Corner)) (from : Pos) (w : List Cell) (c : Cell) → AllZip (IsCutAlong job) some cuts → Contains some w → Contains w c → IsStepOn (cuts_at place job.zsafe run from cuts) c
  cuts_there [] cuts from w c along m inside = absurd (omega (arith, m.1))
  cuts_there (v ∷ some) [] from w c along m inside = absurd along
  cuts_there (v ∷ some) (cut ∷ cuts) from w c along (zero, l, same) inside =
      let s = cut_there v cut from c along.0 (subst (λ (x : List Cell). Contains x c) (sym same) inside) in
      record {
        walk = s.walk;
        from = s.from;
        to = s.to;
        on = s.on;
        there = Contains-append_left (cut_at place job.zsafe run from cut) (cuts_at place job.zsafe run (after_cut_at place job.zsafe from cut) cuts) (step_on s.from s.to) s.there;
      }
  cuts_there (v ∷ some) (cut ∷ cuts) from w c along (suc k, l, same) inside =
      let s = cuts_there some cuts (after_cut_at place job.zsafe from cut) w c along.1 (k, omega (arith, l), same) inside in
      record {
        walk = s.walk;
        from = s.from;
        to = s.to;
        on = s.on;
        there = Contains-append_right (cut_at place job.zsafe run from cut) (cuts_at place job.zsafe run (after_cut_at place job.zsafe from cut) cuts) (step_on s.from s.to) s.there;
      }

-- ---- the whole program

module _ (job : Job) (g : ProbeGrid) (answers : List ℤ) (walks : List (List Cell)) (cuts : List (List Corner)) (ok : IsMilling job) (along : AllZip (IsCutAlong job) walks cuts) where
  abbrev pub the_run : ToolRun
  the_run = run_with job cuts

  abbrev first_high : Pos
  first_high = at_height job.zsafe (at_height job.zchange zero_pos)

  abbrev probes_end : Pos
  probes_end = after_probes g job.zsafe first_high (probes_in g)

  abbrev probed : Pos
  probed = at_height job.zsafe probes_end

  abbrev ended : Pos
  ended = after_cuts_at (place_on g answers) job.zsafe probed cuts

  pub moves_guarded : All (IsGuarded job walks) (moves_over g answers (program_over job g cuts))
  unfolding moves_over
  moves_guarded =
      let Guarded : Move → Type 0 = IsGuarded job walks in
      let up = rapid standing zero_pos (at_height job.zchange zero_pos) in
      let down = rapid (standing_in the_run) (at_height job.zchange zero_pos) first_high in
      let turns = rapid (turning_in the_run) probes_end probed in
      let last = rapid (turning_in the_run) ended (at_height job.zchange ended) in
      let probes = probes_moves g answers job.zsafe the_run first_high (probes_in g) in
      let cut = cuts_at (place_on g answers) job.zsafe the_run probed cuts in
      let stays : probes_end.z ≡ job.zsafe *ℤ nanometre = probes_height job g answers walks the_run first_high (probes_in g) refl in
      let ends : ended.z ≡ job.zsafe *ℤ nanometre = cuts_height job g answers walks the_run cuts probed refl in
      let behind : List Move = cut ++ last ∷ [] in
      All-cons Guarded up (down ∷ (probes ++ (turns ∷ behind))) (still job g answers walks the_run up refl)
      (All-cons Guarded down (probes ++ (turns ∷ behind)) (still job g answers walks the_run down refl)
      (All-append Guarded probes (turns ∷ behind) (probes_guarded job g answers walks the_run first_high (probes_in g))
      (All-cons Guarded turns behind (λ low. absurd (not_low (job.zsafe *ℤ nanometre) turns (at_least probes_end.z (job.zsafe *ℤ nanometre) stays) (refl_le (job.zsafe *ℤ nanometre)) low))
      (All-append Guarded cut (last ∷ []) (cuts_guarded job g answers walks the_run walks cuts probed refl (λ w m. m) along)
      (All-cons Guarded last []
      (λ low. absurd (not_low (job.zsafe *ℤ nanometre) last (at_least ended.z (job.zsafe *ℤ nanometre) ends) (scaled_up job.zsafe job.zchange ok.change_low) low)) (All-nil Guarded))))))

  pub moves_there : (w : List Cell) (c : Cell) → Contains walks w → Contains w c → IsStepOn job g answers walks the_run (moves_over g answers (program_over job g cuts)) c
  unfolding moves_over
  moves_there w c m inside =
      let up = rapid standing zero_pos (at_height job.zchange zero_pos) in
      let down = rapid (standing_in the_run) (at_height job.zchange zero_pos) first_high in
      let turns = rapid (turning_in the_run) probes_end probed in
      let last = rapid (turning_in the_run) ended (at_height job.zchange ended) in
      let probes = probes_moves g answers job.zsafe the_run first_high (probes_in g) in
      let cut = cuts_at (place_on g answers) job.zsafe the_run probed cuts in
      let behind : List Move = cut ++ last ∷ [] in
      let s = cuts_there job g answers walks the_run walks cuts probed w c along m inside in
      let step = step_on job g answers walks the_run s.from s.to in
      record {
        walk = s.walk;
        from = s.from;
        to = s.to;
        on = s.on;
        there = Contains-append_right (up ∷ down ∷ []) (probes ++ (turns ∷ behind)) step
            (Contains-append_right probes (turns ∷ behind) step (Contains-append_right (turns ∷ []) behind step (Contains-append_left cut (last ∷ []) step s.there)));
      }
