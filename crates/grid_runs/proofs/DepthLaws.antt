-- The depths of the run of a program over a grid are exact.
use Rattle.std.proofs.Common.{◌≡◌, refl, ℕ, ◌≤◌, ℤ, ◌*ℤ◌, ◌<ℤ◌, ◌≤ℤ◌, true, List, [], ◌∷◌, ◌++◌, length, ap, sym, subst, ◌∙◌, arith}
use Rattle.std.specs.List.{All, AllByRecursion, Contains}
use Rattle.std.specs.Int.Signed.{≤ℤ_refl}
use Rattle.std.proofs.lemmas.Bool.{false≢true}
use Rattle.std.proofs.lemmas.Int.{ints}
use Rattle.std.proofs.lemmas.List.Elements.{All-from_recursion, recursion_from_All, All-head, All-cons, All-append, All-contains, All-weaker, All-contains_itself, Contains-append_left, Contains-append_right}
use Rattle.board_base.specs.declared.places.Pos.{Pos}
use Rattle.board_base.specs.declared.places.Move.{Move}
use Rattle.board_base.specs.declared.places.MoveKind.TheVariants.{Feed}
use Rattle.rs274_sim.specs.Cutter.{nanometre}
use Rattle.mill_program.specs.declared.cuts.Corner.{Corner}
use Rattle.mill_program.specs.declared.cuts.ToolRun.{ToolRun}
use Rattle.mill_program.specs.declared.cuts.Program.{Program}
use Rattle.mill_program.specs.declared.probes.ProbeGrid.{ProbeGrid}
use Rattle.mill_program.specs.Moves.{unnumbered, standing, turning_in, rapid, feeding, at_height, zero_pos, last_of}
use Rattle.mill_program.specs.Probes.{probe_place}
use Rattle.mill_program.proofs.StrokeLaws.{scaled_up, all_before_map}
use Rattle.grid_runs.specs.Moves.{place_on, above, standing_in, probes_moves, after_probes, probes_in, step_at, steps_at, cut_at, cuts_at, after_cuts_at, runs_over, moves_over}
use Rattle.grid_runs.specs.RunLaw.{IsCornerOf, StandsAtCorner, ExactDepthLaw}
use Rattle.grid_runs.proofs.OverStrokes.{cuts_end_high}
use Rattle.grid_runs.proofs.GridStrokeLaws.{probes_end_high}
use Rattle.grid_runs.proofs.Numbered.{some_behind_map}

-- ---- where low ends stand

module _ (safe : ℤ) (Stands : Pos → Type 0) where
  abbrev height : ℤ
  height = safe *ℤ nanometre

  -- a position below the safe height is one of these
  abbrev pub IsExactAt : Pos → Type 0
  IsExactAt p = p.z <ℤ height → Stands p

  -- so is each end of a move with the spindle turning
  pub record IsExact (m : Move) : Type 0 where
    pub from : m.turning ≡ true → IsExactAt m.from
    pub to : m.turning ≡ true → IsExactAt m.to

  high_place : (p : Pos) → height ≤ℤ p.z → IsExactAt p
  high_place p h low = absurd (omega (arith, ints, h, low))

  there : (p : Pos) → Stands p → IsExactAt p
  there p h low = h

  exact_move : (m : Move) → IsExactAt m.from → IsExactAt m.to → IsExact m
  exact_move m h k = record { from = λ t. h; to = λ t. k }

  exact_still : (m : Move) → (m.turning ≡ true → ⊥) → IsExact m
  exact_still m stands = record { from = λ t. absurd (stands t); to = λ t. absurd (stands t) }

  probes_exact : (g : ProbeGrid) (answers : List ℤ) (run : ToolRun) (from : Pos) (ks : List ℕ) → AllByRecursion IsExact (probes_moves g answers safe run from ks)
  probes_exact g answers run from [] = tt
  probes_exact g answers run from (k ∷ ks) =
      (exact_still _ (λ t. false≢true t), (exact_still _ (λ t. false≢true t), (exact_still _ (λ t. false≢true t), probes_exact g answers run (above safe (probe_place g k)) ks)))

  module _ (place : Corner → Pos) (run : ToolRun) where
    -- each corner stands so
    abbrev AllStand : List Corner → Type 0
    AllStand cs = AllByRecursion (λ (c : Corner). Stands (place c)) cs

    rest_exact : (c : Corner) (cs : List Corner) → AllStand (c ∷ cs)
        → AllByRecursion IsExact (steps_at place run c cs ++ rapid (turning_in run) (place (last_of c cs)) (at_height safe (place (last_of c cs))) ∷ [])
    rest_exact c [] h =
        (exact_move (rapid (turning_in run) (place c) (at_height safe (place c))) (there (place c) h.0) (high_place (at_height safe (place c)) (≤ℤ_refl height)), tt)
    rest_exact c (d ∷ ds) h = (exact_move (step_at place run c d) (there (place c) h.0) (there (place d) h.1.0), rest_exact d ds h.1)

    cut_exact : (c : Corner) (cs : List Corner) (from : Pos) → height ≤ℤ from.z → AllStand (c ∷ cs) → AllByRecursion IsExact (cut_at place safe run from (c ∷ cs))
    cut_exact c cs from above h =
        let over = high_place (at_height safe (place c)) (≤ℤ_refl height) in (
          exact_move (rapid (turning_in run) from (at_height safe (place c))) (high_place from above) over,
          (exact_move (feeding run run.plunge (at_height safe (place c)) (place c)) over (there (place c) h.0), rest_exact c cs h),
        )

    cuts_exact : (cuts : List (List Corner)) (from : Pos) → height ≤ℤ from.z → AllByRecursion AllStand cuts → All IsExact (cuts_at place safe run from cuts)
    cuts_exact [] from above h = All-from_recursion IsExact [] tt
    cuts_exact ([] ∷ cuts) from above h = cuts_exact cuts from above h.1
    cuts_exact ((c ∷ cs) ∷ cuts) from above h =
        let end = at_height safe (place (last_of c cs)) in
        All-append IsExact (cut_at place safe run from (c ∷ cs)) (cuts_at place safe run end cuts) (All-from_recursion IsExact (cut_at place safe run from (c ∷ cs)) (cut_exact c cs from above h.0))
        (cuts_exact cuts end (≤ℤ_refl height) h.1)

-- ---- how corners are reached

module _ (place : Corner → Pos) (moves : List Move) where
  -- some move at the feed with the spindle turning leads to the corner
  abbrev Reaches : Corner → Type 0
  Reaches c = (m : Move) × Contains moves m × (m.kind ≡ Feed) × (m.turning ≡ true) × (m.to ≡ place c)

  -- all of these moves are among them
  abbrev Have : List Move → Type 0
  Have ms = (m : Move) → Contains ms m → Contains moves m

  first_had : (m : Move) (ms : List Move) → Have (m ∷ ms) → Contains moves m
  first_had m ms have = have m (0, omega arith, refl)

  rest_had : (m : Move) (ms : List Move) → Have (m ∷ ms) → Have ms
  rest_had m ms have n inside = have n (Contains-append_right (m ∷ []) ms n inside)

  front_had : (ms ns : List Move) → Have (ms ++ ns) → Have ms
  front_had ms ns have m inside = have m (Contains-append_left ms ns m inside)

  back_had : (ms ns : List Move) → Have (ms ++ ns) → Have ns
  back_had ms ns have m inside = have m (Contains-append_right ms ns m inside)

  steps_reach : (run : ToolRun) (c : Corner) (ds : List Corner) → Have (steps_at place run c ds) → AllByRecursion Reaches ds
  steps_reach run c [] have = tt
  steps_reach run c (d ∷ ds) have =
      let m = step_at place run c d in
      ((m, first_had m (steps_at place run d ds) have, refl, refl, refl), steps_reach run d ds (rest_had m (steps_at place run d ds) have))

  cut_reach : (safe : ℤ) (run : ToolRun) (from : Pos) (cut : List Corner) → Have (cut_at place safe run from cut) → AllByRecursion Reaches cut
  cut_reach safe run from [] have = tt
  cut_reach safe run from (c ∷ cs) have =
      let over = rapid (turning_in run) from (at_height safe (place c)) in
      let down = feeding run run.plunge (at_height safe (place c)) (place c) in
      let up : List Move = rapid (turning_in run) (place (last_of c cs)) (at_height safe (place (last_of c cs))) ∷ [] in
      let behind = rest_had over (down ∷ steps_at place run c cs ++ up) have in
      ((down, first_had down (steps_at place run c cs ++ up) behind, refl, refl, refl), steps_reach run c cs (front_had (steps_at place run c cs) up (rest_had down (steps_at place run c cs ++ up) behind)))

  cuts_reach : (safe : ℤ) (run : ToolRun) (from : Pos) (cuts : List (List Corner)) → Have (cuts_at place safe run from cuts) → AllByRecursion (AllByRecursion Reaches) cuts
  cuts_reach safe run from [] have = tt
  cuts_reach safe run from ([] ∷ cuts) have = (tt, cuts_reach safe run from cuts have)
  cuts_reach safe run from ((c ∷ cs) ∷ cuts) have =
      let end = at_height safe (place (last_of c cs)) in
      let first = cut_at place safe run from (c ∷ cs) in
      (cut_reach safe run from (c ∷ cs) (front_had first (cuts_at place safe run end cuts) have), cuts_reach safe run end cuts (back_had first (cuts_at place safe run end cuts) have))

-- ---- programs

-- lists of lists by recursion, and back
nested : {A : Type 0} (P : A → Type 0) (xss : List (List A)) → All (λ (xs : List A). All P xs) xss → AllByRecursion (AllByRecursion P) xss
nested {A = A} P xss h = by_list xss (recursion_from_All (λ (xs : List A). All P xs) xss h)
  where
    by_list : (yss : List (List A)) → AllByRecursion (λ (xs : List A). All P xs) yss → AllByRecursion (AllByRecursion P) yss
    by_list [] k = tt
    by_list (ys ∷ yss) k = (recursion_from_All P ys k.0, by_list yss k.1)

joined : {A : Type 0} (P : A → Type 0) (xss : List (List A)) → AllByRecursion (AllByRecursion P) xss → All (λ (xs : List A). All P xs) xss
joined {A = A} P xss h = All-from_recursion (λ (xs : List A). All P xs) xss (by_list xss h)
  where
    by_list : (yss : List (List A)) → AllByRecursion (AllByRecursion P) yss → AllByRecursion (λ (xs : List A). All P xs) yss
    by_list [] k = tt
    by_list (ys ∷ yss) k = (All-from_recursion P ys k.0, by_list yss k.1)

module _ (g : ProbeGrid) (answers : List ℤ) (p : Program) where
  abbrev Stands : Pos → Type 0
  Stands at = StandsAtCorner g answers p at

  -- each corner of a tool run stands over the surface
  corners_stand : (run : ToolRun) → Contains p.runs run → All (λ (cut : List Corner). All (λ (c : Corner). Stands (place_on g answers c)) cut) run.cuts
  corners_stand run has =
      All-weaker (Contains run.cuts) (λ (cut : List Corner). All (λ (c : Corner). Stands (place_on g answers c)) cut)
      (λ cut i. All-weaker (Contains cut) (λ (c : Corner). Stands (place_on g answers c)) (λ c j. (c, (run, cut, has, i, j), refl)) cut (All-contains_itself cut)) run.cuts (All-contains_itself run.cuts)

  -- the ends of moves
  no_run_exact : All (IsExact p.safe Stands) (runs_over g answers p.safe p.change standing zero_pos [])
  no_run_exact = All-from_recursion (IsExact p.safe Stands) (rapid standing zero_pos (at_height p.change zero_pos) ∷ []) (exact_still p.safe Stands (rapid standing zero_pos (at_height p.change zero_pos)) (λ t. false≢true t), tt)

  one_run_exact : (run : ToolRun) → Contains p.runs run → p.safe ≤ℤ p.change → All (IsExact p.safe Stands) (runs_over g answers p.safe p.change standing zero_pos (run ∷ []))
  one_run_exact run has high =
      let height = p.safe *ℤ nanometre in
      let place = place_on g answers in
      let start = at_height p.safe zero_pos in
      let end = after_probes g p.safe start (probes_in g) in
      let last = after_cuts_at place p.safe (at_height p.safe end) run.cuts in
      let up = rapid standing zero_pos (at_height p.change zero_pos) in
      let down = rapid (standing_in run) (at_height p.change zero_pos) start in
      let turned = rapid (turning_in run) end (at_height p.safe end) in
      let lifted = rapid (turning_in run) last (at_height p.change last) in
      let probes = probes_moves g answers p.safe run start (probes_in g) in
      let cuts = cuts_at place p.safe run (at_height p.safe end) run.cuts in
      let at_safe = high_place p.safe Stands (at_height p.safe end) (≤ℤ_refl height) in
      let turned_exact = exact_move p.safe Stands turned (high_place p.safe Stands end (probes_end_high g p.safe start (probes_in g) (≤ℤ_refl height))) at_safe in
      let lifted_exact =
      exact_move p.safe Stands lifted (high_place p.safe Stands last (cuts_end_high p.safe place run run.cuts (at_height p.safe end) (≤ℤ_refl height)))
      (high_place p.safe Stands (at_height p.change last) (scaled_up p.safe p.change high)) in
      let before : All (IsExact p.safe Stands) (up ∷ down ∷ probes) =
      All-from_recursion (IsExact p.safe Stands) (up ∷ down ∷ probes)
      (exact_still p.safe Stands up (λ t. false≢true t), (exact_still p.safe Stands down (λ t. false≢true t), probes_exact p.safe Stands g answers run start (probes_in g))) in
      let behind : All (IsExact p.safe Stands) (cuts ++ lifted ∷ []) =
      All-append (IsExact p.safe Stands) cuts (lifted ∷ [])
      (cuts_exact p.safe Stands place run run.cuts (at_height p.safe end) (≤ℤ_refl height) (nested (λ (c : Corner). Stands (place c)) run.cuts (corners_stand run has)))
      (All-from_recursion (IsExact p.safe Stands) (lifted ∷ []) (lifted_exact, tt)) in
      All-append (IsExact p.safe Stands) (up ∷ down ∷ probes) (turned ∷ cuts ++ lifted ∷ []) before (All-cons (IsExact p.safe Stands) turned (cuts ++ lifted ∷ []) turned_exact behind)

  runs_exact : (runs : List ToolRun) → length runs ≤ 1 → All (Contains p.runs) runs → p.safe ≤ℤ p.change → All (IsExact p.safe Stands) (runs_over g answers p.safe p.change standing zero_pos runs)
  runs_exact [] few has high = no_run_exact
  runs_exact (run ∷ []) few has high = one_run_exact run (All-head (Contains p.runs) run [] has) high
  runs_exact (run ∷ other ∷ runs) few has high = absurd (omega (arith, few))

  -- the corners of a tool run
  abbrev AreReached : List Move → ToolRun → Type 0
  AreReached moves run = All (λ (cut : List Corner). All (Reaches (place_on g answers) moves) cut) run.cuts

  one_run_reaches : (run : ToolRun) → AreReached (runs_over g answers p.safe p.change standing zero_pos (run ∷ [])) run
  one_run_reaches run =
      let place = place_on g answers in
      let start = at_height p.safe zero_pos in
      let end = after_probes g p.safe start (probes_in g) in
      let last = after_cuts_at place p.safe (at_height p.safe end) run.cuts in
      let up = rapid standing zero_pos (at_height p.change zero_pos) in
      let down = rapid (standing_in run) (at_height p.change zero_pos) start in
      let turned = rapid (turning_in run) end (at_height p.safe end) in
      let lifted = rapid (turning_in run) last (at_height p.change last) in
      let before = up ∷ down ∷ probes_moves g answers p.safe run start (probes_in g) in
      let cuts = cuts_at place p.safe run (at_height p.safe end) run.cuts in
      let moves = runs_over g answers p.safe p.change standing zero_pos (run ∷ []) in
      let have : Have place moves cuts = front_had place moves cuts (lifted ∷ []) (rest_had place moves turned (cuts ++ lifted ∷ []) (back_had place moves before (turned ∷ cuts ++ lifted ∷ []) (λ m i. i))) in
      joined (Reaches place moves) run.cuts (cuts_reach place moves p.safe run (at_height p.safe end) run.cuts have)

  runs_reach : (runs : List ToolRun) → length runs ≤ 1 → All (AreReached (runs_over g answers p.safe p.change standing zero_pos runs)) runs
  runs_reach [] few = All-from_recursion (AreReached (runs_over g answers p.safe p.change standing zero_pos [])) [] tt
  runs_reach (run ∷ []) few = All-from_recursion (AreReached (runs_over g answers p.safe p.change standing zero_pos (run ∷ []))) (run ∷ []) (one_run_reaches run, tt)
  runs_reach (run ∷ other ∷ runs) few = absurd (omega (arith, few))

-- each corner is reached at exactly its height above the surface, and no other end is low
pub exact_depths : ExactDepthLaw
unfolding moves_over
exact_depths g answers p moves h w e = record { reached = reached; from = λ m inside. (ends m inside).from; to = λ m inside. (ends m inside).to }
  where
    expected : List Move
    expected = runs_over g answers p.safe p.change standing zero_pos p.runs

    ends : (m : Move) → Contains moves m → IsExact p.safe (StandsAtCorner g answers p) (unnumbered m)
    ends m inside =
        let exact = runs_exact g answers p p.runs h.one (All-contains_itself p.runs) w.high in
        All-contains (λ (n : Move). IsExact p.safe (StandsAtCorner g answers p) (unnumbered n)) moves m
        (all_before_map (IsExact p.safe (StandsAtCorner g answers p)) unnumbered moves (subst (All (IsExact p.safe (StandsAtCorner g answers p))) (sym e) exact)) inside

    reached : (c : Corner) → IsCornerOf p c → (m : Move) × Contains moves m × (m.kind ≡ Feed) × (m.turning ≡ true) × (m.to ≡ place_on g answers c)
    reached c (run, cut, has, i, j) =
        let all = runs_reach g answers p p.runs h.one in
        let of_run = All-contains (AreReached g answers p expected) p.runs run all has in
        let of_cut = All-contains (λ (xs : List Corner). All (Reaches (place_on g answers) expected) xs) run.cuts cut of_run i in
        let r = All-contains (Reaches (place_on g answers) expected) cut c of_cut j in
        let found = some_behind_map unnumbered moves r.0 (subst (λ (ms : List Move). Contains ms r.0) (sym e) r.1) in
        (found.0, found.1, ap (λ (m : Move). m.kind) found.2 ∙ r.2, ap (λ (m : Move). m.turning) found.2 ∙ r.3, ap (λ (m : Move). m.to) found.2 ∙ r.4)
