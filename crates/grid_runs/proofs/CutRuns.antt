-- The run of cuts over the surface.
use Rattle.std.proofs.Common.{◌≡◌, refl, ℕ, ℤ, pos, ◌*ℤ◌, List, [], ◌∷◌, Bool, true, false, ◌&&◌, cond, Ok, Some, ap, sym, ◌∙◌, subst}
use Rattle.std.specs.List.{flat_map, AllByRecursion}
use Rattle.std.proofs.lemmas.Bool.{false≢true}
use Rattle.std.proofs.lemmas.Bool.Decides.{Decides-int_eq}
use Rattle.std.specs.Ordering.{int_eq}
use Rattle.board_base.specs.Places.{IsCoordinate}
use Rattle.board_base.specs.declared.places.Pos.{Pos}
use Rattle.board_base.specs.declared.places.MoveKind.{MoveKind}
use Rattle.board_base.specs.declared.places.MoveKind.TheVariants.{Rapid, Feed}
use Rattle.rs274_sim.specs.Evaluation.{Parameters, value_of}
use Rattle.mill_program.specs.declared.cuts.Corner.{Corner}
use Rattle.mill_program.specs.declared.cuts.ToolRun.{ToolRun}
use Rattle.mill_program.specs.declared.probes.ProbeGrid.{ProbeGrid}
use Rattle.mill_program.specs.Conditions.{IsCorner, IsToolRun}
use Rattle.mill_program.specs.Heights.{height_over}
use Rattle.mill_program.specs.Lines.{words, over_line, is_straight}
use Rattle.mill_program.specs.GridLines.{plunge_over, stroke_over, steps_over, cut_over}
use Rattle.mill_program.specs.Moves.{turning_in, rapid, feeding, at_height, last_of}
use Rattle.mill_program.specs.Probes.{IsGrid, FitGrid}
use Rattle.mill_program.proofs.StepLaws.{rapid_of, feed_of, to_place, whole_nanometres, reach, feed_passes, feed_value, some_feed}
use Rattle.grid_runs.specs.Conditions.{IsCornerOver}
use Rattle.grid_runs.specs.Moves.{place_on, steps_at, cut_at, cuts_at, after_cuts_at}
use Rattle.grid_runs.proofs.LineSteps.{to_depth_by, to_next_by_at, to_next_by}
use Rattle.grid_runs.proofs.SurfaceLaws.{reach_on}
use Rattle.grid_runs.proofs.BlockLaws.{Makes, no_line, one_behind, one_move}
use Rattle.grid_runs.proofs.ProbeRuns.{working, to_level}

-- ---- conditions

-- a corner that may be cut over the surface
pub record IsGridCorner (g : ProbeGrid) (c : Corner) : Type 0 where
  pub flat : IsCorner c
  pub over : IsCornerOver g c

-- parameters that give each corner its height over the surface
pub record CanCut (g : ProbeGrid) (answers : List ℤ) (safe : ℤ) (ps : Parameters) : Type 0 where
  pub grid : IsGrid g
  pub fit : FitGrid g answers
  pub safe_in : IsCoordinate safe
  pub value : (c : Corner) → IsCoordinate c.z → value_of ps (height_over g c) ≡ Ok ((place_on g answers c).z)

-- behind a stroke the feed of strokes is in force
fed : (straight : Bool) (run : ToolRun) → straight ≡ false → cond straight run.plunge run.feed ≡ run.feed
fed true run h = absurd (false≢true (sym h))
fed false run h = refl

-- a corner straight below or above another has its place
abbrev AreOneAbove : Corner → Corner → Type 0
AreOneAbove c d = (c.x ≡ d.x) × (c.y ≡ d.y)

both_first : {P Q : Type 0} (a b e : Bool) → (a ≡ true → P) → (b ≡ true → Q) → (a && b && e) ≡ true → P × Q
both_first true true e p q h = (p refl, q refl)
both_first true false e p q h = absurd (false≢true h)
both_first false b e p q h = absurd (false≢true h)

straight_above : (c d : Corner) → is_straight c d ≡ true → AreOneAbove c d
straight_above c d h = both_first (int_eq c.x d.x) (int_eq c.y d.y) _ (Decides-int_eq c.x d.x).0 (Decides-int_eq c.y d.y).0 h

module _ (g : ProbeGrid) (answers : List ℤ) (safe : ℤ) (run : ToolRun) (ps : Parameters) (used : ℕ) where
  -- the place of a corner over the surface
  abbrev place : Corner → Pos
  place c = place_on g answers c

  -- ---- from corner to corner

  -- straight up or down to a corner
  plunge : (p : Pos) (d : Corner) (f : ℤ) (kind : MoveKind) → CanCut g answers safe ps → IsToolRun run → IsGridCorner g d → ◌≡◌ {A = Pos} (record { x = p.x; y = p.y; z = (place d).z }) (place d)
      → Makes answers (working (turning_in run) p f (Some kind) ps used) (words (plunge_over (Some g) run d) ∷ []) (feeding run run.plunge p (place d) ∷ [])
      (working (turning_in run) (place d) run.plunge (Some Feed) ps used)
  plunge p d f kind c r h there =
      let m = working (turning_in run) p f (Some kind) ps used in
      one_move (λ n. feed_of n m (place d) run.plunge) refl
      (λ n.
      to_depth_by answers n m (height_over g d) (place d).z (run.plunge *ℤ pos 1000000000) run.plunge (c.value d h.flat.z_in) (reach_on g answers d c.grid c.fit h.over) (feed_passes run.plunge r.plunge)
      (feed_value run.plunge r.plunge) (some_feed run.plunge r.plunge)
      ∙ ap (λ t. Ok (working (turning_in run) t run.plunge (Some Feed) ps used, Some (feed_of n m t run.plunge))) there)
      (λ n. refl)

  -- to a corner beside
  stroke : (plunged : Bool) (p : Pos) (d : Corner) (f : ℤ) → CanCut g answers safe ps → IsToolRun run → IsGridCorner g d → (plunged ≡ false → f ≡ run.feed)
      → Makes answers (working (turning_in run) p f (Some Feed) ps used) (words (stroke_over (Some g) run plunged d) ∷ []) (feeding run run.feed p (place d) ∷ [])
      (working (turning_in run) (place d) run.feed (Some Feed) ps used)
  stroke true p d f c r h known =
      let m = working (turning_in run) p f (Some Feed) ps used in
      one_move (λ n. feed_of n m (place d) run.feed) refl
      (λ n.
      to_next_by_at answers n m (d.x *ℤ pos 1000000) (d.y *ℤ pos 1000000) (height_over g d) (place d).z (run.feed *ℤ pos 1000000000) run.feed (c.value d h.flat.z_in) (whole_nanometres d.x) (whole_nanometres d.y)
      (reach d.x h.flat.x_in) (reach d.y h.flat.y_in) (reach_on g answers d c.grid c.fit h.over) (feed_passes run.feed r.feed) (feed_value run.feed r.feed) (some_feed run.feed r.feed))
      (λ n. refl)
  stroke false p d f c r h known =
      let m = working (turning_in run) p run.feed (Some Feed) ps used in
      subst (λ e. Makes answers (working (turning_in run) p e (Some Feed) ps used) (words (stroke_over (Some g) run false d) ∷ []) (feeding run run.feed p (place d) ∷ [])
      (working (turning_in run) (place d) run.feed (Some Feed) ps used)) (sym (known refl))
      (one_move (λ n. feed_of n m (place d) run.feed) refl
      (λ n.
      to_next_by answers n m (d.x *ℤ pos 1000000) (d.y *ℤ pos 1000000) (height_over g d) (place d).z (c.value d h.flat.z_in) (whole_nanometres d.x) (whole_nanometres d.y) (reach d.x h.flat.x_in) (reach d.y h.flat.y_in)
      (reach_on g answers d c.grid c.fit h.over) (some_feed run.feed r.feed))
      (λ n. refl))

  -- to the next corner, by whether it is straight below or above
  one_step : (straight plunged : Bool) (c d : Corner) (f : ℤ) → CanCut g answers safe ps → IsToolRun run → IsGridCorner g d → (plunged ≡ false → f ≡ run.feed) → (straight ≡ true → AreOneAbove c d)
      → Makes answers (working (turning_in run) (place c) f (Some Feed) ps used) (words (cond straight (plunge_over (Some g) run d) (stroke_over (Some g) run plunged d)) ∷ [])
      (feeding run (cond straight run.plunge run.feed) (place c) (place d) ∷ []) (working (turning_in run) (place d) (cond straight run.plunge run.feed) (Some Feed) ps used)
  one_step true plunged c d f can r h known above = let j = above refl in plunge (place c) d f Feed can r h (λ t. record { x = j.0 t *ℤ pos 1000000; y = j.1 t *ℤ pos 1000000; z = (place d).z })
  one_step false plunged c d f can r h known above = stroke plunged (place c) d f can r h known

  -- the corners behind the first; some feed is then in force
  all_steps : (c : Corner) (ds : List Corner) (plunged : Bool) (f : ℤ) → CanCut g answers safe ps → IsToolRun run → AllByRecursion (IsGridCorner g) ds → (plunged ≡ false → f ≡ run.feed)
      → (e : ℤ) × Makes answers (working (turning_in run) (place c) f (Some Feed) ps used) (steps_over (Some g) run plunged c ds) (steps_at place run c ds) (working (turning_in run) (place (last_of c ds)) e (Some Feed) ps used)
  all_steps c [] plunged f can r h known = (f, no_line)
  all_steps c (d ∷ ds) plunged f can r h known =
      let rest = all_steps d ds (is_straight c d) (cond (is_straight c d) run.plunge run.feed) can r h.1 (fed (is_straight c d) run) in
      (rest.0, one_behind (one_step (is_straight c d) plunged c d f can r h.0 known (straight_above c d)) rest.1)

  -- ---- cuts

  -- over to a cut
  go_over : (p : Pos) (c : Corner) (f : ℤ) → IsCorner c
      → Makes answers (working (turning_in run) (at_height safe p) f (Some Rapid) ps used) (words (over_line c) ∷ []) (rapid (turning_in run) (at_height safe p) (at_height safe (place c)) ∷ [])
      (working (turning_in run) (at_height safe (place c)) f (Some Rapid) ps used)
  go_over p c f h =
      let m = working (turning_in run) (at_height safe p) f (Some Rapid) ps used in
      one_move (λ n. rapid_of n m (at_height safe (place c))) refl
      (λ n. to_place answers n m (c.x *ℤ pos 1000000) (c.y *ℤ pos 1000000) (whole_nanometres c.x) (whole_nanometres c.y) (reach c.x h.x_in) (reach c.y h.y_in)) (λ n. refl)

  -- one cut
  one_cut : (c : Corner) (cs : List Corner) (p : Pos) (f : ℤ) → CanCut g answers safe ps → IsToolRun run → AllByRecursion (IsGridCorner g) (c ∷ cs)
      → (e : ℤ) × Makes answers (working (turning_in run) (at_height safe p) f (Some Rapid) ps used) (cut_over (Some g) safe run (c ∷ cs)) (cut_at place safe run (at_height safe p) (c ∷ cs))
      (working (turning_in run) (at_height safe (place (last_of c cs))) e (Some Rapid) ps used)
  one_cut c cs p f can r h =
      let steps = all_steps c cs true run.plunge can r h.1 (λ e. absurd (false≢true (sym e))) in (
        steps.0,
        one_behind (go_over p c f h.0.flat)
            (one_behind (plunge (at_height safe (place c)) c f Rapid can r h.0 refl)
            (one_behind steps.1 (to_level safe (working (turning_in run) (place (last_of c cs)) steps.0 (Some Feed) ps used) can.safe_in))),
      )

  -- the cuts of a tool run
  pub all_cuts : (cuts : List (List Corner)) (p : Pos) (f : ℤ) → CanCut g answers safe ps → IsToolRun run → AllByRecursion (AllByRecursion (IsGridCorner g)) cuts
      → (e : ℤ) × Makes answers (working (turning_in run) (at_height safe p) f (Some Rapid) ps used) (flat_map (cut_over (Some g) safe run) cuts) (cuts_at place safe run (at_height safe p) cuts)
      (working (turning_in run) (after_cuts_at place safe (at_height safe p) cuts) e (Some Rapid) ps used)
  all_cuts [] p f can r h = (f, no_line)
  all_cuts ([] ∷ cuts) p f can r h = all_cuts cuts p f can r h.1
  all_cuts ((c ∷ cs) ∷ cuts) p f can r h =
      let first = one_cut c cs p f can r h.0 in
      let rest = all_cuts cuts (place (last_of c cs)) first.0 can r h.1 in
      (rest.0, one_behind first.1 rest.1)
