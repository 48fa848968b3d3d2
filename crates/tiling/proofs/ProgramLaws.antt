-- Programs in tiles: what they are, and that they can run.
use Rattle.std.proofs.Common.{◌≡◌, refl, ℕ, ◌<◌, ◌≤◌, ◌%◌, ◌/◌, ◌*◌, ℤ, pos, negsuc, ◌+ℤ◌, ◌*ℤ◌, ◌<ℤ◌, List, [], ◌∷◌, ◌++◌, length, map, inl, inr, ap, sym, ◌∙◌, append-nil, Option, Some, None, Ok, arith}
use Rattle.std.specs.Prelude.{unsigned_abs, find}
use Rattle.std.specs.List.{All, flat_map, range_with_len}
use Rattle.std.proofs.lemmas.Int.{ints}
use Rattle.std.proofs.lemmas.List.{length-map, map-append}
use Rattle.std.proofs.lemmas.List.Elements.{All-nil, All-cons, All-head, All-tail, All-map, All-append, All-weaker}
use Rattle.std.proofs.lemmas.List.Folds.{find-append}
use Rattle.number_laws.proofs.Ring.{var, mul, ring}
use Rattle.board_base.specs.declared.places.Point.{Point}
use Rattle.board_base.specs.Places.{IsCoordinate, origin}
use Rattle.mill_program.specs.declared.cuts.Corner.{Corner}
use Rattle.mill_program.specs.declared.cuts.ToolRun.{ToolRun}
use Rattle.mill_program.specs.declared.cuts.Program.{Program}
use Rattle.mill_program.specs.Conditions.{IsCorner, IsCut, IsToolRun, IsProgram, IsStep, AreSteps, IsRunnableCut, IsRunnable}
use Rattle.mill_program.specs.Moves.{place_of}
use Rattle.mill_program.specs.Strokes.{wanted_cut, wanted}
use Rattle.tiling.specs.Tiles.{shift_of, shifts_of, corner_in, cut_in, cuts_in, run_in, tiled, is_past, corners_of, past_in, first_past, refused_or, tile_of, IsPlaced}
use Rattle.tiling.specs.Copies.{Tile, tile_at, tiles_of, shift_in, pos_in}
use Rattle.tiling.specs.Stretches.{TiledProgramLaw}
use Rattle.tiling.specs.Laws.{OneTileLaw, ShiftsLaw, TileValueLaw, wanted_in, wanted_in_tiles, WantedLaw}
use Rattle.tiling.proofs.TileLaws.{same_cuts, placed_in, neither}
use Rattle.tiling.proofs.MoveCopies.{place_copy}

-- ---- what holds of all copies

all_of_each : {X Y : Type 0} (P : Y → Type 0) (f : X → List Y) (xs : List X) → ((x : X) → All P (f x)) → All P (flat_map f xs)
all_of_each P f [] each = All-nil P
all_of_each P f (x ∷ xs) each = All-append P (f x) (flat_map f xs) (each x) (all_of_each P f xs each)

both_of : {X : Type 0} (P Q R : X → Type 0) (xs : List X) → ((x : X) → P x → Q x → R x) → All P xs → All Q xs → All R xs
both_of P Q R xs join p q = λ k d inside. join _ (p k d inside) (q k d inside)

-- what holds of each cut and passes to its copies holds of the cuts of all tiles
pub copies_all : (P : List Corner → Type 0) → ((by : Point) (cut : List Corner) → P cut → P (cut_in by cut)) → (cuts : List (List Corner)) (shifts : List Point) → All P cuts → All P (flat_map (cuts_in cuts) shifts)
copies_all P passes cuts shifts all = all_of_each P (cuts_in cuts) shifts (λ by. All-map P (cut_in by) cuts (All-weaker P (λ cut. P (cut_in by cut)) (passes by) cuts all))

-- ---- runnable

step_in : (by : Point) (c d : Corner) → IsStep c d → IsStep (corner_in by c) (corner_in by d)
step_in by c d (inl level) = inl level
step_in by c d (inr place) = inr (ap (λ z. z +ℤ by.x) place.0, ap (λ z. z +ℤ by.y) place.1)

steps_in : (by : Point) (cut : List Corner) → AreSteps cut → AreSteps (cut_in by cut)
steps_in by [] s = tt
steps_in by (c ∷ []) s = tt
steps_in by (c ∷ d ∷ cs) s = (step_in by c d s.0, steps_in by (d ∷ cs) s.1)

pub runnable_cut_in : (safe : ℤ) (by : Point) (cut : List Corner) → IsRunnableCut safe cut → IsRunnableCut safe (cut_in by cut)
runnable_cut_in safe by cut w = record { below = All-map (λ (c : Corner). c.z <ℤ safe) (corner_in by) cut w.below; steps = steps_in by cut w.steps }

-- a program that can run can run in tiles
pub runnable_in : (shifts : List Point) (p : Program) → IsRunnable p → IsRunnable (tiled shifts p)
unfolding tiled
runnable_in shifts p w = record {
  high = w.high;
  cuts =
      All-map (λ (run : ToolRun). All (IsRunnableCut p.safe) run.cuts) (run_in shifts) p.runs
      (All-weaker (λ (run : ToolRun). All (IsRunnableCut p.safe) run.cuts) (λ run. All (IsRunnableCut p.safe) (flat_map (cuts_in run.cuts) shifts))
      (λ run all. copies_all (IsRunnableCut p.safe) (runnable_cut_in p.safe) run.cuts shifts all) p.runs w.cuts);
}

-- ---- a program

coordinate : (v : ℤ) → unsigned_abs v ≤ 500000000 → IsCoordinate v
coordinate (pos n) h = record { low = omega (arith, ints, h); high = omega (arith, ints, h) }
coordinate (negsuc n) h = record { low = omega (arith, ints, h); high = omega (arith, ints, h) }

-- a cut of one corner or more, whose heights are within the machine's reach
record IsLevelCut (cut : List Corner) : Type 0 where
  some : 0 < length cut
  heights : All (λ (c : Corner). IsCoordinate c.z) cut

level_cut_in : (by : Point) (cut : List Corner) → IsLevelCut cut → IsLevelCut (cut_in by cut)
level_cut_in by cut h = record { some = omega (arith, h.some, length-map cut (corner_in by)); heights = All-map (λ (c : Corner). IsCoordinate c.z) (corner_in by) cut h.heights }

level_cut : (cut : List Corner) → IsCut cut → IsLevelCut cut
level_cut cut h = record { some = h.some; heights = All-weaker IsCorner (λ (c : Corner). IsCoordinate c.z) (λ c k. k.z_in) cut h.corners }

placed_corner : (c : Corner) → IsCoordinate c.z → IsPlaced c → IsCorner c
placed_corner c z placed = record { x_in = coordinate c.x placed.x; y_in = coordinate c.y placed.y; z_in = z }

placed_cut : (cut : List Corner) → IsLevelCut cut → All IsPlaced cut → IsCut cut
placed_cut cut h placed = record { some = h.some; corners = both_of (λ (c : Corner). IsCoordinate c.z) IsPlaced IsCorner cut placed_corner h.heights placed }

tool_run_in : (shifts : List Point) (run : ToolRun) → IsToolRun run → past_in (run_in shifts run).cuts ≡ None → IsToolRun (run_in shifts run)
tool_run_in shifts run h none = record {
  tool = h.tool;
  speed = h.speed;
  feed = h.feed;
  plunge = h.plunge;
  cuts =
      both_of IsLevelCut (All IsPlaced) IsCut (flat_map (cuts_in run.cuts) shifts) placed_cut
      (copies_all IsLevelCut level_cut_in run.cuts shifts (All-weaker IsCut IsLevelCut level_cut run.cuts h.cuts)) (placed_in (flat_map (cuts_in run.cuts) shifts) none);
}

runs_in : (shifts : List Point) (runs : List ToolRun) → All IsToolRun runs → first_past (map (run_in shifts) runs) ≡ None → All IsToolRun (map (run_in shifts) runs)
unfolding first_past past_in
runs_in shifts [] h none = All-nil IsToolRun
runs_in shifts (run ∷ runs) h none =
    let corners = corners_of (run_in shifts run).cuts in
    let others = flat_map (λ (r : ToolRun). corners_of r.cuts) (map (run_in shifts) runs) in
    let both = neither (find is_past corners) (find is_past others) (sym (find-append is_past corners others) ∙ none) in
    All-cons IsToolRun (run_in shifts run) (map (run_in shifts) runs) (tool_run_in shifts run (All-head IsToolRun run runs h) both.0)
    (runs_in shifts runs (All-tail IsToolRun run runs h) both.1)

program_in : (shifts : List Point) (p : Program) → IsProgram p → first_past (tiled shifts p).runs ≡ None → IsProgram (tiled shifts p)
unfolding tiled
program_in shifts p h none = record { safe = h.safe; change = h.change; runs = runs_in shifts p.runs h.runs none; grid = h.grid }

pub tiled_program : TiledProgramLaw
tiled_program shifts p h w none = (program_in shifts p h none, runnable_in shifts p w)

-- ---- one tile

pub run_in_one : (run : ToolRun) → run_in (origin ∷ []) run ≡ run
run_in_one run t = record { tool = run.tool; speed = run.speed; feed = run.feed; plunge = run.plunge; cuts = (append-nil (cuts_in run.cuts origin) ∙ same_cuts run.cuts) t }

runs_in_one : (runs : List ToolRun) → map (run_in (origin ∷ [])) runs ≡ runs
runs_in_one [] = refl
runs_in_one (run ∷ runs) = λ t. run_in_one run t ∷ runs_in_one runs t

pub one_tile : OneTileLaw
unfolding tiled
one_tile p t = record { safe = p.safe; change = p.change; runs = runs_in_one p.runs t; grid = p.grid }

-- ---- shifts

shift_by_cells : (across : ℕ) (pitch : ℤ) (step : Tile) (k : ℕ) → shift_of across (shift_in pitch step) k ≡ shift_in pitch (tile_at across step k)
shift_by_cells across pitch step k t = record { x = product (pos (k % across)) step.east t; y = product (pos (k / across)) step.north t }
  where
    product : (a b : ℤ) → a *ℤ (b *ℤ pitch) ≡ (a *ℤ b) *ℤ pitch
    product a b = ring (a ∷ b ∷ pitch ∷ []) (mul (var 0) (mul (var 1) (var 2))) (mul (mul (var 0) (var 1)) (var 2)) refl

each_shift : (across : ℕ) (pitch : ℤ) (step : Tile) (ks : List ℕ) → map (shift_of across (shift_in pitch step)) ks ≡ map (shift_in pitch) (map (tile_at across step) ks)
each_shift across pitch step [] = refl
each_shift across pitch step (k ∷ ks) = λ t. shift_by_cells across pitch step k t ∷ each_shift across pitch step ks t

pub shifts_by_cells : ShiftsLaw
unfolding shifts_of tiles_of
shifts_by_cells across up pitch step = each_shift across pitch step (range_with_len 0 (across * up))

-- ---- what is answered

answered : (o : Option Corner) (p q : Program) → refused_or o p ≡ Ok q → (q ≡ p) × (o ≡ None)
answered None p q e = (cc, refl)
answered (Some c) p q e = absurd (cc)

pub tile_value : TileValueLaw
unfolding tile_of
tile_value across up step p q e = answered (first_past (tiled (shifts_of across up step) p).runs) (tiled (shifts_of across up step) p) q e

-- ---- what is to be cut

pub places_in : (by : Point) (cut : List Corner) → map place_of (cut_in by cut) ≡ map (pos_in by) (map place_of cut)
places_in by [] = refl
places_in by (c ∷ cut) = λ t. place_copy by c t ∷ places_in by cut t

wants_in : (run : ToolRun) (by : Point) (cuts : List (List Corner)) → map (wanted_cut run) (cuts_in cuts by) ≡ map (wanted_in by) (map (wanted_cut run) cuts)
wants_in run by [] = refl
wants_in run by (cut ∷ cuts) = λ t. record { tool = run.tool; places = places_in by cut t } ∷ wants_in run by cuts t

wants_tiled : (run : ToolRun) (cuts : List (List Corner)) (shifts : List Point)
    → map (wanted_cut run) (flat_map (cuts_in cuts) shifts) ≡ flat_map (λ by. map (wanted_in by) (map (wanted_cut run) cuts)) shifts
wants_tiled run cuts [] = refl
wants_tiled run cuts (by ∷ shifts) =
    map-append (wanted_cut run) (cuts_in cuts by) (flat_map (cuts_in cuts) shifts) ∙ (λ t. wants_in run by cuts t ++ wants_tiled run cuts shifts t)

runs_wanted : (shifts : List Point) (runs : List ToolRun) → wanted (map (run_in shifts) runs) ≡ wanted_in_tiles shifts runs
runs_wanted shifts [] = refl
runs_wanted shifts (run ∷ runs) = λ t. wants_tiled run run.cuts shifts t ++ runs_wanted shifts runs t

pub tiled_wanted : WantedLaw
unfolding tiled
tiled_wanted shifts p = runs_wanted shifts p.runs
