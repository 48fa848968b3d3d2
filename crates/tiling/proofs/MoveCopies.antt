-- The strokes of cuts, and those of their copies.
use Rattle.std.proofs.Common.{◌≡◌, refl, ℤ, neg_ℤ, ◌+ℤ◌, ◌*ℤ◌, ◌&&◌, not, cond, List, [], ◌∷◌, ◌++◌, map, ap, sym, ◌∙◌, arith}
use Rattle.std.specs.List.{flat_map}
use Rattle.std.specs.Ordering.{int_eq}
use Rattle.std.proofs.lemmas.Bool.Decides.{Decides-int_eq}
use Rattle.std.proofs.lemmas.Bool.{false≢true}
use Rattle.std.proofs.lemmas.Int.{ints}
use Rattle.std.proofs.lemmas.List.{map-append}
use Rattle.std.proofs.lemmas.Grind.{flat_map-append}
use Rattle.number_laws.proofs.Tests.{same_test}
use Rattle.board_base.specs.declared.places.Point.{Point}
use Rattle.board_base.specs.declared.places.Pos.{Pos}
use Rattle.board_base.specs.declared.places.Move.{Move}
use Rattle.rs274_sim.specs.Cutter.{nanometre}
use Rattle.mill_program.specs.declared.cuts.Corner.{Corner}
use Rattle.mill_program.specs.declared.cuts.ToolRun.{ToolRun}
use Rattle.mill_program.specs.Lines.{is_straight}
use Rattle.mill_program.specs.Moves.{turning_in, rapid, feeding, place_of, over, step_move, step_moves, last_of}
use Rattle.tiling.specs.Tiles.{corner_in, cut_in, cuts_in, run_in}
use Rattle.tiling.specs.Copies.{pos_in, move_in, back}

-- ---- strokes

-- straight down to a corner, from corner to corner, and straight up: the stroke of a cut, where it has a corner
abbrev pub stroke_of : ℤ → ToolRun → List Corner → List (List Move)
stroke_of safe run [] = []
stroke_of safe run (c ∷ cs) =
    (feeding run run.plunge (over safe c) (place_of c) ∷ step_moves run c cs ++ rapid (turning_in run) (place_of (last_of c cs)) (over safe (last_of c cs)) ∷ []) ∷ []

-- the strokes of some cuts
abbrev pub strokes_of : ℤ → ToolRun → List (List Corner) → List (List Move)
strokes_of safe run cuts = flat_map (stroke_of safe run) cuts

-- the strokes of tool runs
abbrev pub all_strokes : ℤ → List ToolRun → List (List Move)
all_strokes safe runs = flat_map (λ run. strokes_of safe run run.cuts) runs

-- the copies of some strokes
abbrev pub strokes_in : Point → List (List Move) → List (List Move)
strokes_in by strokes = map (map (move_in by)) strokes

-- ---- copies of corners

scaled_sum : (a b : ℤ) → (a +ℤ b) *ℤ nanometre ≡ a *ℤ nanometre +ℤ b *ℤ nanometre
scaled_sum a b = omega (arith, ints)

pub place_copy : (by : Point) (c : Corner) → place_of (corner_in by c) ≡ pos_in by (place_of c)
place_copy by c t = record { x = scaled_sum c.x by.x t; y = scaled_sum c.y by.y t; z = c.z *ℤ nanometre }

pub over_copy : (safe : ℤ) (by : Point) (c : Corner) → over safe (corner_in by c) ≡ pos_in by (over safe c)
over_copy safe by c t = record { x = scaled_sum c.x by.x t; y = scaled_sum c.y by.y t; z = safe *ℤ nanometre }

same_apart : (a b s : ℤ) → int_eq (a +ℤ s) (b +ℤ s) ≡ int_eq a b
same_apart a b s =
    same_test (int_eq (a +ℤ s) (b +ℤ s)) (int_eq a b)
    (λ t f. false≢true (sym f ∙ (Decides-int_eq a b).1 (less (a) b ((Decides-int_eq (a +ℤ s) (b +ℤ s)).0 t))))
    (λ f t. false≢true (sym f ∙ (Decides-int_eq (a +ℤ s) (b +ℤ s)).1 (ap (λ z. z +ℤ s) ((Decides-int_eq a b).0 t))))
  where
    less : (a b : ℤ) → a +ℤ s ≡ b +ℤ s → a ≡ b
    less a b e = omega (arith, ints)

straight_copy : (by : Point) (c d : Corner) → is_straight (corner_in by c) (corner_in by d) ≡ is_straight c d
straight_copy by c d t = same_apart c.x d.x by.x t && same_apart c.y d.y by.y t && not (int_eq c.z d.z)

last_copy : (by : Point) (c : Corner) (cs : List Corner) → last_of (corner_in by c) (cut_in by cs) ≡ corner_in by (last_of c cs)
last_copy by c [] = refl
last_copy by c (d ∷ ds) = last_copy by d ds

-- ---- copies of strokes

module _ (safe : ℤ) (run : ToolRun) (by : Point) where
  step_copy : (c d : Corner) → step_move run (corner_in by c) (corner_in by d) ≡ move_in by (step_move run c d)
  step_copy c d t = feeding run (cond (straight_copy by c d t) run.plunge run.feed) (place_copy by c t) (place_copy by d t)

  steps_copy : (c : Corner) (ds : List Corner) → step_moves run (corner_in by c) (cut_in by ds) ≡ map (move_in by) (step_moves run c ds)
  steps_copy c [] = refl
  steps_copy c (d ∷ ds) = λ t. step_copy c d t ∷ steps_copy d ds t

  down_copy : (c : Corner) → feeding run run.plunge (over safe (corner_in by c)) (place_of (corner_in by c)) ≡ move_in by (feeding run run.plunge (over safe c) (place_of c))
  down_copy c t = feeding run run.plunge (over_copy safe by c t) (place_copy by c t)

  up_copy : (c e : Corner) → e ≡ corner_in by c → rapid (turning_in run) (place_of e) (over safe e) ≡ move_in by (rapid (turning_in run) (place_of c) (over safe c))
  up_copy c e is = ap (λ (d : Corner). rapid (turning_in run) (place_of d) (over safe d)) is ∙ (λ t. rapid (turning_in run) (place_copy by c t) (over_copy safe by c t))

  behind_copy : (c : Corner) (cs : List Corner)
      → step_moves run (corner_in by c) (cut_in by cs) ++ rapid (turning_in run) (place_of (last_of (corner_in by c) (cut_in by cs))) (over safe (last_of (corner_in by c) (cut_in by cs))) ∷ []
      ≡ map (move_in by) (step_moves run c cs ++ rapid (turning_in run) (place_of (last_of c cs)) (over safe (last_of c cs)) ∷ [])
  behind_copy c cs =
      let last = last_of c cs in
      (λ t. steps_copy c cs t ++ up_copy last (last_of (corner_in by c) (cut_in by cs)) (last_copy by c cs) t ∷ [])
      ∙ sym (map-append (move_in by) (step_moves run c cs) (rapid (turning_in run) (place_of last) (over safe last) ∷ []))

  stroke_copy : (cut : List Corner) → stroke_of safe run (cut_in by cut) ≡ strokes_in by (stroke_of safe run cut)
  stroke_copy [] = refl
  stroke_copy (c ∷ cs) = λ t. (down_copy c t ∷ behind_copy c cs t) ∷ []

  pub strokes_copy : (cuts : List (List Corner)) → strokes_of safe run (cuts_in cuts by) ≡ strokes_in by (strokes_of safe run cuts)
  strokes_copy [] = refl
  strokes_copy (cut ∷ cuts) =
      (λ t. stroke_copy cut t ++ strokes_copy cuts t) ∙ sym (map-append (map (move_in by)) (stroke_of safe run cut) (strokes_of safe run cuts))

-- ---- in all tiles

module _ (safe : ℤ) (run : ToolRun) (shifts : List Point) where
  steps_same : (c : Corner) (ds : List Corner) → step_moves (run_in shifts run) c ds ≡ step_moves run c ds
  steps_same c [] = refl
  steps_same c (d ∷ ds) = λ t. step_move run c d ∷ steps_same d ds t

  stroke_same : (cut : List Corner) → stroke_of safe (run_in shifts run) cut ≡ stroke_of safe run cut
  stroke_same [] = refl
  stroke_same (c ∷ cs) =
      λ t. (feeding run run.plunge (over safe c) (place_of c) ∷ steps_same c cs t ++ rapid (turning_in run) (place_of (last_of c cs)) (over safe (last_of c cs)) ∷ []) ∷ []

  -- the cuts are what counts
  pub strokes_same : (cuts : List (List Corner)) → strokes_of safe (run_in shifts run) cuts ≡ strokes_of safe run cuts
  strokes_same [] = refl
  strokes_same (cut ∷ cuts) = λ t. stroke_same cut t ++ strokes_same cuts t

strokes_tiled : (safe : ℤ) (run : ToolRun) (cuts : List (List Corner)) (shifts : List Point)
    → strokes_of safe run (flat_map (cuts_in cuts) shifts) ≡ flat_map (λ by. strokes_in by (strokes_of safe run cuts)) shifts
strokes_tiled safe run cuts [] = refl
strokes_tiled safe run cuts (by ∷ shifts) =
    flat_map-append (stroke_of safe run) (cuts_in cuts by) (flat_map (cuts_in cuts) shifts)
    ∙ (λ t. strokes_copy safe run by cuts t ++ strokes_tiled safe run cuts shifts t)

-- the strokes of a tool run in tiles are the copies of its strokes, tile after tile
pub run_strokes : (safe : ℤ) (run : ToolRun) (shifts : List Point)
    → strokes_of safe (run_in shifts run) (run_in shifts run).cuts ≡ flat_map (λ by. strokes_in by (strokes_of safe run run.cuts)) shifts
run_strokes safe run shifts = strokes_same safe run shifts (flat_map (cuts_in run.cuts) shifts) ∙ strokes_tiled safe run run.cuts shifts

-- ---- the way back

shifted_back : (a s : ℤ) → (a +ℤ s *ℤ nanometre) +ℤ neg_ℤ s *ℤ nanometre ≡ a
shifted_back a s = omega (arith, ints)

pub pos_back : (by : Point) (p : Pos) → pos_in (back by) (pos_in by p) ≡ p
pos_back by p t = record { x = shifted_back p.x by.x t; y = shifted_back p.y by.y t; z = p.z }

move_back : (by : Point) (m : Move) → move_in (back by) (move_in by m) ≡ m
move_back by m t = record {
  from = pos_back by m.from t;
  to = pos_back by m.to t;
  kind = m.kind;
  turning = m.turning;
  speed = m.speed;
  feed = m.feed;
  tool = m.tool;
  line = m.line;
}

moves_back : (by : Point) (moves : List Move) → map (move_in (back by)) (map (move_in by) moves) ≡ moves
moves_back by [] = refl
moves_back by (m ∷ moves) = λ t. move_back by m t ∷ moves_back by moves t

-- copies of strokes, moved back, are the strokes
pub strokes_back : (by : Point) (strokes : List (List Move)) → strokes_in (back by) (strokes_in by strokes) ≡ strokes
strokes_back by [] = refl
strokes_back by (stroke ∷ strokes) = λ t. moves_back by stroke t ∷ strokes_back by strokes t
