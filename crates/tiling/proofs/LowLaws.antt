-- Which moves of a program's run are low: those of the strokes of its cuts.
use Rattle.std.proofs.Common.{◌≡◌, refl, ℤ, ◌*ℤ◌, ◌<ℤ◌, ◌≤ℤ◌, List, [], ◌∷◌, ◌++◌, true, ◌⊎◌, inl, inr, ap, sym, ◌∙◌, subst, append_assoc, append-nil, arith}
use Rattle.std.specs.List.{All, AllByRecursion, Contains, flat_map}
use Rattle.std.proofs.lemmas.Bool.{false≢true}
use Rattle.std.proofs.lemmas.Int.{ints}
use Rattle.std.proofs.lemmas.List.Elements.{All-nil, All-cons, All-append, All-contains, recursion_from_All, Contains-append_left, Contains-append_right, Contains-append_cases}
use Rattle.board_base.specs.declared.places.Pos.{Pos}
use Rattle.board_base.specs.declared.places.Move.{Move}
use Rattle.rs274_sim.specs.Cutter.{IsLow, nanometre}
use Rattle.mill_program.specs.declared.cuts.Corner.{Corner}
use Rattle.mill_program.specs.declared.cuts.ToolRun.{ToolRun}
use Rattle.mill_program.specs.declared.cuts.Program.{Program}
use Rattle.mill_program.specs.Conditions.{IsRunnableCut, IsRunnable}
use Rattle.mill_program.specs.Moves.{Spindle, standing, turning_in, rapid, feeding, place_of, at_height, over, zero_pos, step_move, step_moves, last_of, cut_moves, after_cut, cuts_moves, after_cuts, runs_moves, moves_of}
use Rattle.mill_program.specs.Strokes.{AreHigh, BeginsHigh, AreStrokes}
use Rattle.mill_program.proofs.StrokeLaws.{not_low, scaled_up}
use Rattle.tiling.proofs.MoveCopies.{stroke_of, strokes_of, all_strokes}

-- the moves of some strokes
abbrev pub moves_in : List (List Move) → List Move
moves_in strokes = flat_map (λ stroke. stroke) strokes

-- ---- strokes of joined moves

module _ (height : ℤ) where
  -- moves before, none of which is low
  pub strokes_behind : (before : List Move) (strokes : List (List Move)) (moves : List Move) → AreHigh height before → AreStrokes height strokes moves → AreStrokes height strokes (before ++ moves)
  strokes_behind before [] moves high are = All-append (λ (m : Move). IsLow height m → ⊥) before moves high are
  strokes_behind before (stroke ∷ strokes) moves high (front, after, joined, first, rest) = (
    before ++ front,
    after,
    ap (λ (ms : List Move). before ++ ms) joined ∙ sym (append_assoc before front (stroke ++ after)),
    record { high = All-append (λ (m : Move). IsLow height m → ⊥) before front high first.high; some = first.some; low = first.low; ends = first.ends },
    rest,
  )

  begins_joined : (moves more : List Move) → BeginsHigh height moves → BeginsHigh height more → BeginsHigh height (moves ++ more)
  begins_joined [] more h k = k
  begins_joined (m ∷ moves) more h k = h

  -- the strokes of moves, and those of others behind them, the first of which isn't low
  pub strokes_joined : (strokes others : List (List Move)) (moves more : List Move) → AreStrokes height strokes moves → AreStrokes height others more → BeginsHigh height more
      → AreStrokes height (strokes ++ others) (moves ++ more)
  strokes_joined [] others moves more are these begins = strokes_behind moves others more are these
  strokes_joined (stroke ∷ strokes) others moves more (front, after, joined, first, rest) these begins = (
    front,
    after ++ more,
    ap (λ (ms : List Move). ms ++ more) joined ∙ append_assoc front (stroke ++ after) more ∙ ap (λ (ms : List Move). front ++ ms) (append_assoc stroke after more),
    record { high = first.high; some = first.some; low = first.low; ends = begins_joined after more first.ends begins },
    strokes_joined strokes others after more rest these begins,
  )

  -- ---- low moves

  -- a low move is in a stroke
  pub low_in : (strokes : List (List Move)) (moves : List Move) (m : Move) → AreStrokes height strokes moves → Contains moves m → IsLow height m → Contains (moves_in strokes) m
  low_in [] moves m are there low = absurd (All-contains (λ (n : Move). IsLow height n → ⊥) moves m are there low)
  low_in (stroke ∷ strokes) moves m (front, after, joined, first, rest) there low =
      by_part (λ later. low_in strokes after m rest later low) (Contains-append_cases front (stroke ++ after) m (subst (λ (ms : List Move). Contains ms m) joined there))
    where
      behind : (Contains after m → Contains (moves_in strokes) m) → Contains stroke m ⊎ Contains after m → Contains (moves_in (stroke ∷ strokes)) m
      behind others (inl here) = Contains-append_left stroke (moves_in strokes) m here
      behind others (inr later) = Contains-append_right stroke (moves_in strokes) m (others later)

      by_part : (Contains after m → Contains (moves_in strokes) m) → Contains front m ⊎ Contains (stroke ++ after) m → Contains (moves_in (stroke ∷ strokes)) m
      by_part others (inl before) = absurd (All-contains (λ (n : Move). IsLow height n → ⊥) front m first.high before low)
      by_part others (inr other) = behind others (Contains-append_cases stroke after m other)

  -- the moves of strokes are among the moves
  pub in_low : (strokes : List (List Move)) (moves : List Move) (m : Move) → AreStrokes height strokes moves → Contains (moves_in strokes) m → Contains moves m
  in_low [] moves m are (k, inside, here) = absurd (omega (arith, inside))
  in_low (stroke ∷ strokes) moves m (front, after, joined, first, rest) there =
      subst (λ (ms : List Move). Contains ms m) (sym joined)
      (Contains-append_right front (stroke ++ after) m (by_part (λ later. in_low strokes after m rest later) (Contains-append_cases stroke (moves_in strokes) m there)))
    where
      by_part : (Contains (moves_in strokes) m → Contains after m) → Contains stroke m ⊎ Contains (moves_in strokes) m → Contains (stroke ++ after) m
      by_part others (inl here) = Contains-append_left stroke after m here
      by_part others (inr later) = Contains-append_right stroke after m (others later)

-- ---- strokes of cuts

module _ (safe : ℤ) where
  abbrev safe_height : ℤ
  safe_height = safe *ℤ nanometre

  abbrev IsBelow : Corner → Type 0
  IsBelow c = c.z <ℤ safe

  -- no height is below itself
  level : safe_height ≤ℤ safe_height
  level = omega (arith, ints)

  deep : (c : Corner) → IsBelow c → (place_of c).z <ℤ safe_height
  deep c h = omega (arith, ints, h)

  steps_low : (run : ToolRun) (c : Corner) (cs : List Corner) → AllByRecursion IsBelow (c ∷ cs)
      → All (IsLow safe_height) (step_moves run c cs ++ rapid (turning_in run) (place_of (last_of c cs)) (over safe (last_of c cs)) ∷ [])
  steps_low run c [] below = All-cons (IsLow safe_height) (rapid (turning_in run) (place_of c) (over safe c)) [] (refl, inl (deep c below.0)) (All-nil (IsLow safe_height))
  steps_low run c (d ∷ ds) below =
      All-cons (IsLow safe_height) (step_move run c d) (step_moves run d ds ++ rapid (turning_in run) (place_of (last_of d ds)) (over safe (last_of d ds)) ∷ []) (refl, inl (deep c below.0)) (steps_low run d ds below.1)

  -- a cut has its stroke
  cut_strokes : (run : ToolRun) (cut : List Corner) (from : Pos) → safe_height ≤ℤ from.z → AllByRecursion IsBelow cut → AreStrokes safe_height (stroke_of safe run cut) (cut_moves safe run from cut)
  cut_strokes run [] from above below = All-nil (λ (m : Move). IsLow safe_height m → ⊥)
  cut_strokes run (c ∷ cs) from above below =
      let first = rapid (turning_in run) from (over safe c) in
      let down = feeding run run.plunge (over safe c) (place_of c) in
      let behind : List Move = step_moves run c cs ++ rapid (turning_in run) (place_of (last_of c cs)) (over safe (last_of c cs)) ∷ [] in (
        first ∷ [],
        [],
        ap (λ (ms : List Move). first ∷ ms) (sym (append-nil (down ∷ behind))),
        record {
          high = All-cons (λ (m : Move). IsLow safe_height m → ⊥) first [] (not_low safe_height first above level) (All-nil (λ (m : Move). IsLow safe_height m → ⊥));
          some = omega arith;
          low = All-cons (IsLow safe_height) down behind (refl, inr (deep c below.0)) (steps_low run c cs below);
          ends = tt;
        },
        All-nil (λ (m : Move). IsLow safe_height m → ⊥),
      )

  cut_begins : (run : ToolRun) (cut : List Corner) (from : Pos) → safe_height ≤ℤ from.z → BeginsHigh safe_height (cut_moves safe run from cut)
  cut_begins run [] from above = tt
  cut_begins run (c ∷ cs) from above = not_low safe_height (rapid (turning_in run) from (over safe c)) above level

  cut_ends : (cut : List Corner) (from : Pos) → safe_height ≤ℤ from.z → safe_height ≤ℤ (after_cut safe from cut).z
  cut_ends [] from above = above
  cut_ends (c ∷ cs) from above = level

  -- cuts end no lower than they begin
  pub cuts_end : (cuts : List (List Corner)) (from : Pos) → safe_height ≤ℤ from.z → safe_height ≤ℤ (after_cuts safe from cuts).z
  cuts_end [] from above = above
  cuts_end (cut ∷ cuts) from above = cuts_end cuts (after_cut safe from cut) (cut_ends cut from above)

  -- the first move isn't low
  pub cuts_begin : (run : ToolRun) (cuts : List (List Corner)) (from : Pos) → safe_height ≤ℤ from.z → BeginsHigh safe_height (cuts_moves safe run from cuts)
  cuts_begin run [] from above = tt
  cuts_begin run (cut ∷ cuts) from above =
      begins_joined safe_height (cut_moves safe run from cut) (cuts_moves safe run (after_cut safe from cut) cuts) (cut_begins run cut from above)
      (cuts_begin run cuts (after_cut safe from cut) (cut_ends cut from above))

  -- cuts have their strokes, wherever they begin
  pub cuts_strokes : (run : ToolRun) (cuts : List (List Corner)) (from : Pos) → safe_height ≤ℤ from.z → AllByRecursion (IsRunnableCut safe) cuts
      → AreStrokes safe_height (strokes_of safe run cuts) (cuts_moves safe run from cuts)
  cuts_strokes run [] from above runs = All-nil (λ (m : Move). IsLow safe_height m → ⊥)
  cuts_strokes run (cut ∷ cuts) from above runs =
      let later = after_cut safe from cut in
      strokes_joined safe_height (stroke_of safe run cut) (strokes_of safe run cuts) (cut_moves safe run from cut) (cuts_moves safe run later cuts)
      (cut_strokes run cut from above (recursion_from_All IsBelow cut runs.0.below)) (cuts_strokes run cuts later (cut_ends cut from above) runs.1)
      (cuts_begin run cuts later (cut_ends cut from above))

  -- ---- tool runs

  -- the moves before the cuts of a tool run
  abbrev pub change_moves : ℤ → Spindle → Pos → ToolRun → List Move
  change_moves change spindle from run =
      rapid spindle from (at_height change from) ∷ rapid (turning_in run) (at_height change from) (at_height safe from) ∷ []

  pub change_high : (change : ℤ) (spindle : Spindle) (from : Pos) (run : ToolRun) → safe ≤ℤ change → (spindle.turning ≡ true → safe_height ≤ℤ from.z) → AreHigh safe_height (change_moves change spindle from run)
  change_high change spindle from run high above =
      let up = rapid spindle from (at_height change from) in
      let down = rapid (turning_in run) (at_height change from) (at_height safe from) in
      All-cons (λ (m : Move). IsLow safe_height m → ⊥) up (down ∷ []) (λ low. not_low safe_height up (above low.0) (scaled_up safe change high) low)
      (All-cons (λ (m : Move). IsLow safe_height m → ⊥) down [] (not_low safe_height down (scaled_up safe change high) level) (All-nil (λ (m : Move). IsLow safe_height m → ⊥)))

  -- straight up in the end
  pub end_high : (change : ℤ) (spindle : Spindle) (from : Pos) → safe ≤ℤ change → (spindle.turning ≡ true → safe_height ≤ℤ from.z) → IsLow safe_height (rapid spindle from (at_height change from)) → ⊥
  end_high change spindle from high above low = not_low safe_height (rapid spindle from (at_height change from)) (above low.0) (scaled_up safe change high) low

  runs_begin : (change : ℤ) (runs : List ToolRun) (spindle : Spindle) (from : Pos) → safe ≤ℤ change → (spindle.turning ≡ true → safe_height ≤ℤ from.z) → BeginsHigh safe_height (runs_moves safe change spindle from runs)
  runs_begin change [] spindle from high above = end_high change spindle from high above
  runs_begin change (run ∷ runs) spindle from high above = end_high change spindle from high above

  runs_strokes : (change : ℤ) (runs : List ToolRun) (spindle : Spindle) (from : Pos) → safe ≤ℤ change → (spindle.turning ≡ true → safe_height ≤ℤ from.z)
      → AllByRecursion (λ (run : ToolRun). All (IsRunnableCut safe) run.cuts) runs → AreStrokes safe_height (all_strokes safe runs) (runs_moves safe change spindle from runs)
  runs_strokes change [] spindle from high above can =
      All-cons (λ (m : Move). IsLow safe_height m → ⊥) (rapid spindle from (at_height change from)) [] (end_high change spindle from high above) (All-nil (λ (m : Move). IsLow safe_height m → ⊥))
  runs_strokes change (run ∷ runs) spindle from high above can =
      let start = at_height safe from in
      let end = after_cuts safe start run.cuts in
      let later = runs_moves safe change (turning_in run) end runs in
      let end_above : safe_height ≤ℤ end.z = cuts_end run.cuts start level in
      strokes_behind safe_height (change_moves change spindle from run) (all_strokes safe (run ∷ runs)) (cuts_moves safe run start run.cuts ++ later) (change_high change spindle from run high above)
      (strokes_joined safe_height (strokes_of safe run run.cuts) (all_strokes safe runs) (cuts_moves safe run start run.cuts) later
      (cuts_strokes run run.cuts start level (recursion_from_All (IsRunnableCut safe) run.cuts can.0))
      (runs_strokes change runs (turning_in run) end high (λ t. end_above) can.1) (runs_begin change runs (turning_in run) end high (λ t. end_above)))

-- the spindle stands at the beginning
pub at_start : (height : ℤ) → standing.turning ≡ true → height ≤ℤ zero_pos.z
at_start height t = absurd (false≢true t)

-- the strokes of a program that can run
pub program_strokes : (p : Program) → IsRunnable p → AreStrokes (p.safe *ℤ nanometre) (all_strokes p.safe p.runs) (moves_of p)
unfolding moves_of
program_strokes p w =
    runs_strokes p.safe p.change p.runs standing zero_pos w.high (at_start (p.safe *ℤ nanometre)) (recursion_from_All (λ (run : ToolRun). All (IsRunnableCut p.safe) run.cuts) p.runs w.cuts)
