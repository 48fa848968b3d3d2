-- The strokes of moves over a surface.
use Rattle.std.proofs.Common.{◌≡◌, refl, ◌<◌, ℤ, ◌*ℤ◌, ◌<ℤ◌, ◌≤ℤ◌, List, [], ◌∷◌, ◌++◌, inl, inr, ap, sym, ◌∙◌, subst, append_assoc, map, arith}
use Rattle.std.specs.Prelude.{length}
use Rattle.std.specs.List.{AllByRecursion}
use Rattle.std.specs.Int.Signed.{≤ℤ_refl}
use Rattle.std.proofs.lemmas.List.Elements.{All-from_recursion, All-nil, All-append}
use Rattle.board_base.specs.declared.places.Pos.{Pos}
use Rattle.board_base.specs.declared.places.Move.{Move}
use Rattle.rs274_sim.specs.Cutter.{IsLow, nanometre}
use Rattle.mill_program.specs.declared.cuts.Corner.{Corner}
use Rattle.mill_program.specs.declared.cuts.ToolRun.{ToolRun}
use Rattle.mill_program.specs.Moves.{turning_in, rapid, feeding, at_height, last_of}
use Rattle.mill_program.specs.Strokes.{AreHigh, BeginsHigh, AreStrokes, LeadThrough, Wanted, IsStrokeOf, CutsExactly}
use Rattle.mill_program.proofs.StrokeLaws.{not_low}
use Rattle.grid_runs.specs.Moves.{steps_at, stroke_at, cut_at, cuts_at, after_cuts_at}

module _ (safe : ℤ) where
  abbrev height : ℤ
  height = safe *ℤ nanometre

  abbrev pub NotLow : Move → Type 0
  NotLow m = IsLow height m → ⊥

  -- ---- what is cut, one after another

  -- strokes behind moves none of which is low
  high_before : (ms : List Move) (strokes : List (List Move)) (moves : List Move) → AreHigh height ms → AreStrokes height strokes moves → AreStrokes height strokes (ms ++ moves)
  high_before ms [] moves high are = All-append NotLow ms moves high are
  high_before ms (stroke ∷ strokes) moves high (before, after, joined, first, rest) = (
    ms ++ before,
    after,
    ap (λ t. ms ++ t) joined ∙ sym (append_assoc ms before (stroke ++ after)),
    record { high = All-append NotLow ms before high first.high; some = first.some; low = first.low; ends = first.ends },
    rest,
  )

  -- the moves cut what is wanted, and the first of them isn't low
  pub record CutsBehind (wants : List Wanted) (moves : List Move) : Type 0 where
    pub cuts : CutsExactly safe wants moves
    pub begins : BeginsHigh height moves

  -- no move cuts nothing
  pub cuts_none : CutsExactly safe [] []
  cuts_none = record { strokes = []; are = All-nil NotLow; each = tt }

  -- moves that aren't low before others
  pub high_more : (m : Move) (ms : List Move) (wants : List Wanted) (moves : List Move) → AllByRecursion NotLow (m ∷ ms) → CutsExactly safe wants moves → CutsBehind wants ((m ∷ ms) ++ moves)
  high_more m ms wants moves high c = record { cuts = record { strokes = c.strokes; are = high_before (m ∷ ms) c.strokes moves (All-from_recursion NotLow (m ∷ ms) high) c.are; each = c.each }; begins = high.0 }

  -- a stroke before others
  stroke_more : (want : Wanted) (m : Move) (ms : List Move) (wants : List Wanted) (moves : List Move) → AllByRecursion (IsLow height) (m ∷ ms) → IsStrokeOf safe want (m ∷ ms) → CutsBehind wants moves
      → CutsExactly safe (want ∷ wants) ((m ∷ ms) ++ moves)
  stroke_more want m ms wants moves low is later = record {
    strokes = (m ∷ ms) ∷ later.cuts.strokes;
    are = ([], moves, refl, record { high = All-nil NotLow; some = omega arith; low = All-from_recursion (IsLow height) (m ∷ ms) low; ends = later.begins }, later.cuts.are);
    each = (is, later.cuts.each);
  }

  -- ---- cuts, with each corner at a place of its own

  module _ (place : Corner → Pos) (run : ToolRun) where
    -- corners below the safe height
    abbrev pub AreDeep : List Corner → Type 0
    AreDeep cs = AllByRecursion (λ (c : Corner). (place c).z <ℤ height) cs

    -- from corner to corner, and straight up
    abbrev rest_of : Corner → List Corner → List Move
    rest_of c cs = steps_at place run c cs ++ rapid (turning_in run) (place (last_of c cs)) (at_height safe (place (last_of c cs))) ∷ []

    rest_low : (c : Corner) (cs : List Corner) → AreDeep (c ∷ cs) → AllByRecursion (IsLow height) (rest_of c cs)
    rest_low c [] deep = ((refl, inl deep.0), tt)
    rest_low c (d ∷ ds) deep = ((refl, inl deep.0), rest_low d ds deep.1)

    rest_tool : (c : Corner) (cs : List Corner) → AllByRecursion (λ (m : Move). m.tool ≡ run.tool) (rest_of c cs)
    rest_tool c [] = (refl, tt)
    rest_tool c (d ∷ ds) = (refl, rest_tool d ds)

    rest_way : (c : Corner) (cs : List Corner) → LeadThrough (place c ∷ map place cs ++ at_height safe (last_of (place c) (map place cs)) ∷ []) (rest_of c cs)
    rest_way c [] = (refl, refl, tt)
    rest_way c (d ∷ ds) = (refl, refl, rest_way d ds)

    -- what a cut has to cut
    abbrev wanted_here : List Corner → Wanted
    wanted_here cut = record { tool = run.tool; places = map place cut }

    stroke_is : (c : Corner) (cs : List Corner) → IsStrokeOf safe (wanted_here (c ∷ cs)) (stroke_at place safe run c cs)
    stroke_is c cs = record {
      way = (refl, refl, rest_way c cs);
      tool = All-from_recursion (λ (m : Move). m.tool ≡ run.tool) (stroke_at place safe run c cs) (refl, rest_tool c cs);
    }

    -- one more cut
    cut_more : (c : Corner) (cs : List Corner) (from : Pos) (wants : List Wanted) (moves : List Move) → height ≤ℤ from.z → AreDeep (c ∷ cs) → CutsBehind wants moves
        → CutsBehind (wanted_here (c ∷ cs) ∷ wants) (cut_at place safe run from (c ∷ cs) ++ moves)
    cut_more c cs from wants moves above deep later =
        let over = rapid (turning_in run) from (at_height safe (place c)) in
        let down = feeding run run.plunge (at_height safe (place c)) (place c) in
        high_more over [] (wanted_here (c ∷ cs) ∷ wants) (stroke_at place safe run c cs ++ moves) (not_low height over above (≤ℤ_refl height), tt)
        (stroke_more (wanted_here (c ∷ cs)) down (rest_of c cs) wants moves ((refl, inr deep.0), rest_low c cs deep) (stroke_is c cs) later)

    -- the cuts of a tool run
    pub cuts_more : (cuts : List (List Corner)) (from : Pos) (wants : List Wanted) (moves : List Move) → height ≤ℤ from.z → AllByRecursion (λ (cut : List Corner). 0 < length cut) cuts → AllByRecursion AreDeep cuts → CutsBehind wants moves
        → CutsBehind (map wanted_here cuts ++ wants) (cuts_at place safe run from cuts ++ moves)
    cuts_more [] from wants moves above some deep later = later
    cuts_more ([] ∷ cuts) from wants moves above some deep later = absurd (let s = some.0 in omega (arith, s))
    cuts_more ((c ∷ cs) ∷ cuts) from wants moves above some deep later =
        let end = at_height safe (place (last_of c cs)) in
        subst (CutsBehind (map wanted_here ((c ∷ cs) ∷ cuts) ++ wants)) (sym (append_assoc (cut_at place safe run from (c ∷ cs)) (cuts_at place safe run end cuts) moves))
        (cut_more c cs from (map wanted_here cuts ++ wants) (cuts_at place safe run end cuts ++ moves) above deep.0
        (cuts_more cuts end wants moves (≤ℤ_refl height) some.1 deep.1 later))

    -- cuts end no lower than the safe height
    pub cuts_end_high : (cuts : List (List Corner)) (from : Pos) → height ≤ℤ from.z → height ≤ℤ (after_cuts_at place safe from cuts).z
    cuts_end_high [] from above = above
    cuts_end_high ([] ∷ cuts) from above = cuts_end_high cuts from above
    cuts_end_high ((c ∷ cs) ∷ cuts) from above = cuts_end_high cuts (at_height safe (place (last_of c cs))) (≤ℤ_refl height)
