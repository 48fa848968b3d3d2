-- The run of a program cuts what its tool runs say, and moves have one list of strokes.
use Rattle.std.proofs.Common.{◌≡◌, refl, ℕ, ℤ, ◌*ℤ◌, ◌<ℤ◌, ◌≤ℤ◌, List, [], ◌∷◌, ◌++◌, true, inl, inr, ap, sym, ◌∙◌, subst, append_assoc, append-nil, map, arith}
use Rattle.std.specs.List.{All, AllByRecursion, AllZip}
use Rattle.std.proofs.lemmas.Bool.{false≢true}
use Rattle.std.proofs.lemmas.Int.{ints}
use Rattle.std.proofs.lemmas.List.{length-map}
use Rattle.std.proofs.lemmas.List.Elements.{All-nil, All-cons, All-head, All-tail, recursion_from_All}
use Rattle.board_base.specs.declared.places.Pos.{Pos}
use Rattle.board_base.specs.declared.places.Move.{Move}
use Rattle.rs274_sim.specs.Cutter.{IsLow, nanometre}
use Rattle.mill_program.specs.declared.cuts.Corner.{Corner}
use Rattle.mill_program.specs.declared.cuts.ToolRun.{ToolRun}
use Rattle.mill_program.specs.Conditions.{IsCut, IsToolRun, IsRunnableCut}
use Rattle.mill_program.specs.Moves.{unnumbered, Spindle, standing, turning_in, rapid, feeding, place_of, at_height, over, zero_pos, step_move, step_moves, last_of, cut_moves, cuts_moves, after_cuts, runs_moves, moves_of}
use Rattle.mill_program.specs.Strokes.{AreHigh, BeginsHigh, IsFirstStroke, AreStrokes, LeadThrough, way_over, Wanted, IsStrokeOf, CutsExactly, wanted_cut, wanted, StrokeLaw, OneStrokesLaw}

-- ---- heights

-- a move with no end below a height isn't low there
pub not_low : (height : ℤ) (move : Move) → height ≤ℤ (move.from).z → height ≤ℤ (move.to).z → IsLow height move → ⊥
not_low height move a b (t, inl below) = omega (arith, ints)
not_low height move a b (t, inr below) = omega (arith, ints)

-- a height isn't below itself
same_height : (z : ℤ) → z ≤ℤ z
same_height z = omega (arith, ints)

-- heights in nanometres and in the units of a machine's position have one order
pub scaled_up : (a b : ℤ) → a ≤ℤ b → (a *ℤ nanometre) ≤ℤ (b *ℤ nanometre)
scaled_up a b h = omega (arith, ints)

scaled_below : (a b : ℤ) → a <ℤ b → (a *ℤ nanometre) <ℤ (b *ℤ nanometre)
scaled_below a b h = omega (arith, ints)

-- ---- one cut

module _ (safe : ℤ) where
  abbrev safe_height : ℤ
  safe_height = safe *ℤ nanometre

  -- low moves that lead through these positions, with that tool
  record IsLowWay (tool : ℕ) (places : List Pos) (moves : List Move) : Type 0 where
    low : All (IsLow safe_height) moves
    way : LeadThrough places moves
    tools : All (λ (m : Move). m.tool ≡ tool) moves

  way_end : (tool : ℕ) (p : Pos) → IsLowWay tool (p ∷ []) []
  way_end tool p = record { low = All-nil (IsLow safe_height); way = tt; tools = All-nil (λ (m : Move). m.tool ≡ tool) }

  way_more : (m : Move) (places : List Pos) (moves : List Move) → IsLow safe_height m → IsLowWay m.tool (m.to ∷ places) moves → IsLowWay m.tool (m.from ∷ m.to ∷ places) (m ∷ moves)
  way_more m places moves low w = record {
    low = All-cons (IsLow safe_height) m moves low w.low;
    way = (refl, refl, w.way);
    tools = All-cons (λ (n : Move). n.tool ≡ m.tool) m moves refl w.tools;
  }

  -- from a corner to those behind it, and straight up
  steps_way : (run : ToolRun) (c : Corner) (cs : List Corner) → AllByRecursion (λ (d : Corner). d.z <ℤ safe) (c ∷ cs)
      → IsLowWay run.tool (place_of c ∷ map place_of cs ++ at_height safe (last_of (place_of c) (map place_of cs)) ∷ [])
      (step_moves run c cs ++ rapid (turning_in run) (place_of (last_of c cs)) (over safe (last_of c cs)) ∷ [])
  steps_way run c [] below = way_more (rapid (turning_in run) (place_of c) (over safe c)) [] [] (refl, inl (scaled_below c.z safe below.0)) (way_end run.tool (over safe c))
  steps_way run c (d ∷ ds) below =
      way_more (step_move run c d) (map place_of ds ++ at_height safe (last_of (place_of d) (map place_of ds)) ∷ [])
      (step_moves run d ds ++ rapid (turning_in run) (place_of (last_of d ds)) (over safe (last_of d ds)) ∷ []) (refl, inl (scaled_below c.z safe below.0)) (steps_way run d ds below.1)

  -- straight down to the first corner, and so on
  cut_way : (run : ToolRun) (c : Corner) (cs : List Corner) → AllByRecursion (λ (d : Corner). d.z <ℤ safe) (c ∷ cs)
      → IsLowWay run.tool (way_over safe (map place_of (c ∷ cs)))
      (feeding run run.plunge (over safe c) (place_of c) ∷ step_moves run c cs ++ rapid (turning_in run) (place_of (last_of c cs)) (over safe (last_of c cs)) ∷ [])
  cut_way run c cs below =
      way_more (feeding run run.plunge (over safe c) (place_of c)) (map place_of cs ++ at_height safe (last_of (place_of c) (map place_of cs)) ∷ [])
      (step_moves run c cs ++ rapid (turning_in run) (place_of (last_of c cs)) (over safe (last_of c cs)) ∷ []) (refl, inr (scaled_below c.z safe below.0)) (steps_way run c cs below)

  -- ---- cuts and tool runs

  -- the moves cut what is wanted, and the first of them isn't low
  record CutsBehindHigh (wants : List Wanted) (moves : List Move) : Type 0 where
    cuts : CutsExactly safe wants moves
    high : BeginsHigh safe_height moves

  high_before : (m : Move) (strokes : List (List Move)) (moves : List Move) → (IsLow safe_height m → ⊥) → AreStrokes safe_height strokes moves → AreStrokes safe_height strokes (m ∷ moves)
  high_before m [] moves high are = All-cons (λ (n : Move). IsLow safe_height n → ⊥) m moves high are
  high_before m (stroke ∷ strokes) moves high (before, after, joined, first, rest) = (
    m ∷ before,
    after,
    ap (λ (ms : List Move). m ∷ ms) joined,
    record { high = All-cons (λ (n : Move). IsLow safe_height n → ⊥) m before high first.high; some = first.some; low = first.low; ends = first.ends },
    rest,
  )

  -- one more move that isn't low
  high_more : (m : Move) (wants : List Wanted) (moves : List Move) → (IsLow safe_height m → ⊥) → CutsExactly safe wants moves → CutsBehindHigh wants (m ∷ moves)
  high_more m wants moves high c = record { cuts = record { strokes = c.strokes; are = high_before m c.strokes moves high c.are; each = c.each }; high = high }

  -- one more cut
  cut_more : (run : ToolRun) (c : Corner) (cs : List Corner) (from : Pos) (wants : List Wanted) (rest : List Move) → safe_height ≤ℤ from.z → AllByRecursion (λ (d : Corner). d.z <ℤ safe) (c ∷ cs) → CutsBehindHigh wants rest
      → CutsBehindHigh (wanted_cut run (c ∷ cs) ∷ wants) (cut_moves safe run from (c ∷ cs) ++ rest)
  cut_more run c cs from wants rest above below later =
      let first = rapid (turning_in run) from (over safe c) in
      let high : IsLow safe_height first → ⊥ = not_low safe_height first above (same_height safe_height) in
      let stroke : List Move = feeding run run.plunge (over safe c) (place_of c) ∷ step_moves run c cs ++ rapid (turning_in run) (place_of (last_of c cs)) (over safe (last_of c cs)) ∷ [] in
      let w : IsLowWay run.tool (way_over safe (map place_of (c ∷ cs))) stroke = cut_way run c cs below in
      record {
        cuts = record {
          strokes = stroke ∷ later.cuts.strokes;
          are = (
            first ∷ [],
            rest,
            refl,
            record { high = All-cons (λ (n : Move). IsLow safe_height n → ⊥) first [] high (All-nil (λ (n : Move). IsLow safe_height n → ⊥)); some = omega arith; low = w.low; ends = later.high },
            later.cuts.are,
          );
          each = (record { way = w.way; tool = w.tools }, later.cuts.each);
        };
        high = high;
      }

  -- the cuts of a tool run
  cuts_more : (run : ToolRun) (cuts : List (List Corner)) (from : Pos) (wants : List Wanted) (rest : List Move) → safe_height ≤ℤ from.z → AllByRecursion IsCut cuts → AllByRecursion (IsRunnableCut safe) cuts → CutsBehindHigh wants rest
      → CutsBehindHigh (map (wanted_cut run) cuts ++ wants) (cuts_moves safe run from cuts ++ rest)
  cuts_more run [] from wants rest above h w later = later
  cuts_more run ([] ∷ cuts) from wants rest above h w later = absurd (let s = h.0.some in omega (arith, s))
  cuts_more run ((c ∷ cs) ∷ cuts) from wants rest above h w later =
      let end = over safe (last_of c cs) in
      subst (CutsBehindHigh (map (wanted_cut run) ((c ∷ cs) ∷ cuts) ++ wants)) (sym (append_assoc (cut_moves safe run from (c ∷ cs)) (cuts_moves safe run end cuts) rest))
      (cut_more run c cs from (map (wanted_cut run) cuts ++ wants) (cuts_moves safe run end cuts ++ rest) above (recursion_from_All (λ (d : Corner). d.z <ℤ safe) (c ∷ cs) w.0.below)
      (cuts_more run cuts end wants rest (same_height safe_height) h.1 w.1 later))

  -- cuts end no lower than the safe height
  after_cuts_above : (cuts : List (List Corner)) (from : Pos) → safe_height ≤ℤ from.z → safe_height ≤ℤ (after_cuts safe from cuts).z
  after_cuts_above [] from above = above
  after_cuts_above ([] ∷ cuts) from above = after_cuts_above cuts from above
  after_cuts_above ((c ∷ cs) ∷ cuts) from above = after_cuts_above cuts (over safe (last_of c cs)) (same_height safe_height)

  -- the tool runs behind a spindle that stands, or is no lower than the safe height
  runs_cut : (change : ℤ) (runs : List ToolRun) (spindle : Spindle) (from : Pos) → safe ≤ℤ change → (spindle.turning ≡ true → safe_height ≤ℤ from.z) → AllByRecursion IsToolRun runs
      → AllByRecursion (λ (run : ToolRun). All (IsRunnableCut safe) run.cuts) runs → CutsBehindHigh (wanted runs) (runs_moves safe change spindle from runs)
  runs_cut change [] spindle from high above h w =
      let up = rapid spindle from (at_height change from) in
      high_more up [] [] (λ low. not_low safe_height up (above low.0) (scaled_up safe change high) low) (record { strokes = []; are = All-nil (λ (n : Move). IsLow safe_height n → ⊥); each = tt })
  runs_cut change (run ∷ runs) spindle from high above h w =
      let up = rapid spindle from (at_height change from) in
      let down = rapid (turning_in run) (at_height change from) (at_height safe from) in
      let end = after_cuts safe (at_height safe from) run.cuts in
      let later = runs_moves safe change (turning_in run) end runs in
      let moves = cuts_moves safe run (at_height safe from) run.cuts ++ later in
      high_more up (wanted (run ∷ runs)) (down ∷ moves) (λ low. not_low safe_height up (above low.0) (scaled_up safe change high) low)
      (high_more down (wanted (run ∷ runs)) moves (not_low safe_height down (scaled_up safe change high) (same_height safe_height))
      (cuts_more run run.cuts (at_height safe from) (wanted runs) later (same_height safe_height) (recursion_from_All IsCut run.cuts h.0.cuts) (recursion_from_All (IsRunnableCut safe) run.cuts w.0)
      (runs_cut change runs (turning_in run) end high (λ t. after_cuts_above run.cuts (at_height safe from) (same_height safe_height)) h.1 w.1)).cuts).cuts

-- ---- lists

same_head : {A : Type 0} (x y : A) (xs ys : List A) → x ∷ xs ≡ y ∷ ys → x ≡ y
same_head x y xs ys e = cc

same_tail : {A : Type 0} (x y : A) (xs ys : List A) → x ∷ xs ≡ y ∷ ys → xs ≡ ys
same_tail x y xs ys e = cc

same_list : {A : Type 0} (x y : A) (xs ys : List A) → x ≡ y → xs ≡ ys → x ∷ xs ≡ y ∷ ys
same_list x y xs ys h t = cc

-- what a map joins was joined before it
split_map : {A B : Type 0} (f : A → B) (xs : List A) (ys zs : List B) → map f xs ≡ ys ++ zs → (us vs : List A) × (xs ≡ us ++ vs) × (map f us ≡ ys) × (map f vs ≡ zs)
split_map f xs [] zs e = ([], xs, refl, refl, e)
split_map f [] (y ∷ ys) zs e = absurd cc
split_map f (x ∷ xs) (y ∷ ys) zs e =
    let r = split_map f xs ys zs (same_tail (f x) y (map f xs) (ys ++ zs) e) in
    (x ∷ r.0, r.1, same_list x x xs (r.0 ++ r.1) refl r.2, same_list (f x) y (map f r.0) ys (same_head (f x) y (map f xs) (ys ++ zs) e) r.3, r.4)

-- what holds of all that a map gives
pub all_before_map : {A B : Type 0} (P : B → Type 0) (f : A → B) (xs : List A) → All P (map f xs) → All (λ (x : A). P (f x)) xs
all_before_map {A = A} P f [] h = All-nil (λ (x : A). P (f x))
all_before_map {A = A} P f (x ∷ xs) h = All-cons (λ (y : A). P (f y)) x xs (All-head P (f x) (map f xs) h) (all_before_map P f xs (All-tail P (f x) (map f xs) h))

-- ---- numbers of lines

begins_numbered : (height : ℤ) (moves : List Move) → BeginsHigh height (map unnumbered moves) → BeginsHigh height moves
begins_numbered height [] h = tt
begins_numbered height (m ∷ moves) h = h

lead_numbered : (places : List Pos) (moves : List Move) → LeadThrough places (map unnumbered moves) → LeadThrough places moves
lead_numbered [] moves h = h
lead_numbered (p ∷ []) [] h = h
lead_numbered (p ∷ []) (m ∷ moves) h = h
lead_numbered (p ∷ q ∷ ps) [] h = h
lead_numbered (p ∷ q ∷ ps) (m ∷ moves) h = (h.0, h.1, lead_numbered (q ∷ ps) moves h.2)

first_numbered : (height : ℤ) (before stroke after : List Move) → IsFirstStroke height (map unnumbered before) (map unnumbered stroke) (map unnumbered after) → IsFirstStroke height before stroke after
first_numbered height before stroke after h = record {
  high = all_before_map (λ (m : Move). IsLow height m → ⊥) unnumbered before h.high;
  some = omega (arith, h.some, length-map stroke unnumbered);
  low = all_before_map (IsLow height) unnumbered stroke h.low;
  ends = begins_numbered height after h.ends;
}

stroke_numbered : (safe : ℤ) (want : Wanted) (stroke : List Move) → IsStrokeOf safe want (map unnumbered stroke) → IsStrokeOf safe want stroke
stroke_numbered safe want stroke h = record { way = lead_numbered (way_over safe want.places) stroke h.way; tool = all_before_map (λ (m : Move). m.tool ≡ want.tool) unnumbered stroke h.tool }

-- what moves cut doesn't look at the numbers of lines
cuts_numbered : (safe : ℤ) (wants : List Wanted) (strokes : List (List Move)) (moves : List Move) → AreStrokes (safe *ℤ nanometre) strokes (map unnumbered moves) → AllZip (IsStrokeOf safe) wants strokes → CutsExactly safe wants moves
cuts_numbered safe [] [] moves are each = record { strokes = []; are = all_before_map (λ (m : Move). IsLow (safe *ℤ nanometre) m → ⊥) unnumbered moves are; each = tt }
cuts_numbered safe [] (stroke ∷ strokes) moves are each = absurd each
cuts_numbered safe (want ∷ wants) [] moves are each = absurd each
cuts_numbered safe (want ∷ wants) (stroke ∷ strokes) moves (before, after, joined, first, rest) each =
    let height = safe *ℤ nanometre in
    let a = split_map unnumbered moves before (stroke ++ after) joined in
    let b = split_map unnumbered a.1 stroke after a.4 in
    let first_one : IsFirstStroke height (map unnumbered a.0) (map unnumbered b.0) (map unnumbered b.1) =
    subst (λ (x : List Move). IsFirstStroke height x (map unnumbered b.0) (map unnumbered b.1)) (sym a.3)
    (subst (λ (y : List Move). IsFirstStroke height before y (map unnumbered b.1)) (sym b.3) (subst (λ (z : List Move). IsFirstStroke height before stroke z) (sym b.4) first)) in
    let later = cuts_numbered safe wants strokes b.1 (subst (AreStrokes height strokes) (sym b.4) rest) each.1 in
    record {
      strokes = b.0 ∷ later.strokes;
      are = (a.0, b.1, a.2 ∙ ap (λ (ms : List Move). a.0 ++ ms) b.2, first_numbered height a.0 b.0 b.1 first_one, later.are);
      each = (stroke_numbered safe want b.0 (subst (IsStrokeOf safe want) (sym b.3) each.0), later.each);
    }

-- ---- the run of a program

pub stroke_law : StrokeLaw
unfolding moves_of
stroke_law p moves h w e =
    let high : standing.turning ≡ true → (p.safe *ℤ nanometre) ≤ℤ zero_pos.z = λ t. absurd (false≢true t) in
    let c =
    (runs_cut p.safe p.change p.runs standing zero_pos w.high high (recursion_from_All IsToolRun p.runs h.runs) (recursion_from_All (λ (run : ToolRun). All (IsRunnableCut p.safe) run.cuts) p.runs w.cuts)).cuts in
    cuts_numbered p.safe (wanted p.runs) c.strokes moves (subst (AreStrokes (p.safe *ℤ nanometre) c.strokes) (sym e) c.are) c.each

-- ---- one list of strokes

-- the first item, where there is one, isn't such
abbrev BeginsNot : {A : Type 0} → (A → Type 0) → List A → Type 0
BeginsNot P [] = Unit {0}
BeginsNot P (x ∷ xs) = P x → ⊥

-- where such items end is fixed
one_front : {A : Type 0} (P : A → Type 0) (xs ys us vs : List A) → All P xs → All P ys → BeginsNot P us → BeginsNot P vs → xs ++ us ≡ ys ++ vs → (xs ≡ ys) × (us ≡ vs)
one_front P [] [] us vs f g h k e = (refl, e)
one_front P [] (y ∷ ys) us vs f g h k e = absurd (subst (BeginsNot P) e h (All-head P y ys g))
one_front P (x ∷ xs) [] us vs f g h k e = absurd (subst (BeginsNot P) (sym e) k (All-head P x xs f))
one_front P (x ∷ xs) (y ∷ ys) us vs f g h k e =
    let r = one_front P xs ys us vs (All-tail P x xs f) (All-tail P y ys g) h k (same_tail x y (xs ++ us) (ys ++ vs) e) in
    (same_list x y xs ys (same_head x y (xs ++ us) (ys ++ vs) e) r.0, r.1)

-- a stroke begins low
begins_low : (height : ℤ) (before stroke after : List Move) → IsFirstStroke height before stroke after → BeginsNot (λ (m : Move). IsLow height m → ⊥) (stroke ++ after)
begins_low height before [] after h = absurd (let s = h.some in omega (arith, s))
begins_low height before (m ∷ stroke) after h = λ high. high (All-head (IsLow height) m stroke h.low)

-- what stands right behind a stroke
ends_high : (height : ℤ) (moves : List Move) → BeginsHigh height moves → BeginsNot (IsLow height) moves
ends_high height [] h = tt
ends_high height (m ∷ moves) h = h

-- moves none of which is low have no stroke
no_stroke : (height : ℤ) (moves before stroke after : List Move) → AreHigh height moves → moves ≡ before ++ (stroke ++ after) → IsFirstStroke height before stroke after → ⊥
no_stroke height moves before [] after high joined first = let s = first.some in omega (arith, s)
no_stroke height moves before (m ∷ stroke) after high joined first =
    let r = one_front (λ (n : Move). IsLow height n → ⊥) moves before [] (m ∷ stroke ++ after) high first.high tt (begins_low height before (m ∷ stroke) after first) (append-nil moves ∙ joined) in
    apart m (stroke ++ after) r.1
  where
    apart : (n : Move) (ns : List Move) → [] ≡ n ∷ ns → ⊥
    apart n ns e = cc

pub one_strokes_law : OneStrokesLaw
one_strokes_law height [] [] moves are these = refl
one_strokes_law height [] (stroke ∷ strokes) moves are (before, after, joined, first, rest) = absurd (no_stroke height moves before stroke after are joined first)
one_strokes_law height (stroke ∷ strokes) [] moves (before, after, joined, first, rest) these = absurd (no_stroke height moves before stroke after these joined first)
one_strokes_law height (s ∷ ss) (t ∷ ts) moves (before, after, joined, first, rest) (front, later, same, other, others) =
    let r = one_front (λ (n : Move). IsLow height n → ⊥) before front (s ++ after) (t ++ later) first.high other.high (begins_low height before s after first) (begins_low height front t later other) (sym joined ∙ same) in
    let q = one_front (IsLow height) s t after later first.low other.low (ends_high height after first.ends) (ends_high height later other.ends) r.1 in
    same_list s t ss ts q.0 (one_strokes_law height ss ts after rest (subst (AreStrokes height ts) (sym q.1) others))
