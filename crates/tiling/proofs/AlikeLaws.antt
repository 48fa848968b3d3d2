-- What moves that cut the same strokes share.
use Rattle.std.proofs.Common.{◌≡◌, refl, ℕ, zero, suc, ℤ, ◌*ℤ◌, List, [], ◌∷◌, ◌++◌, length, map, take, drop, ap, sym, ◌∙◌, subst, arith}
use Rattle.std.specs.List.{All, AllZip, Contains}
use Rattle.std.proofs.lemmas.List.{length-map, map-append, take-map, drop-map, take-append-drop}
use Rattle.std.proofs.lemmas.List.Elements.{All-nil, All-cons, All-head, All-tail, All-map, All-weaker}
use Rattle.std.proofs.Math.Seq.{take-append_seam, drop-append_seam}
use Rattle.board_base.specs.declared.places.Pos.{Pos}
use Rattle.board_base.specs.declared.places.Move.{Move}
use Rattle.rs274_sim.specs.Cutter.{IsLow, nanometre}
use Rattle.mill_program.specs.Moves.{unnumbered}
use Rattle.mill_program.specs.Strokes.{AreHigh, BeginsHigh, IsFirstStroke, AreStrokes, LeadThrough, way_over, Wanted, IsStrokeOf, OneStrokesLaw}
use Rattle.tiling.specs.Alike.{CutsAlikeLaw, HaveLowOf, LowAlikeLaw}
use Rattle.tiling.proofs.LowLaws.{low_in, in_low}

-- ---- lists

-- what is in a map comes from an item
pub of_item : {X Y : Type 0} (f : X → Y) (xs : List X) (y : Y) → Contains (map f xs) y → (x : X) × Contains xs x × (f x ≡ y)
of_item f [] y (k, inside, here) = absurd (omega (arith, inside))
of_item f (x ∷ xs) y (zero, inside, here) = (x, (0, omega arith, refl), here)
of_item f (x ∷ xs) y (suc k, inside, here) =
    let r = of_item f xs y (k, omega (arith, inside), here) in (r.0, (suc r.1.0, omega (arith, r.1.1), r.1.2), r.2)

-- and each item gives one
pub item_in : {X Y : Type 0} (f : X → Y) (xs : List X) (x : X) → Contains xs x → Contains (map f xs) (f x)
item_in f [] x (k, inside, here) = absurd (omega (arith, inside))
item_in f (y ∷ xs) x (zero, inside, here) = (0, omega arith, ap f here)
item_in f (y ∷ xs) x (suc k, inside, here) = let r = item_in f xs x (k, omega (arith, inside), here) in (suc r.0, omega (arith, r.1), r.2)

-- the two parts of what a map joins
pub parts : {X Y : Type 0} (f : X → Y) (xs : List X) (ys zs : List Y) → map f xs ≡ ys ++ zs → (map f (take (length ys) xs) ≡ ys) × (map f (drop (length ys) xs) ≡ zs)
parts f xs ys zs e = (
  sym (take-map f (length ys) xs) ∙ ap (take (length ys)) e ∙ take-append_seam ys zs,
  sym (drop-map f (length ys) xs) ∙ ap (drop (length ys)) e ∙ drop-append_seam ys zs,
)

-- ---- strokes of mapped moves

module _ (height : ℤ) (f : Move → Move) (low : (m : Move) → IsLow height m → IsLow height (f m)) (was : (m : Move) → IsLow height (f m) → IsLow height m) where
  high_mapped : (moves : List Move) → AreHigh height moves → AreHigh height (map f moves)
  high_mapped moves high =
      All-map (λ (m : Move). IsLow height m → ⊥) f moves (All-weaker (λ (m : Move). IsLow height m → ⊥) (λ (m : Move). IsLow height (f m) → ⊥) (λ m h l. h (was m l)) moves high)

  begins_mapped : (moves : List Move) → BeginsHigh height moves → BeginsHigh height (map f moves)
  begins_mapped [] h = tt
  begins_mapped (m ∷ moves) h = λ l. h (was m l)

  -- strokes of moves, mapped, are those of the moves, mapped
  pub strokes_mapped : (strokes : List (List Move)) (moves : List Move) → AreStrokes height strokes moves → AreStrokes height (map (map f) strokes) (map f moves)
  strokes_mapped [] moves are = high_mapped moves are
  strokes_mapped (stroke ∷ strokes) moves (front, after, joined, first, rest) = (
    map f front,
    map f after,
    ap (map f) joined ∙ map-append f front (stroke ++ after) ∙ ap (λ (ms : List Move). map f front ++ ms) (map-append f stroke after),
    record {
      high = high_mapped front first.high;
      some = omega (arith, first.some, length-map stroke f);
      low = All-map (IsLow height) f stroke (All-weaker (IsLow height) (λ (m : Move). IsLow height (f m)) low stroke first.low);
      ends = begins_mapped after first.ends;
    },
    strokes_mapped strokes after rest,
  )

  high_before : (moves : List Move) → AreHigh height (map f moves) → AreHigh height moves
  high_before [] high = All-nil (λ (m : Move). IsLow height m → ⊥)
  high_before (m ∷ moves) high =
      All-cons (λ (n : Move). IsLow height n → ⊥) m moves (λ l. All-head (λ (n : Move). IsLow height n → ⊥) (f m) (map f moves) high (low m l))
      (high_before moves (All-tail (λ (n : Move). IsLow height n → ⊥) (f m) (map f moves) high))

  low_before : (moves : List Move) → All (IsLow height) (map f moves) → All (IsLow height) moves
  low_before [] all = All-nil (IsLow height)
  low_before (m ∷ moves) all = All-cons (IsLow height) m moves (was m (All-head (IsLow height) (f m) (map f moves) all)) (low_before moves (All-tail (IsLow height) (f m) (map f moves) all))

  begins_before : (moves : List Move) → BeginsHigh height (map f moves) → BeginsHigh height moves
  begins_before [] h = tt
  begins_before (m ∷ moves) h = λ l. h (low m l)

  first_before : (front stroke after before this later : List Move) → map f front ≡ before → map f stroke ≡ this → map f after ≡ later → IsFirstStroke height before this later → IsFirstStroke height front stroke after
  first_before front stroke after before this later a b c first = record {
    high = high_before front (subst (AreHigh height) (sym a) first.high);
    some = omega (arith, first.some, length-map stroke f, ap length b);
    low = low_before stroke (subst (All (IsLow height)) (sym b) first.low);
    ends = begins_before after (subst (BeginsHigh height) (sym c) first.ends);
  }

  -- strokes of mapped moves are strokes of the moves, mapped
  pub strokes_before : (strokes : List (List Move)) (moves : List Move) → AreStrokes height strokes (map f moves) → (own : List (List Move)) × AreStrokes height own moves × (map (map f) own ≡ strokes)
  strokes_before [] moves are = ([], high_before moves are, refl)
  strokes_before (stroke ∷ strokes) moves (before, after, joined, first, rest) =
      let n = length before in
      let front : List Move = take n moves in
      let behind : List Move = drop n moves in
      let own : List Move = take (length stroke) behind in
      let last : List Move = drop (length stroke) behind in
      let a = parts f moves before (stroke ++ after) joined in
      let b = parts f behind stroke after a.1 in
      let later = strokes_before strokes last (subst (AreStrokes height strokes) (sym b.1) rest) in (
        own ∷ later.0,
        (
          front,
          last,
          sym (take-append-drop n moves) ∙ ap (λ (ms : List Move). front ++ ms) (sym (take-append-drop (length stroke) behind)),
          first_before front own last before stroke after a.0 b.0 b.1 first,
          later.1,
        ),
        (λ t. b.0 t ∷ later.2 t),
      )

-- ---- what is cut

lead_alike : (places : List Pos) (a b : List Move) → map unnumbered b ≡ map unnumbered a → LeadThrough places a → LeadThrough places b
lead_alike [] a b e h = absurd h
lead_alike (p ∷ []) [] [] e h = tt
lead_alike (p ∷ []) [] (n ∷ b) e h = absurd (cc)
lead_alike (p ∷ []) (m ∷ a) b e h = absurd h
lead_alike (p ∷ q ∷ ps) [] b e h = absurd h
lead_alike (p ∷ q ∷ ps) (m ∷ a) [] e h = absurd (cc)
lead_alike (p ∷ q ∷ ps) (m ∷ a) (n ∷ b) e h =
    let same : unnumbered n ≡ unnumbered m = cc in
    let others : map unnumbered b ≡ map unnumbered a = cc in
    (ap (λ (o : Move). o.from) same ∙ h.0, ap (λ (o : Move). o.to) same ∙ h.1, lead_alike (q ∷ ps) a b others h.2)

tools_alike : (tool : ℕ) (a b : List Move) → map unnumbered b ≡ map unnumbered a → All (λ (m : Move). m.tool ≡ tool) a → All (λ (m : Move). m.tool ≡ tool) b
tools_alike tool a [] e h = All-nil (λ (m : Move). m.tool ≡ tool)
tools_alike tool [] (n ∷ b) e h = absurd (cc)
tools_alike tool (m ∷ a) (n ∷ b) e h =
    let same : unnumbered n ≡ unnumbered m = cc in
    let others : map unnumbered b ≡ map unnumbered a = cc in
    All-cons (λ (o : Move). o.tool ≡ tool) n b (ap (λ (o : Move). o.tool) same ∙ All-head (λ (o : Move). o.tool ≡ tool) m a h)
    (tools_alike tool a b others (All-tail (λ (o : Move). o.tool ≡ tool) m a h))

each_alike : (safe : ℤ) (wants : List Wanted) (a b : List (List Move)) → map (map unnumbered) b ≡ map (map unnumbered) a → AllZip (IsStrokeOf safe) wants a → AllZip (IsStrokeOf safe) wants b
each_alike safe [] [] [] e h = tt
each_alike safe [] [] (y ∷ b) e h = absurd (cc)
each_alike safe [] (x ∷ a) b e h = absurd h
each_alike safe (w ∷ ws) [] b e h = absurd h
each_alike safe (w ∷ ws) (x ∷ a) [] e h = absurd (cc)
each_alike safe (w ∷ ws) (x ∷ a) (y ∷ b) e h =
    let same : map unnumbered y ≡ map unnumbered x = cc in
    let others : map (map unnumbered) b ≡ map (map unnumbered) a = cc in
    (record { way = lead_alike (way_over safe w.places) x y same h.0.way; tool = tools_alike w.tool x y same h.0.tool }, each_alike safe ws a b others h.1)

-- by the law that moves have one list of strokes
pub cuts_alike : OneStrokesLaw → CutsAlikeLaw
cuts_alike one safe wants plain moves alike c =
    let height = safe *ℤ nanometre in
    let mapped = strokes_mapped height unnumbered (λ m l. l) (λ m l. l) c.strokes plain c.are in
    let same : alike.strokes ≡ map (map unnumbered) c.strokes = one height alike.strokes (map (map unnumbered) c.strokes) (map unnumbered plain) alike.of_plain mapped in
    let own = strokes_before height unnumbered (λ m l. l) (λ m l. l) alike.strokes moves alike.of_moves in
    record { strokes = own.0; are = own.1; each = each_alike safe wants c.strokes own.0 (own.2 ∙ same) c.each }

-- ---- low moves

low_shared : (height : ℤ) (strokes : List (List Move)) (a b : List Move) → AreStrokes height strokes (map unnumbered a) → AreStrokes height strokes (map unnumbered b) → HaveLowOf height a b
low_shared height strokes a b of_a of_b m there low =
    let inside = low_in height strokes (map unnumbered a) (unnumbered m) of_a (item_in unnumbered a m there) low in
    let r = of_item unnumbered b (unnumbered m) (in_low height strokes (map unnumbered b) (unnumbered m) of_b inside) in
    (r.0, r.1, sym r.2)

pub low_alike : LowAlikeLaw
low_alike height plain moves alike = (
  low_shared height alike.strokes moves plain alike.of_moves alike.of_plain,
  low_shared height alike.strokes plain moves alike.of_plain alike.of_moves,
)
