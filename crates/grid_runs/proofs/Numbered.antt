-- What moves cut doesn't look at the numbers of their lines.
use Rattle.std.proofs.Common.{◌≡◌, refl, zero, suc, ℤ, ◌*ℤ◌, List, [], ◌∷◌, ◌++◌, ap, sym, ◌∙◌, subst, map, take, drop, length, arith}
use Rattle.std.specs.List.{AllZip, Contains}
use Rattle.std.proofs.Math.Seq.{take-append_seam, drop-append_seam}
use Rattle.std.proofs.lemmas.List.{take-map, drop-map, take-append-drop, length-map}
use Rattle.std.proofs.lemmas.List.Elements.{Contains-append_right}
use Rattle.board_base.specs.declared.places.Pos.{Pos}
use Rattle.board_base.specs.declared.places.Move.{Move}
use Rattle.rs274_sim.specs.Cutter.{IsLow, nanometre}
use Rattle.mill_program.specs.Moves.{unnumbered}
use Rattle.mill_program.specs.Strokes.{BeginsHigh, IsFirstStroke, AreStrokes, LeadThrough, way_over, Wanted, IsStrokeOf, CutsExactly}
use Rattle.mill_program.proofs.StrokeLaws.{all_before_map}

-- ---- lists behind a map

-- what is among all that a map gives
pub some_behind_map : {A B : Type 0} (f : A → B) (xs : List A) (y : B) → Contains (map f xs) y → (x : A) × Contains xs x × (f x ≡ y)
some_behind_map f [] y (k, inside, is) = absurd (omega (arith, inside))
some_behind_map f (x ∷ xs) y (zero, inside, is) = (x, (0, omega arith, refl), is)
some_behind_map f (x ∷ xs) y (suc k, inside, is) =
    let r = some_behind_map f xs y (k, omega (arith, inside), is) in
    (r.0, Contains-append_right (x ∷ []) xs r.0 r.1, r.2)

-- the part of a list behind the first part of what a map gives
front_of : {A B : Type 0} (f : A → B) (xs : List A) (ys zs : List B) → map f xs ≡ ys ++ zs → map f (take (length ys) xs) ≡ ys
front_of f xs ys zs e = sym (take-map f (length ys) xs) ∙ ap (take (length ys)) e ∙ take-append_seam ys zs

back_of : {A B : Type 0} (f : A → B) (xs : List A) (ys zs : List B) → map f xs ≡ ys ++ zs → map f (drop (length ys) xs) ≡ zs
back_of f xs ys zs e = sym (drop-map f (length ys) xs) ∙ ap (drop (length ys)) e ∙ drop-append_seam ys zs

-- ---- strokes

module _ (safe : ℤ) where
  abbrev height : ℤ
  height = safe *ℤ nanometre

  begins : (moves : List Move) → BeginsHigh height (map unnumbered moves) → BeginsHigh height moves
  begins [] h = h
  begins (m ∷ moves) h = h

  first : (before stroke after : List Move) → IsFirstStroke height (map unnumbered before) (map unnumbered stroke) (map unnumbered after) → IsFirstStroke height before stroke after
  first before stroke after h = record {
    high = all_before_map (λ (m : Move). IsLow height m → ⊥) unnumbered before h.high;
    some = omega (arith, h.some, length-map stroke unnumbered);
    low = all_before_map (IsLow height) unnumbered stroke h.low;
    ends = begins after h.ends;
  }

  leads : (places : List Pos) (moves : List Move) → LeadThrough places (map unnumbered moves) → LeadThrough places moves
  leads [] moves h = h
  leads (p ∷ []) [] h = h
  leads (p ∷ []) (m ∷ moves) h = h
  leads (p ∷ q ∷ ps) [] h = h
  leads (p ∷ q ∷ ps) (m ∷ moves) h = (h.0, h.1, leads (q ∷ ps) moves h.2)

  stroke_is : (want : Wanted) (stroke : List Move) → IsStrokeOf safe want (map unnumbered stroke) → IsStrokeOf safe want stroke
  stroke_is want stroke h = record { way = leads (way_over safe want.places) stroke h.way; tool = all_before_map (λ (m : Move). m.tool ≡ want.tool) unnumbered stroke h.tool }

  -- moves with their numbers cut what they cut without them
  cuts_with : (wants : List Wanted) (strokes : List (List Move)) (moves : List Move) → AreStrokes height strokes (map unnumbered moves) → AllZip (IsStrokeOf safe) wants strokes → CutsExactly safe wants moves
  cuts_with [] [] moves are each = record { strokes = []; are = all_before_map (λ (m : Move). IsLow height m → ⊥) unnumbered moves are; each = each }
  cuts_with [] (stroke ∷ strokes) moves are each = absurd each
  cuts_with (want ∷ wants) [] moves are each = absurd each
  cuts_with (want ∷ wants) (stroke ∷ strokes) moves (before, after, joined, is_first, others) each =
      let rest = drop (length before) moves in
      let b = take (length before) moves in
      let s = take (length stroke) rest in
      let a = drop (length stroke) rest in
      let eb : map unnumbered b ≡ before = front_of unnumbered moves before (stroke ++ after) joined in
      let er : map unnumbered rest ≡ stroke ++ after = back_of unnumbered moves before (stroke ++ after) joined in
      let es : map unnumbered s ≡ stroke = front_of unnumbered rest stroke after er in
      let ea : map unnumbered a ≡ after = back_of unnumbered rest stroke after er in
      let later = cuts_with wants strokes a (subst (AreStrokes height strokes) (sym ea) others) each.1 in
      record {
        strokes = s ∷ later.strokes;
        are = (
          b,
          a,
          sym (take-append-drop (length before) moves) ∙ ap (λ t. b ++ t) (sym (take-append-drop (length stroke) rest)),
          first b s a (rw (eb, es, ea) is_first),
          later.are,
        );
        each = (stroke_is want s (subst (IsStrokeOf safe want) (sym es) each.0), later.each);
      }

  pub cuts_numbered : (wants : List Wanted) (moves expected : List Move) → map unnumbered moves ≡ expected → CutsExactly safe wants expected → CutsExactly safe wants moves
  cuts_numbered wants moves expected e c = cuts_with wants c.strokes moves (subst (AreStrokes height c.strokes) (sym e) c.are) c.each
