-- Going over the edges of an area block by block.
use Rattle.std.proofs.Common.{◌≡◌, inl, inr, ℕ, suc, ◌<◌, ◌≤◌, ◌+◌, ◌-◌, ◌*◌, min, ℤ, ◌≤ℤ◌, ◌<ℤ◌, int_le, int_lt, Bool, true, false, ◌||◌, List, [], ◌∷◌, length, take, drop, get_or, refl, sym, ap, ◌∙◌, arith}
use Rattle.std.specs.List.{All, list_any}
use Rattle.std.proofs.lemmas.Bool.Decides.{leb_tells}
use Rattle.std.proofs.lemmas.List.{get_or-drop, length-drop, take_all}
use Rattle.std.proofs.lemmas.List.Folds.{list_any-append, list_any_more}
use Rattle.std.proofs.Math.Seq.{take-add}
use borrow.Author.Differences.{ints}
use Rattle.number_laws.proofs.Tests.{of_le, of_lt, to_le, true_lt, either}
use Rattle.poly_area.specs.Crossing.{xor}
use Rattle.poly_area.specs.declared.edges.Edge.{Edge}
use Rattle.poly_area.specs.declared.blocks.Block.{Block}
use Rattle.poly_area.specs.Area.{odd_of, crosses, on_row}
use Rattle.poly_area.specs.Blocks.{IsWithin}
use Rattle.poly_area.proofs.AreaLaws.{odd_of-append}
use Rattle.poly_area.proofs.ToggleLaws.{odd_of_more}
use Rattle.poly_area.proofs.Running.{toggle_none}

-- the members from m to the end of its sixteen
pub block_taken : {X : Type 0} (xs : List X) (m n : ℕ) → n ≡ min (m + 16) (length xs) → m ≤ length xs → take (n - m) (drop m xs) ≡ take 16 (drop m xs)
block_taken xs m n e l =
    elim (leb_tells (m + 16) (length xs)) [
      | inl t ↦ ap (λ (z : ℕ). take z (drop m xs)) (whole m n (length xs) e t.1)
      | inr t ↦ take_all (n - m) (drop m xs) (omega (arith, length-drop m xs, e, t.1)) ∙ sym (take_all 16 (drop m xs) (omega (arith, length-drop m xs, t.1)))
    ]
  where
    whole : (m n t : ℕ) → n ≡ min (m + 16) t → m + 16 ≤ t → n - m ≡ 16
    whole m n t e h = omega arith

module _ {X : Type 0} (test : X → Bool) (xs : List X) where
  -- one member more, after those from m to n
  at_next : (m n : ℕ) (d : X) → m ≤ n → get_or (drop m xs) (n - m) d ≡ get_or xs n d
  at_next m n d l = get_or-drop m xs (n - m) d ∙ ap (λ (z : ℕ). get_or xs z d) (back m n l)
    where
      back : (m n : ℕ) → m ≤ n → m + (n - m) ≡ n
      back m n l = omega arith

  next : (m n : ℕ) → m ≤ n → n + 1 - m ≡ (n - m) + 1
  next m n l = omega arith

  short : (m n : ℕ) → m ≤ n → n < length xs → n - m < length (drop m xs)
  short m n l h = omega (arith, length-drop m xs)

  pub odd_next : (m n : ℕ) (d : X) → m ≤ n → n < length xs → odd_of test (take (n + 1 - m) (drop m xs)) ≡ xor (odd_of test (take (n - m) (drop m xs))) (test (get_or xs n d))
  odd_next m n d l h =
      ap (λ (z : ℕ). odd_of test (take z (drop m xs))) (next m n l) ∙ odd_of_more test (drop m xs) (n - m) d (short m n l h)
      ∙ ap (λ (x : X). xor (odd_of test (take (n - m) (drop m xs))) (test x)) (at_next m n d l)

  pub any_next : (m n : ℕ) (d : X) → m ≤ n → n < length xs → list_any test (take (n + 1 - m) (drop m xs)) ≡ (list_any test (take (n - m) (drop m xs)) || test (get_or xs n d))
  any_next m n d l h =
      ap (λ (z : ℕ). list_any test (take z (drop m xs))) (next m n l) ∙ list_any_more test (drop m xs) (n - m) d (short m n l h)
      ∙ ap (λ (x : X). list_any test (take (n - m) (drop m xs)) || test x) (at_next m n d l)

  -- sixteen members more, after the first k sixteens
  after : (k : ℕ) → 16 * (k + 1) ≡ 16 * k + 16
  after k = omega arith

  pub odd_block : (k : ℕ) → odd_of test (take (16 * (k + 1)) xs) ≡ xor (odd_of test (take (16 * k) xs)) (odd_of test (take 16 (drop (16 * k) xs)))
  odd_block k = ap (λ (z : ℕ). odd_of test (take z xs)) (after k) ∙ ap (odd_of test) (take-add (16 * k) 16 xs) ∙ odd_of-append test (take (16 * k) xs) (take 16 (drop (16 * k) xs))

  pub any_block : (k : ℕ) → list_any test (take (16 * (k + 1)) xs) ≡ (list_any test (take (16 * k) xs) || list_any test (take 16 (drop (16 * k) xs)))
  any_block k = ap (λ (z : ℕ). list_any test (take z xs)) (after k) ∙ ap (list_any test) (take-add (16 * k) 16 xs) ∙ list_any-append test (take (16 * k) xs) (take 16 (drop (16 * k) xs))

-- of members none of which passes, an even number passes
odd_of_none : {X : Type 0} (test : X → Bool) (xs : List X) → All (λ x. test x ≡ false) xs → odd_of test xs ≡ false
odd_of_none test [] h = refl
odd_of_none test (x ∷ xs) h = ap (λ (s : Bool). xor s (odd_of test xs)) (h 0 x (omega arith)) ∙ odd_of_none test xs (λ k d l. h (suc k) d (omega arith))

-- an edge of a block that stands on one side of a row doesn't cross it
one_side : (b : Block) (e : Edge) (y : ℤ) → IsWithin b e → (int_le b.high y || int_lt y b.low) ≡ true → int_le e.from.y y ≡ int_le e.to.y y
one_side b e y w h =
    either (int_le b.high y) (int_lt y b.low) h
    (λ t. of_le _ _ (up _ _ _ w.from_high (to_le _ _ t)) ∙ sym (of_le _ _ (up _ _ _ w.to_high (to_le _ _ t))))
    (λ t. of_lt _ _ (down _ _ _ (true_lt _ _ t) w.from_low) ∙ sym (of_lt _ _ (down _ _ _ (true_lt _ _ t) w.to_low)))
  where
    up : (x y z : ℤ) → x ≤ℤ y → y ≤ℤ z → x ≤ℤ z
    up x y z h k = omega (arith, ints)

    down : (x y z : ℤ) → x <ℤ y → y ≤ℤ z → x <ℤ z
    down x y z h k = omega (arith, ints)

pub none_cross : (b : Block) (es : List Edge) (y at : ℤ) → All (IsWithin b) es → (int_le b.high y || int_lt y b.low) ≡ true → odd_of (crosses (on_row at y)) es ≡ false
none_cross b es y at w h = odd_of_none (crosses (on_row at y)) es (λ k d l. toggle_none (get_or es k d) y (one_side b (get_or es k d) y (w k d l) h) at)
