-- The corners, one entry after another.
use Rattle.std.proofs.Common.{◌≡◌, ℕ, ◌+◌, ◌<◌, ◌≤◌, cond, Bool, true, false, ℤ, List, [], ◌∷◌, ◌++◌, map, drop, length, Some, append_assoc, refl, sym, ap, ◌∙◌}
use Rattle.std.specs.Prelude.{slice_get}
use Rattle.std.proofs.lemmas.Option.{slice_get_within, get_or_from_slice_get}
use Rattle.std.proofs.lemmas.List.{drop_more, drop_all}
use Rattle.board_base.specs.declared.places.Cell.{Cell}
use Rattle.board_base.specs.declared.places.Point.{Point}
use Rattle.board_base.specs.Lattice.{centre_of}
use Rattle.chain_walk.specs.Corners.{goes_straight, turns_of}

module _ (p : ℤ) where
  -- what is left of the corners after the entries a and b
  abbrev pub left_of : Cell → Cell → List Cell → List Point
  left_of a b cells = map (centre_of p) (turns_of a b cells)

  one_turn : (a b c : Cell) (cells : List Cell) → cond (goes_straight a b c) [] (centre_of p b ∷ []) ++ left_of b c cells ≡ left_of a b (c ∷ cells)
  one_turn a b c cells = split (goes_straight a b c)
    where
      split : (t : Bool) → cond t [] (centre_of p b ∷ []) ++ left_of b c cells ≡ map (centre_of p) (cond t (turns_of b c cells) (b ∷ turns_of b c cells))
      split true = refl
      split false = refl

  pub rest_on : (cells : List Cell) (made made' whole : List Point) (a b c : Cell) (k : ℕ) → slice_get cells k ≡ Some c → made ++ left_of a b (drop k cells) ≡ whole
      → made' ≡ made ++ cond (goes_straight a b c) [] (centre_of p b ∷ []) → made' ++ left_of b c (drop (k + 1) cells) ≡ whole
  rest_on cells made made' whole a b c k there before more =
      let inside : k < length cells = slice_get_within cells k c there in
      let split : drop k cells ≡ c ∷ drop (k + 1) cells = drop_more cells k c inside ∙ ap (λ (x : Cell). x ∷ drop (k + 1) cells) (get_or_from_slice_get cells k c c there) in
      ap (λ (x : List Point). x ++ left_of b c (drop (k + 1) cells)) more
      ∙ append_assoc made (cond (goes_straight a b c) [] (centre_of p b ∷ [])) (left_of b c (drop (k + 1) cells))
      ∙ ap (λ (x : List Point). made ++ x) (one_turn a b c (drop (k + 1) cells) ∙ sym (ap (left_of a b) split))
      ∙ before

  pub rest_off : (cells : List Cell) (made made' whole : List Point) (a b : Cell) (k : ℕ) → length cells ≤ k → made ++ left_of a b (drop k cells) ≡ whole → made' ≡ made ++ centre_of p b ∷ [] → made' ≡ whole
  rest_off cells made made' whole a b k past before more = more ∙ ap (λ (x : List Cell). made ++ left_of a b x) (sym (drop_all k cells past)) ∙ before
