-- shapes whose points are moved
use Rattle.std.proofs.Common.{◌≡◌, ℕ, suc, ◌+◌, ◌<◌, ◌≤◌, true, false, ◌||◌, List, [], ◌∷◌, ◌++◌, length, take, drop, get_or, Option, Some, None, is_none, refl, sym, ap, ◌∙◌, arith}
use Rattle.std.specs.List.{list_any}
use Rattle.std.proofs.Math.Seq.{drop-cons}
use Rattle.std.proofs.lemmas.List.{take_all}
use Rattle.std.proofs.lemmas.List.Folds.{list_any_at}
use Rattle.board_base.specs.OptionBinds.{◌>>=◌}
use Rattle.board_base.specs.declared.places.Point.{Point}
use Rattle.shape_parts.specs.declared.shape.Part.{Part}
use Rattle.shape_parts.specs.declared.shape.Piece.{Piece}
use Rattle.shape_parts.specs.Moved.{moved_part, moved_pieces}

-- pieces before others, where those are there
abbrev pub before : List Piece → Option (List Piece) → Option (List Piece)
before xs (Some ys) = Some (xs ++ ys)
before xs None = None

append_one : (xs ys : List Piece) (x : Piece) → xs ++ x ∷ ys ≡ (xs ++ x ∷ []) ++ ys
append_one [] ys x = refl
append_one (y ∷ xs) ys x = ap (λ (l : List Piece). y ∷ l) (append_one xs ys x)

one_more : (xs : List Piece) (x : Piece) (o : Option (List Piece)) → before xs (o >>= (λ ys. Some (x ∷ ys))) ≡ before (xs ++ x ∷ []) o
one_more xs x (Some ys) = ap Some (append_one xs ys x)
one_more xs x None = refl

module _ (move : Point → Option Point) where
  -- one piece more
  pub moved_step : (pieces : List Piece) (k : ℕ) (p : Piece) (xs xs' : List Piece) (part : Part) → k < length pieces → p ≡ get_or pieces k p → moved_part move p.part ≡ Some part
      → before xs (moved_pieces move (drop k pieces)) ≡ moved_pieces move pieces → xs' ≡ xs ++ record { part = part; on = p.on } ∷ []
      → before xs' (moved_pieces move (drop (k + 1) pieces)) ≡ moved_pieces move pieces
  moved_step pieces k p xs xs' part l is there h more =
      let x : Piece = record { part = part; on = p.on } in
      let rest = moved_pieces move (drop (suc k) pieces) in
      let next : k + 1 ≡ suc k = omega arith in
      ap (λ (ys : List Piece). before ys (moved_pieces move (drop (k + 1) pieces))) more
      ∙ ap (λ (i : ℕ). before (xs ++ x ∷ []) (moved_pieces move (drop i pieces))) next
      ∙ sym (one_more xs x rest)
      ∙ ap (λ (o : Option Part). before xs (o >>= (λ part. rest >>= (λ others. Some (record { part = part; on = p.on } ∷ others))))) (sym there)
      ∙ ap (λ (q : Piece). before xs (moved_pieces move (q ∷ drop (suc k) pieces))) is
      ∙ ap (λ (ps : List Piece). before xs (moved_pieces move ps)) (sym (drop-cons pieces k p l))
      ∙ h

  none_moved : (pieces : List Piece) → is_none (moved_pieces move pieces) ≡ list_any (λ p. is_none (moved_part move p.part)) pieces
  none_moved [] = refl
  none_moved (p ∷ ps) = at (moved_part move p.part) (moved_pieces move ps) (none_moved ps)
    where
      at : (o : Option Part) (os : Option (List Piece)) → is_none os ≡ list_any (λ p. is_none (moved_part move p.part)) ps
          → is_none (o >>= (λ part. os >>= (λ others. Some (record { part = part; on = p.on } ∷ others)))) ≡ (is_none o || list_any (λ p. is_none (moved_part move p.part)) ps)
      at None os e = refl
      at (Some x) None e = e
      at (Some x) (Some xs) e = e

  -- a part that leaves
  pub part_left : (pieces : List Piece) (k : ℕ) (p : Piece) → k < length pieces → p ≡ get_or pieces k p → is_none (moved_part move p.part) ≡ true → true ≡ is_none (moved_pieces move pieces)
  part_left pieces k p l is e =
      sym (none_moved pieces ∙ list_any_at (λ p. is_none (moved_part move p.part)) pieces k p l (ap (λ (q : Piece). is_none (moved_part move q.part)) (sym is) ∙ e))

  -- no part leaves
  pub none_left : (pieces : List Piece) (k : ℕ) → length pieces ≤ k → list_any (λ p. is_none (moved_part move p.part)) (take k pieces) ≡ false → false ≡ is_none (moved_pieces move pieces)
  none_left pieces k l e = sym (none_moved pieces ∙ ap (list_any (λ (p : Piece). is_none (moved_part move p.part))) (sym (take_all k pieces l)) ∙ e)
