-- Walks taken out of a list in an order.
use Rattle.std.proofs.Common.{◌≡◌, ℕ, ◌+◌, ◌<◌, ◌≤◌, List, [], ◌∷◌, ◌++◌, map, length, take, get_or, refl, sym, ap, ◌∙◌, arith}
use Rattle.std.specs.Prelude.{slice_set}
use Rattle.std.proofs.lemmas.List.{get_or-set_other, length-set, map-append, take_more, take_all}
use Rattle.std.proofs.lemmas.List.Elements.{All-get_or}
use Rattle.board_base.specs.declared.places.Cell.{Cell}
use Rattle.path_order.specs.Orders.{IsOrder}
use Rattle.path_order.proofs.Ordering.{indices_of}
use Rattle.path_order.proofs.Unique.{entries_differ}

abbrev pub Rows : Type 0
Rows = List (List Cell)

-- the walks so far are those of the order, and those that the order still asks for stand where they stood
pub record AreTaken (rows left : Rows) (order : List ℕ) (i : ℕ) (walks : Rows) : Type 0 where
  pub walks_are : walks ≡ map (λ n. get_or rows n []) (take i order)
  pub size : length left ≡ length rows
  pub stay : (j : ℕ) → i ≤ j → j < length order → get_or left (get_or order j 0) [] ≡ get_or rows (get_or order j 0) []

pub none_taken : (rows : Rows) (order : List ℕ) → AreTaken rows rows order 0 []
none_taken rows order = record { walks_are = refl; size = refl; stay = λ j l m. refl }

pub index_in : (rows : Rows) (order : List ℕ) (i : ℕ) → IsOrder (length rows) order → i < length order → get_or order i 0 < length rows
index_in rows order i is l = All-get_or (λ k. k < length rows) order i 0 l (indices_of (length rows) order is)

pub one_taken : (rows left rest : Rows) (order : List ℕ) (i k : ℕ) (walks more : Rows) (walk : List Cell) → IsOrder (length rows) order → i < length order → AreTaken rows left order i walks → k ≡ get_or order i 0
    → walk ≡ get_or left k [] → rest ≡ slice_set left k [] → more ≡ walks ++ walk ∷ [] → AreTaken rows rest order (i + 1) more
one_taken rows left rest order i k walks more walk is l t at taken out e =
    let entry : walk ≡ get_or rows (get_or order i 0) [] = taken ∙ ap (λ n. get_or left n []) at ∙ t.stay i (omega arith) l in
    record {
      walks_are = e ∙ ap (λ (ws : Rows). ws ++ walk ∷ []) t.walks_are ∙ ap (λ (w : List Cell). map (λ n. get_or rows n []) (take i order) ++ w ∷ []) entry
          ∙ sym (map-append (λ n. get_or rows n []) (take i order) (get_or order i 0 ∷ [])) ∙ ap (map (λ n. get_or rows n [])) (sym (take_more order i 0 l));
      size = ap length out ∙ length-set left k [] ∙ t.size;
      stay = λ j later m.
          ap (λ (x : Rows). get_or x (get_or order j 0) []) out ∙ get_or-set_other left k (get_or order j 0) [] [] (λ z. entries_differ (length rows) order is i j (omega (arith, later)) m (sym at ∙ sym z)) ∙ t.stay j (omega (arith, later)) m;
    }

pub all_taken : (rows left : Rows) (order : List ℕ) (i : ℕ) (walks : Rows) → AreTaken rows left order i walks → length order ≤ i → walks ≡ map (λ n. get_or rows n []) order
all_taken rows left order i walks t h = t.walks_are ∙ ap (map (λ n. get_or rows n [])) (take_all i order h)
