-- The order of cells in rows, and lists of cells in this order.
use Rattle.std.proofs.Common.{◌≡◌, ℕ, ◌+◌, ℤ, ◌≤ℤ◌, inl, inr, List, length, sym, ap, ◌∙◌, arith}
use Rattle.std.proofs.lemmas.Int.{by_lt_z}
use borrow.Author.Differences.{ints}
use Rattle.board_base.specs.declared.places.Cell.{Cell}
use Rattle.cell_sets.specs.Chains.{IsBefore}
use Rattle.cell_sets.specs.Count.{IsListOf, IsCount}
use Rattle.cell_sets.proofs.CellLaws.{same_cell}
use Rattle.chain_walk.specs.Walk.{origin}
use Rattle.chain_walk.proofs.Chaining.{not_both}
use Rattle.chain_walk.proofs.OneRuns.{one_list, rising, before_trans}

-- cells of which neither stands before the other are one
pub one_cell : (a b : Cell) → (IsBefore a b → ⊥) → (IsBefore b a → ⊥) → a ≡ b
one_cell a b h k =
    by_lt_z a.j b.j (λ south. absurd (h (inl south)))
    (λ up. by_lt_z b.j a.j (λ south. absurd (k (inl south)))
    (λ down. let row : a.j ≡ b.j = level a.j b.j up down in
    by_lt_z a.i b.i (λ west. absurd (h (inr (row, west))))
    (λ right. by_lt_z b.i a.i (λ west. absurd (k (inr (sym row, west))))
    (λ left. same_cell a.i a.j b.i b.j (level a.i b.i right left) row))))
  where
    level : (a b : ℤ) → b ≤ℤ a → a ≤ℤ b → a ≡ b
    level a b h k = omega (arith, ints)

-- the cells of a kind have one list, and one number
pub one_cell_list : (P : Cell → Type 0) (cells others : List Cell) → IsListOf P cells → IsListOf P others → cells ≡ others
one_cell_list P cells others a b =
    one_list IsBefore not_both cells others
    (rising IsBefore not_both before_trans origin cells (λ k l. a.order k (k + 1) origin (omega arith) l))
    (rising IsBefore not_both before_trans origin others (λ k l. b.order k (k + 1) origin (omega arith) l))
    (λ c there. (b.each c).1 ((a.each c).0 there))
    (λ c there. (a.each c).1 ((b.each c).0 there))

pub one_cell_count : (P : Cell → Type 0) (m n : ℕ) → IsCount P m → IsCount P n → m ≡ n
one_cell_count P m n a b = sym a.size ∙ ap (λ (cells : List Cell). length cells) (one_cell_list P a.cells b.cells a.all b.all) ∙ b.size
