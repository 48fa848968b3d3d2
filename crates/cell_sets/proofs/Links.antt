-- Chains of free cells: turned round, one after another, along rows and columns; and sets of free cells that link alike.
use Rattle.std.proofs.Common.{◌≡◌, ◌↔◌, ℕ, zero, suc, ◌+◌, ◌<◌, ℤ, pos, negsuc, ◌+ℤ◌, ◌-ℤ◌, ◌≤ℤ◌, Bool, true, ◌⊎◌, inl, inr, List, [], refl, sym, subst, arith}
use Rattle.std.specs.Prelude.{slice_index_or}
use borrow.Author.Differences.{ints}
use Rattle.board_base.specs.declared.places.Cell.{Cell}
use Rattle.board_base.specs.Lattice.{IsBeside}
use Rattle.cell_sets.specs.Chains.{Chain, IsLinkedOver}
use Rattle.cell_sets.specs.Groups.{IsGroup, AreGroups}
use Rattle.cell_sets.proofs.CellLaws.{cell, beside_sym}

-- where a test says which cells are free
abbrev pub IsFree : (Cell → Bool) → Cell → Type 0
IsFree free c = free c ≡ true

module _ (Free : Cell → Type 0) where
  pub chain_end : (a b : Cell) (n : ℕ) → Chain Free a b n → Free b
  chain_end a b zero p = subst Free p.0 p.1
  chain_end a b (suc n) p = p.1.2

  pub chain_start : (a b : Cell) (n : ℕ) → Chain Free a b n → Free a
  chain_start a b zero p = p.1
  chain_start a b (suc n) p = chain_start a p.0 n p.1.0

  after : (a b c : Cell) (m : ℕ) → IsBeside a b → Free a → Chain Free b c m → Chain Free a c (suc m)
  after a b c zero step k p = (a, ((refl, k), subst (λ (x : Cell). IsBeside a x) p.0 step, subst Free p.0 p.1))
  after a b c (suc m) step k p = (p.0, (after a b p.0 m step k p.1.0, p.1.1, p.1.2))

  reversed : (a b : Cell) (n : ℕ) → Chain Free a b n → Chain Free b a n
  reversed a b zero p = (sym p.0, subst Free p.0 p.1)
  reversed a b (suc n) p = after b p.0 a n (beside_sym p.0 b p.1.1) p.1.2 (reversed a p.0 n p.1.0)

  joined_steps : (a b c : Cell) (n m : ℕ) → Chain Free a b n → Chain Free b c m → Chain Free a c (m + n)
  joined_steps a b c n zero p q = subst (λ (x : ℕ). Chain Free a c x) none (subst (λ (x : Cell). Chain Free a x n) q.0 p)
    where
      none : n ≡ 0 + n
      none = omega arith
  joined_steps a b c n (suc m) p q = subst (λ (x : ℕ). Chain Free a c x) more (q.0, (joined_steps a b q.0 n m p q.1.0, q.1.1, q.1.2))
    where
      more : suc (m + n) ≡ suc m + n
      more = omega arith

  pub linked_sym : (a b : Cell) → IsLinkedOver Free a b → IsLinkedOver Free b a
  linked_sym a b j = record { steps = j.steps; chain = reversed a b j.steps j.chain }

  pub linked_trans : (a b c : Cell) → IsLinkedOver Free a b → IsLinkedOver Free b c → IsLinkedOver Free a c
  linked_trans a b c j k = record { steps = k.steps + j.steps; chain = joined_steps a b c j.steps k.steps j.chain k.chain }

  pub linked_step : (a b : Cell) → Free a → IsBeside a b → Free b → IsLinkedOver Free a b
  linked_step a b k s l = record { steps = 1; chain = (a, ((refl, k), s, l)) }

  pub linked_self : (a : Cell) → Free a → IsLinkedOver Free a a
  linked_self a k = record { steps = 0; chain = (refl, k) }

  pub linked_end : (a b : Cell) → IsLinkedOver Free a b → Free b
  linked_end a b j = chain_end a b j.steps j.chain

  pub linked_start : (a b : Cell) → IsLinkedOver Free a b → Free a
  linked_start a b j = chain_start a b j.steps j.chain

  -- along a row, and along a column
  row_steps : (i j : ℤ) (n : ℕ) → ((x : ℤ) → i ≤ℤ x → x ≤ℤ (i +ℤ pos n) → Free (cell x j)) → IsLinkedOver Free (cell i j) (cell (i +ℤ pos n) j)
  row_steps i j zero f =
      let e : i +ℤ pos 0 ≡ i = omega (arith, ints) in
      subst (λ (x : ℤ). IsLinkedOver Free (cell i j) (cell x j)) (sym e) (linked_self (cell i j) (f i (omega (arith, ints)) (omega (arith, ints))))
  row_steps i j (suc n) f =
      linked_trans (cell i j) (cell (i +ℤ pos n) j) (cell (i +ℤ pos (suc n)) j) (row_steps i j n (λ x l k. f x l (omega (arith, ints))))
      (linked_step (cell (i +ℤ pos n) j) (cell (i +ℤ pos (suc n)) j) (f (i +ℤ pos n) (omega (arith, ints)) (omega (arith, ints)))
      (record { west = omega (arith, ints); east = omega (arith, ints); south = omega (arith, ints); north = omega (arith, ints) })
      (f (i +ℤ pos (suc n)) (omega (arith, ints)) (omega (arith, ints))))

  column_steps : (i j : ℤ) (n : ℕ) → ((y : ℤ) → j ≤ℤ y → y ≤ℤ (j +ℤ pos n) → Free (cell i y)) → IsLinkedOver Free (cell i j) (cell i (j +ℤ pos n))
  column_steps i j zero f =
      let e : j +ℤ pos 0 ≡ j = omega (arith, ints) in
      subst (λ (x : ℤ). IsLinkedOver Free (cell i j) (cell i x)) (sym e) (linked_self (cell i j) (f j (omega (arith, ints)) (omega (arith, ints))))
  column_steps i j (suc n) f =
      linked_trans (cell i j) (cell i (j +ℤ pos n)) (cell i (j +ℤ pos (suc n))) (column_steps i j n (λ x l k. f x l (omega (arith, ints))))
      (linked_step (cell i (j +ℤ pos n)) (cell i (j +ℤ pos (suc n))) (f (j +ℤ pos n) (omega (arith, ints)) (omega (arith, ints)))
      (record { west = omega (arith, ints); east = omega (arith, ints); south = omega (arith, ints); north = omega (arith, ints) })
      (f (j +ℤ pos (suc n)) (omega (arith, ints)) (omega (arith, ints))))

  -- one number is the other raised
  raised : (a b : ℤ) → ((n : ℕ) × (b ≡ a +ℤ pos n)) ⊎ ((n : ℕ) × (a ≡ b +ℤ pos n))
  raised a b = by (b -ℤ a) refl
    where
      by : (d : ℤ) → b -ℤ a ≡ d → ((n : ℕ) × (b ≡ a +ℤ pos n)) ⊎ ((n : ℕ) × (a ≡ b +ℤ pos n))
      by (pos n) e = inl (n, omega (arith, ints))
      by (negsuc n) e = inr (suc n, omega (arith, ints))

  pub along_row : (i i' j : ℤ) → ((x : ℤ) → Free (cell x j)) → IsLinkedOver Free (cell i j) (cell i' j)
  along_row i i' j f =
      elim (raised i i') as (λ _. IsLinkedOver Free (cell i j) (cell i' j)) [
        | inl r ↦ subst (λ (x : ℤ). IsLinkedOver Free (cell i j) (cell x j)) (sym r.1) (row_steps i j r.0 (λ x l k. f x))
        | inr r ↦ linked_sym (cell i' j) (cell i j) (subst (λ (x : ℤ). IsLinkedOver Free (cell i' j) (cell x j)) (sym r.1) (row_steps i' j r.0 (λ x l k. f x)))
      ]

  pub along_column : (i j j' : ℤ) → ((y : ℤ) → Free (cell i y)) → IsLinkedOver Free (cell i j) (cell i j')
  along_column i j j' f =
      elim (raised j j') as (λ _. IsLinkedOver Free (cell i j) (cell i j')) [
        | inl r ↦ subst (λ (x : ℤ). IsLinkedOver Free (cell i j) (cell i x)) (sym r.1) (column_steps i j r.0 (λ x l k. f x))
        | inr r ↦ linked_sym (cell i j') (cell i j) (subst (λ (x : ℤ). IsLinkedOver Free (cell i j') (cell i x)) (sym r.1) (column_steps i j' r.0 (λ x l k. f x)))
      ]

-- a chain over free cells is one over any set that has them
pub chain_over : (Free Free' : Cell → Type 0) → ((c : Cell) → Free c → Free' c) → (a b : Cell) (n : ℕ) → Chain Free a b n → Chain Free' a b n
chain_over Free Free' over a b zero p = (p.0, over a p.1)
chain_over Free Free' over a b (suc n) p = (p.0, (chain_over Free Free' over a p.0 n p.1.0, p.1.1, over b p.1.2))

pub linked_over : (Free Free' : Cell → Type 0) → ((c : Cell) → Free c → Free' c) → (a b : Cell) → IsLinkedOver Free a b → IsLinkedOver Free' a b
linked_over Free Free' over a b l = record { steps = l.steps; chain = chain_over Free Free' over a b l.steps l.chain }

-- where two sets have the same cells, chains over them lead between the same cells
pub linked_same : (Free Free' : Cell → Type 0) → ((c : Cell) → Free c ↔ Free' c) → (a b : Cell) → IsLinkedOver Free a b ↔ IsLinkedOver Free' a b
linked_same Free Free' same a b = (linked_over Free Free' (λ c. (same c).0) a b, linked_over Free' Free (λ c. (same c).1) a b)

-- where chains over two sets lead from each island's cells to the same cells, the groups are the same
pub groups_carried : (Free Free' : Cell → Type 0) (number : Cell → ℕ) (groups : List (List ℕ))
    → ((a b : Cell) → 0 < number a → IsLinkedOver Free a b ↔ IsLinkedOver Free' a b) → ((a : Cell) → 0 < number a → Free a ↔ Free' a)
    → AreGroups Free number groups → AreGroups Free' number groups
groups_carried Free Free' number groups linked free g = record {
  firsts = g.firsts;
  same_length = g.same_length;
  each = λ k d k_in. carried (slice_index_or g.firsts k d) (slice_index_or groups k []) (g.each k d k_in);
  order = g.order;
  all = λ a b a_in b_in differ l.
      let m = g.all a b a_in b_in differ ((linked a b a_in).1 l) in
      (m.0, (m.1.0, λ d. (linked (slice_index_or g.firsts m.0 d) a (g.each m.0 d m.1.0).island).0 (m.1.1 d)));
}
  where
    carried : (first : Cell) (group : List ℕ) → IsGroup Free number first group → IsGroup Free' number first group
    carried first group e = record {
      island = e.island;
      free_there = (free first e.island).0 e.free_there;
      earliest = λ c c_in l. e.earliest c c_in ((linked first c e.island).1 l);
      ascending = e.ascending;
      sound = λ u u_in. let s = e.sound u u_in in (s.0, (s.1.0, (linked first s.0 e.island).0 s.1.1, s.1.2));
      whole = λ c c_in l. e.whole c c_in ((linked first c e.island).1 l);
      two = e.two;
    }
