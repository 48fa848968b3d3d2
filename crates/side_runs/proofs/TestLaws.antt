-- Tests that tell which cells are near one of a list.
use Rattle.std.proofs.Common.{◌≡◌, ◌↔◌, ℤ, pos, ◌+ℤ◌, ◌-ℤ◌, ◌*ℤ◌, ◌≤ℤ◌, ◌<ℤ◌, int_le, Bool, true, not, List, sym, ap, subst, ◌∙◌, arith}
use Rattle.std.specs.List.{Contains, list_any}
use Rattle.std.proofs.lemmas.Bool.{false≢true}
use Rattle.std.proofs.lemmas.List.Folds.{Any-from_list_any, list_any_at}
use borrow.Author.Differences.{ints}
use Rattle.number_laws.proofs.Order.{square_nonneg}
use Rattle.number_laws.proofs.Squares.{no_square}
use Rattle.number_laws.proofs.Tests.{by_bool, to_le, to_lt, of_le, not_true}
use Rattle.board_base.specs.declared.places.Cell.{Cell}
use Rattle.board_base.specs.Lattice.{dist2}
use Rattle.board_base.proofs.LatticeLaws.{same_cell}
use Rattle.cell_sets.specs.Contour.{IsAllowed}
use Rattle.mill_plan.proofs.SweptLaws.{at_itself}

-- one of the cells is at a squared index distance of at most g
abbrev pub near_one : ℤ → List Cell → Cell → Bool
near_one g cells c = list_any (λ k. int_le (dist2 c k) g) cells

-- one of the cells that is so near
record IsNearOne (g : ℤ) (cells : List Cell) (c : Cell) : Type 0 where
  cell : Cell
  there : Contains cells cell
  near : dist2 c cell ≤ℤ g

one_near : (g : ℤ) (cells : List Cell) (c : Cell) → near_one g cells c ≡ true → IsNearOne g cells c
one_near g cells c e =
    let a = Any-from_list_any (λ k. int_le (dist2 c k) g) cells e in
    record { cell = a.1; there = (a.0, a.2, a.3); near = to_le (dist2 c a.1) g a.4 }

near_there : (g : ℤ) (cells : List Cell) (c k : Cell) → Contains cells k → dist2 c k ≤ℤ g → near_one g cells c ≡ true
near_there g cells c k there near =
    list_any_at (λ d. int_le (dist2 c d) g) cells there.0 k there.1 (ap (λ (d : Cell). int_le (dist2 c d) g) there.2 ∙ of_le (dist2 c k) g near)

-- cells at no distance are one
at_cell : (c k : Cell) → dist2 c k ≤ℤ pos 0 → c ≡ k
unfolding dist2
at_cell c k near =
    let i = no_square (c.i -ℤ k.i) (first ((c.i -ℤ k.i) *ℤ (c.i -ℤ k.i)) ((c.j -ℤ k.j) *ℤ (c.j -ℤ k.j)) (square_nonneg (c.j -ℤ k.j)) near) in
    let j = no_square (c.j -ℤ k.j) (second ((c.i -ℤ k.i) *ℤ (c.i -ℤ k.i)) ((c.j -ℤ k.j) *ℤ (c.j -ℤ k.j)) (square_nonneg (c.i -ℤ k.i)) near) in
    same_cell c.i c.j k.i k.j (equal c.i k.i i) (equal c.j k.j j)
  where
    first : (x y : ℤ) → pos 0 ≤ℤ y → (x +ℤ y) ≤ℤ pos 0 → x ≤ℤ pos 0
    first x y h k = omega (arith, ints)

    second : (x y : ℤ) → pos 0 ≤ℤ x → (x +ℤ y) ≤ℤ pos 0 → y ≤ℤ pos 0
    second x y h k = omega (arith, ints)

    equal : (x y : ℤ) → x -ℤ y ≡ pos 0 → x ≡ y
    equal x y e = omega (arith, ints)

-- cells that are counted have a test
pub counted_test : (P : Cell → Type 0) (cells : List Cell) → ((c : Cell) → Contains cells c ↔ P c) → (c : Cell) → near_one (pos 0) cells c ≡ true ↔ P c
counted_test P cells are c = (
  (λ e. let n = one_near (pos 0) cells c e in subst P (sym (at_cell c n.cell n.near)) ((are n.cell).0 n.there)),
  (λ p. near_there (pos 0) cells c c ((are c).1 p) (at_itself 0 c)),
)

-- so have the cells that stay away from counted ones
pub allowed_test : (kept : Cell → Bool) (g : ℤ) (cells : List Cell) → ((c : Cell) → Contains cells c ↔ (kept c ≡ true)) → (c : Cell) → not (near_one g cells c) ≡ true ↔ IsAllowed kept g c
allowed_test kept g cells are c = (
  (λ e k on. by_bool (int_le (dist2 c k) g)
      (λ t. absurd (false≢true (sym (not_true (near_one g cells c) e) ∙ near_there g cells c k ((are k).1 on) (to_le (dist2 c k) g t))))
      (λ t. to_lt (dist2 c k) g t)),
  (λ allowed. by_bool (near_one g cells c)
      (λ t. let n = one_near g cells c t in absurd (both g (dist2 c n.cell) (allowed n.cell ((are n.cell).0 n.there)) n.near))
      (λ t. ap not t)),
)
  where
    both : (g d : ℤ) → g <ℤ d → d ≤ℤ g → ⊥
    both g d h k = omega (arith, ints)
