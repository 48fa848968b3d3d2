-- The first cell that passes a test, row by row.
use Rattle.std.proofs.Common.{◌≡◌, inl, inr, ℕ, ◌+◌, ◌<◌, ◌≤◌, ℤ, pos, ◌+ℤ◌, ◌-ℤ◌, ◌≤ℤ◌, ◌<ℤ◌, unsigned_abs, Bool, true, false, sym, ap, subst, ◌∙◌, arith}
use Rattle.std.proofs.lemmas.Bool.{false≢true}
use Rattle.std.proofs.lemmas.Int.{by_lt_z}
use borrow.Author.Differences.{ints}
use Rattle.board_base.specs.declared.places.Cell.{Cell}
use Rattle.board_base.proofs.LatticeLaws.{same_cell}
use Rattle.cell_grid.specs.declared.frames.Frame.{Frame}
use Rattle.cell_grid.specs.declared.windows.Span.{Span}
use Rattle.cell_grid.specs.Place.{InFrame, column_of, row_of}
use Rattle.cell_grid.specs.Windows.{IsInSpan}
use Rattle.program_check.proofs.HitLaws.{equal}
use Rattle.side_check.specs.Struck.{IsFirstCell, IsFirstOfRow}

not_less : (x y : ℤ) → x ≤ℤ y → y <ℤ x → ⊥
not_less x y h k = omega (arith, ints)

-- one further, where it isn't there
further : (a v : ℤ) (n : ℕ) → (a +ℤ pos n) ≤ℤ v → (v ≡ a +ℤ pos n → ⊥) → (a +ℤ pos (n + 1)) ≤ℤ v
further a v n h apart = by_lt_z (a +ℤ pos n) v (λ l. past a v n l) (λ k. absurd (apart (equal v (a +ℤ pos n) h k)))
  where
    past : (a v : ℤ) (n : ℕ) → (a +ℤ pos n) <ℤ v → (a +ℤ pos (n + 1)) ≤ℤ v
    past a v n h = omega (arith, ints)

-- a column or row of the frame that is so far in, or farther
from_there : (a v : ℤ) (n : ℕ) → a ≤ℤ v → n ≤ unsigned_abs (v -ℤ a) → (a +ℤ pos n) ≤ℤ v
from_there a v n h k = omega (arith, ints)

-- and one that isn't as far
not_past : (a v : ℤ) (n x : ℕ) → a ≤ℤ v → unsigned_abs (v -ℤ a) < n → n ≤ x → (a +ℤ pos x) ≤ℤ v → ⊥
not_past a v n x h k l m = omega (arith, ints)

-- no cell of the row that passes the test is before this column
pub record IsRowPast (f : Frame) (test : Cell → Bool) (y x : ℕ) : Type 0 where
  pub each : (c : Cell) → c.j ≡ f.j0 +ℤ pos y → test c ≡ true → (f.i0 +ℤ pos x) ≤ℤ c.i

-- no cell that passes it is before this row
pub record AreRowsPast (f : Frame) (test : Cell → Bool) (y : ℕ) : Type 0 where
  pub each : (c : Cell) → test c ≡ true → (f.j0 +ℤ pos y) ≤ℤ c.j

module _ (f : Frame) (test : Cell → Bool) (inside : (c : Cell) → test c ≡ true → InFrame f c) where
  pub row_begun : (s : Span) (y : ℕ) → ((c : Cell) → test c ≡ true → IsInSpan s (column_of f c)) → IsRowPast f test y s.from
  row_begun s y all = record { each = λ c row t. from_there f.i0 c.i s.from (inside c t).column.low (all c t).from }

  pub row_next : (y x : ℕ) (e : Cell) → IsRowPast f test y x → e.i ≡ f.i0 +ℤ pos x → e.j ≡ f.j0 +ℤ pos y → test e ≡ false → IsRowPast f test y (x + 1)
  row_next y x e p column row off = record {
    each = λ c level t. further f.i0 c.i x (p.each c level t)
        (λ same. false≢true (sym off ∙ ap test (same_cell e.i e.j c.i c.j (column ∙ sym same) (row ∙ sym level)) ∙ t));
  }

  pub row_found : (y x : ℕ) (e : Cell) → IsRowPast f test y x → e.i ≡ f.i0 +ℤ pos x → e.j ≡ f.j0 +ℤ pos y → test e ≡ true → IsFirstOfRow test e
  row_found y x e p column row on = record {
    passes = on;
    first = λ c level t west. not_less e.i c.i (subst (λ (v : ℤ). v ≤ℤ c.i) (sym column) (p.each c (level ∙ row) t)) west;
  }

  pub row_ended : (s : Span) (y x : ℕ) → ((c : Cell) → test c ≡ true → IsInSpan s (column_of f c)) → s.to ≤ x → IsRowPast f test y x
      → (c : Cell) → c.j ≡ f.j0 +ℤ pos y → test c ≡ true → ⊥
  row_ended s y x all past p c level t = not_past f.i0 c.i s.to x (inside c t).column.low (all c t).to past (p.each c level t)

  pub rows_begun : (s : Span) → ((c : Cell) → test c ≡ true → IsInSpan s (row_of f c)) → AreRowsPast f test s.from
  rows_begun s all = record { each = λ c t. from_there f.j0 c.j s.from (inside c t).row.low (all c t).from }

  pub rows_next : (y : ℕ) → AreRowsPast f test y → ((c : Cell) → c.j ≡ f.j0 +ℤ pos y → test c ≡ true → ⊥) → AreRowsPast f test (y + 1)
  rows_next y p none = record { each = λ c t. further f.j0 c.j y (p.each c t) (λ same. none c same t) }

  pub rows_found : (y : ℕ) (e : Cell) → AreRowsPast f test y → e.j ≡ f.j0 +ℤ pos y → IsFirstOfRow test e → IsFirstCell test e
  rows_found y e p row h = record {
    passes = h.passes;
    first = λ c t before. elim before as (λ _. ⊥) [
      | inl south ↦ not_less e.j c.j (subst (λ (v : ℤ). v ≤ℤ c.j) (sym row) (p.each c t)) south
      | inr west ↦ h.first c west.0 t west.1
    ];
  }

  pub rows_ended : (s : Span) (y : ℕ) → ((c : Cell) → test c ≡ true → IsInSpan s (row_of f c)) → s.to ≤ y → AreRowsPast f test y → (c : Cell) → test c ≡ true → ⊥
  rows_ended s y all past p c t = not_past f.j0 c.j s.to y (inside c t).row.low (all c t).to past (p.each c t)
