-- The cells of a run along a row.
use Rattle.std.proofs.Common.{◌≡◌, ℕ, ◌+◌, ◌<◌, ℤ, pos, ◌+ℤ◌, ◌-ℤ◌, ◌≤ℤ◌, unsigned_abs, List, [], ◌∷◌, ◌++◌, length, get_or, refl, sym, ap, subst, ◌∙◌, arith}
use Rattle.std.specs.List.{Contains}
use Rattle.std.proofs.lemmas.List.FromFn.{length-map-range_with_len, get_or-map-range_with_len, map-range_with_len_more}
use borrow.Author.Differences.{ints}
use Rattle.board_base.specs.declared.places.Cell.{Cell}
use Rattle.board_base.specs.Lattice.{AreNeighbours, east_by}
use Rattle.cell_sets.proofs.CellLaws.{same_cell}
use Rattle.chain_walk.specs.Walk.{origin, IsConnected}
use Rattle.chain_walk.specs.RowRuns.{run_of, RowRunLaw}

pub no_column : (c : Cell) → east_by c 0 ≡ c
no_column c = same_cell (c.i +ℤ pos 0) c.j c.i c.j (omega (arith, ints)) refl

pub run_size : (west : Cell) (n : ℕ) → length (run_of west n) ≡ n
unfolding run_of
run_size west n = length-map-range_with_len (east_by west) 0 n

pub run_at : (west : Cell) (n k : ℕ) (d : Cell) → k < n → get_or (run_of west n) k d ≡ east_by west k
unfolding run_of
run_at west n k d h = get_or-map-range_with_len (east_by west) 0 n k k d h (omega arith)

pub run_more : (west : Cell) (n : ℕ) → run_of west (n + 1) ≡ run_of west n ++ east_by west n ∷ []
unfolding run_of
run_more west n = map-range_with_len_more (east_by west) 0 n n (omega arith)

pub run_one : (west : Cell) → run_of west 1 ≡ west ∷ []
unfolding run_of
run_one west = ap (λ (c : Cell). c ∷ []) (no_column west)

-- the cell in the same row, not farther west, by its column
pub by_column : (west c : Cell) → c.j ≡ west.j → west.i ≤ℤ c.i → c ≡ east_by west (unsigned_abs (c.i -ℤ west.i))
by_column west c e h = same_cell c.i c.j (west.i +ℤ pos (unsigned_abs (c.i -ℤ west.i))) west.j (omega (arith, ints)) e

pub in_run : (west : Cell) (n k : ℕ) → k < n → Contains (run_of west n) (east_by west k)
in_run west n k h = (k, omega (arith, h, run_size west n), run_at west n k (east_by west k) h)

-- which cell of its row a cell of a run is
pub of_run : (west : Cell) (n : ℕ) (c : Cell) → Contains (run_of west n) c → (k : ℕ) × ((k < n) × (c ≡ east_by west k))
of_run west n c (k, l, e) = let k_in : k < n = omega (arith, l, run_size west n) in (k, (k_in, sym e ∙ run_at west n k c k_in))

next_neighbour : (west : Cell) (k : ℕ) → AreNeighbours (east_by west k) (east_by west (k + 1))
next_neighbour west k = record {
  apart = λ e. differ west.i k (ap (λ (c : Cell). c.i) e);
  beside = record { west = omega (arith, ints); east = omega (arith, ints); south = omega (arith, ints); north = omega (arith, ints) };
}
  where
    differ : (i : ℤ) (k : ℕ) → i +ℤ pos k ≡ i +ℤ pos (k + 1) → ⊥
    differ i k e = omega (arith, ints)

run_connected : (west : Cell) (n : ℕ) → 0 < n → IsConnected (run_of west n)
run_connected west n some = record {
  some = omega (arith, some, run_size west n);
  steps = λ k l. (
      let next_in : k + 1 < n = omega (arith, l, run_size west n) in
      let k_in : k < n = omega (arith, next_in) in
      rw (run_at west n k origin k_in, run_at west n (k + 1) origin next_in) (next_neighbour west k));
}

pub row_run_law : RowRunLaw
row_run_law taken cells p = (
  subst IsConnected (sym p.is) (run_connected p.west p.size p.some),
  (λ c there. (let at = of_run p.west p.size c (subst (λ (x : List Cell). Contains x c) p.is there) in ap taken at.1.1 ∙ p.inside at.0 at.1.0)),
)
