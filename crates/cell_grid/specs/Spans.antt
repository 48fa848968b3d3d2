-- Some entries of a list in a row, written at once.
use Rattle.std.specs.Prelude.{ℕ, zero, suc, ◌+◌, List, slice_set}

-- the list with one value at as many places from one on
abbrev pub set_span : {A : Type 0} → List A → ℕ → ℕ → A → List A
set_span xs from zero v = xs
set_span xs from (suc n) v = slice_set (set_span xs from n v) (from + n) v
