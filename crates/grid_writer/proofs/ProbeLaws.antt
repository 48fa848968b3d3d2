-- Probes of a grid, and how far they stand from its first.
use Rattle.std.proofs.Common.{◌≡◌, ℕ, ◌+◌, ◌*◌, ◌/◌, ◌%◌, ◌<◌, ◌≤◌, List, [], ◌∷◌, ◌++◌, suc, zero, ap, ◌∙◌, sym, arith, append_assoc, add-one}
use Rattle.std.specs.Prelude.{unsigned_abs}
use Rattle.std.specs.List.{flat_map, range_with_len}
use Rattle.std.proofs.Math.Nat.{mul-le-mul_left}
use Rattle.std.proofs.lemmas.Grind.{flat_map-append}
use Rattle.std.proofs.lemmas.List.{append-nil}
use Rattle.mill_program.specs.declared.probes.ProbeGrid.{ProbeGrid}
use Rattle.mill_program.proofs.ProbeLaws.{size_high}
use Rattle.grid_writer.specs.Conditions.{IsPlaced}

-- the number of a column
few_columns : (n m : ℕ) → 2 ≤ m → n * m ≤ 900 → n ≤ 900
few_columns n m some few = let h : n * 2 ≤ n * m = mul-le-mul_left n some in omega arith

pub column_few : (g : ProbeGrid) (k : ℕ) → IsPlaced g → k % g.nx ≤ 900
column_few g k h =
    let some : 0 < g.nx = omega (arith, h.is_grid.across) in
    let few : g.nx ≤ 900 = few_columns g.nx g.ny h.is_grid.up h.is_grid.few in
    let part : k % g.nx < g.nx = omega arith in
    omega arith

-- the number of a row
pub row_few : (g : ProbeGrid) (k : ℕ) → IsPlaced g → k < g.nx * g.ny → k / g.nx ≤ 900
row_few g k h inside = let least : k / g.nx ≤ k = omega arith in omega (arith, h.is_grid.few, inside)

pub dx_small : (g : ProbeGrid) → IsPlaced g → unsigned_abs g.dx ≤ 1000000000
dx_small g h = size_high g.dx h.is_grid.dx_low h.is_grid.dx_high

pub dy_small : (g : ProbeGrid) → IsPlaced g → unsigned_abs g.dy ≤ 1000000000
dy_small g h = size_high g.dy h.is_grid.dy_low h.is_grid.dy_high

-- one number more
range_more : (a n : ℕ) → range_with_len a (suc n) ≡ range_with_len a n ++ (a + n) ∷ []
range_more a zero = let e : a ≡ a + 0 = omega arith in ap (λ x. x ∷ []) e
range_more a (suc n) = let e : a + 1 + n ≡ a + suc n = omega arith in ap (λ l. a ∷ l) (range_more (a + 1) n ∙ ap (λ x. range_with_len (a + 1) n ++ x ∷ []) e)

-- what the numbers up to this one give, behind other things
pub numbered_more : {B : Type 0} (f : ℕ → List B) (n : ℕ) (before : List B) → (before ++ flat_map f (range_with_len 0 n)) ++ f n ≡ before ++ flat_map f (range_with_len 0 (n + 1))
numbered_more f n before =
    let first : 0 + n ≡ n = omega arith in
    let next : range_with_len 0 (n + 1) ≡ range_with_len 0 n ++ n ∷ [] = rw add-one (range_more 0 n ∙ ap (λ x. range_with_len 0 n ++ x ∷ []) first) in
    append_assoc before (flat_map f (range_with_len 0 n)) (f n)
    ∙ ap (λ t. before ++ t) (sym (ap (flat_map f) next ∙ flat_map-append f (range_with_len 0 n) (n ∷ []) ∙ ap (λ t. flat_map f (range_with_len 0 n) ++ t) (append-nil (f n))))
