-- Tiles in rows are apart.
use Rattle.std.proofs.Common.{◌≡◌, inl, inr, ℕ, ◌+◌, ◌*◌, ◌/◌, ◌%◌, ◌<◌, ◌≤◌, ℤ, pos, ◌+ℤ◌, ◌-ℤ◌, ◌*ℤ◌, ◌≤ℤ◌, ◌<ℤ◌, unsigned_abs, [], ◌∷◌, length, refl, sym, ap, ◌∙◌, arith}
use Rattle.std.specs.List.{range_with_len}
use Rattle.std.proofs.lemmas.Bool.{cases_lt}
use Rattle.std.proofs.lemmas.Int.{by_lt_z}
use Rattle.std.proofs.lemmas.List.{length-map}
use Rattle.std.proofs.lemmas.List.FromFn.{length-range_with_len, get_or-map-range_with_len}
use Rattle.std.proofs.lemmas.Nat.{div-add-mod'}
use borrow.Author.Differences.{ints}
use Rattle.number_laws.proofs.Order.{mul_le_left}
use Rattle.number_laws.proofs.Ring.{var, num, sub, mul, ring}
use Rattle.board_base.specs.declared.places.Cell.{Cell}
use Rattle.cell_grid.specs.Place.{IsBetween}
use Rattle.cell_grid.proofs.CellsLaws.{in_frame_is}
use Rattle.tiling.specs.Copies.{Tile, first_tile, cell_in, tile_at, tiles_of}
use Rattle.side_runs.specs.Sides.{nth_tile}
use Rattle.side_runs.specs.Alone.{ApartLaw}

-- steps no smaller than a stretch carry its numbers past it
past : (a b : ℕ) (step x y from : ℤ) (count : ℕ) → a < b → pos count ≤ℤ step → IsBetween x from count → IsBetween y from count → x +ℤ pos a *ℤ step ≡ y +ℤ pos b *ℤ step → ⊥
past a b step x y from count less wide x_in y_in e =
    by (pos a *ℤ step) (pos b *ℤ step) (step *ℤ (pos b -ℤ pos a)) (step *ℤ pos 1) x y from step (pos count) e
    (ring (step ∷ pos a ∷ pos b ∷ []) (mul (var 0) (sub (var 2) (var 1))) (sub (mul (var 2) (var 0)) (mul (var 1) (var 0))) refl)
    (ring (step ∷ []) (mul (var 0) (num (pos 1))) (var 0) refl)
    (mul_le_left step (pos 1) (pos b -ℤ pos a) (some count step wide) (one a b less)) wide x_in.high y_in.low
  where
    some : (n : ℕ) (s : ℤ) → pos n ≤ℤ s → pos 0 ≤ℤ s
    some n s h = omega (arith, ints)

    one : (a b : ℕ) → a < b → pos 1 ≤ℤ (pos b -ℤ pos a)
    one a b h = omega (arith, ints)

    by : (sa sb m s x y from step n : ℤ) → x +ℤ sa ≡ y +ℤ sb → m ≡ sb -ℤ sa → s ≡ step → s ≤ℤ m → n ≤ℤ step → x <ℤ (from +ℤ n) → from ≤ℤ y → ⊥
    by sa sb m s x y from step n e f g h w k l = omega (arith, ints)

-- the same to the other side
turned : (a b : ℕ) (step x y : ℤ) → x +ℤ pos a *ℤ step ≡ y +ℤ pos b *ℤ step → y +ℤ pos a *ℤ (pos 0 -ℤ step) ≡ x +ℤ pos b *ℤ (pos 0 -ℤ step)
turned a b step x y = by (pos a *ℤ step) (pos b *ℤ step) (pos a *ℤ (pos 0 -ℤ step)) (pos b *ℤ (pos 0 -ℤ step)) (back (pos a)) (back (pos b))
  where
    back : (n : ℤ) → n *ℤ (pos 0 -ℤ step) ≡ pos 0 -ℤ n *ℤ step
    back n = ring (n ∷ step ∷ []) (mul (var 0) (sub (num (pos 0)) (var 1))) (sub (num (pos 0)) (mul (var 0) (var 1))) refl

    by : (sa sb ta tb : ℤ) → ta ≡ pos 0 -ℤ sa → tb ≡ pos 0 -ℤ sb → x +ℤ sa ≡ y +ℤ sb → y +ℤ ta ≡ x +ℤ tb
    by sa sb ta tb e f g = omega (arith, ints)

either_past : (a b : ℕ) (step x y from : ℤ) (count : ℕ) → a < b → count ≤ unsigned_abs step → IsBetween x from count → IsBetween y from count → x +ℤ pos a *ℤ step ≡ y +ℤ pos b *ℤ step → ⊥
either_past a b step x y from count less wide x_in y_in e =
    by_lt_z step (pos 0)
    (λ (below : step <ℤ pos 0). past a b (pos 0 -ℤ step) y x from count less (west step count below wide) y_in x_in (turned a b step x y e))
    (λ (above : pos 0 ≤ℤ step). past a b step x y from count less (east step count above wide) x_in y_in e)
  where
    west : (s : ℤ) (n : ℕ) → s <ℤ pos 0 → n ≤ unsigned_abs s → pos n ≤ℤ (pos 0 -ℤ s)
    west s n h w = omega (arith, ints)

    east : (s : ℤ) (n : ℕ) → pos 0 ≤ℤ s → n ≤ unsigned_abs s → pos n ≤ℤ s
    east s n h w = omega (arith, ints)

-- so different numbers of steps do
differ : (a b : ℕ) (step x y from : ℤ) (count : ℕ) → count ≤ unsigned_abs step → IsBetween x from count → IsBetween y from count → x +ℤ pos a *ℤ step ≡ y +ℤ pos b *ℤ step → a ≡ b
differ a b step x y from count wide x_in y_in e =
    elim (cases_lt a b) as (λ _. a ≡ b) [
      | inl less ↦ absurd (either_past a b step x y from count less wide x_in y_in e)
      | inr more ↦ elim (cases_lt b a) as (λ _. a ≡ b) [
        | inl less ↦ absurd (either_past b a step y x from count less wide y_in x_in (sym e))
        | inr less ↦ same a b more less
      ]
    ]
  where
    same : (m n : ℕ) → n ≤ m → m ≤ n → m ≡ n
    same m n h k = omega (arith, h, k)

-- a number is known by its quotient and its rest
whole : (across m n : ℕ) → m % across ≡ n % across → m / across ≡ n / across → m ≡ n
whole across m n e f = sym (div-add-mod' m across) ∙ (λ i. f i * across + e i) ∙ div-add-mod' n across

tile_there : (across up : ℕ) (step : Tile) (n : ℕ) → n < across * up → nth_tile (tiles_of across up step) n ≡ tile_at across step n
unfolding tiles_of
tile_there across up step n early = get_or-map-range_with_len (tile_at across step) 0 (across * up) n n first_tile early (omega arith)

count_tiles : (across up : ℕ) (step : Tile) (n : ℕ) → n < length (tiles_of across up step) → n < across * up
unfolding tiles_of
count_tiles across up step n early = omega (arith, early, length-map (range_with_len 0 (across * up)) (tile_at across step), length-range_with_len 0 (across * up))

pub apart_holds : ApartLaw
apart_holds f across up step east north m n less early c d c_in d_in e =
    let n_in : n < across * up = count_tiles across up step n early in
    let m_in : m < across * up = omega (arith, less, n_in) in
    let same : cell_in (tile_at across step m) c ≡ cell_in (tile_at across step n) d =
    ap (λ (t : Tile). cell_in t c) (sym (tile_there across up step m m_in)) ∙ e ∙ ap (λ (t : Tile). cell_in t d) (tile_there across up step n n_in) in
    let c_at = in_frame_is f c c_in in
    let d_at = in_frame_is f d d_in in
    let column : m % across ≡ n % across = differ (m % across) (n % across) step.east c.i d.i f.i0 f.width east c_at.column d_at.column (ap (λ (x : Cell). x.i) same) in
    let row : m / across ≡ n / across = differ (m / across) (n / across) step.north c.j d.j f.j0 f.height north c_at.row d_at.row (ap (λ (x : Cell). x.j) same) in
    apart m n less (whole across m n column row)
  where
    apart : (m n : ℕ) → m < n → m ≡ n → ⊥
    apart m n h e = omega (arith, h, e)
