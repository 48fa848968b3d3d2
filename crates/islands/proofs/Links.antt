-- The eight ways to what a cell meets, and chains outside a frame.
use Rattle.std.proofs.Common.{◌≡◌, ℕ, zero, suc, ◌<◌, ℤ, pos, negsuc, ◌+ℤ◌, ◌-ℤ◌, ◌≤ℤ◌, ◌<ℤ◌, Bool, true, false, ◌⊎◌, inl, inr, refl, sym, ap, ◌∙◌, arith}
use Rattle.std.proofs.lemmas.Bool.{false≢true}
use Rattle.std.proofs.lemmas.Int.{by_lt_z}
use borrow.Author.Differences.{ints}
use Rattle.board_base.specs.declared.places.Cell.{Cell}
use Rattle.board_base.specs.Lattice.{IsBeside}
use Rattle.cell_grid.specs.declared.frames.Frame.{Frame}
use Rattle.cell_grid.specs.Cells.{in_frame}
use Rattle.cell_sets.specs.Chains.{IsLinked}
use Rattle.cell_grid.proofs.CellsLaws.{in_frame_true, in_frame_false}
use Rattle.islands.specs.Ways.{east_of, north_of, neighbour_of}
use Rattle.cell_sets.proofs.CellLaws.{cell}
use Rattle.cell_sets.proofs.Links.{IsFree, linked_sym, linked_trans, along_row, along_column}

-- a neighbour is beside the cell
pub beside_neighbour : (c : Cell) (way : ℕ) → IsBeside c (neighbour_of c way)
unfolding neighbour_of
beside_neighbour c way =
    let e = ways way in
    record { west = low c.i (east_of way) e.0; east = high c.i (east_of way) e.1.0; south = low c.j (north_of way) e.1.1.0; north = high c.j (north_of way) e.1.1.1 }
  where
    low : (i d : ℤ) → negsuc 0 ≤ℤ d → (i -ℤ (i +ℤ d)) ≤ℤ pos 1
    low i d l = omega (arith, ints)

    high : (i d : ℤ) → d ≤ℤ pos 1 → ((i +ℤ d) -ℤ i) ≤ℤ pos 1
    high i d l = omega (arith, ints)

    ways : (way : ℕ) → (negsuc 0 ≤ℤ east_of way) × ((east_of way ≤ℤ pos 1) × ((negsuc 0 ≤ℤ north_of way) × (north_of way ≤ℤ pos 1)))
    ways zero = (omega (arith, ints), (omega (arith, ints), (omega (arith, ints), omega (arith, ints))))
    ways (suc zero) = (omega (arith, ints), (omega (arith, ints), (omega (arith, ints), omega (arith, ints))))
    ways (suc (suc zero)) = (omega (arith, ints), (omega (arith, ints), (omega (arith, ints), omega (arith, ints))))
    ways (suc (suc (suc zero))) = (omega (arith, ints), (omega (arith, ints), (omega (arith, ints), omega (arith, ints))))
    ways (suc (suc (suc (suc zero)))) = (omega (arith, ints), (omega (arith, ints), (omega (arith, ints), omega (arith, ints))))
    ways (suc (suc (suc (suc (suc zero))))) = (omega (arith, ints), (omega (arith, ints), (omega (arith, ints), omega (arith, ints))))
    ways (suc (suc (suc (suc (suc (suc zero)))))) = (omega (arith, ints), (omega (arith, ints), (omega (arith, ints), omega (arith, ints))))
    ways (suc (suc (suc (suc (suc (suc (suc d))))))) = (omega (arith, ints), (omega (arith, ints), (omega (arith, ints), omega (arith, ints))))

-- a way that leads so far to the east and to the north
pub record IsWay (e n : ℤ) : Type 0 where
  pub way : ℕ
  pub way_in : way < 8
  pub east : east_of way ≡ e
  pub north : north_of way ≡ n

way_for : (e n : ℤ) → negsuc 0 ≤ℤ e → e ≤ℤ pos 1 → negsuc 0 ≤ℤ n → n ≤ℤ pos 1 → ((e ≡ pos 0) × (n ≡ pos 0)) ⊎ IsWay e n
way_for (negsuc zero) (negsuc zero) a b c d = inr (record { way = 5; way_in = omega arith; east = refl; north = refl })
way_for (negsuc zero) (pos zero) a b c d = inr (record { way = 4; way_in = omega arith; east = refl; north = refl })
way_for (negsuc zero) (pos (suc zero)) a b c d = inr (record { way = 3; way_in = omega arith; east = refl; north = refl })
way_for (pos zero) (negsuc zero) a b c d = inr (record { way = 6; way_in = omega arith; east = refl; north = refl })
way_for (pos zero) (pos zero) a b c d = inl (refl, refl)
way_for (pos zero) (pos (suc zero)) a b c d = inr (record { way = 2; way_in = omega arith; east = refl; north = refl })
way_for (pos (suc zero)) (negsuc zero) a b c d = inr (record { way = 7; way_in = omega arith; east = refl; north = refl })
way_for (pos (suc zero)) (pos zero) a b c d = inr (record { way = 0; way_in = omega arith; east = refl; north = refl })
way_for (pos (suc zero)) (pos (suc zero)) a b c d = inr (record { way = 1; way_in = omega arith; east = refl; north = refl })
way_for (negsuc (suc e)) n a b c d = absurd (omega (arith, ints, a))
way_for (pos (suc (suc e))) n a b c d = absurd (omega (arith, ints, b))
way_for (negsuc zero) (negsuc (suc n)) a b c d = absurd (omega (arith, ints, c))
way_for (negsuc zero) (pos (suc (suc n))) a b c d = absurd (omega (arith, ints, d))
way_for (pos zero) (negsuc (suc n)) a b c d = absurd (omega (arith, ints, c))
way_for (pos zero) (pos (suc (suc n))) a b c d = absurd (omega (arith, ints, d))
way_for (pos (suc zero)) (negsuc (suc n)) a b c d = absurd (omega (arith, ints, c))
way_for (pos (suc zero)) (pos (suc (suc n))) a b c d = absurd (omega (arith, ints, d))

-- the cell is the neighbour in some way
pub record IsNeighbour (a b : Cell) : Type 0 where
  pub way : ℕ
  pub way_in : way < 8
  pub is : b ≡ neighbour_of a way

-- two cells that meet are one, or the one is a neighbour of the other
pub neighbours : (a b : Cell) → IsBeside a b → (a ≡ b) ⊎ IsNeighbour a b
unfolding neighbour_of
neighbours a b s =
    elim (way_for (b.i -ℤ a.i) (b.j -ℤ a.j) (low a.i b.i s.west) s.east (low a.j b.j s.south) s.north) as (λ _. (a ≡ b) ⊎ IsNeighbour a b) [
      | inl z ↦ inl (ap (λ (x : ℤ). cell x a.j) (level a.i b.i z.0) ∙ ap (λ (y : ℤ). cell b.i y) (level a.j b.j z.1))
      | inr k ↦ inr (record {
        way = k.way;
        way_in = k.way_in;
        is = ap (λ (x : ℤ). cell x b.j) (reached a.i b.i (east_of k.way) k.east) ∙ ap (λ (y : ℤ). cell (a.i +ℤ east_of k.way) y) (reached a.j b.j (north_of k.way) k.north);
      })
    ]
  where
    low : (i i' : ℤ) → (i -ℤ i') ≤ℤ pos 1 → negsuc 0 ≤ℤ (i' -ℤ i)
    low i i' l = omega (arith, ints)

    level : (i i' : ℤ) → i' -ℤ i ≡ pos 0 → i ≡ i'
    level i i' e = omega (arith, ints)

    reached : (i i' e : ℤ) → e ≡ i' -ℤ i → i' ≡ i +ℤ e
    reached i i' e p = omega (arith, ints)

-- the four sides of the outside
pub side : (f : Frame) (c : Cell) → in_frame f c ≡ false → (c.i <ℤ f.i0) ⊎ ((f.i0 +ℤ pos f.width) ≤ℤ c.i) ⊎ (c.j <ℤ f.j0) ⊎ ((f.j0 +ℤ pos f.height) ≤ℤ c.j)
side f c out =
    low_or c.i f.i0 (λ l. inl l) (λ i_low.
    low_or c.i (f.i0 +ℤ pos f.width) (λ i_high.
    low_or c.j f.j0 (λ l. inr (inr (inl l))) (λ j_low.
    low_or c.j (f.j0 +ℤ pos f.height) (λ j_high.
    absurd (false≢true (sym out ∙ in_frame_true f c (record { column = record { low = i_low; high = i_high }; row = record { low = j_low; high = j_high } }))))
    (λ l. inr (inr (inr l)))))
    (λ l. inr (inl l)))
  where
    low_or : {P : Type 0} (a b : ℤ) → (a <ℤ b → P) → (b ≤ℤ a → P) → P
    low_or a b f g = by_lt_z a b f g

-- all cells outside a frame are linked over cells outside
module _ (f : Frame) (free : Cell → Bool) (free_out : (c : Cell) → in_frame f c ≡ false → free c ≡ true) where
  out_west : (i j : ℤ) → i <ℤ f.i0 → free (cell i j) ≡ true
  out_west i j l = free_out (cell i j) (in_frame_false f (cell i j) (λ h. omega (arith, ints, h.column.low, l)))

  out_east : (i j : ℤ) → (f.i0 +ℤ pos f.width) ≤ℤ i → free (cell i j) ≡ true
  out_east i j l = free_out (cell i j) (in_frame_false f (cell i j) (λ h. omega (arith, ints, h.column.high, l)))

  out_south : (i j : ℤ) → j <ℤ f.j0 → free (cell i j) ≡ true
  out_south i j l = free_out (cell i j) (in_frame_false f (cell i j) (λ h. omega (arith, ints, h.row.low, l)))

  out_north : (i j : ℤ) → (f.j0 +ℤ pos f.height) ≤ℤ j → free (cell i j) ≡ true
  out_north i j l = free_out (cell i j) (in_frame_false f (cell i j) (λ h. omega (arith, ints, h.row.high, l)))

  west_of : ℤ
  west_of = f.i0 -ℤ pos 1

  south_of : ℤ
  south_of = f.j0 -ℤ pos 1

  hub : Cell
  hub = cell west_of south_of

  west_less : west_of <ℤ f.i0
  unfolding west_of
  west_less = omega (arith, ints)

  south_less : south_of <ℤ f.j0
  unfolding south_of
  south_less = omega (arith, ints)

  by_row : (i j : ℤ) → ((x : ℤ) → free (cell x j) ≡ true) → IsLinked free (cell i j) hub
  unfolding hub
  by_row i j row = linked_trans (IsFree free) (cell i j) (cell west_of j) (cell west_of south_of) (along_row (IsFree free) i west_of j row) (along_column (IsFree free) west_of j south_of (λ y. out_west west_of y west_less))

  by_column : (i j : ℤ) → ((y : ℤ) → free (cell i y) ≡ true) → IsLinked free (cell i j) hub
  unfolding hub
  by_column i j column =
      linked_trans (IsFree free) (cell i j) (cell i south_of) (cell west_of south_of) (along_column (IsFree free) i j south_of column) (along_row (IsFree free) i west_of south_of (λ x. out_south x south_of south_less))

  to_hub : (c : Cell) → in_frame f c ≡ false → IsLinked free c hub
  to_hub c out =
      elim (side f c out) as (λ _. IsLinked free c hub) [
        | inl w ↦ by_column c.i c.j (λ y. out_west c.i y w)
        | inr r ↦ elim r as (λ _. IsLinked free c hub) [
          | inl e ↦ by_column c.i c.j (λ y. out_east c.i y e)
          | inr r ↦ elim r as (λ _. IsLinked free c hub) [
            | inl s ↦ by_row c.i c.j (λ x. out_south x c.j s)
            | inr n ↦ by_row c.i c.j (λ x. out_north x c.j n)
          ]
        ]
      ]

  pub outside_linked : (c d : Cell) → in_frame f c ≡ false → in_frame f d ≡ false → IsLinked free c d
  outside_linked c d oc od = linked_trans (IsFree free) c hub d (to_hub c oc) (linked_sym (IsFree free) d hub (to_hub d od))
