use Rattle.std.proofs.Common.{◌≡◌, ℤ, pos, ◌≤ℤ◌, ◌<ℤ◌, ◌+ℤ◌, sym, ap, subst, ◌∙◌, arith}
use borrow.Author.Differences.{ints}
use Rattle.board_base.specs.declared.places.Cell.{Cell}
use Rattle.board_base.specs.Places.{IsNearPlace, IsNearCoordinate}
use Rattle.board_base.specs.Lattice.{centre_of, middle, half_of}
use Rattle.cell_grid.specs.declared.frames.Frame.{Frame}
use Rattle.cell_grid.specs.Grid.{Grid}
use Rattle.cell_grid.specs.Place.{InFrame}
use Rattle.grid_tests.proofs.joined.swept.Goals as goal

near : (i : ℤ) → pos 0 ≤ℤ i → i <ℤ pos 9 → IsNearCoordinate (middle (pos 2000) i)
unfolding middle half_of
near i l h = record { low = omega (arith, ints); high = omega (arith, ints) }

near_centres : (f g : Frame) (c : Cell) → f ≡ g → g ≡ record { pitch = pos 2000; i0 = pos 0; j0 = pos 0; width = 9; height = 3 } → InFrame f c → IsNearPlace (centre_of f.pitch c)
near_centres f g c e same h =
    let k : InFrame (record { pitch = pos 2000; i0 = pos 0; j0 = pos 0; width = 9; height = 3 }) c = subst (λ (v : Frame). InFrame v c) (e ∙ same) h in
    subst (λ (v : Frame). IsNearPlace (centre_of v.pitch c)) (sym (e ∙ same))
    (record { x_in = near c.i k.column.low (high c.i k.column.high); y_in = near c.j k.row.low (low c.j k.row.high) })
  where
    high : (i : ℤ) → i <ℤ (pos 0 +ℤ pos 9) → i <ℤ pos 9
    high i l = omega (arith, ints)

    low : (i : ℤ) → i <ℤ (pos 0 +ℤ pos 3) → i <ℤ pos 9
    low i l = omega (arith, ints)

pub mark_swept-requires-clause-centres : goal.mark_swept-requires-clause-centres
mark_swept-requires-clause-centres c = λ e h. near_centres _ _ e (ap (λ (g : Grid). g.frame) c.in_ok-bench.ensures.blank) c.frame.ensures h
