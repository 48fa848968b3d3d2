-- The centres of the cells of the frame that is timed.
use Rattle.std.proofs.Common.{◌≡◌, ℕ, ◌≤◌, ℤ, pos, negsuc, subst, sym, arith}
use borrow.Author.Differences.{ints}
use Rattle.board_base.specs.declared.places.Cell.{Cell}
use Rattle.board_base.specs.Places.{IsNearPlace, IsNearCoordinate}
use Rattle.board_base.specs.Lattice.{half_of, middle, centre_of}
use Rattle.cell_grid.specs.declared.frames.Frame.{Frame}
use Rattle.cell_grid.specs.Place.{InFrame, IsBetween}

near : (i from : ℤ) (count : ℕ) → from ≡ negsuc 1023 → count ≤ 2048 → IsBetween i from count → IsNearCoordinate (middle (pos 20000) i)
unfolding middle half_of
near i from count e few h = record { low = omega (arith, ints, h.low, h.high); high = omega (arith, ints, h.low, h.high) }

-- the frame's centres are places
pub centres_near : (f : Frame) → f.pitch ≡ pos 20000 → f.i0 ≡ negsuc 1023 → f.width ≤ 2048 → f.j0 ≡ negsuc 1023 → f.height ≤ 2048
    → (c : Cell) → InFrame f c → IsNearPlace (centre_of f.pitch c)
centres_near f e west wide south high c h =
    subst (λ (p : ℤ). IsNearPlace (centre_of p c)) (sym e) record { x_in = near c.i f.i0 f.width west wide h.column; y_in = near c.j f.j0 f.height south high h.row }
