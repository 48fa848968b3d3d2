use Rattle.std.proofs.Common.{ℤ, pos, negsuc, sym, subst, refl, arith}
use borrow.Author.Differences.{ints}
use Rattle.board_base.specs.declared.places.Cell.{Cell}
use Rattle.board_base.specs.Places.{IsNearPlace, IsNearCoordinate}
use Rattle.board_base.specs.Lattice.{IsPitch, half_of, middle, centre_of}
use Rattle.cell_grid.specs.declared.frames.Frame.{Frame}
use Rattle.cell_grid.specs.Place.{InFrame, IsBetween}
use Rattle.grid_tests.proofs.covers.cover_small.Goals as goal

abbrev small : Frame
small = record { pitch = pos 200000; i0 = negsuc 3; j0 = negsuc 3; width = 9; height = 9 }

near : (i : ℤ) → IsBetween i (negsuc 3) 9 → IsNearCoordinate (middle (pos 200000) i)
unfolding middle half_of
near i h = record { low = omega (arith, ints); high = omega (arith, ints) }

centres : (c : Cell) → InFrame small c → IsNearPlace (centre_of (pos 200000) c)
centres c h = record { x_in = near c.i h.column; y_in = near c.j h.row }

pitch_is : IsPitch (pos 200000)
pitch_is = record { even = refl; low = omega (arith, ints); high = omega (arith, ints) }

pub cover-requires-clause-pitch : goal.cover-requires-clause-pitch
cover-requires-clause-pitch c = subst (λ (f : Frame). IsPitch f.pitch) (sym c.requires.frame) pitch_is

pub cover-requires-clause-centres : goal.cover-requires-clause-centres
cover-requires-clause-centres c = subst (λ (f : Frame). (d : Cell) → InFrame f d → IsNearPlace (centre_of f.pitch d)) (sym c.requires.frame) centres
