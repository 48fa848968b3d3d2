-- A program of two corners over a grid of four probes.
use Rattle.std.proofs.Common.{◌≡◌, ℤ, pos, negsuc, ◌+ℤ◌, ◌*ℤ◌, ◌<ℤ◌, ◌≤ℤ◌, List, [], ◌∷◌, Some, map, refl, inl, arith}
use Rattle.std.proofs.lemmas.Int.{ints}
use Rattle.std.proofs.lemmas.List.Elements.{All-from_recursion}
use Rattle.std.specs.List.{All}
use Rattle.board_base.specs.declared.places.Pos.{Pos}
use Rattle.fixed_num.specs.Rounding.{rounded}
use Rattle.rs274_sim.specs.Cutter.{nanometre}
use Rattle.mill_program.specs.declared.cuts.Corner.{Corner}
use Rattle.mill_program.specs.declared.cuts.ToolRun.{ToolRun}
use Rattle.mill_program.specs.declared.cuts.Program.{Program}
use Rattle.mill_program.specs.declared.probes.ProbeGrid.{ProbeGrid}
use Rattle.mill_program.specs.Conditions.{IsCorner, IsCut, IsToolRun}
use Rattle.mill_program.specs.Probes.{way_in, part_of, weights_of, surface_of}
use Rattle.grid_runs.specs.Conditions.{IsCornerOver, IsProgramOver, IsRunnableCutOver, IsRunnableOver}
use Rattle.grid_runs.specs.Moves.{place_on, moves_over}

-- four probes, a centimetre from one another, with a range of half a millimetre
abbrev four : ProbeGrid
four = record { x0 = pos 0; y0 = pos 0; dx = pos 10000000; dy = pos 10000000; nx = 2; ny = 2; range = pos 500000; feed = pos 50000 }

-- their answers: 0, 0.1, -0.1 and 0.05 mm
abbrev told : List ℤ
told = pos 0 ∷ pos 100000 ∷ negsuc 99999 ∷ pos 50000 ∷ []

-- two corners, a tenth of a millimetre deep
abbrev west : Corner
west = record { x = pos 2500000; y = pos 5000000; z = negsuc 99999 }

abbrev east : Corner
east = record { x = pos 10000000; y = pos 5000000; z = negsuc 99999 }

abbrev engraved : ToolRun
engraved = record { tool = 3; speed = 10000; feed = pos 200000; plunge = pos 100000; cuts = (west ∷ east ∷ []) ∷ [] }

-- the tool goes over the board at a millimetre, and is changed at twenty
abbrev small : Program
small = record { safe = pos 1000000; change = pos 20000000; runs = engraved ∷ []; grid = Some four }

-- in nanometres
abbrev at : ℤ → ℤ → ℤ → Pos
at x y z = record { x = x *ℤ nanometre; y = y *ℤ nanometre; z = z *ℤ nanometre }

-- at the first corner the surface is 0.01875 mm below zero, at the second one 0.075 mm above
places : map (place_on four told) (west ∷ east ∷ [])
    ≡ record { x = pos 2500000 *ℤ nanometre; y = pos 5000000 *ℤ nanometre; z = negsuc 118749999999 } ∷ record { x = pos 10000000 *ℤ nanometre; y = pos 5000000 *ℤ nanometre; z = negsuc 24999999999 } ∷ []
unfolding surface_of weights_of way_in part_of rounded
places = refl

-- where the moves of the program lead: up, down, to each probe's place, to its answer and up again, the same height once
-- more with the spindle turning, over the first corner, down to it, to the second one, and up twice
ways : map (λ m. m.to) (moves_over four told small)
    ≡ at (pos 0) (pos 0) (pos 20000000) ∷ at (pos 0) (pos 0) (pos 1000000)
    ∷ at (pos 0) (pos 0) (pos 1000000) ∷ at (pos 0) (pos 0) (pos 0) ∷ at (pos 0) (pos 0) (pos 1000000)
    ∷ at (pos 10000000) (pos 0) (pos 1000000) ∷ at (pos 10000000) (pos 0) (pos 100000) ∷ at (pos 10000000) (pos 0) (pos 1000000)
    ∷ at (pos 0) (pos 10000000) (pos 1000000) ∷ at (pos 0) (pos 10000000) (negsuc 99999) ∷ at (pos 0) (pos 10000000) (pos 1000000)
    ∷ at (pos 10000000) (pos 10000000) (pos 1000000) ∷ at (pos 10000000) (pos 10000000) (pos 50000) ∷ at (pos 10000000) (pos 10000000) (pos 1000000)
    ∷ at (pos 10000000) (pos 10000000) (pos 1000000)
    ∷ at (pos 2500000) (pos 5000000) (pos 1000000) ∷ record { x = pos 2500000 *ℤ nanometre; y = pos 5000000 *ℤ nanometre; z = negsuc 118749999999 }
    ∷ record { x = pos 10000000 *ℤ nanometre; y = pos 5000000 *ℤ nanometre; z = negsuc 24999999999 } ∷ at (pos 10000000) (pos 5000000) (pos 1000000)
    ∷ at (pos 10000000) (pos 5000000) (pos 20000000) ∷ []
unfolding moves_over surface_of weights_of way_in part_of rounded
ways = refl

-- ---- such a program may be run over a grid

inside : (x : ℤ) → pos 0 ≤ℤ x → x ≤ℤ pos 100000000 → IsCorner (record { x = x; y = pos 5000000; z = negsuc 99999 })
inside x low high = record {
  x_in = record { low = omega (arith, ints, low); high = omega (arith, ints, high) };
  y_in = record { low = omega (arith, ints); high = omega (arith, ints) };
  z_in = record { low = omega (arith, ints); high = omega (arith, ints) };
}

over : (c : Corner) → c.z ≡ negsuc 99999 → IsCornerOver four c
over c e = record { lowest = record { low = omega (arith, ints, e); high = omega (arith, ints, e) }; highest = record { low = omega (arith, ints, e); high = omega (arith, ints, e) } }

is_over : IsProgramOver four small
is_over = record {
  grid = refl;
  is_grid = record {
    across = omega arith;
    up = omega arith;
    few = omega arith;
    dx_low = omega (arith, ints);
    dx_high = omega (arith, ints);
    dy_low = omega (arith, ints);
    dy_high = omega (arith, ints);
    range_low = omega (arith, ints);
    range_high = omega (arith, ints);
    feed_low = omega (arith, ints);
    feed_high = omega (arith, ints);
  };
  safe = record { low = omega (arith, ints); high = omega (arith, ints) };
  change = record { low = omega (arith, ints); high = omega (arith, ints) };
  runs = All-from_recursion IsToolRun (engraved ∷ []) (
    record {
      tool = omega arith;
      speed = omega arith;
      feed = record { low = omega (arith, ints); high = omega (arith, ints) };
      plunge = record { low = omega (arith, ints); high = omega (arith, ints) };
      cuts = All-from_recursion IsCut ((west ∷ east ∷ []) ∷ []) (record { some = omega arith; corners = All-from_recursion IsCorner (west ∷ east ∷ []) (inside (pos 2500000) (omega (arith, ints)) (omega (arith, ints)), (inside (pos 10000000) (omega (arith, ints)) (omega (arith, ints)), tt)) }, tt);
    },
    tt,
  );
  one = omega arith;
  range = omega (arith, ints);
  corners = All-from_recursion (λ (run : ToolRun). All (All (IsCornerOver four)) run.cuts) (engraved ∷ []) (All-from_recursion (All (IsCornerOver four)) ((west ∷ east ∷ []) ∷ []) (All-from_recursion (IsCornerOver four) (west ∷ east ∷ []) (over west refl, (over east refl, tt)), tt), tt);
}

is_runnable : IsRunnableOver four small
is_runnable = record {
  high = omega (arith, ints);
  cuts = All-from_recursion (λ (run : ToolRun). All (IsRunnableCutOver four (pos 1000000)) run.cuts) (engraved ∷ []) (
    All-from_recursion (IsRunnableCutOver four (pos 1000000)) ((west ∷ east ∷ []) ∷ []) (
      record {
        below = All-from_recursion (λ (c : Corner). (c.z +ℤ pos 500000) <ℤ pos 1000000) (west ∷ east ∷ []) (omega (arith, ints), (omega (arith, ints), tt));
        steps = (inl refl, tt);
      },
      tt,
    ),
    tt,
  );
}
