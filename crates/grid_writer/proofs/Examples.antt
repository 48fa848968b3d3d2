-- The text of a height and of a probe, worked out by hand.
use Rattle.std.proofs.Common.{◌≡◌, refl, pos, negsuc, Some}
use Rattle.std.specs.Prelude.{codes}
use Rattle.fixed_num.specs.Rounding.{rounded}
use Rattle.mill_program.specs.declared.probes.ProbeGrid.{ProbeGrid}
use Rattle.mill_program.specs.Probes.{way_in, part_of, weights_of}
use Rattle.mill_program.specs.GridLines.{probe_lines}
use Rattle.mill_program.specs.Heights.{height_word}
use Rattle.grid_writer.specs.Spelling.{text_over, word_over}

-- four probes, a centimetre from one another
abbrev four : ProbeGrid
four = record { x0 = pos 0; y0 = pos 0; dx = pos 10000000; dy = pos 10000000; nx = 2; ny = 2; range = pos 500000; feed = pos 50000 }

-- a tenth of a millimetre deep, a quarter of the way east and half of it north
levelled : word_over (height_word (Some four) (record { x = pos 2500000; y = pos 5000000; z = negsuc 99999 })) ≡ codes "Z[-0.100000+0.375000*#101+0.125000*#102+0.375000*#103+0.125000*#104]"
unfolding weights_of way_in part_of rounded Rattle.rs274_sim.specs.declared.line.Expr.TheBlock.hidden-the_row-Expr-0 denote.Hole.Carrier.hidden Rattle.std.specs.Fmt.digits
levelled = refl

-- the last of four probes: over its place, down half a millimetre at most, its answer kept, and up
probed : text_over (probe_lines (pos 2000000) four 3) ≡ codes "G0 X10.000000 Y10.000000\nG38.2 Z-0.500000 F50.000000\n#104=#5063\nG0 Z2.000000\n"
unfolding Rattle.std.specs.Fmt.digits
probed = refl
