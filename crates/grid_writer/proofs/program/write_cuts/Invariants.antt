use Rattle.std.proofs.Common.{◌≡◌, ◌++◌, take}
use Rattle.std.specs.List.{flat_map}
use Rattle.mill_program.specs.GridLines.{cut_over}
use Rattle.grid_writer.specs.Spelling.{text_over}
use Rattle.grid_writer.proofs.program.write_cuts.Given as goal

abbrev pub invariant-loop-cut : goal.invariant-loop-cut
invariant-loop-cut l = l.out.items ≡ l.fn.out.items ++ flat_map (λ cut. text_over (cut_over l.p.grid l.p.safe l.run cut)) (take l.cut-index l.run.cuts)
