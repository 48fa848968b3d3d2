use Rattle.std.proofs.Common.{◌≡◌, ◌++◌}
use Rattle.std.specs.List.{flat_map, range_with_len}
use Rattle.mill_program.specs.GridLines.{probe_lines}
use Rattle.grid_writer.specs.Spelling.{text_over}
use Rattle.grid_writer.proofs.probing.write_probes.Given as goal

abbrev pub invariant-loop-probe : goal.invariant-loop-probe
invariant-loop-probe l = l.out.items ≡ l.fn.out.items ++ flat_map (λ k. text_over (probe_lines l.safe l.grid k)) (range_with_len 0 l.probe)
