use Rattle.std.proofs.Common.{◌≡◌, ◌++◌, drop}
use Rattle.grid_writer.specs.Parts.{shares_text}
use Rattle.grid_writer.proofs.parts.write_shares.Given as goal

-- what is left is added to what stands
abbrev pub invariant-loop-k : goal.invariant-loop-k
invariant-loop-k l = l.out.items ++ shares_text (drop l.k l.weights) (drop l.k l.probes) ≡ l.fn.out.items ++ shares_text l.weights l.probes
