use Rattle.std.proofs.Common.{◌≡◌, ◌++◌, ◌∷◌, take}
use Rattle.std.specs.List.{flat_map}
use Rattle.grid_writer.specs.Spelling.{word_over}
use Rattle.grid_writer.specs.Parts.{word_of}
use Rattle.grid_writer.proofs.parts.write_line.Given as goal

abbrev pub invariant-loop-part : goal.invariant-loop-part
invariant-loop-part l = l.out.items ≡ l.fn.out.items ++ word_over (word_of l.fn.first) ++ flat_map (λ p. 32 ∷ word_over (word_of p)) (take l.part-index l.rest)
