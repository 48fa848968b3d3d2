use Rattle.std.proofs.Common.{◌≡◌, ◌++◌, drop, true}
use Rattle.mill_program.specs.GridLines.{steps_over}
use Rattle.grid_writer.specs.Spelling.{text_over}
use Rattle.grid_writer.proofs.program.write_steps.Given as goal

-- what is left is added to what stands
abbrev pub invariant-loop-to : goal.invariant-loop-to
invariant-loop-to l = l.out.items ++ text_over (steps_over l.grid l.run l.plunged l.from (drop l.to-index l.rest)) ≡ l.fn.out.items ++ text_over (steps_over l.grid l.run true l.fn.first l.rest)
