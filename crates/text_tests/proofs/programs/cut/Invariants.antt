use Rattle.mill_program.specs.Conditions.{IsCut}
use Rattle.text_tests.proofs.programs.cut.Given as goal

abbrev pub invariant-loop-at : goal.invariant-loop-at
invariant-loop-at l = IsCut l.corners
