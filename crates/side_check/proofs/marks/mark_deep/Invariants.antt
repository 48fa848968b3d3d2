use Rattle.std.proofs.Common.{take}
use Rattle.mill_program.specs.Probes.{surface}
use Rattle.side_check.specs.Struck.{MarksDeep}
use Rattle.side_check.proofs.marks.mark_deep.Given as goal

abbrev pub invariant-loop-m : goal.invariant-loop-m
invariant-loop-m l = MarksDeep (surface l.fn.grid l.fn.answers.items) l.fn.work l.fn.d (take l.m-index l.moves.items) l.fn.bench l.bench
