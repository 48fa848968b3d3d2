use Rattle.std.proofs.Common.{◌≡◌, ◌+◌, ◌≤◌, length}
use Rattle.std.specs.Str.Lines.{lines}
use Rattle.simulation.specs.Answers.{answers_from, answers_of}
use Rattle.simulation.proofs.AnswerLaws.{with_answers}
use Rattle.simulation.proofs.answers.all_answers.Given as goal

-- the answers so far and those of the rest are all
abbrev pub invariant-loop-text : goal.invariant-loop-text
invariant-loop-text l = record {
  read : with_answers l.answers.items (answers_from (l.line + 1) (lines l.rest)) ≡ answers_of l.bytes;
  few : l.line + length l.rest ≤ length l.bytes;
}

abbrev pub decreases-loop-text : goal.decreases-loop-text
decreases-loop-text l = length l.rest
