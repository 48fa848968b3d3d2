use Rattle.std.proofs.Common.{◌≡◌, ◌∙◌, [], sym}
use Rattle.std.proofs.lemmas.List.{append-nil}
use Rattle.text_cut.specs.Spaces.{trimmed}
use Rattle.simulation.proofs.AnswerLaws.{no_bytes, passed_is_right, nothing_answered}
use Rattle.simulation.proofs.answers.add_answer.Goals as goal

pub returns-then-is_empty : goal.returns-then-is_empty
returns-then-is_empty c =
    let none : trimmed c.args.line.now ≡ [] = sym c.trimmed-text.ensures ∙ no_bytes c.trimmed-text.result.now (sym c.is_empty.ensures ∙ c.if-is_empty.true) in
    (passed_is_right c.args.line.now none, rw (nothing_answered c.args.line.now none) (sym (append-nil c.args.answers.now.items)))
