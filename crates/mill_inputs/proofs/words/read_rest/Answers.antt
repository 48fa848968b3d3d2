use Rattle.std.proofs.Common.{◌≡◌, ◌-◌, drop, Some, None, ap, ◌∙◌}
use Rattle.std.specs.Prelude.{not, string_bytes}
use Rattle.std.specs.List.{position}
use Rattle.mill_inputs.specs.Words.{is_job_word, rest_of}
use Rattle.mill_inputs.proofs.WordLaws.{position_behind}
use Rattle.mill_inputs.proofs.words.read_rest.Goals as goal

pub returns-in-Some : goal.returns-in-Some
returns-in-Some c =
    let found : position (λ w. not (is_job_word (string_bytes w))) (drop (c.args.number - 1) c.args.words.now.items) ≡ Some c.in-Some.place = cc in
    ap (rest_of c.args.number) (position_behind (λ w. not (is_job_word w)) string_bytes (c.args.number - 1) c.args.words.now.items ∙ found)

pub returns-in-None : goal.returns-in-None
returns-in-None c =
    let found : position (λ w. not (is_job_word (string_bytes w))) (drop (c.args.number - 1) c.args.words.now.items) ≡ None = cc in
    ap (rest_of c.args.number) (position_behind (λ w. not (is_job_word w)) string_bytes (c.args.number - 1) c.args.words.now.items ∙ found)
