use Rattle.std.proofs.Common.{◌∙◌, sym, ap, rules}
use Rattle.std.specs.Prelude.{string_bytes}
use Rattle.job_file.specs.Reading.{texts}
use Rattle.checking.specs.Accepted.{accepts_of}
use Rattle.checking.specs.Checked.{joined_lines}
use Rattle.checking.proofs.EndLaws.{refusal_works, refusal_answers, refusal_not_done, fault_works, fault_answers, fault_usage, fault_not_done, done_works, done_answers, memory_works, memory_answers, memory_usage}
use Rattle.checking.proofs.command.check.Goals as goal

-- ---- words and files are refused

pub returns-in-Err-clause-refused : goal.returns-in-Err-clause-refused
returns-in-Err-clause-refused g c = λ e. refusal_not_done (texts c.args.words.now) c.in-Err.status (g.S.Shelf.state c.args.shelf.now) (g.S.Shelf.state c.accept.new.shelf) c.in-Err.ensures.gives (cc)

pub returns-in-Err-clause-works : goal.returns-in-Err-clause-works
returns-in-Err-clause-works g c = refusal_works (texts c.args.words.now) c.in-Err.status (g.S.Shelf.state c.args.shelf.now) (g.S.Shelf.state c.accept.new.shelf) c.in-Err.ensures.keeps c.in-Err.ensures.gives

pub returns-in-Err-clause-answers : goal.returns-in-Err-clause-answers
returns-in-Err-clause-answers g c = refusal_answers (texts c.args.words.now) c.in-Err.status (g.S.Shelf.state c.args.shelf.now) (g.S.Shelf.state c.accept.new.shelf) c.in-Err.ensures.gives

-- ---- the check refuses

pub returns-in-Err-check_side-clause-usage : goal.returns-in-Err-check_side-clause-usage
returns-in-Err-check_side-clause-usage g c = rw c.refusal.ensures (fault_usage (texts c.args.words.now) c.in-Err-check_side.fault c.in-Ok.ensures.usage)

pub returns-in-Err-check_side-clause-refused : goal.returns-in-Err-check_side-clause-refused
returns-in-Err-check_side-clause-refused g c = λ e. fault_not_done c.in-Err-check_side.fault (cc (c.refusal.ensures))

pub returns-in-Err-check_side-clause-works : goal.returns-in-Err-check_side-clause-works
returns-in-Err-check_side-clause-works g c =
    rw c.refusal.ensures (fault_works (texts c.args.words.now) (accepts_of c.in-Ok.accepted) c.in-Err-check_side.fault (g.S.Shelf.state c.args.shelf.now) (g.S.Shelf.state c.accept.new.shelf)
    c.in-Ok.ensures.keeps c.in-Ok.ensures.gives (c.in-Err-check_side.ensures.refused c.in-Err-check_side.fault (search rules)))

pub returns-in-Err-check_side-clause-answers : goal.returns-in-Err-check_side-clause-answers
returns-in-Err-check_side-clause-answers g c =
    rw c.refusal.ensures (fault_answers (texts c.args.words.now) (accepts_of c.in-Ok.accepted) c.in-Err-check_side.fault (g.S.Shelf.state c.args.shelf.now) (g.S.Shelf.state c.accept.new.shelf)
    c.in-Ok.ensures.gives (λ answer. c.in-Err-check_side.ensures.one_answer c.in-Err-check_side.fault answer (search rules)))

-- ---- the program passes

pub returns-in-Ok-joined_lines-clause-works : goal.returns-in-Ok-joined_lines-clause-works
returns-in-Ok-joined_lines-clause-works g c =
    let f = c.in-Ok-check_side.ensures.found in
    done_works (texts c.args.words.now) (accepts_of c.in-Ok.accepted) f.0 (string_bytes c.in-Ok-joined_lines.lines) (g.S.Shelf.state c.args.shelf.now) (g.S.Shelf.state c.accept.new.shelf)
    c.in-Ok.ensures.keeps c.in-Ok.ensures.gives f.1 (c.in-Ok-joined_lines.ensures ∙ ap joined_lines (sym f.2))

pub returns-in-Ok-joined_lines-clause-answers : goal.returns-in-Ok-joined_lines-clause-answers
returns-in-Ok-joined_lines-clause-answers g c =
    done_answers (texts c.args.words.now) (accepts_of c.in-Ok.accepted) (g.S.Shelf.state c.args.shelf.now) (g.S.Shelf.state c.accept.new.shelf) c.in-Ok.ensures.gives c.in-Ok-check_side.ensures.accepted

-- ---- memory is wanting

pub returns-clause-usage : goal.returns-clause-usage
returns-clause-usage g c = memory_usage (texts c.args.words.now) c.in-Ok.ensures.usage

pub returns-clause-works : goal.returns-clause-works
returns-clause-works g c = memory_works (texts c.args.words.now) (g.S.Shelf.state c.args.shelf.now) (g.S.Shelf.state c.accept.new.shelf) c.in-Ok.ensures.keeps

pub returns-clause-answers : goal.returns-clause-answers
returns-clause-answers g c = memory_answers (texts c.args.words.now) (g.S.Shelf.state c.args.shelf.now) (g.S.Shelf.state c.accept.new.shelf)
