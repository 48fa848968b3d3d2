use Rattle.std.proofs.Common.{Err, subst}
use Rattle.std.proofs.lemmas.Result.{err_from_is_err_and}
use Rattle.job_file.specs.declared.job.Job.{Job}
use Rattle.job_file.specs.Reading.{texts}
use Rattle.endings.specs.Answers.{MakesOf}
use Rattle.checking.specs.Words.{check_words_of}
use Rattle.checking.specs.Accepted.{side_job_in, inputs_held}
use Rattle.checking.proofs.AcceptLaws.{refuses_words, refuses_text, refuses_job, refuses_inputs, gives_contents, usage_of_words, usage_behind_words}
use Rattle.checking.proofs.acceptance.accept.Goals as goal

pub returns-in-Err-clause-gives : goal.returns-in-Err-clause-gives
returns-in-Err-clause-gives g c = refuses_words (texts c.args.words.now) c.in-Err.number c.usage.result (g.S.Shelf.state c.args.shelf.now) (g.S.Shelf.state c.args.shelf.now) c.in-Err.ensures.value c.usage.ensures

pub returns-in-Err-clause-usage : goal.returns-in-Err-clause-usage
returns-in-Err-clause-usage g c = usage_of_words (texts c.args.words.now) c.in-Err.number c.usage.result c.in-Err.ensures.value c.usage.ensures

pub returns-in_err-text-clause-gives : goal.returns-in_err-text-clause-gives
returns-in_err-text-clause-gives g c =
    let p = err_from_is_err_and c.from_residual.result c.from_residual.ensures.1 in
    rw (p.1, p.2) (refuses_text (texts c.args.words.now) (check_words_of c.in-Ok.given) c.in_err-text.field-0.0 (g.S.Shelf.state c.args.shelf.now) (g.S.Shelf.state c.read_job_text.new.shelf)
    c.in-Ok.ensures.value c.in_err-text.ensures.gives)

pub returns-in_err-text-clause-usage : goal.returns-in_err-text-clause-usage
returns-in_err-text-clause-usage g c =
    usage_behind_words (texts c.args.words.now) (check_words_of c.in-Ok.given) (g.S.Shelf.state c.args.shelf.now) (g.S.Shelf.state c.read_job_text.new.shelf) c.from_residual.result c.in-Ok.ensures.value (returns-in_err-text-clause-gives g c)

pub returns-in_err-job-clause-gives : goal.returns-in_err-job-clause-gives
returns-in_err-job-clause-gives g c =
    let p = err_from_is_err_and c.from_residual-in_err-job.result c.from_residual-in_err-job.ensures.1 in
    rw (p.1, p.2) (refuses_job (λ (job : Job). job) (texts c.args.words.now) (check_words_of c.in-Ok.given) c.in_ok-text.text.items c.in_err-job.field-0.0 (g.S.Shelf.state c.args.shelf.now) (g.S.Shelf.state c.read_job_text.new.shelf)
    c.in-Ok.ensures.value c.in_ok-text.ensures.gives
    (subst (λ bytes. MakesOf {X = Job} {Y = Job} (λ job. job) (side_job_in c.in-Ok.given.side bytes (texts c.args.words.now)) (Err c.in_err-job.field-0.0)) c.deref.ensures.value c.in_err-job.ensures.made))

pub returns-in_err-job-clause-usage : goal.returns-in_err-job-clause-usage
returns-in_err-job-clause-usage g c =
    usage_behind_words (texts c.args.words.now) (check_words_of c.in-Ok.given) (g.S.Shelf.state c.args.shelf.now) (g.S.Shelf.state c.read_job_text.new.shelf) c.from_residual-in_err-job.result c.in-Ok.ensures.value (returns-in_err-job-clause-gives g c)

pub returns-in_err-raw-clause-gives : goal.returns-in_err-raw-clause-gives
returns-in_err-raw-clause-gives g c =
    let p = err_from_is_err_and c.from_residual-in_err-raw.result c.from_residual-in_err-raw.ensures.1 in
    rw (p.1, p.2) (refuses_inputs (texts c.args.words.now) (check_words_of c.in-Ok.given) c.in_ok-text.text.items c.in_ok-job.job c.in_err-raw.field-0.0
    (g.S.Shelf.state c.args.shelf.now) (g.S.Shelf.state c.read_job_text.new.shelf) (g.S.Shelf.state c.read_inputs.new.shelf)
    c.in_ok-text.ensures.keeps c.in-Ok.ensures.value c.in_ok-text.ensures.gives (rw c.deref.ensures.value at c.in_ok-job.ensures.made) c.in_err-raw.ensures.gives)

pub returns-in_err-raw-clause-usage : goal.returns-in_err-raw-clause-usage
returns-in_err-raw-clause-usage g c =
    usage_behind_words (texts c.args.words.now) (check_words_of c.in-Ok.given) (g.S.Shelf.state c.args.shelf.now) (g.S.Shelf.state c.read_inputs.new.shelf) c.from_residual-in_err-raw.result c.in-Ok.ensures.value (returns-in_err-raw-clause-gives g c)

pub returns-clause-gives : goal.returns-clause-gives
returns-clause-gives g c =
    gives_contents (texts c.args.words.now) (check_words_of c.in-Ok.given) c.in_ok-text.text.items c.in_ok-job.job (inputs_held c.in_ok-raw.raw)
    (g.S.Shelf.state c.args.shelf.now) (g.S.Shelf.state c.read_job_text.new.shelf) (g.S.Shelf.state c.read_inputs.new.shelf) c.read_contents.result
    c.in_ok-text.ensures.keeps c.in-Ok.ensures.value c.in_ok-text.ensures.gives (rw c.deref.ensures.value at c.in_ok-job.ensures.made) c.in_ok-raw.ensures.gives c.read_contents.ensures.made

pub returns-clause-usage : goal.returns-clause-usage
returns-clause-usage g c =
    usage_behind_words (texts c.args.words.now) (check_words_of c.in-Ok.given) (g.S.Shelf.state c.args.shelf.now) (g.S.Shelf.state c.read_inputs.new.shelf) c.read_contents.result c.in-Ok.ensures.value (returns-clause-gives g c)
