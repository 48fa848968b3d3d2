use Rattle.std.proofs.Common.{◌<◌, length, rules}
use Rattle.std.proofs.lemmas.Result.{err_from_is_err_and}
use Rattle.rs274_sim.specs.Table.{table}
use Rattle.rs274_sim.proofs.TableLaws.{fault_at, more_words}
use Rattle.rs274_sim.proofs.evaluate.check_words.Goals as goal

pub returns-in_err-value_of : goal.returns-in_err-value_of
returns-in_err-value_of c =
    let p = err_from_is_err_and c.from_residual.result c.from_residual.ensures.1 in
    let l = c.loop-word in
    let inside : l.word-index < length c.args.words.now = search rules in
    rw (p.1, p.2) (fault_at (table c.args.params.now) c.args.words.now l.word-index c.word-item.result c.in_err-value_of.field-0.0 inside (search rules) l.invariant c.in_err-value_of.ensures)

pub loop-word-preserved : goal.loop-word-preserved
loop-word-preserved c =
    let l = c.loop-word in
    let inside : l.word-index < length c.args.words.now = search rules in
    more_words (table c.args.params.now) c.args.words.now l.word-index c.word-item.result c.in_ok-value_of.field-0 inside (search rules) l.invariant c.in_ok-value_of.ensures
