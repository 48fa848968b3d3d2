use Rattle.std.proofs.Common.{sym, ◌∙◌, subst, ◌-◌, true}
use Rattle.rs274_sim.specs.Text.{left_after, term_after}
use Rattle.std.proofs.lemmas.Result.{err_from_is_err_and}
use Rattle.rs274_sim.specs.Reading.{BadExpression, value_at, steps_at}
use Rattle.ngc_reader.specs.Gives.{Gives, Fails}
use Rattle.ngc_reader.specs.Views.{left_of, operation_of_sign}
use Rattle.ngc_reader.proofs.StepLaws.{at_end, at_closing, at_none, at_operation, at_value, fails_bind}
use Rattle.ngc_reader.proofs.values.+values.Goals as goal

pub steps_at-returns-in_default : goal.steps_at-returns-in_default
steps_at-returns-in_default t c =
    let l = c.loop-most in
    sym l.invariant ∙ at_end (value_at c.args.depth BadExpression) l.most l.some (left_of l.chain) l.chain.term l.rest.now c.in_default.ensures.cases

pub steps_at-returns-then-byte-eq93 : goal.steps_at-returns-then-byte-eq93
steps_at-returns-then-byte-eq93 t c =
    let l = c.loop-most in
    subst (Gives (λ x. (x.0, x.1.now)) c.closed.result)
    (sym (at_closing (value_at c.args.depth BadExpression) l.most l.some (left_of l.chain) l.chain.term l.rest.now c.in-Some.byte.now c.in-Some.after.now c.loop-most-test.true c.in-Some.ensures.cases.0 c.if-byte-eq93.true) ∙ l.invariant)
    c.closed.ensures

pub steps_at-returns-in_default-operation_of : goal.steps_at-returns-in_default-operation_of
steps_at-returns-in_default-operation_of t c =
    let l = c.loop-most in
    sym l.invariant
    ∙ at_none (value_at c.args.depth BadExpression) l.most l.some (left_of l.chain) l.chain.term l.rest.now c.in-Some.byte.now c.in-Some.after.now c.loop-most-test.true c.in-Some.ensures.cases.0 c.if-byte-eq93.false
    c.in_default-operation_of.ensures

pub steps_at-returns-in_err-value : goal.steps_at-returns-in_err-value
steps_at-returns-in_err-value t c =
    let l = c.loop-most in
    let p = err_from_is_err_and c.from_residual.result c.from_residual.ensures.1 in
    let op = operation_of_sign c.in-Some-operation_of.sign in
    let read = value_at c.args.depth BadExpression in
    let next = at_operation read l.most l.some (left_of l.chain) l.chain.term l.rest.now c.in-Some.byte.now c.in-Some.after.now op c.loop-most-test.true c.in-Some.ensures.cases.0 c.if-byte-eq93.false c.in-Some-operation_of.ensures in
    rw (p.1, p.2)
    (subst (Fails c.in_err-value.field-0.0) (sym next ∙ l.invariant)
    (fails_bind c.in_err-value.field-0.0 (read c.in-Some.after.now) (λ v. steps_at read (l.most - 1) true (left_after op (left_of l.chain) l.chain.term) (term_after op l.chain.term v.0) v.1) c.in_err-value.ensures))

pub steps_at-loop-most-preserved : goal.steps_at-loop-most-preserved
steps_at-loop-most-preserved t c =
    let l = c.loop-most in
    let op = operation_of_sign c.in-Some-operation_of.sign in
    let found = c.in_ok-value.ensures in
    let more = c.in_ok-chain.ensures in
    at_value (value_at c.args.depth BadExpression) l.most l.some (left_of l.chain) (left_of c.in_ok-chain.chain) l.chain.term c.in_ok-chain.chain.term l.rest.now c.in-Some.byte.now c.in-Some.after.now c.in_ok-value.behind.now op
    c.in_ok-value.value c.loop-most-test.true c.in-Some.ensures.cases.0 c.if-byte-eq93.false c.in-Some-operation_of.ensures found more.0 more.1 ∙ l.invariant
