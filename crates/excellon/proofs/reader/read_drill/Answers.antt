use Rattle.std.proofs.Common.{◌≡◌, ◌<◌, ◌-◌, sym, ◌∙◌, ap, inr, Err, Ok, Some, None, Result, length, rules, arith}
use Rattle.std.proofs.lemmas.Grind.{common_steps}
use Rattle.excellon.specs.Checks.{fault_of}
use Rattle.excellon.specs.Reached.{lines_left}
use Rattle.excellon.specs.State.{kept}
use Rattle.excellon.specs.declared.file.DrillError.{DrillError}
use Rattle.excellon.proofs.ReachedLaws.{begins, is_refused, went_on, at_end, next_left}
use Rattle.excellon.proofs.reader.read_drill.Goals as goal

pub lines-init : goal.lines-init
lines-init c = record { reached = begins c.args.bytes.now (kept c.new-state.result) c.new-state.ensures.value; ready = c.new-state.ensures.ready }

pub returns-in-Err-Fault-clause-outcome : goal.returns-in-Err-Fault-clause-outcome
returns-in-Err-Fault-clause-outcome c =
    let bytes = c.args.bytes.now in
    let fault : fault_of (kept c.lines.state) c.in-Some-said.said ≡ Some c.refusal-in-Err-Fault.result.kind = search rules in
    let at : c.refusal-in-Err-Fault.result.at ≡ length bytes - length c.lines.rest.now = search rules in
    let line = next_left bytes c.lines.rest.now c.in-Some.behind.now c.in-Some.text.now (kept c.lines.state) c.lines.invariant.reached c.in-Some.ensures.shorter c.in-Some.ensures.offsets in
    inr (is_refused bytes (kept c.lines.state) (record { offset = length bytes - length c.lines.rest.now; text = c.in-Some.text.now }) (lines_left bytes c.in-Some.behind.now) c.lines.rest.now c.in-Some-said.said
    c.refusal-in-Err-Fault.result.kind c.lines.invariant.reached line (sym c.said.ensures.value ∙ c.in-Some-said.is) fault ∙ ap (λ n. Err (record { kind = c.refusal-in-Err-Fault.result.kind; at = n })) (sym at))

pub lines-preserved : goal.lines-preserved
lines-preserved c =
    let bytes = c.args.bytes.now in
    let line = next_left bytes c.lines.rest.now c.in-Some.behind.now c.in-Some.text.now (kept c.lines.state) c.lines.invariant.reached c.in-Some.ensures.shorter c.in-Some.ensures.offsets in
    record {
      reached = went_on bytes (kept c.lines.state) (kept c.step.new.self) (record { offset = length bytes - length c.lines.rest.now; text = c.in-Some.text.now }) c.lines.rest.now c.in-Some.behind.now c.in-Some-said.said
          c.lines.invariant.reached line (sym c.said.ensures.value ∙ c.in-Some-said.is) c.in-Ok.ensures.steps.0 (sym c.is_end.ensures ∙ c.if-is_end.false) c.in-Ok.ensures.steps.1 c.in-Some.ensures.shorter;
      ready = c.in-Ok.ensures.ready;
    }
