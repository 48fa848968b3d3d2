use Rattle.std.proofs.Common.{◌≡◌, ◌<◌, ◌+◌, ◌++◌, Ok, true, false, drop, length, arith, ap, sym, ◌∙◌, List}
use Rattle.std.proofs.lemmas.Grind.{common_steps}
use Rattle.board_base.specs.declared.places.Move.{Move}
use Rattle.rs274_sim.specs.Machine.{is_end, run_of}
use Rattle.rs274_sim.specs.Kept.{shown}
use Rattle.rs274_sim.specs.Made.{made_from}
use Rattle.rs274_sim.proofs.MadeLaws.{begin, ran, halted, fault_line, end_line, more_lines, add_behind}
use Rattle.rs274_sim.proofs.runs.moves.Goals as goal

pub loop-k-init : goal.loop-k-init
loop-k-init c =
    let first = begin c.args.probes.now.items c.args.lines.now.items (shown c.in-Ok.machine) c.in-Ok.ensures in
    record {
      stop = first.0;
      made = ap (λ (ms : List Move). ms ++ made_from c.args.probes.now.items 0 (shown c.in-Ok.machine) c.args.lines.now.items) c.new-made.ensures.items ∙ first.1;
    }

pub returns-in-Err-step : goal.returns-in-Err-step
returns-in-Err-step c =
    let l = c.loop-k in
    let lines = c.args.lines.now.items in
    let answers = c.args.probes.now.items in
    let inside : l.k < length lines = grind (arith, common_steps) in
    let found = fault_line answers lines l.k c.index-line.result.now (shown l.machine) c.in-Err-step.fault inside c.index-line.ensures c.in-Err-step.ensures.exact in
    halted (run_of answers lines) (c.in-Err-step.fault, l.k + 1) (sym l.invariant.stop ∙ found.0)

pub returns-then-is_end : goal.returns-then-is_end
returns-then-is_end c =
    let l = c.loop-k in
    let lines = c.args.lines.now.items in
    let answers = c.args.probes.now.items in
    let line = c.index-line.result.now in
    let mv = c.in-Ok-step.m in
    let inside : l.k < length lines = grind (arith, common_steps) in
    let words = c.deref.ensures.value ∙ c.inner.ensures in
    let ends : is_end line.words ≡ true = ap is_end (sym words) ∙ sym c.is_end.ensures ∙ c.if-is_end.true in
    let found = end_line answers lines l.k line (shown l.machine) (shown c.step.new.self) mv inside c.index-line.ensures c.in-Ok-step.ensures.exact ends in
    ran answers lines (sym l.invariant.stop ∙ found.0) ∙ ap Ok (sym l.invariant.made ∙ ap (λ (ms : List Move). l.made.items ++ ms) found.1 ∙ sym c.in_default.ensures)

pub loop-k-preserved : goal.loop-k-preserved
loop-k-preserved c =
    let l = c.loop-k in
    let lines = c.args.lines.now.items in
    let answers = c.args.probes.now.items in
    let line = c.index-line.result.now in
    let mv = c.in-Ok-step.m in
    let inside : l.k < length lines = grind (arith, common_steps) in
    let words = c.deref.ensures.value ∙ c.inner.ensures in
    let goes : is_end line.words ≡ false = ap is_end (sym words) ∙ sym c.is_end.ensures ∙ c.if-is_end.false in
    let found = more_lines answers lines l.k line (shown l.machine) (shown c.step.new.self) mv inside c.index-line.ensures c.in-Ok-step.ensures.exact goes in
    let rest : List Move = made_from answers (l.k + 1) (shown c.step.new.self) (drop (l.k + 1) lines) in
    record {
      stop = sym found.0 ∙ l.invariant.stop;
      made = ap (λ (ms : List Move). ms ++ rest) c.in_default.ensures ∙ add_behind mv l.made.items rest ∙ ap (λ (ms : List Move). l.made.items ++ ms) (sym found.1) ∙ l.invariant.made;
    }
