use Rattle.std.proofs.Common.{◌≡◌, ◌<◌, ◌+◌, [], true, false, drop, length, arith, ap, sym, ◌∙◌, List}
use Rattle.std.proofs.lemmas.Grind.{common_steps}
use Rattle.board_base.specs.declared.places.Move.{Move}
use Rattle.move_watch.specs.Watched.{watched}
use Rattle.rs274_sim.specs.Machine.{is_end, run_of}
use Rattle.rs274_sim.specs.Kept.{shown}
use Rattle.rs274_sim.specs.Made.{made_from}
use Rattle.rs274_sim.proofs.MadeLaws.{begin, ran, halted, fault_line, end_line, more_lines, count_behind, few_moves}
use Rattle.rs274_sim.proofs.runs.run.Goals as goal

pub loop-k-init : goal.loop-k-init
loop-k-init g c =
    let first = begin c.args.probes.now.items c.args.lines.now.items (shown c.in-Ok.machine) c.in-Ok.ensures in
    let size = ap length first.1 in
    record {
      stop = first.0;
      count = omega (arith, size);
      few = omega arith;
      seen = ap (λ (ms : List Move). watched ms (g.V.Viewer.views c.args.patrol.now)) first.1;
    }

pub returns-in-Err-step-clause-value : goal.returns-in-Err-step-clause-value
returns-in-Err-step-clause-value g c =
    let l = c.loop-k in
    let lines = c.args.lines.now.items in
    let answers = c.args.probes.now.items in
    let inside : l.k < length lines = grind (arith, common_steps) in
    let found = fault_line answers lines l.k c.index-line.result.now (shown l.machine) c.in-Err-step.fault inside c.index-line.ensures c.in-Err-step.ensures.exact in
    halted (run_of answers lines) (c.in-Err-step.fault, l.k + 1) (sym l.invariant.stop ∙ found.0)

pub returns-in-Err-step-clause-shown : goal.returns-in-Err-step-clause-shown
returns-in-Err-step-clause-shown g c =
    let l = c.loop-k in
    let lines = c.args.lines.now.items in
    let answers = c.args.probes.now.items in
    let inside : l.k < length lines = grind (arith, common_steps) in
    let found = fault_line answers lines l.k c.index-line.result.now (shown l.machine) c.in-Err-step.fault inside c.index-line.ensures c.in-Err-step.ensures.exact in
    sym (ap (λ (ms : List Move). watched ms (g.V.Viewer.views l.patrol)) found.1) ∙ l.invariant.seen

pub returns-then-is_end-clause-value : goal.returns-then-is_end-clause-value
returns-then-is_end-clause-value g c =
    let l = c.loop-k in
    let lines = c.args.lines.now.items in
    let answers = c.args.probes.now.items in
    let line = c.index-line.result.now in
    let mv = c.in-Ok-step.m in
    let inside : l.k < length lines = grind (arith, common_steps) in
    let words = c.deref.ensures.value ∙ c.inner.ensures in
    let ends : is_end line.words ≡ true = ap is_end (sym words) ∙ sym c.is_end.ensures ∙ c.if-is_end.true in
    let found = end_line answers lines l.k line (shown l.machine) (shown c.step.new.self) mv inside c.index-line.ensures c.in-Ok-step.ensures.exact ends in
    let size = ap length found.1 in
    let one = c.show_made-count.ensures.count in
    let before = l.invariant.count in
    (ran answers lines (sym l.invariant.stop ∙ found.0), omega (arith, size, one, before))

pub returns-then-is_end-clause-shown : goal.returns-then-is_end-clause-shown
returns-then-is_end-clause-shown g c =
    let l = c.loop-k in
    let lines = c.args.lines.now.items in
    let answers = c.args.probes.now.items in
    let line = c.index-line.result.now in
    let mv = c.in-Ok-step.m in
    let inside : l.k < length lines = grind (arith, common_steps) in
    let words = c.deref.ensures.value ∙ c.inner.ensures in
    let ends : is_end line.words ≡ true = ap is_end (sym words) ∙ sym c.is_end.ensures ∙ c.if-is_end.true in
    let found = end_line answers lines l.k line (shown l.machine) (shown c.step.new.self) mv inside c.index-line.ensures c.in-Ok-step.ensures.exact ends in
    c.show_made-count.ensures.shown [] ∙ sym (ap (λ (ms : List Move). watched ms (g.V.Viewer.views l.patrol)) found.1) ∙ l.invariant.seen

pub loop-k-preserved : goal.loop-k-preserved
loop-k-preserved g c =
    let l = c.loop-k in
    let lines = c.args.lines.now.items in
    let answers = c.args.probes.now.items in
    let line = c.index-line.result.now in
    let mv = c.in-Ok-step.m in
    let inside : l.k < length lines = grind (arith, common_steps) in
    let words = c.deref.ensures.value ∙ c.inner.ensures in
    let goes : is_end line.words ≡ false = ap is_end (sym words) ∙ sym c.is_end.ensures ∙ c.if-is_end.false in
    let found = more_lines answers lines l.k line (shown l.machine) (shown c.step.new.self) mv inside c.index-line.ensures c.in-Ok-step.ensures.exact goes in
    let rest : List Move = made_from answers (l.k + 1) (shown c.step.new.self) (drop (l.k + 1) lines) in
    let size = ap length found.1 in
    let one = c.show_made-count.ensures.count in
    let before = l.invariant.count in
    let both = count_behind mv rest in
    let most = few_moves mv in
    let low = l.invariant.few in
    record {
      stop = sym found.0 ∙ l.invariant.stop;
      count = omega (arith, size, one, before, both);
      few = omega (arith, one, most, low);
      seen = c.show_made-count.ensures.shown rest ∙ sym (ap (λ (ms : List Move). watched ms (g.V.Viewer.views l.patrol)) found.1) ∙ l.invariant.seen;
    }
