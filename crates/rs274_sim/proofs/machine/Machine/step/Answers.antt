use Rattle.std.proofs.Common.{◌≡◌, Ok, ap, sym, ◌∙◌, length, arith, List, ℤ, Option}
use Rattle.board_base.specs.declared.places.Move.{Move}
use Rattle.rs274_sim.specs.Machine.{Machine, step, after, move_of, fault_of}
use Rattle.rs274_sim.specs.Shown.{begun, bare}
use Rattle.rs274_sim.specs.Kept.{shown}
use Rattle.rs274_sim.specs.Table.{table, paired}
use Rattle.rs274_sim.proofs.StepLaws.{step_stops, step_fault, step_goes, no_fault}
use Rattle.rs274_sim.proofs.machine.Machine.step.Goals as goal

pub returns-in-Err-clause-exact : goal.returns-in-Err-clause-exact
returns-in-Err-clause-exact c =
    let line = c.args.line.now in
    let items = c.deref.ensures.value ∙ c.all.ensures in
    step_stops c.args.probes.now.items c.args.number line (shown c.args.self.now) c.in-Err.fault (ap (λ ns. begun (table ns) line) (sym items) ∙ c.in-Err.ensures)

pub returns-in-Some-clause-exact : goal.returns-in-Some-clause-exact
returns-in-Some-clause-exact c =
    let line = c.args.line.now in
    let said = c.in-Ok.said in
    let items = c.deref.ensures.value ∙ c.all.ensures in
    step_fault c.args.probes.now.items c.args.number line (shown c.args.self.now) said (paired line.settings c.read_line.new.numbers) c.in-Some.fault
    (ap (λ ns. begun (table ns) line) (sym items) ∙ c.in-Ok.ensures)
    (ap (λ xs. fault_of xs said (shown c.args.self.now)) (sym c.deref-answers.ensures.value) ∙ sym c.fault_of.ensures ∙ c.in-Some.is)

pub move_of-made-requires : goal.move_of-made-requires
move_of-made-requires c = (no_fault c.deref-answers.result.now c.in-Ok.said (bare c.args.self.now.state) (sym c.fault_of.ensures ∙ c.in_default.is)).1

pub carry_out-requires-clause-long : goal.carry_out-requires-clause-long
carry_out-requires-clause-long c =
    let same : length c.deref-2.result.now ≡ length c.args.line.now.settings = ap length (c.deref-2.ensures.value ∙ c.inner.ensures) in
    let size = c.read_line.auto.numbers in
    let few = c.requires.few in
    omega (arith, same, size, few)

pub carry_out-requires-clause-answered : goal.carry_out-requires-clause-answered
carry_out-requires-clause-answered c = (no_fault c.deref-answers.result.now c.in-Ok.said (bare c.args.self.now.state) (sym c.fault_of.ensures ∙ c.in_default.is)).0

pub carry_out-requires-clause-met : goal.carry_out-requires-clause-met
carry_out-requires-clause-met c = (no_fault c.deref-answers.result.now c.in-Ok.said (bare c.args.self.now.state) (sym c.fault_of.ensures ∙ c.in_default.is)).1

pub returns-clause-exact : goal.returns-clause-exact
returns-clause-exact c =
    let line = c.args.line.now in
    let said = c.in-Ok.said in
    let m = shown c.args.self.now in
    let n = c.args.number in
    let ns = c.read_line.new.numbers in
    let seen : List ℤ = c.deref-answers.result.now in
    let items = c.deref.ensures.value ∙ c.all.ensures in
    let same = c.deref-2.ensures.value ∙ c.inner.ensures in
    let base = step_goes seen n line m said (paired line.settings ns) (ap (λ ns. begun (table ns) line) (sym items) ∙ c.in-Ok.ensures) (sym c.fault_of.ensures ∙ c.in_default.is) in
    let next : shown c.carry_out.new.self ≡ after seen said (paired line.settings ns) m = c.carry_out.ensures ∙ ap (λ ss. after seen said (paired ss ns) m) same in
    let made : c.move_of-made.result ≡ move_of seen n said m = c.move_of-made.ensures in
    ap (λ xs. step xs n line m) (sym c.deref-answers.ensures.value) ∙ base
    ∙ ap (λ (x : Machine). Ok (x, move_of seen n said m)) (sym next) ∙ ap (λ (mv : Option Move). Ok (shown c.carry_out.new.self, mv)) (sym made)
