use Rattle.std.proofs.Common.{Vec, Global, ℕ}
use Rattle.std.specs.Option.{option_map}
use Rattle.std.proofs.lemmas.Result.{err_from_is_err_and}
use Rattle.mill_inputs.proofs.StepLaws.{reads_on}
use Rattle.mill_inputs.proofs.InputLaws.{with_sides, refuses_front, refuses_back, gives_sides, refuses_drill, refuses_outline, gives_all}
use Rattle.mill_inputs.proofs.inputs.read_inputs.Goals as goal

pub returns-in_err-front-clause-gives : goal.returns-in_err-front-clause-gives
returns-in_err-front-clause-gives g c =
    let p = err_from_is_err_and c.from_residual.result c.from_residual.ensures.1 in
    rw (p.1, p.2) (refuses_front c.args.job.now c.in_err-front.field-0.0 (g.S.Shelf.state c.args.shelf.now) (g.S.Shelf.state c.read_named.new.shelf) c.in_err-front.ensures.gives)

pub returns-in_err-back-clause-gives : goal.returns-in_err-back-clause-gives
returns-in_err-back-clause-gives g c =
    let p = err_from_is_err_and c.from_residual-in_err-back.result c.from_residual-in_err-back.ensures.1 in
    rw (p.1, p.2) (refuses_back c.args.job.now (option_map (λ (v : Vec ℕ Global). v.items) c.in_ok-front.front) c.in_err-back.field-0.0
    (g.S.Shelf.state c.args.shelf.now) (g.S.Shelf.state c.read_named.new.shelf) (g.S.Shelf.state c.read_named-2.new.shelf)
    c.in_ok-front.ensures.keeps c.in_ok-front.ensures.gives c.in_err-back.ensures.gives)

pub returns-in_err-drill-clause-gives : goal.returns-in_err-drill-clause-gives
returns-in_err-drill-clause-gives g c =
    let p = err_from_is_err_and c.from_residual-in_err-drill.result c.from_residual-in_err-drill.ensures.1 in
    let before = g.S.Shelf.state c.args.shelf.now in
    let between = g.S.Shelf.state c.read_named.new.shelf in
    let later = g.S.Shelf.state c.read_named-2.new.shelf in
    let front = option_map (λ (v : Vec ℕ Global). v.items) c.in_ok-front.front in
    let back = option_map (λ (v : Vec ℕ Global). v.items) c.in_ok-back.back in
    rw (p.1, p.2) (refuses_drill c.args.job.now (with_sides front back) c.in_err-drill.field-0.0 before later (g.S.Shelf.state c.read_named-3.new.shelf)
    (reads_on before between later c.in_ok-front.ensures.keeps c.in_ok-back.ensures.keeps)
    (gives_sides c.args.job.now front back before between c.in_ok-front.ensures.keeps c.in_ok-front.ensures.gives c.in_ok-back.ensures.gives)
    c.in_err-drill.ensures.gives)

pub returns-in_err-outline-clause-gives : goal.returns-in_err-outline-clause-gives
returns-in_err-outline-clause-gives g c =
    let p = err_from_is_err_and c.from_residual-in_err-outline.result c.from_residual-in_err-outline.ensures.1 in
    let before = g.S.Shelf.state c.args.shelf.now in
    let between = g.S.Shelf.state c.read_named.new.shelf in
    let later = g.S.Shelf.state c.read_named-2.new.shelf in
    let front = option_map (λ (v : Vec ℕ Global). v.items) c.in_ok-front.front in
    let back = option_map (λ (v : Vec ℕ Global). v.items) c.in_ok-back.back in
    rw (p.1, p.2) (refuses_outline c.args.job.now (with_sides front back) (option_map (λ (v : Vec ℕ Global). v.items) c.in_ok-drill.drill) c.in_err-outline.field-0.0
    before later (g.S.Shelf.state c.read_named-3.new.shelf) (g.S.Shelf.state c.read_named-4.new.shelf)
    (reads_on before between later c.in_ok-front.ensures.keeps c.in_ok-back.ensures.keeps) c.in_ok-drill.ensures.keeps
    (gives_sides c.args.job.now front back before between c.in_ok-front.ensures.keeps c.in_ok-front.ensures.gives c.in_ok-back.ensures.gives)
    c.in_ok-drill.ensures.gives c.in_err-outline.ensures.gives)

pub returns-clause-gives : goal.returns-clause-gives
returns-clause-gives g c =
    let before = g.S.Shelf.state c.args.shelf.now in
    let between = g.S.Shelf.state c.read_named.new.shelf in
    let later = g.S.Shelf.state c.read_named-2.new.shelf in
    let front = option_map (λ (v : Vec ℕ Global). v.items) c.in_ok-front.front in
    let back = option_map (λ (v : Vec ℕ Global). v.items) c.in_ok-back.back in
    gives_all c.args.job.now (with_sides front back) (option_map (λ (v : Vec ℕ Global). v.items) c.in_ok-drill.drill) (option_map (λ (v : Vec ℕ Global). v.items) c.in_ok-outline.outline)
    before later (g.S.Shelf.state c.read_named-3.new.shelf)
    (reads_on before between later c.in_ok-front.ensures.keeps c.in_ok-back.ensures.keeps) c.in_ok-drill.ensures.keeps
    (gives_sides c.args.job.now front back before between c.in_ok-front.ensures.keeps c.in_ok-front.ensures.gives c.in_ok-back.ensures.gives)
    c.in_ok-drill.ensures.gives c.in_ok-outline.ensures.gives
