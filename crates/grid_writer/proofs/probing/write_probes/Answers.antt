use Rattle.std.proofs.Common.{rules, arith, ℕ, List, ◌≡◌, ◌+◌, ◌*◌, ◌++◌, ap, ◌∙◌}
use Rattle.std.specs.List.{flat_map, range_with_len}
use Rattle.mill_program.specs.GridLines.{probe_lines}
use Rattle.grid_writer.specs.Spelling.{text_over}
use Rattle.grid_writer.proofs.ProbeLaws.{numbered_more}
use Rattle.grid_writer.proofs.probing.write_probes.Goals as goal

pub loop-probe-preserved : goal.loop-probe-preserved
loop-probe-preserved c =
    let f : ℕ → List ℕ = λ k. text_over (probe_lines c.args.safe c.args.grid.now k) in
    let k = c.loop-probe.probe in
    let before = c.args.out.now.items in
    let added : c.write_probe.new.out.items ≡ c.loop-probe.out.items ++ f k = search rules in
    let stood : c.loop-probe.out.items ≡ before ++ flat_map f (range_with_len 0 k) = search rules in
    let told : c.write_probe.new.out.items ≡ before ++ flat_map f (range_with_len 0 (k + 1)) = added ∙ ap (λ t. t ++ f k) stood ∙ numbered_more f k before in
    search (rules, told)

pub returns : goal.returns
returns c =
    let f : ℕ → List ℕ = λ k. text_over (probe_lines c.args.safe c.args.grid.now k) in
    let g = c.args.grid.now in
    let before = c.args.out.now.items in
    let stood : c.loop-probe.out.items ≡ before ++ flat_map f (range_with_len 0 c.loop-probe.probe) = search rules in
    let all : c.loop-probe.probe ≡ g.nx * g.ny = omega (arith, c.loop-probe.auto.probe-end, c.loop-probe-test.false) in
    stood ∙ ap (λ n. before ++ flat_map f (range_with_len 0 n)) all
