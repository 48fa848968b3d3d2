use Rattle.std.proofs.Common.{rules, ◌≡◌, ◌++◌, ◌*◌, ap, sym, ◌∙◌, append_assoc}
use Rattle.std.specs.List.{flat_map, range_with_len}
use Rattle.mill_program.specs.Lines.{words, height_line}
use Rattle.mill_program.specs.GridLines.{probe_lines}
use Rattle.grid_writer.specs.Spelling.{line_bytes, text_over}
use Rattle.grid_writer.proofs.TextLaws.{text_flat}
use Rattle.grid_writer.proofs.probing.write_grid.Goals as goal

pub returns : goal.returns
returns c =
    let before = c.args.out.now.items in
    let g = c.args.grid.now in
    let probes = range_with_len 0 (g.nx * g.ny) in
    let texts = flat_map (λ k. text_over (probe_lines c.args.safe g k)) probes in
    let up = line_bytes (words (height_line c.args.safe)) in
    let high : c.write_height.new.out.items ≡ before ++ up = search rules in
    let probed : c.write_probes.new.out.items ≡ c.write_height.new.out.items ++ texts = search rules in
    probed ∙ ap (λ t. t ++ texts) high ∙ append_assoc before up texts ∙ ap (λ t. before ++ (up ++ t)) (sym (text_flat (probe_lines c.args.safe g) probes))
