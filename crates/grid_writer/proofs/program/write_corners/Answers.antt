use Rattle.std.proofs.Common.{rules, ◌≡◌, ◌++◌, ap, ◌∙◌, true}
use Rattle.mill_program.specs.Lines.{words, height_line, over_line}
use Rattle.mill_program.specs.GridLines.{plunge_over, steps_over}
use Rattle.grid_writer.specs.Spelling.{line_bytes, text_over}
use Rattle.grid_writer.proofs.TextLaws.{cut_text}
use Rattle.grid_writer.proofs.program.write_corners.Goals as goal

pub returns : goal.returns
returns c =
    let before = c.args.out.now.items in
    let p = c.args.p.now in
    let run = c.args.run.now in
    let over = line_bytes (words (over_line c.args.first)) in
    let down = line_bytes (words (plunge_over p.grid run c.args.first)) in
    let steps = steps_over p.grid run true c.args.first c.args.rest.now in
    let up = words (height_line p.safe) in
    let high : c.write_height.new.out.items ≡ c.write_steps.new.out.items ++ line_bytes up = search rules in
    high
    ∙ ap (λ t. t ++ line_bytes up) (c.in_ok-write_steps.ensures ∙ ap (λ t. t ++ text_over steps) (c.in_ok-write_plunge.ensures ∙ ap (λ t. t ++ down) c.in_ok-write_over_corner.ensures))
    ∙ cut_text before over down steps up
