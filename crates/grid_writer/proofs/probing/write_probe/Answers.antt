use Rattle.std.proofs.Common.{rules, ◌≡◌, ◌++◌, ap, ◌∙◌}
use Rattle.board_base.specs.declared.places.Point.{Point}
use Rattle.mill_program.specs.Lines.{words, height_line}
use Rattle.mill_program.specs.Probes.{probe_place}
use Rattle.mill_program.specs.GridLines.{over_place, contact_line, answer_line}
use Rattle.grid_writer.specs.Spelling.{line_bytes}
use Rattle.grid_writer.proofs.TextLaws.{four_lines}
use Rattle.grid_writer.proofs.probing.write_probe.Goals as goal

pub returns : goal.returns
returns c =
    let before = c.args.out.now.items in
    let g = c.args.grid.now in
    let over = line_bytes (words (over_place (probe_place g c.args.probe))) in
    let down = line_bytes (words (contact_line g)) in
    let kept = line_bytes (answer_line c.args.probe) in
    let up = line_bytes (words (height_line c.args.safe)) in
    let there : c.write_over_place.new.out.items ≡ before ++ over = c.in_ok-write_over_place.ensures ∙ ap (λ (q : Point). before ++ line_bytes (words (over_place q))) c.place.ensures in
    let high : c.write_height.new.out.items ≡ c.write_answer.new.out.items ++ up = search rules in
    high ∙ ap (λ t. t ++ up) (c.in_ok-write_answer.ensures ∙ ap (λ t. t ++ kept) (c.in_ok-write_contact.ensures ∙ ap (λ t. t ++ down) there))
    ∙ four_lines before over down kept up
