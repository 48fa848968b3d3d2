use Rattle.std.proofs.Common.{rules, ◌≡◌, ◌++◌, [], ◌∷◌, ap, ◌∙◌}
use Rattle.rs274_sim.specs.declared.line.Word.{Word}
use Rattle.rs274_sim.specs.Machine.{M}
use Rattle.mill_program.specs.Lines.{code, words, height_line, spindle_line, wait_line}
use Rattle.grid_writer.specs.Spelling.{line_bytes}
use Rattle.grid_writer.proofs.TextLaws.{three_lines}
use Rattle.grid_writer.proofs.program.write_start.Goals as goal

pub returns : goal.returns
returns c =
    let before = c.args.out.now.items in
    let turning = line_bytes (words (spindle_line c.args.run.now)) in
    let waiting = line_bytes (words wait_line) in
    let down = line_bytes (words (height_line c.args.p.now.safe)) in
    let turned : c.write_line.new.out.items ≡ before ++ turning = c.in_ok-write_line.ensures ∙ ap (λ (w : Word). before ++ line_bytes (words (w ∷ code M 3 ∷ []))) c.code-speed.ensures in
    let waited : c.write_line-2.new.out.items ≡ c.write_line.new.out.items ++ waiting = c.in_ok-write_line-2.ensures in
    let low : c.write_height.new.out.items ≡ c.write_line-2.new.out.items ++ down = search rules in
    low ∙ ap (λ t. t ++ down) (waited ∙ ap (λ t. t ++ waiting) turned) ∙ three_lines before turning waiting down
