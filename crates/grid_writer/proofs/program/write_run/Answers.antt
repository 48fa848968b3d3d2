use mir.Syntax.{w64}
use mir.Val.{SFits}
use Rattle.std.proofs.lemmas.Int.{to_z-of_z}
use Rattle.std.proofs.Common.{rules, ◌≡◌, ◌++◌, [], ◌∷◌, ap, ◌∙◌}
use Rattle.mill_program.specs.Lines.{words, height_line, spindle_line, wait_line}
use Rattle.mill_program.specs.GridLines.{probing_lines}
use Rattle.std.specs.List.{flat_map}
use Rattle.mill_program.specs.GridLines.{cut_over}
use Rattle.grid_writer.specs.Spelling.{text_over}
use Rattle.grid_writer.proofs.TextLaws.{run_text}
use Rattle.grid_writer.proofs.program.write_run.Goals as goal

pub returns : goal.returns
returns c =
    let p = c.args.p.now in
    let run = c.args.run.now in
    let start = text_over (words (spindle_line run) ∷ words wait_line ∷ words (height_line p.safe) ∷ []) in
    let cuts = flat_map (λ cut. text_over (cut_over p.grid p.safe run cut)) run.cuts in
    let f : SFits w64 p.safe = search rules in
    let probed : c.write_probing.new.out.items ≡ c.write_change.new.out.items ++ text_over (probing_lines p.safe p.grid) = simp to_z-of_z at c.in_ok-write_probing.ensures in
    c.in_ok-write_cuts.ensures
    ∙ ap (λ t. t ++ cuts) (c.in_ok-write_start.ensures ∙ ap (λ t. t ++ start) (probed ∙ ap (λ t. t ++ text_over (probing_lines p.safe p.grid)) c.in_ok-write_change.ensures))
    ∙ run_text p.grid p.safe p.change run c.args.out.now.items
