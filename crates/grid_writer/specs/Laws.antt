-- Plain lines over a grid, and what the text of a program stands for.
use Rattle.std.specs.Prelude.{◌≡◌, List}
use Rattle.std.specs.List.{All}
use Rattle.rs274_sim.specs.declared.line.Line.{Line}
use Rattle.rs274_sim.specs.Spelling.{IsWrittenLine, text_of}
use Rattle.rs274_sim.specs.Text.{StandsFor}
use Rattle.mill_program.specs.declared.cuts.Program.{Program}
use Rattle.mill_program.specs.GridLines.{lines_over}
use Rattle.grid_writer.specs.Conditions.{IsWritable}
use Rattle.grid_writer.specs.Spelling.{text_over}

-- plain lines are spelled as where there is no surface
abbrev pub PlainTextLaw : Type 0
PlainTextLaw = (lines : List Line) → All IsWrittenLine lines → text_over lines ≡ text_of lines

-- the text of a program that is written stands for its lines, with or without a grid of probes
abbrev pub SpellingOverLaw : Type 0
SpellingOverLaw = (p : Program) → IsWritable p → StandsFor (text_over (lines_over p)) (lines_over p)
