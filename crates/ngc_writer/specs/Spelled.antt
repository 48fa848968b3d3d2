-- What written lines stand for.
use Rattle.std.specs.Prelude.{List}
use Rattle.std.specs.List.{All}
use Rattle.rs274_sim.specs.declared.line.Line.{Line}
use Rattle.rs274_sim.specs.Spelling.{IsWrittenLine, text_of}
use Rattle.rs274_sim.specs.Text.{StandsFor}

-- the text of lines that have a spelling stands for these lines
abbrev pub SpellingLaw : Type 0
SpellingLaw = (lines : List Line) → All IsWrittenLine lines → StandsFor (text_of lines) lines
