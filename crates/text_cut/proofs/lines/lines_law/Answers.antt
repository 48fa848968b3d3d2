use Rattle.text_cut.proofs.LineLaws.{texts_are_lines}
use Rattle.text_cut.proofs.lines.lines_law.Goals as goal

pub returns : goal.returns
returns c = texts_are_lines
