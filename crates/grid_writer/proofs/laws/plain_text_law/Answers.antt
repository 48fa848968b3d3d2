use Rattle.grid_writer.proofs.PlainLaws.{plain_text}
use Rattle.grid_writer.proofs.laws.plain_text_law.Goals as goal

pub returns : goal.returns
returns c = plain_text
