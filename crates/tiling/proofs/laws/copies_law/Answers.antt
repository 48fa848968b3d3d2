use Rattle.tiling.proofs.CopyLaws.{copies}
use Rattle.tiling.proofs.laws.copies_law.Goals as goal

pub returns : goal.returns
returns c = copies
