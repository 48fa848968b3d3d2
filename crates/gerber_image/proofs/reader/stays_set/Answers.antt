use Rattle.gerber_image.proofs.OneOutcome.{each_stays_set}
use Rattle.gerber_image.proofs.MacroLaws.{last_macro_counts}
use Rattle.gerber_image.proofs.reader.stays_set.Goals as goal

pub returns-clause-set : goal.returns-clause-set
returns-clause-set c = each_stays_set

pub returns-clause-macros : goal.returns-clause-macros
returns-clause-macros c = last_macro_counts
