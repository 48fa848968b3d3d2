use Rattle.apertures.proofs.MacroLaws.{have_values, may_stand}
use Rattle.apertures.proofs.macros.figure.Goals as goal

pub all_pieces-requires : goal.all_pieces-requires
all_pieces-requires c = rw c.deref.ensures.value (have_values _ c.in-Ok.ensures.whole)

pub of-requires : goal.of-requires
of-requires c = may_stand _ c.in_ok-pieces-in-Ok.ensures.bounded
