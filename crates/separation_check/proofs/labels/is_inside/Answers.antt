use Rattle.separation_check.proofs.Tears.{inside_is}
use Rattle.separation_check.proofs.labels.is_inside.Goals as goal

pub returns : goal.returns
returns c = inside_is _ _ _ c.is_in_frame.ensures
