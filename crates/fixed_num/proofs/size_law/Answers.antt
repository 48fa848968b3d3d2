use Rattle.fixed_num.proofs.SizeLaws.{cut_small}
use Rattle.fixed_num.proofs.size_law.Goals as goal

pub returns : goal.returns
returns c = cut_small
