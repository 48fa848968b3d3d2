use Rattle.centre_field.proofs.LeastLaws.{small_square}
use Rattle.centre_field.proofs.gaps.square_gap.Goals as goal

pub returns-clause-small : goal.returns-clause-small
returns-clause-small c = small_square c.args.a c.args.b c.abs_diff-gap.result c.requires.a c.requires.b c.abs_diff-gap.ensures
