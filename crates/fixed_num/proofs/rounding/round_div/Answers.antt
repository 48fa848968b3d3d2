use Rattle.std.proofs.Common.{rules}
use Rattle.fixed_num.specs.Rounding.{round_div_of}
use Rattle.fixed_num.proofs.RoundingLaws.{nearest_of}
use Rattle.fixed_num.proofs.rounding.round_div.Goals as goal

pub returns-then-a-lt0-clause-nearest : goal.returns-then-a-lt0-clause-nearest
unfolding round_div_of
returns-then-a-lt0-clause-nearest c = nearest_of c.args.a c.args.b _ c.requires (search rules)

pub returns-else-a-lt0-clause-nearest : goal.returns-else-a-lt0-clause-nearest
unfolding round_div_of
returns-else-a-lt0-clause-nearest c = nearest_of c.args.a c.args.b _ c.requires (search rules)
