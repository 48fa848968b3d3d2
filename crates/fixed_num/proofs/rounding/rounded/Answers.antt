use Rattle.std.proofs.Common.{◌/◌, ◌%◌}
use Rattle.std.proofs.lemmas.Nat.{div-add-mod'}
use Rattle.fixed_num.proofs.RoundingLaws.{rounds_up, rounds_down, rest_below}
use Rattle.fixed_num.proofs.rounding.rounded.Goals as goal

pub returns-then-rest-b-clause-value : goal.returns-then-rest-b-clause-value
returns-then-rest-b-clause-value c =
    rounds_up c.args.a c.args.b (c.args.a / c.args.b) (c.args.a % c.args.b) c.requires (div-add-mod' c.args.a c.args.b) (rest_below c.args.a c.args.b c.requires) c.if-rest-b.true

pub returns-else-rest-b-clause-value : goal.returns-else-rest-b-clause-value
returns-else-rest-b-clause-value c =
    rounds_down c.args.a c.args.b (c.args.a / c.args.b) (c.args.a % c.args.b) c.requires (div-add-mod' c.args.a c.args.b) (rest_below c.args.a c.args.b c.requires) c.if-rest-b.false
