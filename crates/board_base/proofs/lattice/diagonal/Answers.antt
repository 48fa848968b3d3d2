use Rattle.std.proofs.Common.{sym, ◌/◌}
use Rattle.board_base.proofs.DiagonalLaws.{IsRoot, root_is, root_enough, root_least, root_high}
use Rattle.board_base.proofs.lattice.diagonal.Goals as goal

root : (c : goal.After-isqrt) → IsRoot c.args.p (c.args.p / 2) c.isqrt.result
root c = record { even = c.requires.even; low = c.requires.low; square = c.isqrt.ensures.square_le; next = c.isqrt.ensures.next_square_gt }

pub returns-clause-value : goal.returns-clause-value
returns-clause-value c = sym (root_is c.args.p (c.args.p / 2) c.isqrt.result (root c))

pub returns-clause-enough : goal.returns-clause-enough
returns-clause-enough c = root_enough c.args.p (c.args.p / 2) c.isqrt.result (root c)

pub returns-clause-least : goal.returns-clause-least
returns-clause-least c = root_least c.args.p (c.args.p / 2) c.isqrt.result (root c)

pub returns-clause-high : goal.returns-clause-high
returns-clause-high c = root_high c.args.p (c.args.p / 2) c.isqrt.result (root c)
