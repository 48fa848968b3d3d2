use Rattle.std.proofs.Common.{arith}
use Rattle.islands.proofs.Climbs.{hang_in, hang_in_back, united_low, united_high, united_one}
use Rattle.islands.proofs.forests.unite.Goals as goal

pub set_work_at-requires : goal.set_work_at-requires
set_work_at-requires c = hang_in c.args.outer c.args.bench.now c.root_of-r.new.bench c.root_of-s.new.bench c.args.bench.now _ _ _ _ c.root_of-r.ensures.climbed c.root_of-s.ensures.climbed c.frame.ensures.sized.works c.if-r-s.true

pub set_work_at-requires-then-s-r : goal.set_work_at-requires-then-s-r
set_work_at-requires-then-s-r c = hang_in_back c.args.outer c.args.bench.now c.root_of-r.new.bench c.root_of-s.new.bench c.args.bench.now _ _ _ _ c.root_of-r.ensures.climbed c.root_of-s.ensures.climbed c.frame.ensures.sized.works c.if-s-r.true

pub returns-then-r-s-clause-united : goal.returns-then-r-s-clause-united
returns-then-r-s-clause-united c = united_low c.args.outer c.args.bench.now c.root_of-r.new.bench c.root_of-s.new.bench c.set_work_at.new.self _ _ _ _ c.root_of-r.ensures.climbed c.root_of-s.ensures.climbed c.if-r-s.true c.set_work_at.ensures

pub returns-then-s-r-clause-united : goal.returns-then-s-r-clause-united
returns-then-s-r-clause-united c = united_high c.args.outer c.args.bench.now c.root_of-r.new.bench c.root_of-s.new.bench c.set_work_at-then-s-r.new.self _ _ _ _ c.root_of-r.ensures.climbed c.root_of-s.ensures.climbed c.if-s-r.true c.set_work_at-then-s-r.ensures

pub returns-else-s-r-clause-united : goal.returns-else-s-r-clause-united
returns-else-s-r-clause-united c =
    united_one c.args.outer c.args.bench.now c.root_of-r.new.bench c.root_of-s.new.bench c.args.bench.now _ _ _ _ c.root_of-r.ensures.climbed c.root_of-s.ensures.climbed
    (omega (arith, c.if-r-s.false, c.if-s-r.false))
