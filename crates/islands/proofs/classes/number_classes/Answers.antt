use Rattle.std.proofs.Common.{true, arith}
use Rattle.islands.proofs.Grids.{numbers_cleared, islands_of, carried_back, changes_both}
use Rattle.islands.specs.Classes.{IsNumbered}
use Rattle.islands.proofs.classes.number_classes.Goals as goal

pub number_taken-requires : goal.number_taken-requires
number_taken-requires c = (numbers_cleared c.args.bench.now c.clear_works.new.self c.clear_works.ensures).1

pub returns : goal.returns
returns c =
    let g = c.args.bench.now in
    let g1 = c.clear_works.new.self in
    let cleared = (numbers_cleared g g1 c.clear_works.ensures).0 in
    let q = carried_back true c.args.plane (λ f test. IsNumbered f test 0 c.number_taken.new.bench.works c.number_taken.result) g g1 cleared c.number_taken.ensures.numbered in
    record {
      rest = changes_both g g1 c.number_taken.new.bench cleared c.number_taken.ensures.rest;
      islands = islands_of _ _ _ _ q;
      most = omega (arith, q.most);
    }
