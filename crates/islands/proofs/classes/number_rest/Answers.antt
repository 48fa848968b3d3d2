use Rattle.std.proofs.Common.{false, arith}
use Rattle.islands.specs.Classes.{IsNumbered}
use Rattle.islands.proofs.Grids.{numbers_cleared, classes_of, carried_back, changes_both}
use Rattle.islands.proofs.classes.number_rest.Goals as goal

pub number_taken-requires : goal.number_taken-requires
number_taken-requires c = (numbers_cleared c.args.bench.now c.clear_works.new.self c.clear_works.ensures).1

pub returns : goal.returns
returns c =
    let g = c.args.bench.now in
    let g1 = c.clear_works.new.self in
    let g2 = c.number_taken.new.bench in
    let cleared = (numbers_cleared g g1 c.clear_works.ensures).0 in
    let q = carried_back false c.args.plane (λ f test. IsNumbered f test 1 g2.works c.number_taken.result) g g1 cleared c.number_taken.ensures.numbered in
    record {
      rest = changes_both g g1 g2 cleared c.number_taken.ensures.rest;
      classes = classes_of _ _ _ _ q;
      few = q.few;
      order = q.order;
      present = q.present;
      most = omega (arith, q.most);
    }
