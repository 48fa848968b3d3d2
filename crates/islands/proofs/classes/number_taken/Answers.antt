use Rattle.std.proofs.Common.{ℕ, subst, arith}
use Rattle.cell_grid.specs.Grid.{plane_of}
use Rattle.islands.specs.Taken.{is_taken}
use Rattle.islands.specs.Classes.{IsNumbered}
use Rattle.islands.specs.Forests.{IsJoined}
use Rattle.cell_grid.specs.Place.{cells_of}
use Rattle.islands.proofs.Grids.{changes_both, carried, carried_back}
use Rattle.islands.proofs.JoinGrids.{at_most_one}
use Rattle.islands.proofs.classes.number_taken.Goals as goal

pub number_cells-requires-clause-small : goal.number_cells-requires-clause-small
number_cells-requires-clause-small c = omega (arith, at_most_one c.args.on, c.outer-outer.ensures)

pub number_cells-requires-clause-joined : goal.number_cells-requires-clause-joined
number_cells-requires-clause-joined c =
    carried c.args.on c.args.plane (λ f test. IsJoined f test c.outer-outer.result c.join_cells.new.bench.works (cells_of f)) c.args.bench.now c.join_cells.new.bench c.join_cells.ensures.rest c.join_cells.ensures.joined

pub returns : goal.returns
returns c =
    let g = c.args.bench.now in
    let g1 = c.join_cells.new.bench in
    let g2 = c.number_cells.new.bench in
    record {
      rest = changes_both g g1 g2 c.join_cells.ensures.rest c.number_cells.ensures.rest;
      numbered = subst (λ (n : ℕ). IsNumbered g.frame (is_taken c.args.on g.frame (plane_of g c.args.plane)) n g2.works c.number_cells.result) c.outer-outer.ensures
          (carried_back c.args.on c.args.plane (λ f test. IsNumbered f test c.outer-outer.result g2.works c.number_cells.result) g g1 c.join_cells.ensures.rest c.number_cells.ensures.numbered);
    }
