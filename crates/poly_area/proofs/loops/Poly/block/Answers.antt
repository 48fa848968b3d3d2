use Rattle.std.proofs.Common.{subst, sym, List}
use Rattle.std.specs.List.{All}
use Rattle.poly_area.specs.declared.edges.Edge.{Edge}
use Rattle.poly_area.specs.declared.blocks.Block.{Block}
use Rattle.poly_area.specs.Blocks.{IsWithin, block_edges}
use Rattle.poly_area.proofs.Wholes.{edges_stored}
use Rattle.poly_area.proofs.BlockLaws.{block_within}
use Rattle.poly_area.proofs.loops.Poly.block.Goals as goal

pub returns-clause-within : goal.returns-clause-within
returns-clause-within c =
    subst (λ (es : List Edge). All (IsWithin c.index.result.now) (block_edges es c.args.k)) (sym (edges_stored c.self.inside.edges.items c.args.self.now c.self.invariant.edges c.self.view_is))
    (subst (λ (b : Block). All (IsWithin b) (block_edges c.self.inside.edges.items c.args.k)) (sym c.index.ensures)
    (block_within c.self.inside.blocks.items c.self.inside.edges.items c.args.k c.index.result.now c.self.invariant.blocks))
