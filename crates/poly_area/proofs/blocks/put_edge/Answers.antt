use Rattle.std.proofs.Common.{◌≡◌, ◌<◌, ◌+◌, ◌-◌, ◌*◌, ◌≤ℤ◌, length, subst, sym, rules, List}
use Rattle.poly_area.specs.declared.blocks.Block.{Block}
use Rattle.poly_area.specs.Blocks.{AreBlocks}
use Rattle.poly_area.proofs.BlockLaws.{one_block, more_in_block, wider}
use Rattle.poly_area.proofs.blocks.put_edge.Goals as goal

pub returns-then-len-k-clause-after : goal.returns-then-len-k-clause-after
returns-then-len-k-clause-after c =
    let full : 16 * length c.args.blocks.now.items ≡ c.args.k = search rules in
    subst (λ (bs : List Block). AreBlocks bs c.args.edges.now (c.args.k + 1)) (sym c.push_reserved.ensures.items)
    (one_block c.args.blocks.now.items c.args.edges.now c.args.k c.block_of-e.result _ c.requires.before full c.requires.k c.block_of-e.ensures.bounds c.block_of-e.ensures.within)

pub returns-else-len-k-clause-after : goal.returns-else-len-k-clause-after
returns-else-len-k-clause-after c =
    let end : (c.len-last.result - 1) + 1 ≡ length c.args.blocks.now.items = search rules in
    let room : c.args.k < 16 * length c.args.blocks.now.items = search rules in
    let old = c.index.result.now in
    more_in_block c.args.blocks.now.items c.args.edges.now c.args.k (c.len-last.result - 1) c.joined.result old _ c.requires.before end room c.requires.k c.joined.ensures.bounds
    (subst (λ (b : Block). c.joined.result.low ≤ℤ b.low) c.index.ensures c.joined.ensures.low_a) (subst (λ (b : Block). b.high ≤ℤ c.joined.result.high) c.index.ensures c.joined.ensures.high_a)
    (wider c.block_of-e.result c.joined.result _ c.joined.ensures.low_b c.joined.ensures.high_b c.block_of-e.ensures.within)
