use Rattle.std.proofs.Common.{◌≡◌, ◌==◌, ℕ, not, slice_index, sym, ◌∙◌}
use Rattle.std.specs.Int.{bit_at}
use Rattle.cell_grid.proofs.SpanLaws.{none_of_eight, each_of_eight}
use Rattle.cell_grid.proofs.tables.spans.is_any_of_eight.Goals as goal

pub returns : goal.returns
returns c = λ none.
    let q = none_of_eight c.args.on c.has_bit.result c.has_bit-2.result c.has_bit-3.result c.has_bit-4.result c.has_bit-5.result c.has_bit-6.result c.has_bit-7.result c.has_bit-8.result none in
    each_of_eight (λ (i : ℕ). (bit_at (slice_index c.args.flags.now i) c.args.k == 1) ≡ not c.args.on) c.args.at
    (sym c.has_bit.ensures ∙ q.0) (sym c.has_bit-2.ensures ∙ q.1.0) (sym c.has_bit-3.ensures ∙ q.1.1.0) (sym c.has_bit-4.ensures ∙ q.1.1.1.0) (sym c.has_bit-5.ensures ∙ q.1.1.1.1.0)
    (sym c.has_bit-6.ensures ∙ q.1.1.1.1.1.0) (sym c.has_bit-7.ensures ∙ q.1.1.1.1.1.1.0) (sym c.has_bit-8.ensures ∙ q.1.1.1.1.1.1.1)
