use Rattle.std.proofs.Common.{not, ◌&&◌, ◌||◌, slice_index_or, false}
use Rattle.copper_cover.specs.Rows.{bit_after}
use Rattle.copper_cover.proofs.RowLaws.{IsWritten}
use Rattle.copper_cover.proofs.rows.step_bits.Given as goal

abbrev pub invariant-columns : goal.invariant-columns
invariant-columns l = record {
  touched : IsWritten (λ k bit. bit_after l.on (slice_index_or l.near k false || slice_index_or l.held k false) (not (slice_index_or l.near k false) && slice_index_or l.held k false) bit) l.fn.touched l.touched l.k;
  covered : IsWritten (λ k bit. bit_after l.on (not (slice_index_or l.near k false) && slice_index_or l.held k false) (slice_index_or l.near k false || slice_index_or l.held k false) bit) l.fn.covered l.covered l.k;
}
