use Rattle.std.proofs.Common.{◌≤◌, length, cond}
use Rattle.copper_cover.specs.Rows.{is_in_span}
use Rattle.copper_cover.proofs.RowLaws.{IsWritten}
use Rattle.copper_cover.proofs.runs.mark.Given as goal

abbrev pub invariant-columns : goal.invariant-columns
invariant-columns l = record {
  bits : IsWritten (λ k bit. cond (is_in_span l.fn.span k) l.on bit) l.fn.bits l.bits l.k;
  most : l.k ≤ length l.fn.bits;
}
