use Rattle.std.proofs.Common.{◌||◌, ◌≤◌, length}
use Rattle.board_base.specs.Near.{near_of}
use Rattle.copper_cover.specs.Rows.{centre_in}
use Rattle.copper_cover.proofs.RowLaws.{IsWritten}
use Rattle.copper_cover.proofs.rows.mark_near.Given as goal

abbrev pub invariant-columns : goal.invariant-columns
invariant-columns l = IsWritten (λ k bit. bit || near_of (centre_in l.row k) l.a l.b l.d) l.fn.bits l.bits l.k × (l.k ≤ length l.fn.bits)
