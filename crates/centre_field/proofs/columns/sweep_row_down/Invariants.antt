use Rattle.std.proofs.Common.{ℕ, ◌≡◌, ◌+◌, min}
use Rattle.centre_field.specs.Columns.{number_at, further}
use Rattle.centre_field.proofs.WrittenLaws.{IsRowWritten}
use Rattle.centre_field.proofs.columns.sweep_row_down.Given as goal

abbrev pub invariant-cells : goal.invariant-cells
invariant-cells l =
    IsRowWritten (λ (a v : ℕ). v ≡ min (number_at l.fn.bench a l.y) (further (number_at l.fn.bench a (l.y + 1)))) l.fn.bench l.frame l.y l.bench l.x
