use Rattle.std.proofs.Common.{◌+◌, ◌*◌, ◌≤◌}
use Rattle.copper_cover.specs.Kept.{keeps_after}
use Rattle.copper_cover.proofs.Painting.{IsPainted}
use Rattle.copper_cover.proofs.sweeps.sweep_window.Given as goal

abbrev pub invariant-rows : goal.invariant-rows
invariant-rows l = IsPainted l.fn.bench l.frame (λ b c. keeps_after (l.fn.bench).frame.pitch b l.fn.object c) l.bench (l.y * l.frame.width)

abbrev pub invariant-cells : goal.invariant-cells
invariant-cells l = IsPainted l.fn.bench l.frame (λ b c. keeps_after (l.fn.bench).frame.pitch b l.fn.object c) l.bench (l.y * l.frame.width + l.x) × (l.x ≤ l.frame.width)
