-- What putting the lines of `simulate` leaves of its clauses.
use Rattle.std.proofs.Common.{◌≡◌, ℕ, List, Err, subst}
use Rattle.board_base.specs.Shelf.{ShelfState}
use Rattle.move_watch.specs.declared.bounds.Limits.{Limits}
use Rattle.endings.specs.declared.status.Status.{Status}
use Rattle.endings.specs.declared.status.Status.TheVariants.{Done}
use Rattle.endings.specs.Works.{Gives}
use Rattle.endings.proofs.RunLaws.{PutsOk}
use Rattle.simulation.specs.Simulated.{told_of, simulated, SimulationEnds}

-- no refusal is Done
pub refusal_puts : (limits : List Limits) (words : List (List ℕ)) (status : Status) (before now : ShelfState) → Gives told_of before now (simulated limits words) (Err status) → status ≡ Done
    → PutsOk (SimulationEnds limits words)
refusal_puts limits words status before now h done = absurd (subst (λ s. Gives told_of before now (simulated limits words) (Err s)) done h)
