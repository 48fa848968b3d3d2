use Rattle.std.proofs.Common.{◌==◌, ◌<◌, ℕ, not, List, length, get_or, sym, ap, ◌∙◌, arith}
use Rattle.std.specs.Int.{bit_at}
use Rattle.cell_grid.specs.Grid.{Grid}
use Rattle.cell_grid.specs.Place.{cells_of}
use Rattle.cell_grid.proofs.PlaneLaws.{place_read}
use Rattle.cell_grid.proofs.tables.Workbench.next_place.Goals as goal

pub returns-clause-passed : goal.returns-clause-passed
returns-clause-passed c =
    λ k a b.
    let below : k < length c.self.inside.flags.items = omega (arith, b, c.next_bit.ensures.high, c.requires.inside, c.self.invariant.flags, ap (λ (g : Grid). cells_of g.frame) c.self.view_is) in
    place_read c.self.inside _ c.args.plane k c.bit.result (not c.args.on) c.self.view_is below c.bit.ensures.value
    (ap (λ (xs : List ℕ). bit_at (get_or xs k 0) c.bit.result == 1) (sym c.as_slice.ensures.value) ∙ c.next_bit.ensures.passed k a b)

pub returns-clause-found : goal.returns-clause-found
returns-clause-found c =
    λ l.
    let below : c.next_bit.result < length c.self.inside.flags.items = omega (arith, l, c.requires.inside, c.self.invariant.flags, ap (λ (g : Grid). cells_of g.frame) c.self.view_is) in
    place_read c.self.inside _ c.args.plane c.next_bit.result c.bit.result c.args.on c.self.view_is below c.bit.ensures.value
    (ap (λ (xs : List ℕ). bit_at (get_or xs c.next_bit.result 0) c.bit.result == 1) (sym c.as_slice.ensures.value) ∙ c.next_bit.ensures.found l)
