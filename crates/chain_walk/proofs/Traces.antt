-- A walk goes from neighbour to neighbour.
use Rattle.std.proofs.Common.{ℕ, ◌+◌, ◌<◌, Bool, length, inl, inr, sym, subst, ◌∙◌, arith}
use Rattle.std.proofs.lemmas.List.{get_or_default}
use Rattle.board_base.specs.declared.places.Cell.{Cell}
use Rattle.board_base.specs.Lattice.{IsBeside, AreNeighbours}
use Rattle.cell_sets.specs.Chains.{IsLinked}
use Rattle.cell_sets.proofs.CellLaws.{beside_sym}
use Rattle.islands.proofs.Links.{beside_neighbour}
use Rattle.chain_walk.specs.Walk.{origin, entry, GoesOn, GoesBack, IsWalkFrom}
use Rattle.chain_walk.specs.Runs.{WalkLaw}
use Rattle.chain_walk.proofs.Unique.{own}

module _ (taken : Cell → Bool) (start : Cell) (W : ℕ → Cell) (n : ℕ) (p : IsWalkFrom taken start W n) where
  on_neighbour : (k : ℕ) → GoesOn taken W k → AreNeighbours (W k) (W (k + 1))
  on_neighbour k g = record {
    apart = λ e. g.new (record { at = k; early = omega arith; is = e });
    beside = subst (IsBeside (W k)) (sym g.step) (beside_neighbour (W k) g.way);
  }

  turned : (a b : Cell) → AreNeighbours a b → AreNeighbours b a
  turned a b h = record { apart = λ e. h.apart (sym e); beside = beside_sym a b h.beside }

  back_neighbour : (k : ℕ) → k + 1 < n → GoesBack taken W k → AreNeighbours (W k) (W (k + 1))
  back_neighbour k l g =
      elim (p.steps g.from (omega (arith, g.early, l))) as (λ _. AreNeighbours (W k) (W (k + 1))) [
        | inl h ↦ subst (AreNeighbours (W k)) (sym g.back) (subst (λ (x : Cell). AreNeighbours x (W g.from)) g.occurs (turned (W g.from) (W (g.from + 1)) (on_neighbour g.from h)))
        | inr h ↦ absurd (g.first (record { at = h.from; early = omega (arith, h.early); is = sym h.back ∙ g.occurs }))
      ]

  pub steps_on : (k : ℕ) → k + 1 < n → AreNeighbours (W k) (W (k + 1))
  steps_on k l = elim (p.steps k l) as (λ _. AreNeighbours (W k) (W (k + 1))) [ inl g ↦ on_neighbour k g | inr g ↦ back_neighbour k l g ]

pub walk_law : WalkLaw
walk_law taken cells w = (
  record { some = w.goes.some; steps = steps_on taken (entry cells 0) (entry cells) (length cells) w.goes },
  (λ c m. subst (IsLinked taken (entry cells 0)) (get_or_default cells m.0 origin c m.1 ∙ m.2) (own taken (entry cells 0) (entry cells) (length cells) w.goes w.begins.taken_there m.0 m.1)),
)
