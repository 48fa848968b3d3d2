use Rattle.std.proofs.Common.{subst, sym, List}
use Rattle.apertures.specs.declared.macros.NamedMacro.{NamedMacro}
use Rattle.apertures.specs.Index.{IsIndex}
use Rattle.apertures.proofs.IndexLaws.{index_begun}
use Rattle.apertures.proofs.macros.Macros.empty.Goals as goal

pub invariant_of-result : goal.invariant_of-result
invariant_of-result c = subst (λ (macros : List NamedMacro). IsIndex macros c.new-2.result) (sym c.new.ensures.items) (index_begun c.new-2.result c.new-2.ensures.empty)
