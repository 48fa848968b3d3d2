use Rattle.std.proofs.Common.{◌≡◌, ℕ, List, subst, sym, ◌∙◌}
use Rattle.std.proofs.lemmas.List.{map-id}
use Rattle.std.proofs.lemmas.Slice.Zip.{AllZip-map}
use Rattle.apertures.specs.declared.macros.NamedMacro.{NamedMacro}
use Rattle.apertures.specs.Index.{IsIndex}
use Rattle.apertures.proofs.IndexLaws.{without_last, index_kept, index_added, where_ok, where_err}
use Rattle.apertures.proofs.macros.Macros.push.Goals as goal

-- the macro is taken away again, and the index has its entries
pub invariant_of-self-then-is_err : goal.invariant_of-self-then-is_err
invariant_of-self-then-is_err c =
    let same : c.pop.new.self.items ≡ c.self.inside.list.items = without_last _ _ _ _ _ c.pop.ensures.rest c.push.new.self.ok.0 c.in_ok-push.ensures.items in
    subst (λ (macros : List NamedMacro). IsIndex macros c.insert.new.self) (sym same)
    (index_kept c.self.inside.list.items c.self.inside.last c.insert.new.self (where_err c.insert.result (sym c.if-is_err.true ∙ c.is_err.ensures.value) c.insert.ensures.err) c.self.invariant)

-- the index leads the name to the macro
pub invariant_of-self-else-is_err : goal.invariant_of-self-else-is_err
invariant_of-self-else-is_err c =
    let name : c.in_ok-name.name.items ≡ c.args.m.name = AllZip-map (λ (b : ℕ). b) _ _ c.in_ok-name.ensures.cases.0 ∙ map-id _ ∙ c.inner.ensures in
    subst (λ (macros : List NamedMacro). IsIndex macros c.insert.new.self) (sym c.in_ok-push.ensures.items)
    (index_added c.self.inside.list.items c.args.m c.self.inside.last c.insert.new.self c.in_ok-name.name name c.self.invariant c.len-place.result (c.len-place.ensures ∙ c.self.inside.list.ok.0)
    (where_ok c.insert.result (sym c.if-is_err.false ∙ c.is_err.ensures.value) c.insert.ensures.updates))
