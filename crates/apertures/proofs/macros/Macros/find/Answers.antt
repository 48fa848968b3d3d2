use Rattle.std.proofs.Common.{ap, ◌∙◌, Some, None, arith}
use Rattle.apertures.specs.Defined.{macro_named}
use Rattle.apertures.proofs.IndexLaws.{place_is, found_inside, found_body, found_none}
use Rattle.apertures.proofs.macros.Macros.find.Goals as goal

pub index-requires : goal.index-requires
index-requires c =
    let at = place_is c.self.inside.last c.args.name.now (Some c.in-Some.place.now) c.in-Some.ensures.value in
    let inside = found_inside c.self.inside.list.items c.self.inside.last c.args.name.now c.in-Some.place.now c.self.invariant at in
    omega (arith, inside, c.self.inside.list.ok.0)

pub returns-in-Some : goal.returns-in-Some
returns-in-Some c =
    let at = place_is c.self.inside.last c.args.name.now (Some c.in-Some.place.now) c.in-Some.ensures.value in
    found_body c.self.inside.list.items c.self.inside.last c.args.name.now c.in-Some.place.now c.index.result.now c.self.invariant at c.index.ensures ∙ ap (macro_named c.args.name.now) c.self.view_is

pub returns-in-None : goal.returns-in-None
returns-in-None c =
    found_none c.self.inside.list.items c.self.inside.last c.args.name.now c.self.invariant (place_is c.self.inside.last c.args.name.now None c.in-None.ensures.value) ∙ ap (macro_named c.args.name.now) c.self.view_is
