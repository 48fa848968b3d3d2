use Rattle.std.proofs.Common.{rules, arith, ◌≡◌, ◌++◌, [], ◌∷◌, ap, sym, ◌∙◌, take, append_assoc}
use Rattle.std.specs.List.{flat_map}
use Rattle.std.proofs.lemmas.Grind.{common_steps}
use Rattle.grid_writer.specs.declared.parts.Part.{Part}
use Rattle.grid_writer.specs.Parts.{word_of}
use Rattle.grid_writer.specs.Spelling.{word_over}
use Rattle.grid_writer.proofs.PartLaws.{line_is}
use Rattle.grid_writer.proofs.parts.write_line.Goals as goal

pub returns : goal.returns
returns c =
    let before = c.args.out.now.items in
    let first = word_over (word_of c.args.first) in
    let rest = flat_map (λ (p : Part). 32 ∷ word_over (word_of p)) c.args.rest.now in
    let all : take c.loop-part.part-index c.args.rest.now ≡ c.args.rest.now = first_of (search rules, grind (arith, common_steps)) in
    let ended : c.push-2.new.self.items ≡ c.loop-part.out.items ++ 10 ∷ [] = search rules in
    ended ∙ ap (λ t. t ++ 10 ∷ []) (c.loop-part.invariant ∙ ap (λ (ps : _). (before ++ first) ++ flat_map (λ (p : Part). 32 ∷ word_over (word_of p)) ps) all ∙ append_assoc before first rest)
    ∙ append_assoc before (first ++ rest) (10 ∷ []) ∙ ap (λ t. before ++ t) (sym (line_is c.args.first c.args.rest.now))
