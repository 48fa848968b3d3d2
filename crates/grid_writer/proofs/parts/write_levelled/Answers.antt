use Rattle.std.proofs.Common.{rules, ◌≡◌, ◌++◌, [], ◌∷◌, ap, sym, ◌∙◌, length}
use Rattle.fixed_num.specs.Fixed.{fixed6}
use Rattle.grid_writer.specs.Parts.{shares_text}
use Rattle.grid_writer.proofs.PartLaws.{four_shares, joined_four}
use Rattle.grid_writer.proofs.parts.write_levelled.Goals as goal

pub returns : goal.returns
returns c =
    let before = c.args.out.now.items in
    let z = fixed6 c.args.z in
    let shares = shares_text c.args.weights c.args.probes in
    let opened : c.extend_from_slice.new.self.items ≡ before ++ 90 ∷ 91 ∷ [] = search rules in
    let named : c.write_fixed6.new.out.items ≡ c.extend_from_slice.new.self.items ++ z = search rules in
    let shared : c.write_shares.new.out.items ≡ c.write_fixed6.new.out.items ++ shares = search rules in
    let closed : c.push.new.self.items ≡ c.write_shares.new.out.items ++ 93 ∷ [] = search rules in
    let all_weights : length c.args.weights ≡ 4 = search rules in
    let all_probes : length c.args.probes ≡ 4 = search rules in
    closed ∙ ap (λ t. t ++ 93 ∷ []) (shared ∙ ap (λ t. t ++ shares) (named ∙ ap (λ t. t ++ z) opened))
    ∙ joined_four before (90 ∷ 91 ∷ []) z shares (93 ∷ [])
    ∙ ap (λ t. before ++ 90 ∷ t) (sym (four_shares c.args.z c.args.weights c.args.probes all_weights all_probes))
