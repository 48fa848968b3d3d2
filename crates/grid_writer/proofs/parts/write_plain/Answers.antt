use mir.Syntax.{w64}
use mir.Val.{SFits}
use Rattle.std.proofs.Common.{rules, ◌≡◌, ◌++◌, ◌/◌, [], ◌∷◌, ap, sym, ◌∙◌, append_assoc}
use Rattle.std.specs.Prelude.{unsigned_abs}
use Rattle.std.proofs.lemmas.Int.{to_z-of_z}
use Rattle.fixed_num.specs.Fixed.{fixed6}
use Rattle.grid_writer.specs.Spelling.{tenths_text}
use Rattle.grid_writer.proofs.PartLaws.{plain_fixed, plain_tenths}
use Rattle.grid_writer.proofs.parts.write_plain.Goals as goal

pub returns-in_ok-write_fixed6 : goal.returns-in_ok-write_fixed6
returns-in_ok-write_fixed6 c =
    let before = c.args.out.now.items in
    let text = fixed6 c.args.m in
    let pushed : c.push.new.self.items ≡ before ++ c.args.letter ∷ [] = search rules in
    let wrote : c.write_fixed6.new.out.items ≡ c.push.new.self.items ++ text = search rules in
    wrote ∙ ap (λ t. t ++ text) pushed ∙ append_assoc before (c.args.letter ∷ []) text
    ∙ ap (λ t. before ++ t) (sym (plain_fixed c.args.letter c.args.m (sym c.has_decimals.ensures ∙ c.if-has_decimals.true)))

pub returns-in_ok-write_tenths : goal.returns-in_ok-write_tenths
returns-in_ok-write_tenths c =
    let before = c.args.out.now.items in
    let text = tenths_text (unsigned_abs c.args.m / 100000) in
    let pushed : c.push.new.self.items ≡ before ++ c.args.letter ∷ [] = search rules in
    let f : SFits w64 c.args.m = search rules in
    let size : c.unsigned_abs.result ≡ unsigned_abs c.args.m = simp to_z-of_z at c.unsigned_abs.ensures.value in
    let wrote : c.write_tenths.new.out.items ≡ c.push.new.self.items ++ text = c.in_ok-write_tenths.ensures ∙ ap (λ n. c.push.new.self.items ++ tenths_text (n / 100000)) size in
    wrote ∙ ap (λ t. t ++ text) pushed ∙ append_assoc before (c.args.letter ∷ []) text
    ∙ ap (λ t. before ++ t) (sym (plain_tenths c.args.letter c.args.m (sym c.has_decimals.ensures ∙ c.if-has_decimals.false)))
