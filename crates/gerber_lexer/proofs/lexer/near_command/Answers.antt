use Rattle.std.proofs.Common.{◌∙◌, refl}
use Rattle.gerber_lexer.specs.Cut.{breaks_before}
use Rattle.gerber_lexer.proofs.Further.{near_of}
use Rattle.gerber_lexer.proofs.lexer.near_command.Goals as goal

pub returns-then-inside : goal.returns-then-inside
returns-then-inside c =
    let near = near_of c.args.at c.args.rest.now c.behind-behind.result.now c.breaks_before.result c.way_to-to.result (breaks_before c.behind-behind.result.now) c.goes_on-inside.result c.requires.stands c.requires.word c.breaks_before.ensures.value
    c.way_to-to.ensures.value c.behind-behind.ensures c.goes_on-inside.ensures refl
    in
    near ∙ rw c.if-inside.true refl

pub returns-else-inside : goal.returns-else-inside
returns-else-inside c =
    let near = near_of c.args.at c.args.rest.now c.behind-behind.result.now c.breaks_before.result c.way_to-to.result c.breaks_before-else-inside.result c.goes_on-inside.result c.requires.stands c.requires.word c.breaks_before.ensures.value
    c.way_to-to.ensures.value c.behind-behind.ensures c.goes_on-inside.ensures c.breaks_before-else-inside.ensures.value
    in
    near ∙ rw c.if-inside.false refl
