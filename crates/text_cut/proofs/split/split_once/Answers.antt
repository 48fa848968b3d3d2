use Rattle.std.proofs.Common.{sym, ◌∙◌}
use Rattle.text_cut.specs.Split.{is_byte}
use Rattle.text_cut.proofs.PositionLaws.{split_found, split_none}
use Rattle.text_cut.proofs.split.split_once.Goals as goal

pub returns-in-Some-clause-parts : goal.returns-in-Some-clause-parts
returns-in-Some-clause-parts c =
    let law = split_found (is_byte c.args.byte) c.args.text.now c.in-Some.i (sym c.position_of.ensures ∙ c.in-Some.is) in
    rw c.behind.ensures law

pub returns-in-None-clause-parts : goal.returns-in-None-clause-parts
returns-in-None-clause-parts c = split_none (is_byte c.args.byte) c.args.text.now (sym c.position_of.ensures ∙ c.in-None.is)
