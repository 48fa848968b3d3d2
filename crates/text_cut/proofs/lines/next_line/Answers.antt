use Rattle.std.proofs.Common.{sym, ◌∙◌, arith}
use Rattle.std.proofs.lemmas.Grind.{common_steps}
use Rattle.text_cut.proofs.LineLaws.{first_line, first_offset, first_rest, last_line, last_offset, no_line}
use Rattle.text_cut.proofs.lines.next_line.Goals as goal

pub returns-then-is_empty-clause-offsets : goal.returns-then-is_empty-clause-offsets
returns-then-is_empty-clause-offsets c = no_line c.args.bytes.now (grind (arith, common_steps))

pub returns-in-Some-clause-value : goal.returns-in-Some-clause-value
returns-in-Some-clause-value c =
    let law = first_line c.args.bytes.now c.in-Some.i (sym c.position_of.ensures ∙ c.in-Some.is) in
    rw (c.without_return.ensures, c.behind.ensures) law

pub returns-in-Some-clause-offsets : goal.returns-in-Some-clause-offsets
returns-in-Some-clause-offsets c =
    let law = first_offset c.args.bytes.now c.in-Some.i (sym c.position_of.ensures ∙ c.in-Some.is) in
    rw (c.without_return.ensures, c.behind.ensures) law

pub returns-in-Some-clause-rest : goal.returns-in-Some-clause-rest
returns-in-Some-clause-rest c =
    let law = first_rest c.args.bytes.now c.in-Some.i (sym c.position_of.ensures ∙ c.in-Some.is) in
    rw c.behind.ensures law

pub returns-in-None-clause-value : goal.returns-in-None-clause-value
returns-in-None-clause-value c = last_line c.args.bytes.now (grind (arith, common_steps)) (sym c.position_of.ensures ∙ c.in-None.is)

pub returns-in-None-clause-offsets : goal.returns-in-None-clause-offsets
returns-in-None-clause-offsets c = last_offset c.args.bytes.now (grind (arith, common_steps)) (sym c.position_of.ensures ∙ c.in-None.is)
