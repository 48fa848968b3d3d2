use Rattle.std.proofs.Common.{sym, ◌∙◌}
use Rattle.apertures.proofs.TextLaws.{split_at, split_none}
use Rattle.apertures.proofs.texts.split_once.Goals as goal

pub returns-in-Some-clause-parts : goal.returns-in-Some-clause-parts
returns-in-Some-clause-parts c =
    split_at c.args.bytes.now c.before-in-Some.result.now c.behind.result.now c.in-Some.i (sym c.times_in.ensures ∙ c.in-Some.is) c.before-in-Some.ensures c.behind.ensures

pub returns-in-None-clause-parts : goal.returns-in-None-clause-parts
returns-in-None-clause-parts c = split_none c.args.bytes.now (sym c.times_in.ensures ∙ c.in-None.is)
