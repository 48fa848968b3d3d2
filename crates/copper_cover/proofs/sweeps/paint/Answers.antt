use Rattle.std.proofs.Common.{sym, ◌∙◌}
use Rattle.std.proofs.lemmas.Int.{to_z-of_z}
use mir.Val.{SFits}
use mir.Syntax.{w64}
use Rattle.copper_cover.proofs.Painting.{round_is, none_is}
use Rattle.copper_cover.proofs.sweeps.paint.Goals as goal

pub sweep-requires-clause-round : goal.sweep-requires-clause-round
sweep-requires-clause-round c =
    let a : SFits w64 c.args.h = c.ranges.h in
    round_is c.frame.result c.args.bench.now.frame c.in-Some.bounds c.args.h c.window_round-window.result c.args.object.now c.frame.ensures.value c.requires.h (sym c.bounds.ensures.value ∙ c.in-Some.is)
    (λ d i. simp to_z-of_z at (c.window_round-window.ensures.holds d i))

pub returns-in-None-clause-kept : goal.returns-in-None-clause-kept
returns-in-None-clause-kept c = λ d i. none_is c.args.bench.now.frame.pitch c.args.object.now d _ (sym c.bounds.ensures.value ∙ c.in-None.is)
