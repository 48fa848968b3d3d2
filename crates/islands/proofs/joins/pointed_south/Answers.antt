use Rattle.std.proofs.Common.{sym, ◌∙◌}
use Rattle.std.proofs.lemmas.Bool.{false≢true}
use Rattle.islands.proofs.JoinGrids.{south_is}
use Rattle.islands.proofs.joins.pointed_south.Goals as goal

pub returns : goal.returns
returns c =
    λ _. south_is _ _ _ c.args.x c.args.y _ c.cell_at.result c.requires.frame c.requires.x (λ e. false≢true (sym c.if-is_edge.false ∙ c.is_edge.ensures.1 e)) c.cell_at.ensures.inside
    c.cell_at.ensures.column c.cell_at.ensures.row c.cell_at.ensures.place c.work.ensures
