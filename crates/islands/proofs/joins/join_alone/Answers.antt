use Rattle.std.proofs.Common.{sym, ap, ◌∙◌, get_or}
use Rattle.cell_grid.specs.Place.{place_of}
use Rattle.islands.proofs.JoinGrids.{put_forested, put_points, put_joined}
use Rattle.islands.proofs.joins.join_alone.Goals as goal

pub join_around-requires-clause-forest : goal.join_around-requires-clause-forest
join_around-requires-clause-forest c =
    put_forested c.args.frame c.args.bench.now c.set_work.new.self c.args.c c.args.node c.requires.frame c.set_work.ensures c.args.outer c.requires.cell c.frame.ensures.sized.works c.requires.node c.requires.forest
    (ap (λ f. get_or c.args.bench.now.works (place_of f c.args.c) 0) (sym c.requires.frame) ∙ c.requires.free)

pub join_around-requires-clause-live : goal.join_around-requires-clause-live
join_around-requires-clause-live c =
    put_points c.args.frame c.args.bench.now c.set_work.new.self c.args.c c.args.node c.requires.frame c.set_work.ensures c.args.outer c.requires.cell c.frame.ensures.sized.works c.requires.node

pub returns-clause-joined : goal.returns-clause-joined
returns-clause-joined c =
    put_joined c.args.frame c.args.bench.now c.set_work.new.self c.args.c c.args.node c.requires.frame c.set_work.ensures c.args.outer c.requires.cell c.frame.ensures.sized.works c.requires.node
    c.join_around.new.bench c.requires.free c.join_around.ensures.joined
