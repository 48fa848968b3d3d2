use Rattle.std.proofs.Common.{ap, ◌∙◌, rules}
use Rattle.outline_plan.specs.Cuts.{outline_program}
use Rattle.outline_plan.proofs.OutlineLaws.{cut_out_is}
use Rattle.outline_plan.proofs.RefusalLaws.{outline_refused, frame_refused}
use Rattle.outline_plan.proofs.plan.cut_out.Goals as goal

pub returns-in-Err : goal.returns-in-Err
returns-in-Err c = outline_refused c.args.job.now c.args.painted.now.items c.in-Err.error c.in-Err.ensures.refused

pub returns-in-Err-walks : goal.returns-in-Err-walks
returns-in-Err-walks c = frame_refused c.args.job.now c.args.painted.now.items c.in-Ok.board.items c.in-Err-walks.error c.in-Ok.ensures.board c.in-Err-walks.ensures.refused

pub returns : goal.returns
returns c =
    cut_out_is c.args.job.now c.args.painted.now.items c.in-Ok.board.items c.in-Ok-walks.found.1.items _ c.requires c.diagonal_law.ensures c.cover_law.ensures c.walk_law.ensures c.cut_law.ensures c.over_law.ensures c.run_law.ensures c.stroke_law.ensures
    c.in-Ok.ensures.board c.in-Ok-walks.ensures.framed c.in-Ok-walks.ensures.walks c.in-Ok-walks.ensures.chains (search rules) c.levels_count.ensures c.in_ok-bridges.ensures.listed
    (c.in_ok-program.ensures ∙ ap (outline_program c.args.job.now) c.in_ok-cuts.ensures)
