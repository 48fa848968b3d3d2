use Rattle.std.proofs.Common.{◌+◌, arith, rules, sym, ap, ◌∙◌, take, length}
use Rattle.board_base.specs.Sink.{appended}
use Rattle.endings.proofs.PutLaws.{between_on, one_more, put_failed, passed_on}
use Rattle.endings.proofs.telling.put_lines.Goals as goal
use Rattle.endings.proofs.telling.put_lines.Goals.{then-lines-at-eq10+in_ok-put, else-lines-at-eq10}

pub returns-in_err-put-clause-prefix : goal.returns-in_err-put-clause-prefix
returns-in_err-put-clause-prefix g c =
    let state = g.K.Sink.state in
    passed_on _ c.put.result c.in_err-put.field-0.0 c.from_residual.result c.in_err-put.was
    (put_failed c.put.result c.args.lines.now c.loop-at.start _ (state c.args.out.now).text (state c.loop-at.out).text (state c.put.new.self).text
    (between_on c.args.lines.now c.loop-at.start (c.loop-at.at + 1) (omega (arith, c.loop-at.invariant.start))) c.loop-at.invariant.text c.put.ensures.prefix c.put.ensures.memory)

pub loop-at-preserved : goal.loop-at-preserved
loop-at-preserved g c =
    let state = g.K.Sink.state in
    elim c.if-lines-at-eq10.branch [
      | then-lines-at-eq10+in_ok-put w ↦ record {
        start = search rules;
        text = ap (λ o. (state o).text) w.out-is
            ∙ one_more c.args.lines.now c.loop-at.start (c.loop-at.at + 1) (state c.args.out.now).text (state c.loop-at.out).text (state w.put.new.self).text
            (omega (arith, c.loop-at.invariant.start)) c.loop-at.invariant.text w.in_ok-put.ensures.ok
            ∙ ap (λ k. appended (take k c.args.lines.now) (state c.args.out.now).text) (sym w.start-is);
        faults = search rules;
      }
      | else-lines-at-eq10 w ↦ record {
        start = search rules;
        text = search rules;
        faults = search rules;
      }
    ]

pub returns-clause-prefix : goal.returns-clause-prefix
returns-clause-prefix g c =
    let state = g.K.Sink.state in
    put_failed c.put-2.result c.args.lines.now c.loop-at.start _ (state c.args.out.now).text (state c.loop-at.out).text (state c.put-2.new.self).text
    (between_on c.args.lines.now c.loop-at.start (length c.args.lines.now) (omega (arith, c.loop-at.invariant.start, c.loop-at.auto.at-end))) c.loop-at.invariant.text c.put-2.ensures.prefix c.put-2.ensures.memory
