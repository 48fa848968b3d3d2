use Rattle.pcbmill.proofs.PutLaws.{put_prefix}
use Rattle.pcbmill.proofs.exit.ending.Goals as goal

pub returns-in-Err-clause-lines : goal.returns-in-Err-clause-lines
returns-in-Err-clause-lines g c =
    let state = g.K.Sink.state in
    rw c.in-Err.is (put_prefix c.put-put.result _ (state c.args.out.now).text (state c.put-put.new.self).text c.put-put.ensures.ok c.put-put.ensures.prefix c.put-put.ensures.memory)
