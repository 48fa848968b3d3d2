use Rattle.std.proofs.Common.{◌∙◌}
use Rattle.ngc_reader.specs.Views.{piece_of}
use Rattle.ngc_reader.proofs.PieceLaws.{at_piece}
use Rattle.ngc_reader.proofs.lines.parts_line.Goals as goal

pub loop-most-preserved : goal.loop-most-preserved
loop-most-preserved c =
    let l = c.loop-most in
    at_piece l.line c.add.new.line l.most l.rest.now c.in-Some.first.now c.in-Some.others.now c.in_ok-part.behind.now (piece_of c.in_ok-part.part) c.loop-most-test.true c.in-Some.ensures.cases.0 c.if-first-eq59.false
    c.in_ok-part.ensures c.in_ok-add.ensures ∙ l.invariant
