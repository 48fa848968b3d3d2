use Rattle.std.proofs.Common.{sym, subst}
use Rattle.ngc_reader.specs.Gives.{Gives}
use Rattle.ngc_reader.proofs.PieceLaws.{at_digits}
use Rattle.ngc_reader.proofs.lines.numbered_line.Goals as goal

pub returns : goal.returns
returns c =
    subst (Gives (λ line. line) c.parts_line.result)
    (sym (at_digits c.args.bytes.now c.front_length.result c.min-digits.result c.front_length.ensures.within c.front_length.ensures.front c.min-digits.ensures c.if-digits-eq0.false)) c.parts_line.ensures
