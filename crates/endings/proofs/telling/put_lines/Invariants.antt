use Rattle.std.proofs.Common.{◌≡◌, ◌≤◌, take}
use Rattle.board_base.specs.Sink.{appended}
use Rattle.endings.proofs.telling.put_lines.Given as goal

-- the lines before the one at hand were put
abbrev pub invariant-loop-at : goal.invariant-loop-at
invariant-loop-at g l =
    let state = g.K.Sink.state in
    record {
      start : l.start ≤ l.at;
      text : (state l.out).text ≡ appended (take l.start l.lines) (state l.fn.out).text;
      faults : (state l.fn.out).faults ≤ (state l.out).faults;
    }
