use Rattle.std.proofs.Common.{◌≡◌, ◌+◌, ◌≤◌, length}
use Rattle.std.specs.Str.Lines.{lines}
use Rattle.rs274_sim.specs.Reading.{lines_from}
use Rattle.ngc_reader.proofs.PartLaws.{with_lines}
use Rattle.ngc_reader.proofs.program.all_lines.Given as goal

abbrev pub invariant-loop-text : goal.invariant-loop-text
invariant-loop-text l = record {
  read : with_lines l.lines.items (lines_from l.line (lines l.rest)) ≡ lines_from 0 (lines l.bytes);
  few : l.line + length l.rest ≤ length l.bytes;
  count : length l.lines.items ≡ l.line;
}

abbrev pub decreases-loop-text : goal.decreases-loop-text
decreases-loop-text l = length l.rest
