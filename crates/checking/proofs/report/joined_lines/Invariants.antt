use Rattle.std.proofs.Common.{◌≡◌, take}
use Rattle.std.specs.Prelude.{string_bytes}
use Rattle.checking.specs.Checked.{joined_lines}
use Rattle.checking.proofs.report.joined_lines.Given as goal

-- the lines so far are those of the groups so far
abbrev pub invariant-loop-group : goal.invariant-loop-group
invariant-loop-group l = string_bytes l.text ≡ joined_lines (take l.group-index l.groups.items)
