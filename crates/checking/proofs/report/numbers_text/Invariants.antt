use Rattle.std.proofs.Common.{◌≡◌, take}
use Rattle.std.specs.Prelude.{string_bytes}
use Rattle.mill_outputs.specs.Report.{numbers_text}
use Rattle.checking.proofs.report.numbers_text.Given as goal

-- the text so far is that of the numbers so far
abbrev pub invariant-loop-k : goal.invariant-loop-k
invariant-loop-k l = string_bytes l.text ≡ numbers_text (take l.k l.group)
