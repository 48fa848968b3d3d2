use Rattle.std.proofs.Common.{◌≡◌, ◌-◌}
use Rattle.std.specs.Prelude.{decimal}
use Rattle.std.specs.List.{find, range_with_len}
use Rattle.std.specs.Str.{bytes_eq}
use Rattle.sampling.specs.Words.{pads_of}
use Rattle.sampling.proofs.words.pads_in.Given as goal

-- the word is no number that was tried
abbrev pub invariant-loop-pads : goal.invariant-loop-pads
invariant-loop-pads l = find (λ n. bytes_eq l.word (decimal n)) (range_with_len l.pads (401 - l.pads)) ≡ pads_of l.word
