use Rattle.std.proofs.Common.{take}
use Rattle.side_check.specs.Struck.{AreHarmless}
use Rattle.side_check.proofs.hits.first_strike.Given as goal

abbrev pub invariant-loop-m : goal.invariant-loop-m
invariant-loop-m l = AreHarmless l.fn.bench l.fn.d l.fn.safe (take l.m-index l.moves.items)
