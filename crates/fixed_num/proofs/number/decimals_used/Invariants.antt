use Rattle.std.proofs.Common.{◌≡◌, ℕ, ◌<◌, ◌≤◌, length, get_or, true}
use Rattle.fixed_num.specs.Values.{is_zero}
use Rattle.fixed_num.proofs.number.decimals_used.Given as goal

-- all digits from here on are 0
abbrev pub invariant-loop-used : goal.invariant-loop-used
invariant-loop-used l = record {
  within : l.used ≤ length l.digits;
  zeros : (k : ℕ) → l.used ≤ k → k < length l.digits → is_zero (get_or l.digits k 0) ≡ true;
}

abbrev pub decreases-loop-used : goal.decreases-loop-used
decreases-loop-used l = l.used
