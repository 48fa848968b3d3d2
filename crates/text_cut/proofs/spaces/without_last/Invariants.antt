use Rattle.std.proofs.Common.{◌≡◌, ℕ, ◌<◌, ◌≤◌, length, get_or, true}
use Rattle.text_cut.specs.Spaces.{is_space}
use Rattle.text_cut.proofs.spaces.without_last.Given as goal

-- all bytes from here on are spaces
abbrev pub invariant-loop-end : goal.invariant-loop-end
invariant-loop-end l = record {
  within : l.end ≤ length l.text;
  spaces : (k : ℕ) → l.end ≤ k → k < length l.text → is_space (get_or l.text k 0) ≡ true;
}

abbrev pub decreases-loop-end : goal.decreases-loop-end
decreases-loop-end l = l.end
