-- How large the numbers are that are read.
use Rattle.std.specs.Prelude.{◌≡◌, ℕ, ◌<◌, ◌≤◌, ◌^◌, ℤ, unsigned_abs, List, Ok}
use Rattle.fixed_num.specs.Values.{cut_at}

-- a decimal that is cut at a scale of at most 12 is below 10^30 in size
abbrev pub SizeLaw : Type 0
SizeLaw = (scale : ℕ) (bytes : List ℕ) (v : ℤ) → scale ≤ 12 → cut_at scale bytes ≡ Ok v → unsigned_abs v < 10 ^ 30
