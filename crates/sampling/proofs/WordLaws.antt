-- Numbers of pads that were tried one after another.
use Rattle.std.proofs.Common.{◌≡◌, ℕ, suc, ◌+◌, ◌-◌, ◌<◌, Bool, false, refl, arith}
use Rattle.std.specs.List.{find, range_with_len}

-- the next number, where one isn't what was looked for
pub next_number : (test : ℕ → Bool) (n : ℕ) → n < 401 → test n ≡ false → find test (range_with_len n (401 - n)) ≡ find test (range_with_len (n + 1) (401 - (n + 1)))
next_number test n lt other =
    let more : 401 - n ≡ suc (401 - (n + 1)) = omega arith in
    rw (more, other) refl
