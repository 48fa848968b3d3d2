-- The spaces at a text's end.
use Rattle.std.proofs.Common.{◌≡◌, ℕ, ◌-◌, ◌<◌, ◌≤◌, true, false, List, length, take, get_or, ap, arith}
use Rattle.std.proofs.lemmas.List.Sums.{suffix_len_is}
use Rattle.text_cut.specs.Spaces.{is_space, without_last}

-- spaces from here on, and none before
pub without_last_is : (text : List ℕ) (n : ℕ) → n ≤ length text → ((k : ℕ) → n ≤ k → k < length text → is_space (get_or text k 0) ≡ true) → (0 < n → is_space (get_or text (n - 1) 0) ≡ false)
    → take n text ≡ without_last text
without_last_is text n within spaces stops =
    let e = suffix_len_is is_space text n 0 within spaces stops in
    ap (λ k. take k text) (omega (arith, e))
