-- Digits up to the last one that isn't 0.
use Rattle.std.proofs.Common.{◌≡◌, ℕ, ◌+◌, ◌-◌, ◌<◌, ◌≤◌, List, true, false, length, drop, get_or, arith, ap, sym, ◌∙◌, inl, inr}
use Rattle.std.specs.Prelude.{◌⊎◌, reverse}
use Rattle.std.specs.List.{All, suffix_len}
use Rattle.std.proofs.lemmas.Bool.{cases_lt}
use Rattle.std.proofs.lemmas.Grind.{common_steps}
use Rattle.std.proofs.lemmas.List.{get_or-reverse, length-reverse, get_or-drop, length-drop}
use Rattle.std.proofs.lemmas.List.Sums.{prefix_len_passes, prefix_len_stops, suffix_len_is, suffix_len-le-length}
use Rattle.fixed_num.specs.Decimal.{fraction_of}
use Rattle.fixed_num.specs.Values.{is_zero, decimals_used, UsedLaw}

-- the loop's end: zeros from here on, and none before
pub used_is : (digits : List ℕ) (n : ℕ) → n ≤ length digits → ((k : ℕ) → n ≤ k → k < length digits → is_zero (get_or digits k 0) ≡ true) → (0 < n → is_zero (get_or digits (n - 1) 0) ≡ false) → n ≡ decimals_used digits
unfolding decimals_used
used_is digits n within zeros stops = let e = suffix_len_is is_zero digits n 0 within zeros stops in omega (arith, e)

-- all from there on are 0
zeros_behind : (digits : List ℕ) (k d : ℕ) → length digits - suffix_len is_zero digits ≤ k → k < length digits → is_zero (get_or digits k d) ≡ true
zeros_behind digits k d low high =
    let turned : get_or (reverse digits) (length digits - 1 - k) d ≡ get_or digits (length digits - 1 - (length digits - 1 - k)) d = get_or-reverse digits (length digits - 1 - k) d (omega arith) in
    let place : length digits - 1 - (length digits - 1 - k) ≡ k = omega arith in
    let passes = prefix_len_passes is_zero (reverse digits) (length digits - 1 - k) d (omega (arith, suffix_len-le-length is_zero digits)) in
    ap (λ j. is_zero (get_or digits j d)) (sym place) ∙ ap is_zero (sym turned) ∙ passes

-- the one before isn't
last_used : (digits : List ℕ) → suffix_len is_zero digits < length digits → is_zero (get_or digits (length digits - 1 - suffix_len is_zero digits) 0) ≡ false
last_used digits h =
    let turned = get_or-reverse digits (suffix_len is_zero digits) 0 h in
    let stops = prefix_len_stops is_zero (reverse digits) 0 (omega (arith, length-reverse digits, h)) in
    ap is_zero (sym turned) ∙ stops

a_zero : (b : ℕ) → is_zero b ≡ true → b ≡ 48
a_zero b e = grind (arith, common_steps, e)

no_zero : (b : ℕ) → is_zero b ≡ false → b ≡ 48 → ⊥
no_zero b e same = grind (arith, common_steps, e)

ends_used : (scale : ℕ) (digits : List ℕ) → All (λ b. b ≡ 48) (drop scale digits) → decimals_used digits ≤ scale
unfolding decimals_used
ends_used scale digits all = by_place (cases_lt scale (length digits - suffix_len is_zero digits))
  where
    by_place : (scale < length digits - suffix_len is_zero digits) ⊎ (length digits - suffix_len is_zero digits ≤ scale) → length digits - suffix_len is_zero digits ≤ scale
    by_place (inr h) = h
    by_place (inl h) =
        let last : ℕ = length digits - 1 - suffix_len is_zero digits in
        let here = all (last - scale) 0 (omega (arith, length-drop scale digits)) in
        let place : scale + (last - scale) ≡ last = omega arith in
        absurd (no_zero (get_or digits last 0) (last_used digits (omega arith)) (ap (λ j. get_or digits j 0) (sym place) ∙ sym (get_or-drop scale digits (last - scale) 0) ∙ here))

used_ends : (scale : ℕ) (digits : List ℕ) → decimals_used digits ≤ scale → All (λ b. b ≡ 48) (drop scale digits)
unfolding decimals_used
used_ends scale digits h k d within =
    let there : is_zero (get_or digits (scale + k) d) ≡ true = zeros_behind digits (scale + k) d (omega arith) (omega (arith, length-drop scale digits, within)) in
    get_or-drop scale digits k d ∙ a_zero (get_or digits (scale + k) d) there

pub used_law : UsedLaw
used_law scale d = (ends_used scale (fraction_of d), used_ends scale (fraction_of d))
