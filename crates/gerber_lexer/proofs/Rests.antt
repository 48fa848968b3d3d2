-- The rest of a block: what stands in it, behind it and at its end.
use Rattle.std.proofs.Common.{◌≡◌, ℕ, ◌<◌, ◌≤◌, ◌-◌, Bool, true, false, not, List, length, take, reverse, get_or, Option, Some, None, unwrap_or, Result, Ok, Err, ◌==◌, nat_eq, refl, ap, sym, ◌∙◌, arith, length-take-le}
use Rattle.std.specs.Bool.{if◌then◌else◌}
use Rattle.std.specs.List.{position_or_len}
use Rattle.std.proofs.lemmas.List.{get_or-reverse, get_or-take, length-reverse}
use Rattle.std.proofs.lemmas.List.Sums.{prefix_len-le-length, fails_before_first, passes_at_first}
use Rattle.gerber_lexer.specs.Cut.{is_break, star, percent, way_to, breaks_behind, ends_in_star, is_macro, block_rest, way_to_end, found_at}
use Rattle.gerber_lexer.specs.declared.lexer.Span.{Span}
use Rattle.number_laws.proofs.Tests.{by_bool}
use Rattle.gerber_lexer.proofs.Ways.{last_star, to_first}

pub some_is : {A : Type 0} (x c : A) → Some x ≡ Some c → x ≡ c
some_is x c e = ap (λ o. unwrap_or o x) e

pub none_some : {A P : Type 0} (c : A) → ◌≡◌ {A = Option A} None (Some c) → P
none_some c e = absurd (grind (arith, e))

pub guarded : {A : Type 0} (b : Bool) (x c : A) → (if b then None else Some x) ≡ Some c → (b ≡ false) × (x ≡ c)
guarded true x c e = none_some c e
guarded false x c e = (refl, some_is x c e)

pub found_some : (at : ℕ) (o : Option Span) (c : Span) → found_at at o ≡ Ok (Some c) → o ≡ Some c
found_some at (Some d) c e = ap (λ r. or_none r) e
  where
    or_none : Result (Option Span) ℕ → Option Span
    or_none (Ok o) = o
    or_none (Err e) = None
found_some at None c e = absurd (grind (arith, e))

pub eq_byte : (a b : ℕ) → (a == b) ≡ true → a ≡ b
eq_byte a b e = grind (arith, e)

pub not_eq : (a b : ℕ) → a ≤ b → nat_eq a b ≡ false → a < b
not_eq a b h e = grind (arith, h, e)

pub broken : (b : Bool) → not b ≡ false → b ≡ true
broken true e = refl
broken false e = absurd (grind (arith, e))

pub way_short : (rest : List ℕ) → way_to percent rest ≤ length rest
unfolding way_to
way_short rest = prefix_len-le-length (λ b. not (b == percent)) rest

pub few_behind : (t : List ℕ) → breaks_behind t ≤ length t
unfolding breaks_behind
few_behind t = let h = prefix_len-le-length (λ b. not (not (is_break b))) (reverse t) in omega (arith, h, length-reverse t)

-- the rest of a block stands in front of the bytes, and line breaks behind it up to the percent sign
pub block_front : (rest : List ℕ) (i : ℕ) → i < length (block_rest rest) → get_or (block_rest rest) i 0 ≡ get_or rest i 0
unfolding block_rest
block_front rest i h =
    let t = take (way_to percent rest) rest in
    let n = length t - breaks_behind t in
    let len : length t ≡ way_to percent rest = length-take-le (way_to percent rest) rest (way_short rest) in
    let cut : length (take n t) ≡ n = length-take-le n t (omega arith) in
    get_or-take n t i 0 (omega (arith, h, cut)) ∙ get_or-take (way_to percent rest) rest i 0 (omega (arith, h, cut, len))

pub block_len : (rest : List ℕ) → length (block_rest rest) ≤ way_to percent rest
unfolding block_rest
block_len rest =
    let t = take (way_to percent rest) rest in
    let n = length t - breaks_behind t in
    let len : length t ≡ way_to percent rest = length-take-le (way_to percent rest) rest (way_short rest) in
    let cut : length (take n t) ≡ n = length-take-le n t (omega arith) in
    omega (arith, len, cut)

breaks_last : (t : List ℕ) (j : ℕ) → j < breaks_behind t → j < length t → is_break (get_or t (length t - 1 - j) 0) ≡ true
unfolding breaks_behind
breaks_last t j h k =
    let f : not (is_break (get_or (reverse t) j 0)) ≡ false = fails_before_first (λ b. not (is_break b)) (reverse t) j 0 h in
    ap is_break (sym (get_or-reverse t j 0 k)) ∙ broken (is_break (get_or (reverse t) j 0)) f

pub block_behind : (rest : List ℕ) (i : ℕ) → length (block_rest rest) ≤ i → i < way_to percent rest → is_break (get_or rest i 0) ≡ true
unfolding block_rest
block_behind rest i low high =
    let t = take (way_to percent rest) rest in
    let n = length t - breaks_behind t in
    let len : length t ≡ way_to percent rest = length-take-le (way_to percent rest) rest (way_short rest) in
    let cut : length (take n t) ≡ n = length-take-le n t (omega arith) in
    let j = length t - 1 - i in
    let gap : is_break (get_or t (length t - 1 - j) 0) ≡ true = breaks_last t j (omega (arith, low, high, len, cut, few_behind t)) (omega (arith, high, len)) in
    let same : length t - 1 - j ≡ i = omega (arith, high, len) in
    let here : get_or t i 0 ≡ get_or rest i 0 = get_or-take (way_to percent rest) rest i 0 high in
    ap is_break (sym here ∙ ap (λ k. get_or t k 0) (sym same)) ∙ gap

-- the star that ends a command of a block
pub end_star : (block : List ℕ) → ends_in_star block ≡ true → (way_to_end block < length block) × (get_or block (way_to_end block) 0 ≡ star)
unfolding way_to_end way_to
end_star block e =
    let last = last_star block e in
    let first = to_first block e in
    by_bool (is_macro block)
    (λ t. rw t (omega (arith, last.0), last.1))
    (λ f. rw f (first.0, eq_byte (get_or block (position_or_len (λ b. b == star) block) 0) star (passes_at_first (λ b. b == star) block 0 first.0)))

-- a block that is closed and ends in a star
pub block_guard : (a b : Bool) (x c : Span) → (if a then None else if b then Some x else None) ≡ Some c → (a ≡ false) × (b ≡ true) × (x ≡ c)
block_guard true b x c e = none_some c e
block_guard false true x c e = (refl, refl, some_is x c e)
block_guard false false x c e = none_some c e
