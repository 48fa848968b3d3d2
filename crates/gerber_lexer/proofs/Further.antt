-- A further command of a block is found without the block's end.
use Rattle.std.proofs.Common.{◌≡◌, ℕ, ◌<◌, ◌≤◌, ◌+◌, ◌-◌, Bool, true, false, not, List, length, drop, get_or, Some, None, ◌==◌, nat_lt, nat_eq, refl, ap, sym, ◌∙◌, arith}
use Rattle.std.specs.Bool.{if◌then◌else◌}
use Rattle.std.specs.List.{position_or_len}
use Rattle.std.specs.Option.{IsSome}
use Rattle.std.proofs.lemmas.List.{get_or-drop, length-drop}
use Rattle.std.proofs.lemmas.List.Sums.{position_or_len_is, fails_before_first, passes_at_first}
use Rattle.gerber_lexer.specs.Cut.{is_break, star, percent, way_to, breaks_before, first_byte, ends_in_star, is_macro, block_rest, way_to_end, command_in, block_command}
use Rattle.gerber_lexer.specs.declared.lexer.Span.{Span}
use Rattle.number_laws.proofs.Tests.{by_bool}
use Rattle.gerber_lexer.proofs.Ways.{breaks_to_star, last_star}
use Rattle.gerber_lexer.proofs.Rests.{eq_byte, not_eq, way_short, block_front, block_len, block_behind, end_star}
use Rattle.gerber_lexer.proofs.Fronts.{block_is_front, front_breaks, end_of_word}

-- a block that is closed and ends in a star
pub record IsClosed (rest : List ℕ) : Type 0 where
  pub short : way_to percent rest < length rest
  pub star : ends_in_star (block_rest rest) ≡ true

pub percent_is : (rest : List ℕ) → way_to percent rest < length rest → get_or rest (way_to percent rest) 0 ≡ percent
unfolding way_to
percent_is rest h = eq_byte (get_or rest (way_to percent rest) 0) percent (passes_at_first (λ b. b == percent) rest 0 h)

pub no_percent : (rest : List ℕ) (k : ℕ) → k < way_to percent rest → (get_or rest k 0 == percent) ≡ false
unfolding way_to
no_percent rest k h = fails_before_first (λ b. b == percent) rest k 0 h

-- behind the last star stand line breaks up to the percent sign
pub breaks_to_percent : (rest : List ℕ) (n : ℕ) → IsClosed rest → length (block_rest rest) ≤ n → n ≤ way_to percent rest → breaks_before (drop n rest) ≡ way_to percent rest - n
unfolding breaks_before
breaks_to_percent rest n c low high =
    let way = way_to percent rest in
    let len : length (drop n rest) ≡ length rest - n = length-drop n rest in
    let place : n + (way - n) ≡ way = omega (arith, high) in
    position_or_len_is (λ b. not (is_break b)) (drop n rest) (way - n) 0
    (omega (arith, len, c.short))
    (λ k h. let b : is_break (get_or rest (n + k) 0) ≡ true = block_behind rest (n + k) (omega (arith, low)) (omega (arith, h)) in rw (get_or-drop n rest k 0, b) refl)
    (λ _. let b : get_or rest (n + (way - n)) 0 ≡ percent = ap (λ k. get_or rest k 0) place ∙ percent_is rest c.short in rw (get_or-drop n rest (way - n) 0, b) refl)

-- a star stands behind, and before it no percent sign
more_behind : (rest : List ℕ) (n : ℕ) → IsClosed rest → n < length (block_rest rest) → (first_byte (drop n rest) == percent) ≡ false
unfolding first_byte breaks_before
more_behind rest n c h =
    let block = block_rest rest in
    let i = length block - 1 - n in
    let last = last_star block c.star in
    let in_way = block_len rest in
    let len : length (drop n rest) ≡ length rest - n = length-drop n rest in
    let place : n + i ≡ length block - 1 = omega (arith, h) in
    let star_at : get_or (drop n rest) i 0 ≡ 42 = get_or-drop n rest i 0 ∙ ap (λ k. get_or rest k 0) place ∙ sym (block_front rest (length block - 1) (omega (arith, h))) ∙ last.1 in
    let few = breaks_to_star (drop n rest) i (omega (arith, len, h, in_way, c.short)) star_at in
    ap (λ b. b == percent) (get_or-drop n rest (position_or_len (λ b. not (is_break b)) (drop n rest)) 0)
    ∙ no_percent rest (n + position_or_len (λ b. not (is_break b)) (drop n rest)) (omega (arith, few, h, in_way))

none_behind : (rest : List ℕ) (n : ℕ) → IsClosed rest → length (block_rest rest) ≤ n → n ≤ way_to percent rest → (first_byte (drop n rest) == percent) ≡ true
unfolding first_byte
none_behind rest n c low high =
    let way = way_to percent rest in
    let place : n + (way - n) ≡ way = omega (arith, high) in
    let b : get_or rest (n + (way - n)) 0 ≡ percent = ap (λ k. get_or rest k 0) place ∙ percent_is rest c.short in
    rw (breaks_to_percent rest n c low high, get_or-drop n rest (way - n) 0, b) refl

-- whether a block goes on behind a star is told by the next byte that is no line break
pub goes_on_test : (rest : List ℕ) (n : ℕ) → IsClosed rest → n ≤ length (block_rest rest) → nat_lt n (length (block_rest rest)) ≡ not (first_byte (drop n rest) == percent)
goes_on_test rest n c h = by_bool (nat_lt n (length (block_rest rest)))
    (λ t. rw (t, more_behind rest n c (grind (arith, t))) refl)
    (λ f. let low : length (block_rest rest) ≤ n = grind (arith, f) in rw (f, none_behind rest n c low (omega (arith, h, block_len rest))) refl)

-- the command that ends at the first star
abbrev pub near : ℕ → List ℕ → Span
near at rest = record {
  from = at + breaks_before rest;
  to = at + way_to star rest;
  extended = true;
  inside = not (first_byte (drop (way_to star rest + 1) rest) == percent);
  next = if not (first_byte (drop (way_to star rest + 1) rest) == percent) then at + way_to star rest + 1 else at + way_to star rest + 1 + breaks_before (drop (way_to star rest + 1) rest) + 1;
}

is_near : (at : ℕ) (rest : List ℕ) → IsClosed rest → is_macro rest ≡ false → command_in at (block_rest rest) (way_to percent rest) ≡ near at rest
is_near at rest c m =
    let block = block_rest rest in
    let to = way_to star rest in
    let ends : way_to_end block ≡ to = end_of_word rest c.star m in
    let front : breaks_before block ≡ breaks_before rest = sym (front_breaks block rest (block_is_front rest c.star)) in
    let star_at = end_star block c.star in
    let less : to < length block = rw ends at star_at.0 in
    let in_way = block_len rest in
    by_bool (nat_lt (to + 1) (length block))
    (λ t. rw (ends, front, t, more_behind rest (to + 1) c (grind (arith, t))) refl)
    (λ f.
    let low : length block ≤ to + 1 = grind (arith, f) in
    let place : at + way_to percent rest + 1 ≡ at + to + 1 + (way_to percent rest - (to + 1)) + 1 = omega (arith, less, in_way) in
    rw (ends, front, f, none_behind rest (to + 1) c low (omega (arith, less, in_way)), breaks_to_percent rest (to + 1) c low (omega (arith, less, in_way)), place) refl)

guards : (a b : Bool) (x : Span) → IsSome (if a then None else if b then Some x else None) → (a ≡ false) × (b ≡ true)
guards true b x e = absurd (grind (arith, e))
guards false true x e = (refl, refl)
guards false false x e = absurd (grind (arith, e))

pub closed_of : (at : ℕ) (rest : List ℕ) → IsSome (block_command at rest) → IsClosed rest
closed_of at rest e =
    let g = guards (nat_eq (way_to percent rest) (length rest)) (ends_in_star (block_rest rest)) (command_in at (block_rest rest) (way_to percent rest)) e in
    record { short = not_eq (way_to percent rest) (length rest) (way_short rest) g.0; star = g.1 }

differs : (a b : ℕ) → a < b → nat_eq a b ≡ false
differs a b h = grind (arith, h)

pub of_closed : (at : ℕ) (rest : List ℕ) → IsClosed rest → block_command at rest ≡ Some (command_in at (block_rest rest) (way_to percent rest))
of_closed at rest c = rw (differs (way_to percent rest) (length rest) c.short, c.star) refl

-- where a command of a block stands that is no macro's, it is the near one
pub near_is : (at : ℕ) (rest : List ℕ) → IsSome (block_command at rest) → is_macro rest ≡ false → block_command at rest ≡ Some (near at rest)
near_is at rest e m = let c = closed_of at rest e in of_closed at rest c ∙ ap (λ s. Some s) (is_near at rest c m)

pub near_short : (at : ℕ) (rest : List ℕ) → IsSome (block_command at rest) → is_macro rest ≡ false → way_to star rest < length rest
near_short at rest e m =
    let c = closed_of at rest e in
    let less : way_to star rest < length (block_rest rest) = rw (end_of_word rest c.star m) at (end_star (block_rest rest) c.star).0 in
    omega (arith, less, block_len rest, c.short)

-- the same by its parts
pub near_of : (at : ℕ) (rest behind : List ℕ) (b to more : ℕ) (inside : Bool) → IsSome (block_command at rest) → is_macro rest ≡ false → b ≡ breaks_before rest → to ≡ way_to star rest → behind ≡ drop (to + 1) rest
    → inside ≡ not (first_byte behind == percent) → more ≡ breaks_before behind
    → block_command at rest ≡ Some (record { from = at + b; to = at + to; extended = true; inside = inside; next = if inside then at + to + 1 else at + to + 1 + more + 1 })
near_of at rest behind b to more inside e m p q r s t = rw (s, t, r, q, p) (near_is at rest e m)
