-- A list that ends in a star, in front of another one: both have the same first bytes.
use Rattle.std.proofs.Common.{◌≡◌, ℕ, ◌<◌, ◌≤◌, ◌+◌, ◌-◌, Bool, true, false, not, List, length, drop, get_or, ◌==◌, refl, ap, sym, ◌∙◌, arith}
use Rattle.std.specs.List.{position_or_len}
use Rattle.std.proofs.lemmas.List.{get_or-drop, length-drop}
use Rattle.std.proofs.lemmas.List.Sums.{position_or_len_is, fails_before_first, passes_at_first}
use Rattle.gerber_lexer.specs.Cut.{is_break, star, way_to, breaks_before, first_byte, ends_in_star, is_macro, block_rest, way_to_end}
use Rattle.number_laws.proofs.Tests.{by_bool}
use Rattle.gerber_lexer.proofs.Ways.{last_star, to_first, to_last}
use Rattle.gerber_lexer.proofs.Rests.{way_short, block_front, block_len}

-- the first list stands in front of the second, and ends in a star
pub record IsFront (block rest : List ℕ) : Type 0 where
  pub within : length block ≤ length rest
  pub same : (k : ℕ) → k < length block → get_or block k 0 ≡ get_or rest k 0
  pub star : ends_in_star block ≡ true

front_first : (p : ℕ → Bool) (block rest : List ℕ) → IsFront block rest → position_or_len p block < length block → position_or_len p rest ≡ position_or_len p block
front_first p block rest f short = position_or_len_is p rest (position_or_len p block) 0
    (omega (arith, f.within, short))
    (λ k h. ap p (sym (f.same k (omega (arith, h, short)))) ∙ fails_before_first p block k 0 h)
    (λ _. ap p (sym (f.same (position_or_len p block) short)) ∙ passes_at_first p block 0 short)

breaks_short : (block : List ℕ) → ends_in_star block ≡ true → breaks_before block < length block
breaks_short block e = omega (arith, to_last block e)

pub front_breaks : (block rest : List ℕ) → IsFront block rest → breaks_before rest ≡ breaks_before block
unfolding breaks_before
front_breaks block rest f = front_first (λ b. not (is_break b)) block rest f (breaks_short block f.star)

pub front_star : (block rest : List ℕ) → IsFront block rest → way_to star rest ≡ way_to star block
unfolding way_to
front_star block rest f = front_first (λ b. b == star) block rest f (to_first block f.star).0

front_byte : (block rest : List ℕ) → IsFront block rest → first_byte rest ≡ first_byte block
unfolding first_byte
front_byte block rest f = ap (λ i. get_or rest i 0) (front_breaks block rest f) ∙ sym (f.same (breaks_before block) (breaks_short block f.star))

pub ends_so : (xs : List ℕ) → 0 < length xs → get_or xs (length xs - 1) 0 ≡ star → ends_in_star xs ≡ true
unfolding ends_in_star
ends_so xs h e = grind (arith, h, e)

front_drop : (n : ℕ) (block rest : List ℕ) → IsFront block rest → n < length block → IsFront (drop n block) (drop n rest)
front_drop n block rest f h =
    let l : length (drop n block) ≡ length block - n = length-drop n block in
    let m : length (drop n rest) ≡ length rest - n = length-drop n rest in
    let last = last_star block f.star in
    let place : n + (length (drop n block) - 1) ≡ length block - 1 = omega (arith, l, h) in
    record {
      within = omega (arith, l, m, f.within);
      same = λ k less. get_or-drop n block k 0 ∙ f.same (n + k) (omega (arith, less, l)) ∙ sym (get_or-drop n rest k 0);
      star = ends_so (drop n block) (omega (arith, l, h)) (get_or-drop n block (length (drop n block) - 1) 0 ∙ ap (λ k. get_or block k 0) place ∙ last.1);
    }

-- an A isn't the star at the end
letter_before : (block : List ℕ) → ends_in_star block ≡ true → (first_byte block == 65) ≡ true → breaks_before block + 1 < length block
unfolding first_byte
letter_before block e t =
    let last = last_star block e in
    by_place (length block - 1) (breaks_before block) refl refl last
  where
    by_place : (m b : ℕ) → m ≡ length block - 1 → b ≡ breaks_before block → (0 < length block) × (get_or block (length block - 1) 0 ≡ 42) → breaks_before block + 1 < length block
    by_place m b p q last = by_bool (b == m)
        (λ same.
        let eq : breaks_before block ≡ length block - 1 = grind (arith, p, q, same) in
        let a : (42 == 65) ≡ true = sym (ap (λ x. x == 65) (ap (λ k. get_or block k 0) eq ∙ last.1)) ∙ t in
        absurd (grind (arith, a)))
        (λ other.
        let less : breaks_before block < length block = breaks_short block e in
        grind (arith, p, q, other, less))

pub front_macro : (block rest : List ℕ) → IsFront block rest → is_macro rest ≡ is_macro block
unfolding is_macro
front_macro block rest f =
    let e = front_byte block rest f in
    let b = front_breaks block rest f in
    by_bool (first_byte block == 65)
    (λ t.
    let next = front_byte (drop (breaks_before block + 1) block) (drop (breaks_before block + 1) rest) (front_drop (breaks_before block + 1) block rest f (letter_before block f.star t)) in
    rw (e, b, next) refl)
    (λ n. rw (e, n) refl)

-- the rest of a block stands in front of the bytes
pub block_is_front : (rest : List ℕ) → ends_in_star (block_rest rest) ≡ true → IsFront (block_rest rest) rest
block_is_front rest e = record {
  within = omega (arith, block_len rest, way_short rest);
  same = block_front rest;
  star = e;
}

-- a command that is no macro's ends at the first star
pub end_of_word : (rest : List ℕ) → ends_in_star (block_rest rest) ≡ true → is_macro rest ≡ false → way_to_end (block_rest rest) ≡ way_to star rest
unfolding way_to_end
end_of_word rest e m =
    let f = block_is_front rest e in
    let n : is_macro (block_rest rest) ≡ false = sym (front_macro (block_rest rest) rest f) ∙ m in
    rw n (sym (front_star (block_rest rest) rest f))
