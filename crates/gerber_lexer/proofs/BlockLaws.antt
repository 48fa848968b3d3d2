-- What holds in a block, and where no command is found.
use Rattle.std.proofs.Common.{◌≡◌, ◌⊎◌, ⊎_elim, inl, inr, ℕ, ◌<◌, ◌≤◌, ◌+◌, ◌-◌, Bool, true, false, not, List, [], ◌∷◌, length, drop, get_or, Option, Some, None, Result, Ok, Err, ◌==◌, nat_lt, nat_eq, refl, ap, sym, ◌∙◌, arith}
use Rattle.std.specs.Bool.{if◌then◌else◌}
use Rattle.std.specs.List.{position_or_len}
use Rattle.std.proofs.lemmas.List.{get_or-drop, drop-drop}
use Rattle.std.proofs.lemmas.List.Sums.{position_or_len_is, fails_before_first, passes_at_first}
use Rattle.gerber_lexer.specs.Cut.{is_break, star, percent, way_to, breaks_before, first_byte, ends_in_star, is_macro, block_rest, way_to_end, command_in, block_command, word_command, found_at, outside_command}
use Rattle.gerber_lexer.specs.Blocks.{HoldsBlock, BlocksHold, FoundInside, HasNo, IsUnclosed, OnlyUnclosedFail}
use Rattle.gerber_lexer.specs.declared.lexer.Span.{Span}
use Rattle.number_laws.proofs.Tests.{by_bool}
use Rattle.gerber_lexer.proofs.Ways.{last_star, to_last}
use Rattle.gerber_lexer.proofs.Rests.{some_is, block_len, end_star}
use Rattle.gerber_lexer.proofs.Fronts.{block_is_front, front_breaks, front_macro, end_of_word}
use Rattle.gerber_lexer.proofs.Further.{IsClosed, no_percent, goes_on_test, closed_of, of_closed}
use Rattle.gerber_lexer.proofs.GoesOn.{IsInBlock, block_or_word, block_goes_on, some_is_some}

-- a command begins with AM where the bytes from its first one on do
macro_from : (rest : List ℕ) → breaks_before rest < length rest → is_macro (drop (breaks_before rest) rest) ≡ is_macro rest
unfolding is_macro first_byte breaks_before
macro_from rest h =
    let b = position_or_len (λ b. not (is_break b)) rest in
    let here : get_or (drop b rest) 0 0 ≡ get_or rest b 0 = let zero : b + 0 ≡ b = omega arith in get_or-drop b rest 0 0 ∙ ap (λ k. get_or rest k 0) zero in
    let none : position_or_len (λ b. not (is_break b)) (drop b rest) ≡ 0 = position_or_len_is (λ b. not (is_break b)) (drop b rest) 0 0 (omega arith) (λ k less. absurd (omega (arith, less)))
    (λ _. ap (λ b. not (is_break b)) here ∙ passes_at_first (λ b. not (is_break b)) rest 0 h)
    in
    let behind : drop 1 (drop b rest) ≡ drop (b + 1) rest = drop-drop 1 b rest in
    rw (none, here, behind) refl

macro_last : (block : List ℕ) → is_macro block ≡ true → ends_in_star block ≡ true → nat_lt (way_to_end block + 1) (length block) ≡ false
unfolding way_to_end
macro_last block m e = let last = last_star block e in rw m (grind (arith, last.0))

no_star : (rest : List ℕ) (k : ℕ) → k < way_to star rest → (get_or rest k 0 == star) ≡ false
unfolding way_to
no_star rest k h = fails_before_first (λ b. b == star) rest k 0 h

byte_at : (bytes : List ℕ) (at k : ℕ) → at ≤ k → get_or bytes k 0 ≡ get_or (drop at bytes) (k - at) 0
byte_at bytes at k h = let e : k ≡ at + (k - at) = omega (arith, h) in ap (λ k. get_or bytes k 0) e ∙ sym (get_or-drop at bytes (k - at) 0)

block_holds : (bytes : List ℕ) (at : ℕ) → IsClosed (drop at bytes) → HoldsBlock bytes (command_in at (block_rest (drop at bytes)) (way_to percent (drop at bytes)))
block_holds bytes at closed =
    let rest = drop at bytes in
    let block = block_rest rest in
    let to = way_to_end block in
    let front = block_is_front rest closed.star in
    let breaks : breaks_before rest ≡ breaks_before block = front_breaks block rest front in
    let star_at = end_star block closed.star in
    let in_way = block_len rest in
    let short : breaks_before rest < length rest = omega (arith, breaks, to_last block closed.star, in_way, closed.short) in
    let there : drop (at + breaks_before block) bytes ≡ drop (breaks_before rest) rest = rw breaks (sym (drop-drop (breaks_before block) at bytes)) in
    let same : is_macro (drop (at + breaks_before block) bytes) ≡ is_macro rest = ap is_macro there ∙ macro_from rest short in
    let behind : drop (at + to + 1) bytes ≡ drop (to + 1) rest = let place : at + to + 1 ≡ at + (to + 1) = omega arith in ap (λ n. drop n bytes) place ∙ sym (drop-drop (to + 1) at bytes) in
    record {
      no_percent = λ k low high. ap (λ b. b == percent) (byte_at bytes at k (omega (arith, low))) ∙ no_percent rest (k - at) (omega (arith, low, high, star_at.0, in_way));
      no_star = λ m k low high.
          let ends : way_to_end block ≡ way_to star rest = end_of_word rest closed.star (sym same ∙ m) in
          ap (λ b. b == star) (byte_at bytes at k (omega (arith, low))) ∙ no_star rest (k - at) (omega (arith, low, high, ends));
      macro = λ m. macro_last block (sym (front_macro block rest front) ∙ sym same ∙ m) closed.star;
      inside = goes_on_test rest (to + 1) closed (omega (arith, star_at.0)) ∙ ap (λ l. not (first_byte l == percent)) (sym behind);
      goes_on = λ t. block_goes_on bytes at rest (command_in at block (way_to percent rest)) refl (of_closed at rest closed) t;
    }

pub blocks_hold : BlocksHold
blocks_hold bytes at inside c e x = ⊎_elim
    (λ (b : IsInBlock bytes c).
    let closed = some_is_some b.place (drop b.place bytes) c b.is in
    let is : command_in b.place (block_rest (drop b.place bytes)) (way_to percent (drop b.place bytes)) ≡ c = some_is (command_in b.place (block_rest (drop b.place bytes)) (way_to percent (drop b.place bytes))) c (sym (of_closed b.place (drop b.place bytes) closed) ∙ b.is) in
    rw (sym is) (block_holds bytes b.place closed))
    (λ (w : (c.extended ≡ false) × (c.inside ≡ false)). let f : false ≡ true = sym w.0 ∙ x in absurd (grind (arith, f)))
    (block_or_word bytes at inside c e)

pub found_inside : FoundInside
found_inside bytes at e =
    let rest = drop at bytes in
    (command_in at (block_rest rest) (way_to percent rest), ap (found_at at) (of_closed at rest (closed_of at rest e)))

-- Where no command is found.

abbrev err_or : ℕ → Result (Option Span) ℕ → ℕ
err_or d (Ok o) = d
err_or d (Err e) = e

found_none : (at : ℕ) (o : Option Span) (fault : ℕ) → found_at at o ≡ Err fault → (o ≡ None) × (at ≡ fault)
found_none at None fault e = (refl, ap (err_or at) e)
found_none at (Some c) fault e = absurd (grind (arith, e))

all_short : (byte : ℕ) (rest : List ℕ) → nat_eq (way_to byte rest) (length rest) ≡ true → HasNo byte rest
unfolding way_to
all_short byte rest e k h = let same : position_or_len (λ b. b == byte) rest ≡ length rest = grind (arith, e) in fails_before_first (λ b. b == byte) rest k 0 (omega (arith, h, same))

block_fails : (a b : Bool) (x : Span) → ◌≡◌ {A = Option Span} (if a then None else if b then Some x else None) None → (a ≡ true) ⊎ (b ≡ false)
block_fails true b x e = inl refl
block_fails false true x e = absurd (grind (arith, e))
block_fails false false x e = inr refl

word_fails : (a : Bool) (x : Span) → ◌≡◌ {A = Option Span} (if a then None else Some x) None → a ≡ true
word_fails true x e = refl
word_fails false x e = absurd (grind (arith, e))

outside_fails : (at : ℕ) (rest : List ℕ) (fault : ℕ) → outside_command at rest ≡ Err fault → IsUnclosed rest × (at ≡ fault)
outside_fails at [] fault e = absurd (grind (arith, e))
outside_fails at (b ∷ rest) fault e = by_bool (b == percent)
    (λ p.
    let block : found_at at (block_command (at + 1) rest) ≡ Err fault = rw p at e in
    let none = found_none at (block_command (at + 1) rest) fault block in
    let why = block_fails (nat_eq (way_to percent rest) (length rest)) (ends_in_star (block_rest rest)) (command_in (at + 1) (block_rest rest) (way_to percent rest)) none.0 in
    let is : b ≡ percent = grind (arith, p) in
    (inl (is, ⊎_elim (λ (t : nat_eq (way_to percent rest) (length rest) ≡ true). inl (all_short percent rest t)) (λ (f : ends_in_star (block_rest rest) ≡ false). inr f) why), none.1))
    (λ f.
    let word : found_at at (word_command at (b ∷ rest)) ≡ Err fault = rw f at e in
    let none = found_none at (word_command at (b ∷ rest)) fault word in
    let end : nat_eq (way_to star (b ∷ rest)) (length (b ∷ rest)) ≡ true = word_fails (nat_eq (way_to star (b ∷ rest)) (length (b ∷ rest))) (record { from = at; to = at + way_to star (b ∷ rest); extended = false; inside = false; next = at + way_to star (b ∷ rest) + 1 }) none.0 in
    (inr (all_short star (b ∷ rest) end), none.1))

pub only_unclosed_fail : OnlyUnclosedFail
only_unclosed_fail bytes at fault e =
    let breaks = breaks_before (drop at bytes) in
    let f = outside_fails (at + breaks) (drop breaks (drop at bytes)) fault e in
    let there : drop breaks (drop at bytes) ≡ drop fault bytes = drop-drop breaks at bytes ∙ ap (λ n. drop n bytes) f.1 in
    rw there at f.0
