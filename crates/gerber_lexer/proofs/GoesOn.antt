-- Behind a command that tells of a further one the block goes on.
use Rattle.std.proofs.Common.{◌≡◌, ℕ, ◌<◌, ◌≤◌, ◌+◌, ◌-◌, Bool, true, false, not, List, [], ◌∷◌, length, take, drop, reverse, get_or, Option, Some, None, Result, Ok, Err, IfOk, IfSome, MatchResult, ◌==◌, nat_lt, nat_eq, ◌⊎◌, ⊎_elim, inl, inr, refl, ap, sym, ◌∙◌, arith, length-take-le}
use Rattle.std.specs.List.{position_or_len}
use Rattle.std.proofs.lemmas.List.{get_or-reverse, get_or-drop, get_or-take, length-reverse, length-drop, drop-drop}
use Rattle.std.proofs.lemmas.List.Sums.{position_or_len_is}
use Rattle.gerber_lexer.specs.Cut.{is_break, star, percent, way_to, breaks_before, breaks_behind, block_rest, way_to_end, command_in, block_command, word_command, found_at, outside_command, next_of, GoesOn}
use Rattle.gerber_lexer.specs.declared.lexer.Span.{Span}
use Rattle.gerber_lexer.specs.declared.lexer.LexError.{LexError}
use Rattle.number_laws.proofs.Tests.{by_bool}
use Rattle.gerber_lexer.proofs.Ways.{last_star}
use Rattle.gerber_lexer.proofs.Rests.{some_is, way_short, block_front, block_len, block_behind, found_some, guarded}
use Rattle.gerber_lexer.proofs.Fronts.{ends_so}
use Rattle.gerber_lexer.proofs.Further.{IsClosed, percent_is, no_percent, closed_of, of_closed}

-- the rest of a block ends at the last star
rest_len : (rest : List ℕ) (n : ℕ) → 0 < n → n ≤ way_to percent rest → get_or rest (n - 1) 0 ≡ star → ((k : ℕ) → n ≤ k → k < way_to percent rest → is_break (get_or rest k 0) ≡ true) → length (block_rest rest) ≡ n
unfolding block_rest breaks_behind
rest_len rest n some high last breaks =
    let way = way_to percent rest in
    let t = take way rest in
    let len : length t ≡ way = length-take-le way rest (way_short rest) in
    let back : length (reverse t) ≡ length t = length-reverse t in
    let behind : position_or_len (λ b. not (is_break b)) (reverse t) ≡ way - n = position_or_len_is (λ b. not (is_break b)) (reverse t) (way - n) 0
    (omega (arith, len, back))
    (λ k h.
    let b : is_break (get_or rest (length t - 1 - k) 0) ≡ true = breaks (length t - 1 - k) (omega (arith, h, len)) (omega (arith, h, len, some)) in
    rw (get_or-reverse t k 0 (omega (arith, h, len)), get_or-take way rest (length t - 1 - k) 0 (omega (arith, h, len, some)), b) refl)
    (λ less.
    let place : length t - 1 - (way - n) ≡ n - 1 = omega (arith, len, high, some) in
    let b : get_or rest (length t - 1 - (way - n)) 0 ≡ star = ap (λ k. get_or rest k 0) place ∙ last in
    rw (get_or-reverse t (way - n) 0 (omega (arith, less, back)), get_or-take way rest (length t - 1 - (way - n)) 0 (omega (arith, len, some, high)), b) refl)
    in
    let cut : length t - position_or_len (λ b. not (is_break b)) (reverse t) ≡ n = omega (arith, behind, len, high) in
    rw cut (length-take-le n t (omega (arith, len, high)))

way_on : (rest : List ℕ) (m : ℕ) → way_to percent rest < length rest → m ≤ way_to percent rest → way_to percent (drop m rest) ≡ way_to percent rest - m
unfolding way_to
way_on rest m short h =
    let way = way_to percent rest in
    let place : m + (way - m) ≡ way = omega (arith, h) in
    let b : get_or rest (m + (way - m)) 0 ≡ percent = ap (λ k. get_or rest k 0) place ∙ percent_is rest short in
    position_or_len_is (λ b. b == percent) (drop m rest) (way - m) 0
    (omega (arith, length-drop m rest, short))
    (λ k less. ap (λ b. b == percent) (get_or-drop m rest k 0) ∙ no_percent rest (m + k) (omega (arith, less)))
    (λ _. rw (get_or-drop m rest (way - m) 0, b) refl)

-- a part of a block that reaches to its end is closed too
pub closed_behind : (rest : List ℕ) (m : ℕ) → IsClosed rest → m < length (block_rest rest) → IsClosed (drop m rest)
closed_behind rest m c h =
    let block = block_rest rest in
    let n = length block - m in
    let in_way = block_len rest in
    let way : way_to percent (drop m rest) ≡ way_to percent rest - m = way_on rest m c.short (omega (arith, h, in_way)) in
    let place : m + (n - 1) ≡ length block - 1 = omega (arith, h) in
    let last : get_or (drop m rest) (n - 1) 0 ≡ star = get_or-drop m rest (n - 1) 0 ∙ ap (λ k. get_or rest k 0) place ∙ sym (block_front rest (length block - 1) (omega (arith, h))) ∙ (last_star block c.star).1 in
    let len : length (block_rest (drop m rest)) ≡ n = rest_len (drop m rest) n (omega (arith, h)) (omega (arith, way, in_way, h)) last
    (λ k low high. ap is_break (get_or-drop m rest k 0) ∙ block_behind rest (m + k) (omega (arith, low, h)) (omega (arith, high, way)))
    in
    let end : length (block_rest (drop m rest)) - 1 ≡ n - 1 = omega (arith, len) in
    record {
      short = omega (arith, way, length-drop m rest, c.short, h, in_way);
      star = ends_so (block_rest (drop m rest)) (omega (arith, len, h)) (block_front (drop m rest) (length (block_rest (drop m rest)) - 1) (omega (arith, len, h)) ∙ ap (λ k. get_or (drop m rest) k 0) end ∙ last);
    }

-- a closed block has a command
closed_some : (at : ℕ) (rest : List ℕ) → IsClosed rest → (bytes : List ℕ) → rest ≡ drop at bytes → GoesOn at bytes
closed_some at rest c bytes e = rw (sym e, of_closed at rest c) refl

pub some_is_some : (at : ℕ) (rest : List ℕ) (c : Span) → block_command at rest ≡ Some c → IsClosed rest
some_is_some at rest c e = closed_of at rest (rw e refl)

pub block_goes_on : (bytes : List ℕ) (at : ℕ) (rest : List ℕ) (c : Span) → rest ≡ drop at bytes → block_command at rest ≡ Some c → c.inside ≡ true → GoesOn c.next bytes
block_goes_on bytes at rest c from e t =
    let closed = some_is_some at rest c e in
    let block = block_rest rest in
    let m = way_to_end block + 1 in
    let is : command_in at block (way_to percent rest) ≡ c = some_is (command_in at block (way_to percent rest)) c (sym (of_closed at rest closed) ∙ e) in
    let more : nat_lt m (length block) ≡ true = ap (λ s. s.inside) is ∙ t in
    let next : at + way_to_end block + 1 ≡ c.next = rw more at (ap (λ s. s.next) is) in
    let place : at + m ≡ at + way_to_end block + 1 = omega arith in
    let there : drop m rest ≡ drop (at + m) bytes = ap (drop m) from ∙ drop-drop m at bytes in
    rw (sym next, sym place) (closed_some (at + m) (drop m rest) (closed_behind rest m closed (grind (arith, more))) bytes there)

-- where a command of a block is found
pub record IsInBlock (bytes : List ℕ) (c : Span) : Type 0 where
  pub place : ℕ
  pub is : block_command place (drop place bytes) ≡ Some c

word_stops : (at : ℕ) (rest : List ℕ) (c : Span) → word_command at rest ≡ Some c → (c.extended ≡ false) × (c.inside ≡ false)
word_stops at rest c e =
    let g = guarded (nat_eq (way_to star rest) (length rest)) (record { from = at; to = at + way_to star rest; extended = false; inside = false; next = at + way_to star rest + 1 }) c e in
    (sym (ap (λ s. s.extended) g.1), sym (ap (λ s. s.inside) g.1))

outside_stands : (bytes : List ℕ) (at : ℕ) (rest : List ℕ) (c : Span) → rest ≡ drop at bytes → outside_command at rest ≡ Ok (Some c) → IsInBlock bytes c ⊎ ((c.extended ≡ false) × (c.inside ≡ false))
outside_stands bytes at [] c from e = absurd (grind (arith, e))
outside_stands bytes at (b ∷ rest) c from e = by_bool (b == percent)
    (λ p.
    let block : found_at at (block_command (at + 1) rest) ≡ Ok (Some c) = rw p at e in
    let there : rest ≡ drop (at + 1) bytes = ap (drop 1) from ∙ drop-drop 1 at bytes in
    inl (record { place = at + 1; is = ap (block_command (at + 1)) (sym there) ∙ found_some at (block_command (at + 1) rest) c block }))
    (λ f.
    let word : found_at at (word_command at (b ∷ rest)) ≡ Ok (Some c) = rw f at e in
    inr (word_stops at (b ∷ rest) c (found_some at (word_command at (b ∷ rest)) c word)))

-- a command stands in a block, or is a word
pub block_or_word : (bytes : List ℕ) (at : ℕ) (inside : Bool) (c : Span) → next_of bytes at inside ≡ Ok (Some c) → IsInBlock bytes c ⊎ ((c.extended ≡ false) × (c.inside ≡ false))
block_or_word bytes at true c e = inl (record { place = at; is = found_some at (block_command at (drop at bytes)) c e })
block_or_word bytes at false c e =
    let breaks = breaks_before (drop at bytes) in
    outside_stands bytes (at + breaks) (drop breaks (drop at bytes)) c (drop-drop breaks at bytes) e

-- behind a command that tells of a further one the block goes on
goes_on : (bytes : List ℕ) (at : ℕ) (inside : Bool) (c : Span) → next_of bytes at inside ≡ Ok (Some c) → c.inside ≡ true → GoesOn c.next bytes
goes_on bytes at inside c e t = ⊎_elim (λ (b : IsInBlock bytes c). block_goes_on bytes b.place (drop b.place bytes) c refl b.is t) (λ (w : (c.extended ≡ false) × (c.inside ≡ false)). let f : false ≡ true = sym w.1 ∙ t in absurd (grind (arith, f))) (block_or_word bytes at inside c e)

-- so does what a search answers
pub answer_goes_on : (bytes : List ℕ) (at : ℕ) (inside : Bool) (r : Result (Option Span) LexError) → MatchResult r (λ found. next_of bytes at inside ≡ Ok found) (λ e. next_of bytes at inside ≡ Err e.at)
    → IfOk r (λ found. IfSome found (λ c. c.inside ≡ true → GoesOn c.next bytes))
answer_goes_on bytes at inside (Ok (Some c)) e = goes_on bytes at inside c e
answer_goes_on bytes at inside (Ok None) e = tt
answer_goes_on bytes at inside (Err x) e = tt
