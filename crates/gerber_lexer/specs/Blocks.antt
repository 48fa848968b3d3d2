-- What holds in a block, and where no command is found.
use Rattle.std.specs.Prelude.{◌≡◌, ◌⊎◌, ℕ, ◌+◌, ◌<◌, ◌≤◌, Bool, true, false, List, [], ◌∷◌, length, drop, get_or, Some, Ok, Err, ◌==◌, not}
use Rattle.gerber_lexer.specs.Cut.{star, percent, first_byte, is_macro, ends_in_star, block_rest, next_of, GoesOn}
use Rattle.gerber_lexer.specs.declared.lexer.Span.{Span}

-- A command of a block. No percent sign stands in it, and inside one that is no macro's no star. A macro's is the block's last.
-- The block goes on exactly where the next byte behind its star, line breaks aside, is no percent sign.
pub record HoldsBlock (bytes : List ℕ) (c : Span) : Type 0 where
  pub no_percent : (k : ℕ) → c.from ≤ k → k ≤ c.to → (get_or bytes k 0 == percent) ≡ false
  pub no_star : is_macro (drop c.from bytes) ≡ false → (k : ℕ) → c.from ≤ k → k < c.to → (get_or bytes k 0 == star) ≡ false
  pub macro : is_macro (drop c.from bytes) ≡ true → c.inside ≡ false
  pub inside : c.inside ≡ not (first_byte (drop (c.to + 1) bytes) == percent)
  pub goes_on : c.inside ≡ true → GoesOn c.next bytes

abbrev pub BlocksHold : Type 0
BlocksHold = (bytes : List ℕ) (at : ℕ) (inside : Bool) (c : Span) → next_of bytes at inside ≡ Ok (Some c) → c.extended ≡ true → HoldsBlock bytes c

-- where a block goes on there is a command
abbrev pub FoundInside : Type 0
FoundInside = (bytes : List ℕ) (at : ℕ) → GoesOn at bytes → (c : Span) × (next_of bytes at true ≡ Ok (Some c))

-- none of the bytes is this one
abbrev pub HasNo : ℕ → List ℕ → Type 0
HasNo byte bytes = (k : ℕ) → k < length bytes → (get_or bytes k 0 == byte) ≡ false

-- a block without its percent sign or without its star, or a word command without its star
abbrev pub IsUnclosed : List ℕ → Type 0
IsUnclosed [] = ⊥
IsUnclosed (byte ∷ rest) = ((byte ≡ percent) × (HasNo percent rest ⊎ (ends_in_star (block_rest rest) ≡ false))) ⊎ HasNo star (byte ∷ rest)

-- outside blocks a search fails only there
abbrev pub OnlyUnclosedFail : Type 0
OnlyUnclosedFail = (bytes : List ℕ) (at fault : ℕ) → next_of bytes at false ≡ Err fault → IsUnclosed (drop fault bytes)
