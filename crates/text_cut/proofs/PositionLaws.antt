-- The offset that is found, and what it cuts.
use Rattle.std.proofs.Common.{◌≡◌, refl, ℕ, ◌+◌, ◌<◌, ◌≤◌, List, [], ◌∷◌, Some, None, Bool, true, false, cond, length, take, drop, arith, sym, subst, nat_lt, not}
use Rattle.std.specs.List.{position, position_or_len, slice_split}
use Rattle.std.proofs.lemmas.Grind.{common_steps}
use Rattle.std.proofs.lemmas.List.Sums.{fails_before_first, prefix_len-le-length}
use Rattle.std.proofs.lemmas.List.Splits.{slice_split_first, slice_split_none}

-- the offset that is found
pub found_at : {X : Type 0} (p : X → Bool) (xs : List X) (i : ℕ) → position p xs ≡ Some i → (position_or_len p xs ≡ i) × (i < length xs)
found_at p xs i e = by_test (nat_lt (position_or_len p xs) (length xs)) refl e
  where
    less : (a b : ℕ) → nat_lt a b ≡ true → a < b
    less a b e = grind (arith, common_steps)

    by_test : (b : Bool) → nat_lt (position_or_len p xs) (length xs) ≡ b → cond b (Some (position_or_len p xs)) None ≡ Some i → (position_or_len p xs ≡ i) × (i < length xs)
    by_test true t e = let same : position_or_len p xs ≡ i = cc in (same, subst (λ k. k < length xs) same (less (position_or_len p xs) (length xs) t))
    by_test false t e = absurd cc

-- none is found
pub none_found : {X : Type 0} (p : X → Bool) (xs : List X) → position p xs ≡ None → length xs ≤ position_or_len p xs
none_found p xs e = by_test (nat_lt (position_or_len p xs) (length xs)) refl e
  where
    not_less : (a b : ℕ) → nat_lt a b ≡ false → b ≤ a
    not_less a b e = grind (arith, common_steps)

    by_test : (b : Bool) → nat_lt (position_or_len p xs) (length xs) ≡ b → cond b (Some (position_or_len p xs)) None ≡ None → length xs ≤ position_or_len p xs
    by_test true t e = absurd cc
    by_test false t e = not_less (position_or_len p xs) (length xs) t

-- what isn't found is as far as the end
pub none_is_end : {X : Type 0} (p : X → Bool) (xs : List X) → position p xs ≡ None → length xs ≡ position_or_len p xs
none_is_end p xs e = let h = prefix_len-le-length (λ x. not (p x)) xs in grind (arith, common_steps, h, e)

-- the parts at the first that passes, and where none does
pub split_found : (p : ℕ → Bool) (xs : List ℕ) (i : ℕ) → position p xs ≡ Some i → slice_split p xs ≡ take i xs ∷ slice_split p (drop (i + 1) xs)
split_found p xs i e =
    let found = found_at p xs i e in
    let less : position_or_len p xs < length xs = subst (λ k. k < length xs) (sym found.0) found.1 in
    subst (λ k. slice_split p xs ≡ take k xs ∷ slice_split p (drop (k + 1) xs)) found.0 (slice_split_first p xs 0 less)

pub split_none : (p : ℕ → Bool) (xs : List ℕ) → position p xs ≡ None → slice_split p xs ≡ xs ∷ []
split_none p xs e = slice_split_none p xs (λ k d h. fails_before_first p xs k d (omega (arith, h, none_found p xs e)))
