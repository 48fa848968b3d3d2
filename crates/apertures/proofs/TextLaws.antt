-- Texts and the values in them.
use Rattle.std.proofs.Common.{◌≡◌, refl, ℕ, ◌+◌, ◌<◌, ◌≤◌, List, [], ◌∷◌, ◌++◌, Some, None, Bool, true, false, cond, Result, Ok, Err, length, take, drop, arith, ap, sym, ◌∙◌, subst}
use Rattle.std.specs.Prelude.{nat_lt}
use Rattle.std.specs.List.{position, position_or_len, slice_split}
use Rattle.std.proofs.lemmas.Grind.{common_steps}
use Rattle.std.proofs.lemmas.List.Sums.{fails_before_first}
use Rattle.std.proofs.lemmas.List.Splits.{slice_split_first, slice_split_none}
use Rattle.apertures.specs.declared.aperture.ApertureError.{ApertureError}
use Rattle.apertures.specs.Texts.{is_times}

-- the place that is found
pub found_at : {X : Type 0} (p : X → Bool) (xs : List X) (i : ℕ) → position p xs ≡ Some i → (position_or_len p xs ≡ i) × (i < length xs)
found_at p xs i e = by_test (nat_lt (position_or_len p xs) (length xs)) refl e
  where
    less : (a b : ℕ) → nat_lt a b ≡ true → a < b
    less a b e = grind (arith, common_steps)

    by_test : (b : Bool) → nat_lt (position_or_len p xs) (length xs) ≡ b → cond b (Some (position_or_len p xs)) None ≡ Some i → (position_or_len p xs ≡ i) × (i < length xs)
    by_test true t e = let same : position_or_len p xs ≡ i = cc in (same, subst (λ k. k < length xs) same (less (position_or_len p xs) (length xs) t))
    by_test false t e = absurd cc

-- none is found
pub none_found : {X : Type 0} (p : X → Bool) (xs : List X) → position p xs ≡ None → length xs ≤ position_or_len p xs
none_found p xs e = by_test (nat_lt (position_or_len p xs) (length xs)) refl e
  where
    not_less : (a b : ℕ) → nat_lt a b ≡ false → b ≤ a
    not_less a b e = grind (arith, common_steps)

    by_test : (b : Bool) → nat_lt (position_or_len p xs) (length xs) ≡ b → cond b (Some (position_or_len p xs)) None ≡ None → length xs ≤ position_or_len p xs
    by_test true t e = absurd cc
    by_test false t e = not_less (position_or_len p xs) (length xs) t

-- the parts at the first letter, and where there is none
split_found : (xs : List ℕ) (i : ℕ) → position is_times xs ≡ Some i → slice_split is_times xs ≡ take i xs ∷ slice_split is_times (drop (i + 1) xs)
split_found xs i e =
    let found = found_at is_times xs i e in
    let less : position_or_len is_times xs < length xs = subst (λ k. k < length xs) (sym found.0) found.1 in
    subst (λ k. slice_split is_times xs ≡ take k xs ∷ slice_split is_times (drop (k + 1) xs)) found.0 (slice_split_first is_times xs 0 less)

-- the same by what stands before it and behind
pub split_at : (xs front back : List ℕ) (i : ℕ) → position is_times xs ≡ Some i → front ≡ take i xs → back ≡ drop (i + 1) xs → slice_split is_times xs ≡ front ∷ slice_split is_times back
split_at xs front back i at before behind =
    split_found xs i at ∙ ap (λ text. text ∷ slice_split is_times (drop (i + 1) xs)) (sym before) ∙ ap (λ rest. front ∷ slice_split is_times rest) (sym behind)

pub split_none : (xs : List ℕ) → position is_times xs ≡ None → slice_split is_times xs ≡ xs ∷ []
split_none xs e = slice_split_none is_times xs (λ k d h. fails_before_first is_times xs k d (omega (arith, h, none_found is_times xs e)))

-- values before others, and sizes likewise
abbrev pub before : {X : Type 0} → List X → Result (List X) ApertureError → Result (List X) ApertureError
before xs (Ok ys) = Ok (xs ++ ys)
before xs (Err e) = Err e
