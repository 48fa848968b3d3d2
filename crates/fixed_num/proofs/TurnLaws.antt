-- Quarter turns.
use Rattle.std.proofs.Common.{◌≡◌, refl, ℕ, ◌+◌, ◌-◌, ◌/◌, ◌%◌, ◌<◌, ◌≤◌, ℤ, pos, negsuc, neg_ℤ, ◌+ℤ◌, ◌⊎◌, inl, inr, arith, ap, sym, ◌∙◌}
use borrow.Author.Differences.{ints}
use Rattle.std.proofs.lemmas.Bool.{cases_lt}
use Rattle.std.proofs.lemmas.Grind.{common_steps}
use Rattle.fixed_num.specs.Angles.{in_turn, sine_in, cosine_in, sine_of, cosine_of, quarter_sine, quarter_cosine, arc, scaled, sine_series, cosine_series}
use Rattle.fixed_num.specs.Turns.{TurnLaw}

-- the next quarter of a turn
next_turn : (angle : ℤ) → in_turn (angle +ℤ pos 90000000) ≡ (in_turn angle + 90000000) % 360000000
unfolding in_turn
next_turn (pos a) = omega arith
next_turn (negsuc a) = by_place (cases_lt a 90000000)
  where
    by_place : (a < 90000000) ⊎ (90000000 ≤ a) → in_turn (negsuc a +ℤ pos 90000000) ≡ (in_turn (negsuc a) + 90000000) % 360000000
    by_place (inl less) =
        let e : negsuc a +ℤ pos 90000000 ≡ pos (89999999 - a) = omega (arith, ints, less) in
        ap in_turn e ∙ omega (arith, less)
    by_place (inr more) =
        let e : negsuc a +ℤ pos 90000000 ≡ negsuc (a - 90000000) = omega (arith, ints, more) in
        ap in_turn e ∙ omega (arith, more)

in_turn_below : (angle : ℤ) → in_turn angle < 360000000
unfolding in_turn
in_turn_below (pos a) = omega arith
in_turn_below (negsuc a) = omega arith

-- one of four quarters
four : (t : ℕ) → t < 360000000 → (t / 90000000 ≡ 0) ⊎ (t / 90000000 ≡ 1) ⊎ (t / 90000000 ≡ 2) ⊎ (t / 90000000 ≡ 3)
four t h = grind (arith, common_steps)

same_rest : (t : ℕ) → t < 360000000 → (t + 90000000) % 360000000 % 90000000 ≡ t % 90000000
same_rest t h = omega arith

next_quarter : (t : ℕ) → t < 360000000 → (t + 90000000) % 360000000 / 90000000 ≡ (t / 90000000 + 1) % 4
next_quarter t h = omega arith

twice_turned : (z : ℤ) → neg_ℤ (neg_ℤ z) ≡ z
twice_turned z = omega (arith, ints)

sine_next : (q t : ℕ) → (q ≡ 0) ⊎ (q ≡ 1) ⊎ (q ≡ 2) ⊎ (q ≡ 3) → sine_in ((q + 1) % 4) t ≡ cosine_in q t
sine_next q t (inl e) = rw e refl
sine_next q t (inr (inl e)) = rw e refl
sine_next q t (inr (inr (inl e))) = rw e refl
sine_next q t (inr (inr (inr e))) = rw e refl

cosine_next : (q t : ℕ) → (q ≡ 0) ⊎ (q ≡ 1) ⊎ (q ≡ 2) ⊎ (q ≡ 3) → cosine_in ((q + 1) % 4) t ≡ neg_ℤ (sine_in q t)
cosine_next q t (inl e) = rw e refl
cosine_next q t (inr (inl e)) = rw e refl
cosine_next q t (inr (inr (inl e))) = rw e (sym (twice_turned (quarter_sine t)))
cosine_next q t (inr (inr (inr e))) = rw e (sym (twice_turned (quarter_cosine t)))

next_place : (f : ℕ → ℕ → ℤ) (angle : ℤ)
    → f (in_turn (angle +ℤ pos 90000000) / 90000000) (in_turn (angle +ℤ pos 90000000) % 90000000) ≡ f ((in_turn angle / 90000000 + 1) % 4) (in_turn angle % 90000000)
next_place f angle =
    let below = in_turn_below angle in
    ap (λ t. f (t / 90000000) (t % 90000000)) (next_turn angle)
    ∙ ap (λ q. f q ((in_turn angle + 90000000) % 360000000 % 90000000)) (next_quarter (in_turn angle) below)
    ∙ ap (f ((in_turn angle / 90000000 + 1) % 4)) (same_rest (in_turn angle) below)

start_sine : sine_of (pos 0) ≡ pos 0
unfolding sine_of in_turn quarter_sine arc scaled sine_series
start_sine = refl

start_cosine : cosine_of (pos 0) ≡ pos 1000000000000
unfolding cosine_of in_turn quarter_cosine arc scaled cosine_series
start_cosine = refl

next_sine : (angle : ℤ) → sine_of (angle +ℤ pos 90000000) ≡ cosine_of angle
unfolding sine_of cosine_of
next_sine angle =
    next_place sine_in angle ∙ sine_next (in_turn angle / 90000000) (in_turn angle % 90000000) (four (in_turn angle) (in_turn_below angle))

next_cosine : (angle : ℤ) → cosine_of (angle +ℤ pos 90000000) ≡ neg_ℤ (sine_of angle)
unfolding sine_of cosine_of
next_cosine angle =
    next_place cosine_in angle ∙ cosine_next (in_turn angle / 90000000) (in_turn angle % 90000000) (four (in_turn angle) (in_turn_below angle))

pub turn_law : TurnLaw
turn_law = record { no_sine = start_sine; whole_cosine = start_cosine; sine = next_sine; cosine = next_cosine }
