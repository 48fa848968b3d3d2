-- Bytes stand for one thing at most.
use Rattle.std.proofs.Common.{◌≡◌, ℕ, zero, suc, ◌-◌, ◌<◌, Bool, true, false, List, [], ◌∷◌, length, drop, Option, Some, None, unwrap_or, Result, Ok, Err, refl, ap, sym, ◌∙◌, arith, nat_lt, length-drop}
use Rattle.number_laws.proofs.Tests.{by_bool}
use Rattle.gerber_lexer.specs.declared.lexer.Span.{Span}
use Rattle.gerber_image.specs.Laws.{OneOutcome, StaysSet, EachStaysSet}
use Rattle.gerber_words.specs.declared.commands.Command.{Command}
use Rattle.gerber_image.specs.InForce.{sets_format, sets_unit, sets_dark, sets_mirror, sets_angle, sets_mode, sets_multi_quadrant, sets_region, sets_selected, sets_act, sets_aperture, sets_x, sets_y, sets_repeat, format_at, unit_at, macros_at, sets_macro}
use Rattle.gerber_image.specs.Gerber.{Read, Outcome, BeginsWith, next_behind, command_by, outcome_behind}

-- the commands before the last few
dropped : (bytes : List ℕ) (k : ℕ) (q : List Read) → BeginsWith bytes q → BeginsWith bytes (drop k q)
dropped bytes zero q b = b
dropped bytes (suc k) [] b = b
dropped bytes (suc k) (r ∷ q) b = dropped bytes k q b.3

-- nothing has come before the last of them
not_yet : (bytes : List ℕ) (k : ℕ) (q : List Read) → BeginsWith bytes q → k < length q → outcome_behind bytes (drop (suc k) q) ≡ None
not_yet bytes k [] b h = absurd (omega (arith, h))
not_yet bytes zero (r ∷ q) b h = b.2
not_yet bytes (suc k) (r ∷ q) b h = not_yet bytes k q b.3 (omega (arith, h))

abbrev span_or : Span → Result (Option Span) ℕ → Span
span_or c (Ok (Some d)) = d
span_or c (Ok None) = c
span_or c (Err e) = c

-- as many commands are the same commands
same : (bytes : List ℕ) (p q : List Read) → length p ≡ length q → BeginsWith bytes p → BeginsWith bytes q → p ≡ q
same bytes [] [] e a b = refl
same bytes [] (s ∷ q) e a b = absurd (omega (arith, e))
same bytes (r ∷ p) [] e a b = absurd (omega (arith, e))
same bytes (r ∷ p) (s ∷ q) e a b =
    let rest : p ≡ q = same bytes p q (omega (arith, e)) a.3 b.3 in
    let span : r.span ≡ s.span = sym (ap (span_or r.span) a.0) ∙ ap (λ l. span_or r.span (next_behind bytes l)) rest ∙ ap (span_or r.span) b.0 in
    let command : r.command ≡ s.command = sym (ap (λ o. unwrap_or o r.command) a.1) ∙ ap (λ c. unwrap_or (command_by bytes c) r.command) span ∙ ap (λ o. unwrap_or o r.command) b.1 in
    λ t. record { span = span t; command = command t } ∷ rest t

-- what comes behind fewer commands is no outcome
fewer : {P : Type 0} (bytes : List ℕ) (p q : List Read) (a : Outcome) → BeginsWith bytes p → BeginsWith bytes q → outcome_behind bytes p ≡ Some a → length p < length q → P
fewer bytes p q a bp bq e h =
    let k = length q - length p - 1 in
    let len : length p ≡ length (drop (suc k) q) = omega (arith, length-drop (suc k) q, h) in
    let eq : p ≡ drop (suc k) q = same bytes p (drop (suc k) q) len bp (dropped bytes (suc k) q bq) in
    let none : outcome_behind bytes p ≡ None = ap (outcome_behind bytes) eq ∙ not_yet bytes k q bq (omega (arith, h)) in
    absurd (grind (arith, e, none))

neither : (m n : ℕ) → nat_lt m n ≡ false → nat_lt n m ≡ false → m ≡ n
neither m n f g = grind (arith, f, g)

below : (m n : ℕ) → nat_lt m n ≡ true → m < n
below m n t = grind (arith, t)

pub one_outcome : OneOutcome
one_outcome bytes a b (p, bp, ep) (q, bq, eq) = by_bool (nat_lt (length p) (length q))
    (λ t. fewer bytes p q a bp bq ep (below (length p) (length q) t))
    (λ f. by_bool (nat_lt (length q) (length p))
    (λ t. fewer bytes q p b bq bp eq (below (length q) (length p) t))
    (λ g.
    let len : length p ≡ length q = neither (length p) (length q) f g in
    let e : Some a ≡ Some b = sym ep ∙ ap (outcome_behind bytes) (same bytes p q len bp bq) ∙ eq in
    ap (λ o. unwrap_or o a) e))

stays_set : {A : Type 0} (sets : List Command → Command → Option A) → StaysSet sets
stays_set sets [] past command value e n = rw e refl
stays_set sets (c ∷ nearer) past command value e n = rw n.0 (stays_set sets nearer past command value e n.1)

pub each_stays_set : EachStaysSet
each_stays_set = record {
  format = stays_set (λ _. sets_format);
  unit = stays_set (λ _. sets_unit);
  dark = stays_set (λ _. sets_dark);
  mirror = stays_set (λ _. sets_mirror);
  angle = stays_set (λ _. sets_angle);
  mode = stays_set (λ _. sets_mode);
  multi_quadrant = stays_set (λ _. sets_multi_quadrant);
  region = stays_set (λ _. sets_region);
  selected = stays_set (λ _. sets_selected);
  macro = λ name. stays_set (λ _. sets_macro name);
  aperture = λ number. stays_set (λ past. sets_aperture number (unit_at past) (macros_at past));
  x = stays_set (λ past. sets_x (format_at past) (unit_at past));
  y = stays_set (λ past. sets_y (format_at past) (unit_at past));
  act = stays_set (λ _. sets_act);
  repeat = stays_set (λ past. sets_repeat (unit_at past));
}
