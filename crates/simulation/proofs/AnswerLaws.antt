-- Answers are read as they are spelled.
use Rattle.std.proofs.Common.{◌≡◌, ◌⊎◌, refl, inl, inr, ℕ, ◌+◌, ℤ, List, [], ◌∷◌, ◌++◌, Bool, true, false, cond, Option, Some, None, Result, Ok, Err, length, ap, sym, ◌∙◌, subst, arith, append_assoc}
use Rattle.std.specs.Prelude.{nat_lt, not, is_none, ◌&&◌, ◌==◌}
use Rattle.std.specs.List.{position_from, filter_map, cons_option}
use Rattle.std.specs.Str.Lines.{lines}
use Rattle.std.proofs.lemmas.Bool.{le-ltb, ltb-false}
use Rattle.std.proofs.lemmas.List.{append-nil}
use Rattle.std.proofs.lemmas.Grind.{common_steps}
use Rattle.text_cut.specs.Spaces.{trimmed}
use Rattle.board_base.specs.Binds.{◌>>=◌}
use Rattle.board_base.specs.Places.{is_coordinate}
use Rattle.board_base.proofs.LatticeLaws.{to_coordinate, of_coordinate}
use Rattle.fixed_num.specs.Decimal.{Decimal, fraction_of, decimal_text, value_at}
use Rattle.fixed_num.specs.Spelled.{decimal_of, parts_of}
use Rattle.fixed_num.specs.Values.{decimals_used, a_number, not_long, not_fine, short_of, read_at}
use Rattle.fixed_num.specs.declared.number.NumError.TheVariants.{TooLong, TooFine}
use Rattle.fixed_num.proofs.SpelledLaws.{spelled_law}
use Rattle.fixed_num.proofs.UsedLaws.{used_law}
use Rattle.rs274_sim.specs.Reading.{LineFault, BadNumber}
use Rattle.simulation.specs.Answers.{SpellsAnswer, SpellAnswers, within_reach, answer_of, is_wrong, unless_wrong, answers_from, answers_of, AnswersLaw}

-- ---- one line

-- what stands where a line is an answer
some_is : {A : Type 0} (x y : A) → ◌≡◌ {A = Option A} (Some x) (Some y) → x ≡ y
some_is x y e = cc

none_some : {A : Type 0} (y : A) → ◌≡◌ {A = Option A} None (Some y) → ⊥
none_some y e = cc

-- no bytes are no answer
nothing_read : within_reach (read_at 6 []) ≡ None
unfolding read_at short_of parts_of
nothing_read = refl

pub nothing_answered : (line : List ℕ) → trimmed line ≡ [] → answer_of line ≡ None
nothing_answered line e = ap (λ text. within_reach (read_at 6 text)) e ∙ nothing_read

-- an answer is read as it is spelled
answer_read : (text : List ℕ) (v : ℤ) → SpellsAnswer text v → within_reach (read_at 6 text) ≡ Some v
unfolding read_at short_of
answer_read text v h =
    let d = h.decimal in
    ap (λ t. within_reach (read_at 6 t)) h.spelled
    ∙ ap (λ o. within_reach ((a_number o >>= not_long) >>= (λ x. not_fine 6 x >>= (λ y. Ok (value_at 6 y))))) ((spelled_law (decimal_text d) d).1 (h.parts, refl))
    ∙ ap (λ b. within_reach (cond b (Err TooLong) (Ok d) >>= (λ x. not_fine 6 x >>= (λ y. Ok (value_at 6 y))))) (le-ltb 18 (length d.whole) h.short)
    ∙ ap (λ b. within_reach (cond b (Err (TooFine (decimals_used (fraction_of d)))) (Ok d) >>= (λ y. Ok (value_at 6 y)))) (le-ltb 6 (decimals_used (fraction_of d)) ((used_law 6 d).0 h.fine))
    ∙ ap (λ w. cond (is_coordinate w) (Some w) None) (sym h.value)
    ∙ ap (λ b. cond b (Some v) None) (of_coordinate v h.reach)

-- what is read as an answer spells it
answer_spelled : (text : List ℕ) (v : ℤ) → within_reach (read_at 6 text) ≡ Some v → SpellsAnswer text v
unfolding read_at short_of
answer_spelled text v e = by_decimal (decimal_of text) refl e
  where
    near : (d : Decimal) (b : Bool) → decimal_of text ≡ Some d → nat_lt 18 (length d.whole) ≡ false → nat_lt 6 (decimals_used (fraction_of d)) ≡ false → is_coordinate (value_at 6 d) ≡ b
        → cond b (Some (value_at 6 d)) None ≡ Some v → SpellsAnswer text v
    near d false is long fine in_reach e = absurd (none_some v e)
    near d true is long fine in_reach e =
        let spelled = (spelled_law text d).0 is in
        let same = some_is (value_at 6 d) v e in
        record {
          decimal = d;
          parts = spelled.0;
          spelled = spelled.1;
          short = ltb-false 18 (length d.whole) long;
          fine = (used_law 6 d).1 (ltb-false 6 (decimals_used (fraction_of d)) fine);
          value = sym same;
          reach = to_coordinate v (subst (λ w. is_coordinate w ≡ true) same in_reach);
        }

    by_fine : (d : Decimal) (b : Bool) → decimal_of text ≡ Some d → nat_lt 18 (length d.whole) ≡ false → nat_lt 6 (decimals_used (fraction_of d)) ≡ b
        → within_reach (cond b (Err (TooFine (decimals_used (fraction_of d)))) (Ok d) >>= (λ y. Ok (value_at 6 y))) ≡ Some v → SpellsAnswer text v
    by_fine d true is long fine e = absurd (none_some v e)
    by_fine d false is long fine e = near d (is_coordinate (value_at 6 d)) is long fine refl e

    by_long : (d : Decimal) (b : Bool) → decimal_of text ≡ Some d → nat_lt 18 (length d.whole) ≡ b
        → within_reach (cond b (Err TooLong) (Ok d) >>= (λ x. not_fine 6 x >>= (λ y. Ok (value_at 6 y)))) ≡ Some v → SpellsAnswer text v
    by_long d true is long e = absurd (none_some v e)
    by_long d false is long e = by_fine d (nat_lt 6 (decimals_used (fraction_of d))) is long refl e

    by_decimal : (o : Option Decimal) → decimal_of text ≡ o → within_reach ((a_number o >>= not_long) >>= (λ x. not_fine 6 x >>= (λ y. Ok (value_at 6 y)))) ≡ Some v → SpellsAnswer text v
    by_decimal None is e = absurd (none_some v e)
    by_decimal (Some d) is e = by_long d (nat_lt 18 (length d.whole)) is refl e

-- bytes are some, or none
some_bytes : (b : ℕ) (text : List ℕ) → (length (b ∷ text) == 0) ≡ false
some_bytes b text = grind (arith, common_steps)

apart : true ≡ false → ⊥
apart e = cc

pub no_bytes : (text : List ℕ) → (length text == 0) ≡ true → text ≡ []
no_bytes [] e = refl
no_bytes (b ∷ text) e = absurd (apart (sym e ∙ some_bytes b text))

-- a line that isn't wrong
not_wrong : (text : List ℕ) (o : Option ℤ) → (not (length text == 0) && is_none o) ≡ false → (text ≡ []) ⊎ ((v : ℤ) × (o ≡ Some v))
not_wrong [] o e = inl refl
not_wrong (b ∷ text) None e = absurd (apart (sym (ap (λ p. not p && is_none {T = ℤ} None) (some_bytes b text)) ∙ e))
not_wrong (b ∷ text) (Some v) e = inr (v, refl)

pub passed_is_right : (line : List ℕ) → trimmed line ≡ [] → is_wrong line ≡ false
passed_is_right line e = ap (λ text. not (length text == 0) && is_none (answer_of line)) e

answer_is_right : (line : List ℕ) (v : ℤ) → answer_of line ≡ Some v → is_wrong line ≡ false
answer_is_right line v e = ap (λ o. not (length (trimmed line) == 0) && is_none o) e ∙ last (not (length (trimmed line) == 0))
  where
    last : (b : Bool) → (b && is_none (Some v)) ≡ false
    last true = refl
    last false = refl

-- ---- lines

-- answers before others
abbrev pub with_answers : List ℤ → Result (List ℤ) (LineFault × ℕ) → Result (List ℤ) (LineFault × ℕ)
with_answers front (Ok answers) = Ok (front ++ answers)
with_answers front (Err e) = Err e

pub no_answers : (r : Result (List ℤ) (LineFault × ℕ)) → with_answers [] r ≡ r
no_answers (Ok answers) = refl
no_answers (Err e) = refl

with_more : (front more : List ℤ) (r : Result (List ℤ) (LineFault × ℕ)) → with_answers (front ++ more) r ≡ with_answers front (with_answers more r)
with_more front more (Ok answers) = ap Ok (append_assoc front more answers)
with_more front more (Err e) = refl

with_line : (o : Option ℤ) (place : Option ℕ) (answers : List ℤ) → unless_wrong place (cons_option o answers) ≡ with_answers (cons_option o []) (unless_wrong place answers)
with_line None None answers = refl
with_line (Some v) None answers = refl
with_line None (Some place) answers = refl
with_line (Some v) (Some place) answers = refl

-- a line that isn't wrong, before others
right_first : (n : ℕ) (line : List ℕ) (lines : List (List ℕ)) → is_wrong line ≡ false → answers_from n (line ∷ lines) ≡ with_answers (cons_option (answer_of line) []) (answers_from (n + 1) lines)
right_first n line lines e =
    ap (λ b. unless_wrong (cond b (Some n) (position_from is_wrong (n + 1) lines)) (cons_option (answer_of line) (filter_map answer_of lines))) e
    ∙ with_line (answer_of line) (position_from is_wrong (n + 1) lines) (filter_map answer_of lines)

wrong_first : (n : ℕ) (line : List ℕ) (lines : List (List ℕ)) → is_wrong line ≡ true → answers_from n (line ∷ lines) ≡ Err (BadNumber, n)
wrong_first n line lines e = ap (λ b. unless_wrong (cond b (Some n) (position_from is_wrong (n + 1) lines)) (cons_option (answer_of line) (filter_map answer_of lines))) e

-- the next line is added
pub line_added : (answers new : List ℤ) (n : ℕ) (bytes line rest : List ℕ) → lines bytes ≡ line ∷ lines rest → is_wrong line ≡ false → new ≡ answers ++ cons_option (answer_of line) []
    → with_answers new (answers_from (n + 1) (lines rest)) ≡ with_answers answers (answers_from n (lines bytes))
line_added answers new n bytes line rest next right is =
    ap (λ x. with_answers x (answers_from (n + 1) (lines rest))) is
    ∙ with_more answers (cons_option (answer_of line) []) (answers_from (n + 1) (lines rest))
    ∙ ap (with_answers answers) (sym (right_first n line (lines rest) right))
    ∙ ap (λ ls. with_answers answers (answers_from n ls)) (sym next)

-- the next line is wrong
pub line_wrong : (answers : List ℤ) (n : ℕ) (bytes line rest : List ℕ) → lines bytes ≡ line ∷ lines rest → is_wrong line ≡ true → with_answers answers (answers_from n (lines bytes)) ≡ Err (BadNumber, n)
line_wrong answers n bytes line rest next wrong =
    ap (λ ls. with_answers answers (answers_from n ls)) next ∙ ap (with_answers answers) (wrong_first n line (lines rest) wrong)

-- no line is left
pub lines_end : (answers : List ℤ) (n : ℕ) (bytes : List ℕ) → lines bytes ≡ [] → with_answers answers (answers_from n (lines bytes)) ≡ Ok answers
lines_end answers n bytes e = ap (λ ls. with_answers answers (answers_from n ls)) e ∙ ap Ok (append-nil answers)

-- ---- files

-- lines are read as the answers that they spell
spelled_read : (n : ℕ) (lines : List (List ℕ)) (answers : List ℤ) → SpellAnswers lines answers → answers_from n lines ≡ Ok answers
spelled_read n [] answers h = ap Ok (sym h)
spelled_read n (line ∷ lines) answers (inl (passed, h)) =
    right_first n line lines (passed_is_right line passed)
    ∙ ap (λ o. with_answers (cons_option o []) (answers_from (n + 1) lines)) (nothing_answered line passed)
    ∙ no_answers (answers_from (n + 1) lines)
    ∙ spelled_read (n + 1) lines answers h
spelled_read n (line ∷ lines) answers (inr h) =
    let found = answer_read (trimmed line) h.0 h.3 in
    right_first n line lines (answer_is_right line h.0 found)
    ∙ ap (λ o. with_answers (cons_option o []) (answers_from (n + 1) lines)) found
    ∙ ap (with_answers (h.0 ∷ [])) (spelled_read (n + 1) lines h.1 h.4)
    ∙ ap Ok (sym h.2)

ok_is : (x y : List ℤ) → ◌≡◌ {A = Result (List ℤ) (LineFault × ℕ)} (Ok x) (Ok y) → x ≡ y
ok_is x y e = cc

not_ok : (d : LineFault × ℕ) (y : List ℤ) → ◌≡◌ {A = Result (List ℤ) (LineFault × ℕ)} (Err d) (Ok y) → ⊥
not_ok d y e = cc

behind_front : (front answers : List ℤ) (r : Result (List ℤ) (LineFault × ℕ)) → with_answers front r ≡ Ok answers → (rest : List ℤ) × (r ≡ Ok rest) × (answers ≡ front ++ rest)
behind_front front answers (Ok rest) e = (rest, refl, sym (ok_is (front ++ rest) answers e))
behind_front front answers (Err d) e = absurd (not_ok d answers e)

-- what lines are read as, they spell
read_spelled : (n : ℕ) (lines : List (List ℕ)) (answers : List ℤ) → answers_from n lines ≡ Ok answers → SpellAnswers lines answers
read_spelled n [] answers e = sym (ok_is [] answers e)
read_spelled n (line ∷ lines) answers e = by_wrong (is_wrong line) refl (λ rest f. read_spelled (n + 1) lines rest f)
  where
    rest_of : (o : Option ℤ) → answer_of line ≡ o → is_wrong line ≡ false → (rest : List ℤ) × (answers_from (n + 1) lines ≡ Ok rest) × (answers ≡ cons_option o [] ++ rest)
    rest_of o is right =
        behind_front (cons_option o []) answers (answers_from (n + 1) lines)
        (sym (right_first n line lines right ∙ ap (λ o. with_answers (cons_option o []) (answers_from (n + 1) lines)) is) ∙ e)

    by_right : is_wrong line ≡ false → (trimmed line ≡ []) ⊎ ((v : ℤ) × (answer_of line ≡ Some v)) → ((rest : List ℤ) → answers_from (n + 1) lines ≡ Ok rest → SpellAnswers lines rest)
        → SpellAnswers (line ∷ lines) answers
    by_right right (inl passed) again =
        let rest = rest_of None (nothing_answered line passed) right in
        inl (passed, again answers (rest.1 ∙ ap Ok (sym rest.2)))
    by_right right (inr found) again =
        let rest = rest_of (Some found.0) found.1 right in
        inr (found.0, rest.0, rest.2, answer_spelled (trimmed line) found.0 found.1, again rest.0 rest.1)

    by_wrong : (b : Bool) → is_wrong line ≡ b → ((rest : List ℤ) → answers_from (n + 1) lines ≡ Ok rest → SpellAnswers lines rest) → SpellAnswers (line ∷ lines) answers
    by_wrong true wrong again = absurd (not_ok (BadNumber, n) answers (sym (wrong_first n line lines wrong) ∙ e))
    by_wrong false right again = by_right right (not_wrong (trimmed line) (answer_of line) right) again

pub answers_law : AnswersLaw
unfolding answers_of
answers_law bytes answers = (spelled_read 1 (lines bytes) answers, read_spelled 1 (lines bytes) answers)
