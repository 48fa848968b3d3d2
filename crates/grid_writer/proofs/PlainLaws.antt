-- Plain lines have the text that they have where there is no surface.
use Rattle.std.proofs.Common.{◌≡◌, refl, ℕ, ◌*◌, ◌/◌, ◌%◌, ◌≤◌, ◌==◌, ℤ, pos, ◌*ℤ◌, List, [], ◌∷◌, ◌++◌, map, Bool, true, false, cond, ap, sym, subst, ◌∙◌, arith, decimal, MatchBool}
use Rattle.std.specs.Prelude.{unsigned_abs}
use Rattle.std.specs.List.{All, AllByRecursion, join_with_byte}
use Rattle.std.proofs.lemmas.List.{append-nil}
use Rattle.std.proofs.lemmas.List.Elements.{recursion_from_All}
use Rattle.fixed_num.specs.Fixed.{digit, fixed6}
use Rattle.rs274_sim.specs.declared.line.Word.{Word}
use Rattle.rs274_sim.specs.declared.line.Line.{Line}
use Rattle.rs274_sim.specs.declared.line.Value.{Value, Num}
use Rattle.rs274_sim.specs.Machine.{number, whole_part, one}
use Rattle.rs274_sim.specs.Spelling.{has_decimals, millionths, word_text, IsWritten, IsWrittenLine, text_of}
use Rattle.rs274_sim.proofs.TextLaws.{whole_of}
use Rattle.grid_writer.specs.Spelling.{tenths_text, value_text, word_over, setting_over, line_text_over, text_over}

tens_text : (n : ℕ) → tenths_text (n * 10) ≡ decimal n
tens_text n =
    let none : (n * 10) % 10 ≡ 0 = omega arith in
    let same : n * 10 / 10 ≡ n = omega arith in
    ap (λ r. cond (r == 0) (decimal (n * 10 / 10)) (decimal (n * 10 / 10) ++ 46 ∷ digit (n * 10) ∷ [])) none ∙ ap decimal same

whole_text : (n : ℕ) → tenths_text (n * 1000000000000 / 100000000000) ≡ decimal (whole_part (pos (n * 1000000000000)))
whole_text n =
    let e : n * 1000000000000 / 100000000000 ≡ n * 10 = omega arith in
    ap tenths_text e ∙ tens_text n ∙ ap decimal (sym (whole_of n))

plain_value : (some : Bool) (v : Value) → MatchBool some
    ((m : ℤ) × (v ≡ Num (m *ℤ pos 1000000)) × (unsigned_abs m ≤ 1000000000000))
    ((n : ℕ) × (v ≡ Num (pos (n * one))) × (n ≤ 1000000))
    → value_text some v ≡ cond some (fixed6 (millionths (number v))) (decimal (whole_part (number v)))
plain_value true v h = subst (λ u. value_text true u ≡ fixed6 (millionths (number u))) (sym h.1) refl
plain_value false v h = subst (λ u. value_text false u ≡ decimal (whole_part (number u))) (sym h.1) (whole_text h.0)

plain_words : (ws : List Word) → AllByRecursion IsWritten ws → map word_over ws ≡ map word_text ws
plain_words [] h = refl
plain_words (w ∷ ws) h =
    ap (λ t. (w.letter ∷ t) ∷ map word_over ws) (plain_value (has_decimals w) w.value h.0.value)
    ∙ ap (λ t. word_text w ∷ t) (plain_words ws h.1)

plain_line : (line : Line) → IsWrittenLine line → line_text_over line ≡ join_with_byte 32 (map word_text line.words)
plain_line line h =
    ap (λ s. join_with_byte 32 (map word_over line.words ++ map setting_over s)) h.no_settings
    ∙ ap (join_with_byte 32) (append-nil (map word_over line.words) ∙ plain_words line.words (recursion_from_All IsWritten line.words h.words))

plain_lines : (lines : List Line) → AllByRecursion IsWrittenLine lines → text_over lines ≡ text_of lines
unfolding text_of
plain_lines [] h = refl
plain_lines (line ∷ lines) h =
    ap (λ t. (t ++ 10 ∷ []) ++ text_over lines) (plain_line line h.0)
    ∙ ap (λ t. (join_with_byte 32 (map word_text line.words) ++ 10 ∷ []) ++ t) (plain_lines lines h.1)

-- plain lines are spelled as where there is no surface
pub plain_text : (lines : List Line) → All IsWrittenLine lines → text_over lines ≡ text_of lines
plain_text lines h = plain_lines lines (recursion_from_All IsWrittenLine lines h)
