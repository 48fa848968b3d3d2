-- The text of lines stands for them.
use Rattle.std.proofs.Common.{◌≡◌, refl, ℕ, zero, suc, ◌+◌, ◌-◌, ◌*◌, ◌/◌, ◌≤◌, ℤ, pos, ◌*ℤ◌, List, [], ◌∷◌, ◌++◌, true, false, not, cond, length, map, take, get_or, eqb, ap, sym, ◌∙◌, subst, arith, inl, inr, append_assoc, length-append, decimal, ◌==◌}
use Rattle.std.specs.Prelude.{unsigned_abs}
use Rattle.std.specs.List.{AllByRecursion, AllZip, flat_map, join_with_byte, slice_split}
use Rattle.std.specs.Str.Lines.{lines, lines_of_parts, strip_carriage_return}
use Rattle.std.proofs.Math.Nat.{mul-div_cancel}
use Rattle.std.proofs.lemmas.Bool.Decides.{nat_tests}
use Rattle.std.proofs.lemmas.List.{append-nil}
use Rattle.std.proofs.lemmas.List.Elements.{All-from_recursion}
use Rattle.std.proofs.lemmas.List.Splits.{slice_split_at}
use Rattle.fixed_num.specs.Fixed.{fixed6}
use Rattle.rs274_sim.specs.declared.line.Word.{Word}
use Rattle.rs274_sim.specs.declared.line.Line.{Line}
use Rattle.rs274_sim.specs.declared.line.Value.{Num, Param}
use Rattle.rs274_sim.specs.Spelling.{has_decimals}
use Rattle.rs274_sim.specs.Text.{SpellsValue, SpellsWord, word, setting, SpellsPieces, SpellsPlainLine, StandsForLine, StandsFor, unblanked, is_blank}
use Rattle.rs274_sim.proofs.ShortLines.{IsUpper}
use Rattle.rs274_sim.proofs.TextLaws.{number_is_value, parts_of, same_words, no_settings}
use Rattle.mill_program.specs.Lines.{words}
use Rattle.mill_program.specs.GridLines.{answer_line}
use Rattle.mill_program.specs.Heights.{answer_parameter}
use Rattle.grid_writer.specs.Spelling.{tenths_text, number_text, word_over, line_text_over, text_over}
use Rattle.grid_writer.proofs.PartLaws.{plain_fixed}
use Rattle.grid_writer.proofs.NumberTexts.{IsVisible, visible_append, visible_decimal, fixed_text, tenths_is_text, is_parameter, short_parameter}

-- ---- words

-- a word whose text stands for it
pub record IsWordText (w : Word) : Type 0 where
  pub stands : SpellsWord (word_over w) w
  pub visible : AllByRecursion IsVisible (word_over w)

-- a word whose text stands for it, and is no longer than this
pub record IsShortWord (w : Word) (most : ℕ) : Type 0 where
  pub text : IsWordText w
  pub short : length (word_over w) ≤ most

-- a letter and the text of a value
pub word_text_is : (w : Word) (text : List ℕ) (most : ℕ) → IsUpper w.letter → word_over w ≡ w.letter ∷ text → SpellsValue 16 text w.value → AllByRecursion IsVisible text → length text ≤ most
    → IsShortWord w (most + 1)
word_text_is w text most up e value visible short =
    let low : 65 ≤ w.letter = up.low in
    record {
      text = record {
        stands = subst (λ t. SpellsWord t w) (sym e) ((up.low, up.high, up.not_n, inl refl), value);
        visible = subst (AllByRecursion IsVisible) (sym e) (record { low = omega arith }, visible);
      };
      short = let long = ap length e in omega arith;
    }

-- millionths behind a letter
pub fixed_word : (letter : ℕ) (z m : ℤ) → IsUpper letter → has_decimals (record { letter = letter; value = Num z }) ≡ true → z ≡ m *ℤ pos 1000000 → unsigned_abs m ≤ 1000000000000
    → IsShortWord (record { letter = letter; value = Num z }) 20
fixed_word letter z m up some e small =
    let text = fixed_text m small in
    let here : IsShortWord (record { letter = letter; value = Num (m *ℤ pos 1000000) }) 20 =
    word_text_is (record { letter = letter; value = Num (m *ℤ pos 1000000) }) (fixed6 m) 19 up (plain_fixed letter m some) (number_is_value 16 (fixed6 m) (Num (m *ℤ pos 1000000)) text.spells) text.visible text.short in
    subst (λ (x : ℤ). IsShortWord (record { letter = letter; value = Num x }) 20) (sym e) here

-- tenths behind a letter
pub tenths_word : (letter k n : ℕ) → IsUpper letter → has_decimals (record { letter = letter; value = Num (pos k) }) ≡ false → k ≡ n * 100000000000 → n ≤ 10000000
    → IsShortWord (record { letter = letter; value = Num (pos k) }) 10
tenths_word letter k n up none e few =
    let text = tenths_is_text n few in
    let same : n * 100000000000 / 100000000000 ≡ n = mul-div_cancel n (omega arith) in
    let value : word_over (record { letter = letter; value = Num (pos (n * 100000000000)) }) ≡ letter ∷ tenths_text n =
    ap (λ b. letter ∷ number_text b (pos (n * 100000000000))) none ∙ ap (λ j. letter ∷ tenths_text j) same in
    let here : IsShortWord (record { letter = letter; value = Num (pos (n * 100000000000)) }) 10 =
    word_text_is (record { letter = letter; value = Num (pos (n * 100000000000)) }) (tenths_text n) 9 up value (number_is_value 16 (tenths_text n) (Num (pos (n * 100000000000))) text.spells) text.visible text.short in
    subst (λ (j : ℕ). IsShortWord (record { letter = letter; value = Num (pos j) }) 10) (sym e) here

-- ---- blanks and ends of lines

not_blank : (b : ℕ) → IsVisible b → not (is_blank b) ≡ true
not_blank b h = let low : 33 ≤ b = h.low in grind (arith, nat_tests)

unblanked_visible : (xs rest : List ℕ) → AllByRecursion IsVisible xs → unblanked (xs ++ rest) ≡ xs ++ unblanked rest
unblanked_visible [] rest h = refl
unblanked_visible (x ∷ xs) rest h =
    ap (λ b. cond b (x ∷ unblanked (xs ++ rest)) (unblanked (xs ++ rest))) (not_blank x h.0) ∙ ap (λ t. x ∷ t) (unblanked_visible xs rest h.1)

-- a byte that ends no line
pub record IsInside (b : ℕ) : Type 0 where
  pub low : 32 ≤ b

inside_visible : (xs rest : List ℕ) → AllByRecursion IsVisible xs → AllByRecursion IsInside rest → AllByRecursion IsInside (xs ++ rest)
inside_visible [] rest h k = k
inside_visible (x ∷ xs) rest h k = let low : 33 ≤ x = h.0.low in (record { low = omega arith }, inside_visible xs rest h.1 k)

no_newline : (xs : List ℕ) → AllByRecursion IsInside xs → AllByRecursion (λ b. eqb b 10 ≡ false) xs
no_newline [] h = tt
no_newline (x ∷ xs) h = let low : 32 ≤ x = h.0.low in ((grind (arith, nat_tests)), no_newline xs h.1)

no_return : (xs : List ℕ) (k : ℕ) → AllByRecursion IsInside xs → eqb (get_or xs k 0) 13 ≡ false
no_return [] k h = refl
no_return (x ∷ xs) zero h = let low : 32 ≤ x = h.0.low in grind (arith, nat_tests)
no_return (x ∷ xs) (suc k) h = no_return xs k h.1

stripped : (xs : List ℕ) → AllByRecursion IsInside xs → strip_carriage_return xs ≡ xs
stripped xs h = ap (λ b. cond b (take (length xs - 1) xs) xs) (no_return xs (length xs - 1) h)

-- ---- lines

-- a line whose text stands for it, without an end of a line in it
pub record IsLineText (line : Line) : Type 0 where
  pub stands : StandsForLine (line_text_over line) line
  pub inside : AllByRecursion IsInside (line_text_over line)

-- words with one space between them
abbrev spaced : List Word → List ℕ
spaced ws = join_with_byte 32 (map word_over ws)

-- the longest text that words of at most these lengths have
abbrev pub width : List ℕ → ℕ
width [] = 0
width (n ∷ ns) = n + 1 + width ns

texts_of : (ws : List Word) (ns : List ℕ) → AllZip IsShortWord ws ns → AllByRecursion IsWordText ws
texts_of [] ns h = tt
texts_of (w ∷ ws) [] h = absurd h
texts_of (w ∷ ws) (n ∷ ns) h = (h.0.text, texts_of ws ns h.1)

short_words : (ws : List Word) (ns : List ℕ) → AllZip IsShortWord ws ns → length (spaced ws) ≤ width ns
short_words [] ns h = omega arith
short_words (w ∷ ws) [] h = absurd h
short_words (w ∷ []) (n ∷ ns) h = omega (arith, h.0.short)
short_words (w ∷ v ∷ ws) (n ∷ ns) h =
    let here = h.0.short in
    let more = short_words (v ∷ ws) ns h.1 in
    let all = length-append (word_over w) (32 ∷ spaced (v ∷ ws)) in
    omega arith

inside_words : (ws : List Word) → AllByRecursion IsWordText ws → AllByRecursion IsInside (spaced ws)
inside_words [] h = tt
inside_words (w ∷ []) h = subst (AllByRecursion IsInside) (append-nil (word_over w)) (inside_visible (word_over w) [] h.0.visible tt)
inside_words (w ∷ v ∷ ws) h = inside_visible (word_over w) (32 ∷ spaced (v ∷ ws)) h.0.visible (record { low = omega arith }, inside_words (v ∷ ws) h.1)

unblanked_words : (ws : List Word) → AllByRecursion IsWordText ws → unblanked (spaced ws) ≡ flat_map word_over ws
unblanked_words [] h = refl
unblanked_words (w ∷ []) h = ap unblanked (sym (append-nil (word_over w))) ∙ unblanked_visible (word_over w) [] h.0.visible
unblanked_words (w ∷ v ∷ ws) h =
    unblanked_visible (word_over w) (32 ∷ spaced (v ∷ ws)) h.0.visible ∙ ap (λ t. word_over w ++ t) (unblanked_words (v ∷ ws) h.1)

spells_words : (ws : List Word) → AllByRecursion IsWordText ws → SpellsPieces (flat_map word_over ws) (map word ws)
spells_words [] h = tt
spells_words (w ∷ ws) h = (word_over w, flat_map word_over ws, refl, h.0.stands, spells_words ws h.1)

spells_line : (ws : List Word) → AllByRecursion IsWordText ws → SpellsPlainLine (flat_map word_over ws) (words ws)
spells_line ws h = record {
  label = [];
  rest = flat_map word_over ws;
  pieces = map word ws;
  spelled = refl;
  numbered = tt;
  each = spells_words ws h;
  has = λ t. record { words = same_words ws t; settings = no_settings ws t };
}

-- words whose texts are short enough together
pub words_text : (ws : List Word) (ns : List ℕ) → AllZip IsShortWord ws ns → width ns ≤ 256 → IsLineText (words ws)
words_text ws ns h few =
    let each = texts_of ws ns h in
    let short : length (spaced ws) ≤ 256 = let most = short_words ws ns h in omega arith in
    let plain : spaced ws ≡ line_text_over (words ws) = ap (join_with_byte 32) (sym (append-nil (map word_over ws))) in
    let stands : StandsForLine (spaced ws) (words ws) = (short, inr (subst (λ t. SpellsPlainLine t (words ws)) (sym (unblanked_words ws each)) (spells_line ws each))) in
    record { stands = subst (λ t. StandsForLine t (words ws)) plain stands; inside = subst (AllByRecursion IsInside) plain (inside_words ws each) }

-- ---- the line of an answer

abbrev answer_text : ℕ → List ℕ
answer_text k = 35 ∷ decimal (answer_parameter k) ++ 61 ∷ 35 ∷ decimal 5063

visible_answer : (k : ℕ) → k ≤ 900 → AllByRecursion IsVisible (answer_text k)
visible_answer k few = (
  record { low = omega arith },
  visible_append (decimal (answer_parameter k)) (61 ∷ 35 ∷ decimal 5063) (visible_decimal (answer_parameter k) (omega arith))
      (record { low = omega arith }, (record { low = omega arith }, visible_decimal 5063 (omega arith))),
)

spells_answer : (k : ℕ) → k ≤ 900 → SpellsPlainLine (answer_text k) (answer_line k)
spells_answer k few = record {
  label = [];
  rest = answer_text k;
  pieces = setting (answer_parameter k) (Param 5063) ∷ [];
  spelled = refl;
  numbered = tt;
  each = (
    answer_text k,
    [],
    sym (append-nil (answer_text k)),
    (
      decimal (answer_parameter k),
      35 ∷ decimal 5063,
      is_parameter (answer_parameter k) (omega arith) (omega arith),
      refl,
      inl (inr (decimal 5063, 5063, is_parameter 5063 (omega arith) (omega arith), refl, refl)),
    ),
    tt,
  );
  has = refl;
}

-- the height of a contact is kept in a parameter
pub answer_is_text : (k : ℕ) → k ≤ 900 → IsLineText (answer_line k)
answer_is_text k few =
    let text = answer_text k in
    let visible = visible_answer k few in
    let bare : unblanked text ≡ text = ap unblanked (sym (append-nil text)) ∙ unblanked_visible text [] visible ∙ append-nil text in
    let short : length text ≤ 256 =
    let all = length-append (decimal (answer_parameter k)) (61 ∷ 35 ∷ decimal 5063) in
    let number = short_parameter (answer_parameter k) (omega arith) in
    let contact = short_parameter 5063 (omega arith) in
    omega arith in
    record {
      stands = (short, inr (subst (λ t. SpellsPlainLine t (answer_line k)) (sym bare) (spells_answer k few)));
      inside = subst (AllByRecursion IsInside) (append-nil text) (inside_visible text [] visible tt);
    }

-- ---- texts

lines_of_text : (ls : List Line) → AllByRecursion IsLineText ls → lines (text_over ls) ≡ map line_text_over ls
lines_of_text [] h = refl
lines_of_text (line ∷ ls) h =
    let text = line_text_over line in
    ap lines (append_assoc text (10 ∷ []) (text_over ls))
    ∙ ap lines_of_parts (slice_split_at (λ b. b == 10) text 10 (text_over ls) (All-from_recursion _ _ (no_newline text h.0.inside)) refl)
    ∙ parts_of (slice_split (λ b. b == 10) (text_over ls)) text (text_over ls) refl
    ∙ ap (λ x. x ∷ lines (text_over ls)) (stripped text h.0.inside)
    ∙ ap (λ t. text ∷ t) (lines_of_text ls h.1)

stands_zip : (ls : List Line) → AllByRecursion IsLineText ls → AllZip StandsForLine (map line_text_over ls) ls
stands_zip [] h = tt
stands_zip (line ∷ ls) h = (h.0.stands, stands_zip ls h.1)

-- the text of such lines stands for them
pub stands_for_lines : (ls : List Line) → AllByRecursion IsLineText ls → StandsFor (text_over ls) ls
unfolding StandsFor
stands_for_lines ls h = subst (λ ts. AllZip StandsForLine ts ls) (sym (lines_of_text ls h)) (stands_zip ls h)
