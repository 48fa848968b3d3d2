-- Lines and programs are read as they are spelled.
use Rattle.std.proofs.Common.{◌≡◌, ◌≢◌, ◌⊎◌, refl, ℕ, ◌+◌, ◌-◌, ◌<◌, ◌≤◌, List, [], ◌∷◌, ◌++◌, Bool, true, false, cond, not, Ok, Err, ap, sym, ◌∙◌, subst, arith, inl, inr, append_assoc}
use Rattle.std.specs.Prelude.{nat_le, ◌&&◌, ◌||◌, ◌==◌}
use Rattle.std.specs.List.{AllPass}
use Rattle.std.specs.Char.{is_ascii_alphabetic}
use Rattle.std.proofs.lemmas.Grind.{common_steps}
use Rattle.std.proofs.lemmas.List.Elements.{All-from_recursion, recursion_from_All}
use Rattle.board_base.specs.Binds.{◌>>=◌}
use Rattle.rs274_sim.specs.declared.line.Word.{Word}
use Rattle.rs274_sim.specs.declared.line.Value.{Value}
use Rattle.rs274_sim.specs.Text.{IsParameter, SpellsValue, IsLetter, is_round, Piece, comment, word, setting, SpellsPiece, is_n}
use Rattle.rs274_sim.specs.Reading.{BadNumber, BadParameter, BadByte, OpenComment, Found, front, behind, parameter_at, whole_value_at, is_word_letter, upper, word_at, behind_equals, setting_at, behind_closing, comment_at, piece_at}
use Rattle.rs274_sim.proofs.FoundLaws.{same_ok, not_ok, bind_ok, passed_ok, front_behind, front_passes, behind_is}
use Rattle.rs274_sim.proofs.NumberLaws.{Ends, Split, parameter_read, read_parameter}
use Rattle.rs274_sim.proofs.ValueLaws.{reads_values, byte_is}

-- what reads a piece behind its first byte, and what is spelled so
abbrev PieceSplit : ℕ → List ℕ → Piece → List ℕ → Type 0
PieceSplit b bytes piece rest = (text : List ℕ) × (b ∷ bytes ≡ text ++ rest) × SpellsPiece text piece

value_read : (text rest : List ℕ) (v : Value) → SpellsValue 16 text v → Ends rest → whole_value_at (text ++ rest) ≡ Ok (v, rest)
unfolding whole_value_at
value_read text rest v h ends = (reads_values 16 BadNumber).complete text rest v h ends

read_value : (bytes rest : List ℕ) (v : Value) → whole_value_at bytes ≡ Ok (v, rest) → Split (SpellsValue 16) bytes v rest
unfolding whole_value_at
read_value bytes rest v e = (reads_values 16 BadNumber).sound bytes rest v e

-- ---- words

upper_is : (b l : ℕ) → IsLetter b l → upper b ≡ l
upper_is b l (low, high, other, inl e) = by_test (nat_le 97 b) refl
  where
    by_test : (p : Bool) → nat_le 97 b ≡ p → cond p (b - 32) b ≡ l
    by_test true f = absurd (grind (arith, common_steps, e, f, high))
    by_test false f = e
upper_is b l (low, high, other, inr e) = by_test (nat_le 97 b) refl
  where
    by_test : (p : Bool) → nat_le 97 b ≡ p → cond p (b - 32) b ≡ l
    by_test true f = omega (arith, e)
    by_test false f = absurd (grind (arith, common_steps, e, f, low))

le_true : (n m : ℕ) → n ≤ m → nat_le n m ≡ true
le_true n m h = grind (arith, common_steps)

le_false : (n m : ℕ) → m < n → nat_le n m ≡ false
le_false n m h = grind (arith, common_steps)

from_le : (n m : ℕ) → nat_le n m ≡ true → n ≤ m
from_le n m e = grind (arith, common_steps, e)

from_not_le : (n m : ℕ) → nat_le n m ≡ false → m < n
from_not_le n m e = grind (arith, common_steps, e)

pub eq_false : (b k : ℕ) → b ≢ k → (b == k) ≡ false
eq_false b k h = by_test (b == k) refl
  where
    by_test : (p : Bool) → (b == k) ≡ p → p ≡ false
    by_test true f = absurd (h (byte_is b k f))
    by_test false f = refl

from_eq_false : (b k : ℕ) → (b == k) ≡ false → b ≢ k
from_eq_false b k e h = absurd (grind (arith, common_steps, e, h))

both_true : (a b : Bool) → (a && b) ≡ true → (a ≡ true) × (b ≡ true)
both_true true true e = (refl, refl)
both_true true false e = absurd (grind (arith, e))
both_true false b e = absurd (grind (arith, e))

either_true : (a b : Bool) → (a || b) ≡ true → (a ≡ true) ⊎ (b ≡ true)
either_true true b e = inl refl
either_true false b e = inr e

neither : (a b : Bool) → not (a || b) ≡ true → (a ≡ false) × (b ≡ false)
neither true b e = absurd (grind (arith, e))
neither false true e = absurd (grind (arith, e))
neither false false e = (refl, refl)

low_letter : (b : ℕ) → 65 ≤ b → b ≤ 90 → b ≢ 78 → is_word_letter b ≡ true
low_letter b low high other = rw (le_true 65 b low, le_true b 90 high, eq_false b 78 other, eq_false b 110 (λ e. omega (arith, e, high))) refl

high_letter : (b : ℕ) → 97 ≤ b → b ≤ 122 → b ≢ 110 → is_word_letter b ≡ true
high_letter b low high other =
    rw (le_true 65 b (omega arith), le_false b 90 (omega arith), le_true 97 b low, le_true b 122 high, eq_false b 78 (λ e. omega (arith, e, low)), eq_false b 110 other) refl

pub letter_test : (b l : ℕ) → IsLetter b l → is_word_letter b ≡ true
letter_test b l (low, high, other, inl e) = low_letter b (omega arith) (omega arith) (λ f. other (sym e ∙ f))
letter_test b l (low, high, other, inr e) = high_letter b (omega arith) (omega arith) (λ f. other (omega (arith, e, f)))

pub from_letter_test : (b : ℕ) → is_word_letter b ≡ true → IsLetter b (upper b)
from_letter_test b e =
    let parts = both_true (is_ascii_alphabetic b) (not (is_n b)) e in
    let other = neither (b == 78) (b == 110) parts.1 in
    by_range (either_true (nat_le 65 b && nat_le b 90) (nat_le 97 b && nat_le b 122) parts.0) (from_eq_false b 78 other.0) (from_eq_false b 110 other.1)
  where
    by_range : ((nat_le 65 b && nat_le b 90) ≡ true) ⊎ ((nat_le 97 b && nat_le b 122) ≡ true) → b ≢ 78 → b ≢ 110 → IsLetter b (upper b)
    by_range (inl e) no_upper no_lower =
        let range = both_true (nat_le 65 b) (nat_le b 90) e in
        let low = from_le 65 b range.0 in
        let high = from_le b 90 range.1 in
        let same : b ≡ upper b = ap (λ p. cond p (b - 32) b) (sym (le_false 97 b (omega (arith, high)))) in
        subst (IsLetter b) same (low, high, no_upper, inl refl)
    by_range (inr e) no_upper no_lower =
        let range = both_true (nat_le 97 b) (nat_le b 122) e in
        let low = from_le 97 b range.0 in
        let high = from_le b 122 range.1 in
        let same : b - 32 ≡ upper b = ap (λ p. cond p (b - 32) b) (sym (le_true 97 b low)) in
        subst (IsLetter b) same (omega (arith, low), omega (arith, high), (λ f. no_lower (omega (arith, low, f))), inr (omega (arith, low)))

word_read : (b l : ℕ) (text rest : List ℕ) (v : Value) → IsLetter b l → SpellsValue 16 text v → Ends rest → word_at b (text ++ rest) ≡ Ok (word (record { letter = l; value = v }), rest)
unfolding word_at
word_read b l text rest v letter h ends =
    ap (λ (r : Found Value). r >>= (λ x. Ok (word (record { letter = upper b; value = x.0 }), x.1))) (value_read text rest v h ends)
    ∙ ap (λ u. Ok (word (record { letter = u; value = v }), rest)) (upper_is b l letter)

read_word : (b : ℕ) (bytes rest : List ℕ) (piece : Piece) → is_word_letter b ≡ true → word_at b bytes ≡ Ok (piece, rest) → PieceSplit b bytes piece rest
unfolding word_at
read_word b bytes rest piece letter e =
    let found = bind_ok (whole_value_at bytes) (λ x. Ok (word (record { letter = upper b; value = x.0 }), x.1)) (piece, rest) e in
    let w : Word = record { letter = upper b; value = found.0.0 } in
    let same : (word w, found.0.1) ≡ (piece, rest) = same_ok (word w, found.0.1) (piece, rest) found.2 in
    let value = read_value bytes found.0.1 found.0.0 found.1 in (
      b ∷ value.0,
      ap (λ t. b ∷ t) (value.1 ∙ ap (λ p. value.0 ++ p.1) same),
      subst (SpellsPiece (b ∷ value.0)) (ap (λ p. p.0) same) (from_letter_test b letter, value.2),
    )

-- ---- settings

setting_read : (digits text rest : List ℕ) (n : ℕ) (v : Value) → IsParameter digits n → SpellsValue 16 text v → Ends rest → setting_at ((digits ++ 61 ∷ text) ++ rest) ≡ Ok (setting n v, rest)
unfolding setting_at
setting_read digits text rest n v number h ends =
    ap setting_at (append_assoc digits (61 ∷ text) rest)
    ∙ ap (λ (r : Found ℕ). r >>= (λ n. behind_equals n.1 >>= (λ t. whole_value_at t >>= (λ v. Ok (setting n.0 v.0, v.1))))) (parameter_read digits (61 ∷ (text ++ rest)) n number refl)
    ∙ ap (λ (r : Found Value). r >>= (λ v. Ok (setting n v.0, v.1))) (value_read text rest v h ends)

from_equals : (bytes text : List ℕ) → behind_equals bytes ≡ Ok text → bytes ≡ 61 ∷ text
from_equals [] text e = absurd (not_ok BadParameter text e)
from_equals (b ∷ bytes) text e =
    let found = passed_ok (b == 61) BadParameter (Ok bytes) text e in
    ap (λ c. c ∷ bytes) (byte_is b 61 found.0) ∙ ap (λ t. 61 ∷ t) (same_ok bytes text found.1)

read_setting : (bytes rest : List ℕ) (piece : Piece) → setting_at bytes ≡ Ok (piece, rest) → PieceSplit 35 bytes piece rest
unfolding setting_at
read_setting bytes rest piece e =
    let number = bind_ok (parameter_at bytes) (λ n. behind_equals n.1 >>= (λ t. whole_value_at t >>= (λ v. Ok (setting n.0 v.0, v.1)))) (piece, rest) e in
    let n = number.0 in
    let text = bind_ok (behind_equals n.1) (λ t. whole_value_at t >>= (λ v. Ok (setting n.0 v.0, v.1))) (piece, rest) number.2 in
    let found = bind_ok (whole_value_at text.0) (λ v. Ok (setting n.0 v.0, v.1)) (piece, rest) text.2 in
    let v = found.0 in
    let same : (setting n.0 v.0, v.1) ≡ (piece, rest) = same_ok (setting n.0 v.0, v.1) (piece, rest) found.2 in
    let digits = read_parameter bytes n.1 n.0 number.1 in
    let value = read_value text.0 v.1 v.0 found.1 in (
      35 ∷ digits.0 ++ 61 ∷ value.0,
      ap (λ t. 35 ∷ t) (digits.1 ∙ ap (λ t. digits.0 ++ t) (from_equals n.1 text.0 text.1 ∙ ap (λ t. 61 ∷ t) (value.1 ∙ ap (λ p. value.0 ++ p.1) same)) ∙ sym (append_assoc digits.0 (61 ∷ value.0) rest)),
      subst (SpellsPiece (35 ∷ digits.0 ++ 61 ∷ value.0)) (ap (λ p. p.0) same) (digits.0, value.0, digits.2, refl, value.2),
    )

-- ---- comments

abbrev is_inside : ℕ → Bool
is_inside b = not (is_round b)

comment_read : (text rest : List ℕ) → AllPass is_inside text → comment_at ((text ++ 41 ∷ []) ++ rest) ≡ Ok (comment, rest)
comment_read text rest h =
    ap (λ t. behind_closing (behind is_inside t)) (append_assoc text (41 ∷ []) rest)
    ∙ ap behind_closing (behind_is is_inside text (41 ∷ rest) (recursion_from_All (λ b. is_inside b ≡ true) text h) refl)

read_comment : (bytes rest : List ℕ) (piece : Piece) → comment_at bytes ≡ Ok (piece, rest) → PieceSplit 40 bytes piece rest
read_comment bytes rest piece e = by_rest (behind is_inside bytes) refl e
  where
    by_rest : (after : List ℕ) → behind is_inside bytes ≡ after → behind_closing after ≡ Ok (piece, rest) → PieceSplit 40 bytes piece rest
    by_rest [] is e = absurd (not_ok OpenComment (piece, rest) e)
    by_rest (b ∷ after) is e =
        let found = passed_ok (b == 41) OpenComment (Ok (comment, after)) (piece, rest) e in
        let same : (comment, after) ≡ (piece, rest) = same_ok (comment, after) (piece, rest) found.1 in
        let text = front is_inside bytes in (
          40 ∷ text ++ 41 ∷ [],
          ap (λ t. 40 ∷ t) (sym (front_behind is_inside bytes) ∙ ap (λ t. text ++ t) (is ∙ ap (λ c. c ∷ after) (byte_is b 41 found.0) ∙ ap (λ p. 41 ∷ p.1) same) ∙ sym (append_assoc text (41 ∷ []) rest)),
          subst (SpellsPiece (40 ∷ text ++ 41 ∷ [])) (ap (λ p. p.0) same) (text, All-from_recursion (λ b. is_inside b ≡ true) text (front_passes is_inside bytes), refl),
        )

-- ---- pieces

pub letter_is_not : (b k : ℕ) → is_word_letter b ≡ true → k < 65 → (b == k) ≡ false
letter_is_not b k e small =
    let letter = from_letter_test b e in
    let low : 65 ≤ upper b = letter.0 in
    eq_false b k (by_case letter.3)
  where
    by_case : (b ≡ upper b) ⊎ (b ≡ upper b + 32) → b ≢ k
    by_case (inl f) g = let low = (from_letter_test b e).0 in omega (arith, f, g, low, small)
    by_case (inr f) g = let low = (from_letter_test b e).0 in omega (arith, f, g, low, small)

-- what is read of a piece
pub record PieceRead (text rest : List ℕ) (piece : Piece) : Type 0 where
  pub byte : ℕ
  pub more : List ℕ
  pub text_is : text ≡ byte ∷ more
  pub goes_on : (byte == 59) ≡ false
  pub reads : piece_at byte (more ++ rest) ≡ Ok (piece, rest)

pub piece_read : (text rest : List ℕ) (piece : Piece) → SpellsPiece text piece → Ends rest → PieceRead text rest piece
unfolding piece_at
piece_read text rest comment (inner, h, e) ends = record { byte = 40; more = inner ++ 41 ∷ []; text_is = e; goes_on = refl; reads = comment_read inner rest h }
piece_read text rest (setting n v) (digits, inner, number, e, h) ends = record { byte = 35; more = digits ++ 61 ∷ inner; text_is = e; goes_on = refl; reads = setting_read digits inner rest n v number h ends }
piece_read [] rest (word w) h ends = absurd h
piece_read (b ∷ text) rest (word w) (letter, h) ends =
    let test = letter_test b w.letter letter in
    record {
      byte = b;
      more = text;
      text_is = refl;
      goes_on = letter_is_not b 59 test (omega arith);
      reads =
          ap (λ p. cond p (comment_at (text ++ rest)) (cond (b == 35) (setting_at (text ++ rest)) (cond (is_word_letter b) (word_at b (text ++ rest)) (Err BadByte)))) (letter_is_not b 40 test (omega arith))
          ∙ ap (λ p. cond p (setting_at (text ++ rest)) (cond (is_word_letter b) (word_at b (text ++ rest)) (Err BadByte))) (letter_is_not b 35 test (omega arith))
          ∙ ap (λ p. cond p (word_at b (text ++ rest)) (Err BadByte)) test
          ∙ word_read b w.letter text rest w.value letter h ends;
    }

pub read_piece : (b : ℕ) (bytes rest : List ℕ) (piece : Piece) → piece_at b bytes ≡ Ok (piece, rest) → PieceSplit b bytes piece rest
unfolding piece_at
read_piece b bytes rest piece e = by_comment (b == 40) refl e
  where
    by_byte : (k : ℕ) → b ≡ k → PieceSplit k bytes piece rest → PieceSplit b bytes piece rest
    by_byte k same split = subst (λ c. PieceSplit c bytes piece rest) (sym same) split

    by_word : (p : Bool) → is_word_letter b ≡ p → cond p (word_at b bytes) (Err BadByte) ≡ Ok (piece, rest) → PieceSplit b bytes piece rest
    by_word true is e = read_word b bytes rest piece is e
    by_word false is e = absurd (not_ok BadByte (piece, rest) e)

    by_setting : (p : Bool) → (b == 35) ≡ p → cond p (setting_at bytes) (cond (is_word_letter b) (word_at b bytes) (Err BadByte)) ≡ Ok (piece, rest) → PieceSplit b bytes piece rest
    by_setting true is e = by_byte 35 (byte_is b 35 is) (read_setting bytes rest piece e)
    by_setting false is e = by_word (is_word_letter b) refl e

    by_comment : (p : Bool) → (b == 40) ≡ p → cond p (comment_at bytes) (cond (b == 35) (setting_at bytes) (cond (is_word_letter b) (word_at b bytes) (Err BadByte))) ≡ Ok (piece, rest) → PieceSplit b bytes piece rest
    by_comment true is e = by_byte 40 (byte_is b 40 is) (read_comment bytes rest piece e)
    by_comment false is e = by_setting (b == 35) refl e
