-- Lines and programs are read as they are spelled, and have one reading.
use Rattle.std.proofs.Common.{◌≡◌, ◌⊎◌, refl, ℕ, zero, suc, ◌+◌, ◌<◌, ◌≤◌, List, [], ◌∷◌, ◌++◌, Bool, true, false, cond, not, Result, Ok, Err, length, take, drop, ap, sym, ◌∙◌, subst, arith, inl, inr, append_assoc, length-append}
use Rattle.std.specs.Prelude.{nat_lt, ◌&&◌, ◌==◌}
use Rattle.std.specs.List.{AllZip}
use Rattle.std.specs.Char.{is_ascii_digit, is_ascii_alphabetic}
use Rattle.std.specs.Str.Lines.{lines}
use Rattle.std.specs.Str.Parse.{AllDigits}
use Rattle.std.proofs.lemmas.Grind.{common_steps}
use Rattle.std.proofs.lemmas.List.{take-append-drop}
use Rattle.board_base.specs.Binds.{◌>>=◌}
use Rattle.rs274_sim.specs.declared.line.Line.{Line}
use Rattle.rs274_sim.specs.Text.{IsLetter, Piece, comment, word, setting, SpellsPiece, SpellsPieces, line_from, unblanked, is_n, IsLabel, SpellsPlainLine, SpellsLine, StandsForLine, StandsFor, OneReading}
use Rattle.rs274_sim.specs.Reading.{LineFault, LongLine, BadByte, Found, front, behind, is_decimal_byte, is_word_letter, piece_at, with_piece, pieces_at, pieces_line, numbered_line, plain_line, is_percent, line_of, with_line, then_lines, lines_from, program_of, ReadingLaw}
use Rattle.rs274_sim.proofs.FoundLaws.{same_ok, not_ok, bind_ok, guard_ok, Begins, Pass, front_behind, front_passes, front_is, digits_pass, pass_digits}
use Rattle.rs274_sim.proofs.NumberLaws.{Ends, ends_digits}
use Rattle.rs274_sim.proofs.ValueLaws.{byte_is}
use Rattle.rs274_sim.proofs.LineLaws.{piece_read, read_piece, letter_test, letter_is_not, from_letter_test, eq_false}

-- ---- the first byte of pieces

-- a byte with which pieces, or the comment at the end, begin
pub record IsFirst (b : ℕ) : Type 0 where
  pub no_number : is_decimal_byte b ≡ false
  pub no_label : is_n b ≡ false
  pub no_percent : (b == 37) ≡ false

letter_above : (b : ℕ) → is_word_letter b ≡ true → 65 ≤ b
letter_above b e = let letter = from_letter_test b e in by_case letter.0 letter.3
  where
    by_case : {u : ℕ} → 65 ≤ u → (b ≡ u) ⊎ (b ≡ u + 32) → 65 ≤ b
    by_case low (inl f) = omega (arith, f, low)
    by_case low (inr f) = omega (arith, f, low)

no_decimal : (b : ℕ) → 65 ≤ b → is_decimal_byte b ≡ false
no_decimal b low = by_test (is_decimal_byte b) refl
  where
    by_test : (p : Bool) → is_decimal_byte b ≡ p → p ≡ false
    by_test true f = absurd (grind (arith, common_steps, f, low))
    by_test false f = refl

both_true : (a b : Bool) → (a && b) ≡ true → (a ≡ true) × (b ≡ true)
both_true true true e = (refl, refl)
both_true true false e = absurd (grind (arith, e))
both_true false b e = absurd (grind (arith, e))

from_not : (a : Bool) → not a ≡ true → a ≡ false
from_not true e = absurd (grind (arith, e))
from_not false e = refl

first_letter : (b l : ℕ) → IsLetter b l → IsFirst b
first_letter b l letter =
    let test = letter_test b l letter in
    record {
      no_number = no_decimal b (letter_above b test);
      no_label = no_n test;
      no_percent = letter_is_not b 37 test (omega arith);
    }
  where
    no_n : is_word_letter b ≡ true → is_n b ≡ false
    no_n test = from_not (is_n b) (let parts = both_true (is_ascii_alphabetic b) (not (is_n b)) test in parts.1)

first_of_piece : (text rest : List ℕ) (piece : Piece) → SpellsPiece text piece → Begins IsFirst (text ++ rest)
first_of_piece text rest comment (inner, h, e) = subst (λ t. Begins IsFirst (t ++ rest)) (sym e) (record { no_number = refl; no_label = refl; no_percent = refl })
first_of_piece text rest (setting n v) (digits, inner, number, e, h) = subst (λ t. Begins IsFirst (t ++ rest)) (sym e) (record { no_number = refl; no_label = refl; no_percent = refl })
first_of_piece [] rest (word w) h = absurd h
first_of_piece (b ∷ text) rest (word w) (letter, h) = first_letter b w.letter letter

first_of_pieces : (bytes : List ℕ) (pieces : List Piece) → SpellsPieces bytes pieces → Begins IsFirst bytes
first_of_pieces [] [] h = tt
first_of_pieces (b ∷ bytes) [] h = subst IsFirst (sym h) (record { no_number = refl; no_label = refl; no_percent = refl })
first_of_pieces bytes (piece ∷ pieces) (front, rest, e, spelled, more) = subst (Begins IsFirst) (sym e) (first_of_piece front rest piece spelled)

ends_of : (bytes : List ℕ) → Begins IsFirst bytes → Ends bytes
ends_of [] h = tt
ends_of (b ∷ bytes) h = h.no_number

-- ---- all pieces

pieces_read : (pieces : List Piece) (most : ℕ) (bytes : List ℕ) → SpellsPieces bytes pieces → length bytes ≤ most → pieces_at most bytes ≡ Ok pieces
pieces_read [] zero [] h room = refl
pieces_read [] (suc most) [] h room = refl
pieces_read [] zero (b ∷ bytes) h room = absurd (omega (arith, room))
pieces_read [] (suc most) (b ∷ bytes) h room = ap (λ c. pieces_at (suc most) (c ∷ bytes)) h
pieces_read (piece ∷ pieces) zero bytes (front, rest, e, spelled, more) room =
    let here = piece_read front rest piece spelled (ends_of rest (first_of_pieces rest pieces more)) in
    absurd (let long = ap length (e ∙ ap (λ t. t ++ rest) here.text_is) in omega (arith, room, long))
pieces_read (piece ∷ pieces) (suc most) bytes (front, rest, e, spelled, more) room =
    let here = piece_read front rest piece spelled (ends_of rest (first_of_pieces rest pieces more)) in
    let whole : bytes ≡ here.byte ∷ (here.more ++ rest) = e ∙ ap (λ t. t ++ rest) here.text_is in
    let short : length rest ≤ most = let long = ap length whole in let parts = length-append here.more rest in omega (arith, room, long, parts) in
    ap (pieces_at (suc most)) whole
    ∙ ap (λ p. cond p (Ok []) (piece_at here.byte (here.more ++ rest) >>= (λ p. with_piece p.0 (pieces_at most p.1)))) here.goes_on
    ∙ ap (λ (r : Found Piece). r >>= (λ p. with_piece p.0 (pieces_at most p.1))) here.reads
    ∙ ap (with_piece piece) (pieces_read pieces most rest more short)

with_piece_ok : (piece : Piece) (r : Result (List Piece) LineFault) (pieces : List Piece) → with_piece piece r ≡ Ok pieces → (more : List Piece) × (r ≡ Ok more) × (piece ∷ more ≡ pieces)
with_piece_ok piece (Ok more) pieces e = (more, refl, same_ok (piece ∷ more) pieces e)
with_piece_ok piece (Err fault) pieces e = absurd (not_ok fault pieces e)

read_pieces : (most : ℕ) (bytes : List ℕ) (pieces : List Piece) → pieces_at most bytes ≡ Ok pieces → SpellsPieces bytes pieces
read_pieces zero [] pieces e = subst (SpellsPieces []) (same_ok [] pieces e) tt
read_pieces (suc most) [] pieces e = subst (SpellsPieces []) (same_ok [] pieces e) tt
read_pieces zero (b ∷ bytes) pieces e = absurd (not_ok BadByte pieces e)
read_pieces (suc most) (b ∷ bytes) pieces e = by_end (b == 59) refl (λ bs ps f. read_pieces most bs ps f) e
  where
    by_end : (p : Bool) → (b == 59) ≡ p → ((bs : List ℕ) (ps : List Piece) → pieces_at most bs ≡ Ok ps → SpellsPieces bs ps)
        → cond p (Ok []) (piece_at b bytes >>= (λ p. with_piece p.0 (pieces_at most p.1))) ≡ Ok pieces → SpellsPieces (b ∷ bytes) pieces
    by_end true is later e = subst (SpellsPieces (b ∷ bytes)) (same_ok [] pieces e) (byte_is b 59 is)
    by_end false is later e =
        let found = bind_ok (piece_at b bytes) (λ p. with_piece p.0 (pieces_at most p.1)) pieces e in
        let p = found.0 in
        let more = with_piece_ok p.0 (pieces_at most p.1) pieces found.2 in
        let piece = read_piece b bytes p.1 p.0 found.1 in
        subst (SpellsPieces (b ∷ bytes)) more.2 (piece.0, p.1, piece.1, piece.2, later p.1 more.0 more.1)

pieces_line_read : (bytes : List ℕ) (pieces : List Piece) → SpellsPieces bytes pieces → pieces_line bytes ≡ Ok (line_from pieces)
unfolding pieces_line
pieces_line_read bytes pieces h = ap (λ (r : Result (List Piece) LineFault). r >>= (λ ps. Ok (line_from ps))) (pieces_read pieces (length bytes) bytes h (omega arith))

read_pieces_line : (bytes : List ℕ) (line : Line) → pieces_line bytes ≡ Ok line → (pieces : List Piece) × SpellsPieces bytes pieces × (line ≡ line_from pieces)
unfolding pieces_line
read_pieces_line bytes line e =
    let found = bind_ok (pieces_at (length bytes) bytes) (λ ps. Ok (line_from ps)) line e in
    (found.0, read_pieces (length bytes) bytes found.0 found.1, sym (same_ok (line_from found.0) line found.2))

-- ---- plain lines

take_few : (k : ℕ) (xs : List ℕ) → length xs ≤ k → take k xs ≡ xs
take_few k xs h = grind (arith, common_steps)

drop_front : (xs ys : List ℕ) → drop (length xs) (xs ++ ys) ≡ ys
drop_front [] ys = refl
drop_front (x ∷ xs) ys = drop_front xs ys

not_none : (n : ℕ) → 0 < n → (n == 0) ≡ false
not_none n h = eq_false n 0 (λ e. omega (arith, e, h))

plain_read : (bytes : List ℕ) (line : Line) → SpellsPlainLine bytes line → plain_line bytes ≡ Ok line
plain_read bytes line h = by_label h.label h.spelled h.numbered
  where
    first : Begins IsFirst h.rest
    first = first_of_pieces h.rest h.pieces h.each

    each : pieces_line h.rest ≡ Ok line
    each = pieces_line_read h.rest h.pieces h.each ∙ ap Ok (sym h.has)

    unnumbered : (rest : List ℕ) → Begins IsFirst rest → pieces_line rest ≡ Ok line → plain_line rest ≡ Ok line
    unnumbered [] first e = e
    unnumbered (b ∷ rest) first e = ap (λ p. cond p (numbered_line rest) (pieces_line (b ∷ rest))) first.no_label ∙ e

    by_label : (label : List ℕ) → bytes ≡ label ++ h.rest → IsLabel label → plain_line bytes ≡ Ok line
    by_label [] e n = ap plain_line e ∙ unnumbered h.rest first each
    by_label (b ∷ digits) e (is, all, some, few) =
        let ds : take 5 (front is_ascii_digit (digits ++ h.rest)) ≡ digits =
        ap (take 5) (front_is is_ascii_digit digits h.rest (digits_pass digits all) (ends_digits h.rest (ends_of h.rest first))) ∙ take_few 5 digits few in
        ap plain_line e
        ∙ ap (λ p. cond p (numbered_line (digits ++ h.rest)) (pieces_line (b ∷ (digits ++ h.rest)))) is
        ∙ ap (λ ds. cond (length ds == 0) (Err BadByte) (pieces_line (drop (length ds) (digits ++ h.rest)))) ds
        ∙ ap (λ p. cond p (Err BadByte) (pieces_line (drop (length digits) (digits ++ h.rest)))) (not_none (length digits) some)
        ∙ ap pieces_line (drop_front digits h.rest) ∙ each

some_of : (n : ℕ) → (n == 0) ≡ false → 0 < n
some_of n e = grind (arith, common_steps, e)

pass_take : (t : ℕ → Bool) (k : ℕ) (xs : List ℕ) → Pass t xs → Pass t (take k xs)
pass_take t zero xs h = tt
pass_take t (suc k) [] h = tt
pass_take t (suc k) (x ∷ xs) h = (h.0, pass_take t k xs h.1)

taken_all : (k : ℕ) (xs ys : List ℕ) → take k xs ++ drop (length (take k xs)) (xs ++ ys) ≡ xs ++ ys
taken_all k xs ys =
    ap (λ t. take k xs ++ drop (length (take k xs)) (t ++ ys)) (sym (take-append-drop k xs))
    ∙ ap (λ t. take k xs ++ drop (length (take k xs)) t) (append_assoc (take k xs) (drop k xs) ys)
    ∙ ap (λ t. take k xs ++ t) (drop_front (take k xs) (drop k xs ++ ys))
    ∙ sym (append_assoc (take k xs) (drop k xs) ys) ∙ ap (λ t. t ++ ys) (take-append-drop k xs)

few_taken : (k : ℕ) (xs : List ℕ) → length (take k xs) ≤ k
few_taken k xs = grind (arith, common_steps)

read_plain : (bytes : List ℕ) (line : Line) → plain_line bytes ≡ Ok line → SpellsPlainLine bytes line
read_plain [] line e = let found = read_pieces_line [] line e in record { label = []; rest = []; pieces = found.0; spelled = refl; numbered = tt; each = found.1; has = found.2 }
read_plain (b ∷ bytes) line e = by_label (is_n b) refl e
  where
    numbered : (ds : List ℕ) → is_n b ≡ true → AllDigits 10 ds → length ds ≤ 5 → bytes ≡ ds ++ drop (length ds) bytes → cond (length ds == 0) (Err BadByte) (pieces_line (drop (length ds) bytes)) ≡ Ok line → SpellsPlainLine (b ∷ bytes) line
    numbered ds is all few whole e =
        let found = guard_ok (length ds == 0) BadByte (pieces_line (drop (length ds) bytes)) line e in
        let pieces = read_pieces_line (drop (length ds) bytes) line found.1 in
        record {
          label = b ∷ ds;
          rest = drop (length ds) bytes;
          pieces = pieces.0;
          spelled = ap (λ t. b ∷ t) whole;
          numbered = (is, all, some_of (length ds) found.0, few);
          each = pieces.1;
          has = pieces.2;
        }

    by_label : (p : Bool) → is_n b ≡ p → cond p (numbered_line bytes) (pieces_line (b ∷ bytes)) ≡ Ok line → SpellsPlainLine (b ∷ bytes) line
    by_label true is e =
        let xs = front is_ascii_digit bytes in
        let all : xs ++ behind is_ascii_digit bytes ≡ bytes = front_behind is_ascii_digit bytes in
        let ds = take 5 xs in
        let whole : ds ++ drop (length ds) bytes ≡ bytes =
        ap (λ t. ds ++ drop (length ds) t) (sym all) ∙ taken_all 5 xs (behind is_ascii_digit bytes) ∙ all in
        numbered ds is (pass_digits ds (pass_take is_ascii_digit 5 xs (front_passes is_ascii_digit bytes))) (few_taken 5 xs) (sym whole) e
    by_label false is e = let found = read_pieces_line (b ∷ bytes) line e in record { label = []; rest = b ∷ bytes; pieces = found.0; spelled = refl; numbered = tt; each = found.1; has = found.2 }

-- ---- lines

n_is_no_percent : (b : ℕ) → is_n b ≡ true → (b == 37) ≡ false
n_is_no_percent b e = by_test (b == 37) refl
  where
    by_test : (p : Bool) → (b == 37) ≡ p → p ≡ false
    by_test true f = absurd (grind (arith, common_steps, e, f))
    by_test false f = refl

no_percent : (bytes : List ℕ) (line : Line) → SpellsPlainLine bytes line → is_percent bytes ≡ false
no_percent [] line h = refl
no_percent (b ∷ c ∷ bytes) line h = refl
no_percent (b ∷ []) line h = by_label h.label h.spelled h.numbered
  where
    of_first : (bytes : List ℕ) → Begins IsFirst bytes → b ∷ [] ≡ bytes → (b == 37) ≡ false
    of_first [] first e = absurd cc
    of_first (c ∷ bytes) first e = let same : b ≡ c = cc in subst (λ d. (d == 37) ≡ false) (sym same) first.no_percent

    by_label : (label : List ℕ) → b ∷ [] ≡ label ++ h.rest → IsLabel label → (b == 37) ≡ false
    by_label [] e n = of_first h.rest (first_of_pieces h.rest h.pieces h.each) e
    by_label (c ∷ digits) e (is, all, some, few) = let same : b ≡ c = cc in subst (λ d. (d == 37) ≡ false) (sym same) (n_is_no_percent c is)

percent_is : (bytes : List ℕ) → is_percent bytes ≡ true → bytes ≡ 37 ∷ []
percent_is [] e = absurd (grind (arith, e))
percent_is (b ∷ []) e = ap (λ c. c ∷ []) (byte_is b 37 e)
percent_is (b ∷ c ∷ bytes) e = absurd (grind (arith, e))

not_long : (n m : ℕ) → m ≤ n → nat_lt n m ≡ false
not_long n m h = grind (arith, common_steps)

from_not_long : (n m : ℕ) → nat_lt n m ≡ false → m ≤ n
from_not_long n m e = grind (arith, common_steps, e)

line_read : (bytes : List ℕ) (line : Line) → StandsForLine bytes line → line_of bytes ≡ Ok line
unfolding line_of
line_read bytes line (short, h) =
    ap (λ p. cond p (Err LongLine) (cond (is_percent (unblanked bytes)) (Ok (line_from [])) (plain_line (unblanked bytes)))) (not_long 256 (length bytes) short) ∙ by_kind h
  where
    by_kind : SpellsLine (unblanked bytes) line → cond (is_percent (unblanked bytes)) (Ok (line_from [])) (plain_line (unblanked bytes)) ≡ Ok line
    by_kind (inl h) = ap (λ t. cond (is_percent t) (Ok (line_from [])) (plain_line t)) h.0 ∙ ap Ok (sym h.1)
    by_kind (inr h) = ap (λ p. cond p (Ok (line_from [])) (plain_line (unblanked bytes))) (no_percent (unblanked bytes) line h) ∙ plain_read (unblanked bytes) line h

read_line : (bytes : List ℕ) (line : Line) → line_of bytes ≡ Ok line → StandsForLine bytes line
unfolding line_of
read_line bytes line e =
    let found = guard_ok (nat_lt 256 (length bytes)) LongLine (cond (is_percent (unblanked bytes)) (Ok (line_from [])) (plain_line (unblanked bytes))) line e in
    (from_not_long 256 (length bytes) found.0, by_kind (is_percent (unblanked bytes)) refl found.1)
  where
    by_kind : (p : Bool) → is_percent (unblanked bytes) ≡ p → cond p (Ok (line_from [])) (plain_line (unblanked bytes)) ≡ Ok line → SpellsLine (unblanked bytes) line
    by_kind true is e = inl (percent_is (unblanked bytes) is, sym (same_ok (line_from []) line e))
    by_kind false is e = inr (read_plain (unblanked bytes) line e)

-- ---- programs

lines_read : (texts : List (List ℕ)) (before : ℕ) (ls : List Line) → AllZip StandsForLine texts ls → lines_from before texts ≡ Ok ls
lines_read [] before [] h = refl
lines_read [] before (l ∷ ls) h = absurd h
lines_read (t ∷ ts) before [] h = absurd h
lines_read (t ∷ ts) before (l ∷ ls) h =
    ap (then_lines (before + 1) (lines_from (before + 1) ts)) (line_read t l h.0) ∙ ap (with_line l) (lines_read ts (before + 1) ls h.1)

with_line_ok : (line : Line) (r : Result (List Line) (LineFault × ℕ)) (ls : List Line) → with_line line r ≡ Ok ls → (more : List Line) × (r ≡ Ok more) × (line ∷ more ≡ ls)
with_line_ok line (Ok more) ls e = (more, refl, same_ok (line ∷ more) ls e)
with_line_ok line (Err fault) ls e = absurd (not_ok fault ls e)

then_ok : (n : ℕ) (rest : Result (List Line) (LineFault × ℕ)) (r : Result Line LineFault) (ls : List Line) → then_lines n rest r ≡ Ok ls → (line : Line) × (r ≡ Ok line) × (with_line line rest ≡ Ok ls)
then_ok n rest (Ok line) ls e = (line, refl, e)
then_ok n rest (Err fault) ls e = absurd (not_ok (fault, n) ls e)

read_lines : (texts : List (List ℕ)) (before : ℕ) (ls : List Line) → lines_from before texts ≡ Ok ls → AllZip StandsForLine texts ls
read_lines [] before ls e = subst (AllZip StandsForLine []) (same_ok [] ls e) tt
read_lines (t ∷ ts) before ls e =
    let first = then_ok (before + 1) (lines_from (before + 1) ts) (line_of t) ls e in
    let more = with_line_ok first.0 (lines_from (before + 1) ts) ls first.2 in
    subst (AllZip StandsForLine (t ∷ ts)) more.2 (read_line t first.0 first.1, read_lines ts (before + 1) more.0 more.1)

-- bytes are read as the lines for which they stand, and as no others
pub reads_program : ReadingLaw
unfolding StandsFor program_of
reads_program bytes program = (lines_read (lines bytes) 0 program, read_lines (lines bytes) 0 program)

-- bytes stand for one list of lines at most
pub one_program : OneReading
one_program bytes one other h k = same_ok one other (sym ((reads_program bytes one).0 h) ∙ (reads_program bytes other).0 k)
