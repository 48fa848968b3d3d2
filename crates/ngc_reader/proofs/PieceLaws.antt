-- One piece of a line after another.
use Rattle.std.proofs.Common.{◌≡◌, ℕ, zero, suc, ◌-◌, ◌<◌, ◌≤◌, min, List, [], ◌∷◌, cond, Ok, Err, length, take, drop, ap, sym, ◌∙◌, arith, ◌==◌}
use Rattle.std.specs.Char.{is_ascii_digit}
use Rattle.std.proofs.lemmas.Grind.{common_steps}
use Rattle.board_base.specs.Binds.{◌>>=◌}
use Rattle.rs274_sim.specs.declared.line.Line.{Line}
use Rattle.rs274_sim.specs.Text.{Piece}
use Rattle.rs274_sim.specs.Reading.{BadByte, Found, front, piece_at, with_piece, pieces_at, pieces_line, numbered_line}
use Rattle.ngc_reader.specs.Views.{with_part}
use Rattle.ngc_reader.proofs.PartLaws.{added, added_next}
use Rattle.ngc_reader.proofs.StepLaws.{eq_false}

one_less : (n : ℕ) → suc n - 1 ≡ n
one_less n = omega arith

-- one more piece
pub at_piece : (line next : Line) (most : ℕ) (rest : List ℕ) (b : ℕ) (others behind : List ℕ) (piece : Piece) → 0 < most → rest ≡ b ∷ others → (b ≡ 59 → ⊥) → piece_at b others ≡ Ok (piece, behind) → next ≡ with_part line piece
    → added next (pieces_at (most - 1) behind) ≡ added line (pieces_at most rest)
at_piece line next zero rest b others behind piece h e other found next_is = absurd (omega (arith, h))
at_piece line next (suc most) rest b others behind piece h e other found next_is =
    ap (λ n. added n (pieces_at (suc most - 1) behind)) next_is
    ∙ ap (λ n. added (with_part line piece) (pieces_at n behind)) (one_less most)
    ∙ added_next line piece (pieces_at most behind)
    ∙ sym (
    ap (λ t. added line (pieces_at (suc most) t)) e
    ∙ ap (λ p. added line (cond p (Ok []) (piece_at b others >>= (λ p. with_piece p.0 (pieces_at most p.1))))) (eq_false b 59 other)
    ∙ ap (λ (r : Found Piece). added line (r >>= (λ p. with_piece p.0 (pieces_at most p.1)))) found
    )

two_takes : (j n : ℕ) (bytes : List ℕ) → take j (take n bytes) ≡ take (min n j) bytes
two_takes j n bytes = grind (arith, common_steps)

-- a line behind the digits of its number
pub at_digits : (bytes : List ℕ) (n k : ℕ) → n ≤ length bytes → take n bytes ≡ front is_ascii_digit bytes → k ≡ min n 5 → (k ≡ 0 → ⊥) → numbered_line bytes ≡ pieces_line (take (length bytes - k) (drop k bytes))
at_digits bytes n k within first k_is some =
    let digits : take 5 (front is_ascii_digit bytes) ≡ take k bytes = ap (take 5) (sym first) ∙ two_takes 5 n bytes ∙ ap (λ j. take j bytes) (sym k_is) in
    let size : length (take k bytes) ≡ k = grind (arith, common_steps) in
    ap (λ ds. cond (length ds == 0) (Err BadByte) (pieces_line (drop (length ds) bytes))) digits
    ∙ ap (λ j. cond (j == 0) (Err BadByte) (pieces_line (drop j bytes))) size
    ∙ ap (λ p. cond p (Err BadByte) (pieces_line (drop k bytes))) (eq_false k 0 some)
    ∙ ap pieces_line (sym whole)
  where
    whole : take (length bytes - k) (drop k bytes) ≡ drop k bytes
    whole = grind (arith, common_steps)

-- no digits
pub at_no_digits : (bytes : List ℕ) (n k : ℕ) → n ≤ length bytes → take n bytes ≡ front is_ascii_digit bytes → k ≡ min n 5 → k ≡ 0 → numbered_line bytes ≡ Err BadByte
at_no_digits bytes n k within first k_is none =
    let digits : front is_ascii_digit bytes ≡ [] = sym first ∙ ap (λ j. take j bytes) (let z : n ≡ 0 = omega arith in z) in
    ap (λ ds. cond (length (take 5 ds) == 0) (Err BadByte) (pieces_line (drop (length (take 5 ds)) bytes))) digits
