-- Lines and programs that grow.
use Rattle.std.proofs.Common.{◌≡◌, refl, ℕ, List, [], ◌∷◌, ◌++◌, Result, Ok, Err, ap, append_assoc}
use Rattle.std.proofs.lemmas.List.{append-nil}
use Rattle.board_base.specs.Binds.{◌>>=◌}
use Rattle.rs274_sim.specs.declared.line.Line.{Line}
use Rattle.rs274_sim.specs.Text.{Piece, comment, word, setting, words_of, settings_of, line_from}
use Rattle.rs274_sim.specs.Reading.{LineFault, with_piece, with_line, pieces_at}
use Rattle.ngc_reader.specs.Views.{with_part}

-- a line with these pieces at its end, if there are any
abbrev pub added : Line → Result (List Piece) LineFault → Result Line LineFault
added line (Ok pieces) = Ok (record { words = line.words ++ words_of pieces; settings = line.settings ++ settings_of pieces })
added line (Err fault) = Err fault

-- one more piece
pub added_next : (line : Line) (piece : Piece) (r : Result (List Piece) LineFault) → added (with_part line piece) r ≡ added line (with_piece piece r)
added_next line piece (Err fault) = refl
added_next line comment (Ok pieces) = λ t. Ok (record { words = ap (λ ws. ws ++ words_of pieces) (append-nil line.words) t; settings = ap (λ ss. ss ++ settings_of pieces) (append-nil line.settings) t })
added_next line (word w) (Ok pieces) = λ t. Ok (record { words = append_assoc line.words (w ∷ []) (words_of pieces) t; settings = ap (λ ss. ss ++ settings_of pieces) (append-nil line.settings) t })
added_next line (setting n v) (Ok pieces) = λ t. Ok (record { words = ap (λ ws. ws ++ words_of pieces) (append-nil line.words) t; settings = append_assoc line.settings ((n, v) ∷ []) (settings_of pieces) t })

-- no more pieces
pub added_none : (line : Line) → added line (Ok []) ≡ Ok line
added_none line = λ t. Ok (record { words = append-nil line.words t; settings = append-nil line.settings t })

-- all pieces
pub added_all : (bytes : List ℕ) (most : ℕ) → added (line_from []) (pieces_at most bytes) ≡ (pieces_at most bytes >>= (λ pieces. Ok (line_from pieces)))
added_all bytes most = by_cases (pieces_at most bytes)
  where
    by_cases : (r : Result (List Piece) LineFault) → added (line_from []) r ≡ (r >>= (λ pieces. Ok (line_from pieces)))
    by_cases (Ok pieces) = refl
    by_cases (Err fault) = refl

-- lines behind others
abbrev pub with_lines : List Line → Result (List Line) (LineFault × ℕ) → Result (List Line) (LineFault × ℕ)
with_lines front (Ok lines) = Ok (front ++ lines)
with_lines front (Err e) = Err e

pub lines_next : (front : List Line) (line : Line) (r : Result (List Line) (LineFault × ℕ)) → with_lines (front ++ line ∷ []) r ≡ with_lines front (with_line line r)
lines_next front line (Ok lines) = ap Ok (append_assoc front (line ∷ []) lines)
lines_next front line (Err e) = refl

pub lines_all : (r : Result (List Line) (LineFault × ℕ)) → with_lines [] r ≡ r
lines_all (Ok lines) = refl
lines_all (Err e) = refl
