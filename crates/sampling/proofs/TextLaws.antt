-- The texts of a board are short.
use Rattle.std.proofs.Common.{ℕ, zero, suc, ◌+◌, ◌*◌, ◌/◌, ◌%◌, ◌≤◌, Bool, true, false, List, [], ◌∷◌, ◌++◌, length, arith}
use Rattle.std.specs.Prelude.{codes, decimal, ◌==◌, if◌then◌else◌, pos}
use Rattle.std.specs.Fmt.{digits, digits_onto, digit_glyph}
use Rattle.std.specs.List.{flat_map, range_with_len}
use Rattle.std.proofs.lemmas.List.{length-append}
use Rattle.fixed_num.specs.Fixed.{fixed6, six_digits}
use Rattle.board_gen.specs.Board.{pad_x, pad_y, point_text, pad_text, flash_text, has_track, track_text, front_text, hole_text, drill_text, reach_x, reach_y, south_text, east_text, west_text, corners_text, outline_text}
use Rattle.endings.specs.Limits.{most_bytes}

-- ---- a number

digits_few : (k base : ℕ) (upper : Bool) (n : ℕ) (more : List ℕ) → length (digits_onto k base upper n more) ≤ k + length more
digits_few zero base upper n more = omega arith
digits_few (suc k) base upper n more = by_last (n / base == 0) (digits_few k base upper (n / base) (digit_glyph upper (n % base) ∷ more))
  where
    by_last : (last : Bool) → length (digits_onto k base upper (n / base) (digit_glyph upper (n % base) ∷ more)) ≤ k + suc (length more)
        → length (if last then digit_glyph upper (n % base) ∷ more else digits_onto k base upper (n / base) (digit_glyph upper (n % base) ∷ more)) ≤ suc k + length more
    by_last true few = omega arith
    by_last false few = omega (arith, few)

decimal_few : (n : ℕ) → length (decimal n) ≤ 64
unfolding digits
decimal_few n = digits_few 64 10 false n []

-- ---- one behind another

abbrev Few : ℕ → List ℕ → Type 0
Few most text = length text ≤ most

both_few : (a b : ℕ) (s t : List ℕ) → Few a s → Few b t → Few (a + b) (s ++ t)
both_few a b s t h k = omega (arith, length-append s t, h, k)

-- parts for each number of a range
all_few : (f : ℕ → List ℕ) (most : ℕ) → ((k : ℕ) → Few most (f k)) → (first n : ℕ) → Few (most * n) (flat_map f (range_with_len first n))
all_few f most each first zero = omega arith
all_few f most each first (suc n) = omega (arith, both_few most (most * n) (f first) (flat_map f (range_with_len (first + 1) n)) (each first) (all_few f most each (first + 1) n))

-- ---- the front

point_few : (x y : ℕ) → Few 130 (point_text x y)
unfolding point_text
point_few x y =
    both_few 66 64 (codes "X" ++ decimal x ++ codes "Y") (decimal y)
    (both_few 65 1 (codes "X" ++ decimal x) (codes "Y") (both_few 1 64 (codes "X") (decimal x) (omega arith) (decimal_few x)) (omega arith)) (decimal_few y)

pad_few : (ending : List ℕ) → Few 5 ending → (k : ℕ) → Few 135 (pad_text ending k)
unfolding pad_text
pad_few ending few k = both_few 130 5 (point_text (pad_x k) (pad_y k)) ending (point_few (pad_x k) (pad_y k)) few

track_few : (n k : ℕ) → Few 270 (track_text n k)
unfolding track_text
track_few n k = by_track (has_track n k)
  where
    by_track : (there : Bool) → Few 270 (if there then pad_text (codes "D02*\n") k ++ pad_text (codes "D01*\n") (k + 1) else [])
    by_track true = both_few 135 135 (pad_text (codes "D02*\n") k) (pad_text (codes "D01*\n") (k + 1)) (pad_few (codes "D02*\n") (omega arith) k) (pad_few (codes "D01*\n") (omega arith) (k + 1))
    by_track false = omega arith

-- a text round others
round_few : (a b c : ℕ) (first text last : List ℕ) → Few a first → Few b text → Few c last → Few (a + b + c) (first ++ text ++ last)
round_few a b c first text last h k l = both_few (a + b) c (first ++ text) last (both_few a b first text h k) l

pub front_few : (n : ℕ) → n ≤ 400 → length (front_text n) ≤ most_bytes
unfolding front_text
front_few n few = omega (arith, few, whole)
  where
    head : List ℕ
    head = codes "%FSLAX46Y46*%\n%MOMM*%\n%ADD10C,1.600000*%\n%ADD11C,0.400000*%\nD10*\n"

    flashes : List ℕ
    flashes = flat_map flash_text (range_with_len 0 n)

    tracks : List ℕ
    tracks = flat_map (track_text n) (range_with_len 0 n)

    whole : Few (100 + 135 * n + 5 + 270 * n + 5) (head ++ flashes ++ codes "D11*\n" ++ tracks ++ codes "M02*\n")
    whole =
        round_few (100 + 135 * n + 5) (270 * n) 5 (head ++ flashes ++ codes "D11*\n") tracks (codes "M02*\n")
        (round_few 100 (135 * n) 5 head flashes (codes "D11*\n") (omega arith) (all_few flash_text 135 (pad_few (codes "D03*\n") (omega arith)) 0 n) (omega arith))
        (all_few (track_text n) 270 (track_few n) 0 n) (omega arith)

-- ---- the holes

fixed_few : (n : ℕ) → Few 71 (fixed6 (pos n))
fixed_few n = both_few 64 7 (decimal (n / 1000000)) (46 ∷ six_digits n) (decimal_few (n / 1000000)) (omega arith)

hole_few : (k : ℕ) → Few 145 (hole_text k)
unfolding hole_text
hole_few k =
    round_few 73 71 1 (codes "X" ++ fixed6 (pos (pad_x k)) ++ codes "Y") (fixed6 (pos (pad_y k))) (codes "\n")
    (round_few 1 71 1 (codes "X") (fixed6 (pos (pad_x k))) (codes "Y") (omega arith) (fixed_few (pad_x k)) (omega arith))
    (fixed_few (pad_y k)) (omega arith)

pub drill_few : (n : ℕ) → n ≤ 400 → length (drill_text n) ≤ most_bytes
unfolding drill_text
drill_few n few = omega (arith, few, whole)
  where
    head : List ℕ
    head = codes "M48\nMETRIC\nT1C0.800\n%\nT1\n"

    holes : List ℕ
    holes = flat_map hole_text (range_with_len 0 n)

    whole : Few (100 + 145 * n + 5) (head ++ holes ++ codes "M30\n")
    whole = round_few 100 (145 * n) 5 head holes (codes "M30\n") (omega arith) (all_few hole_text 145 hole_few 0 n) (omega arith)

-- ---- the outline

south_few : (x : ℕ) → Few 164 (south_text x)
unfolding south_text
south_few x = round_few 50 64 50 (codes "X-2000000Y-2000000D02*\nX") (decimal x) (codes "Y-2000000D01*\n") (omega arith) (decimal_few x) (omega arith)

east_few : (x y : ℕ) → Few 180 (east_text x y)
unfolding east_text
east_few x y = both_few 130 50 (point_text x y) (codes "D01*\n") (point_few x y) (omega arith)

west_few : (y : ℕ) → Few 164 (west_text y)
unfolding west_text
west_few y = round_few 50 64 50 (codes "X-2000000Y") (decimal y) (codes "D01*\nX-2000000Y-2000000D01*\n") (omega arith) (decimal_few y) (omega arith)

corners_few : (x y : ℕ) → Few 508 (corners_text x y)
unfolding corners_text
corners_few x y = round_few 164 180 164 (south_text x) (east_text x y) (west_text y) (south_few x) (east_few x y) (west_few y)

pub outline_few : (n : ℕ) → length (outline_text n) ≤ most_bytes
unfolding outline_text
outline_few n = omega (arith, whole)
  where
    head : List ℕ
    head = codes "%FSLAX46Y46*%\n%MOMM*%\n%ADD10C,0.100000*%\nD10*\n"

    whole : Few 613 (head ++ corners_text (reach_x n) (reach_y n) ++ codes "M02*\n")
    whole = round_few 100 508 5 head (corners_text (reach_x n) (reach_y n)) (codes "M02*\n") (omega arith) (corners_few (reach_x n) (reach_y n)) (omega arith)
