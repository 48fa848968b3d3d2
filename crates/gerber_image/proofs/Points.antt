-- Points one after the other.
use Rattle.std.proofs.Common.{◌≡◌, refl, ℕ, suc, ◌-◌, ◌<◌, ◌≤◌, ℤ, List, [], ◌∷◌, ◌++◌, length, drop, get_or, false, ap, sym, ◌∙◌, arith}
use Rattle.std.specs.Prelude.{◌==◌}
use Rattle.std.proofs.lemmas.List.{append-nil, length-drop}
use Rattle.board_base.specs.declared.places.Point.{Point}
use Rattle.shape_parts.specs.declared.shape.Piece.{Piece}
use Rattle.gerber_image.specs.Regions.{last_behind}
use Rattle.gerber_image.specs.Routes.{strokes}

-- the last point stands at the last place
pub last_at : (p : Point) (points : List Point) (d : Point) → (length points == 0) ≡ false → get_or points (length points - 1) d ≡ last_behind p points
last_at p [] d e = absurd (grind (arith, e))
last_at p (q ∷ []) d e = refl
last_at p (q ∷ r ∷ points) d e =
    let one_less : length (q ∷ r ∷ points) - 1 ≡ suc (length (r ∷ points) - 1) = omega arith in
    ap (λ n. get_or (q ∷ r ∷ points) n d) one_less ∙ last_at q (r ∷ points) d (grind arith)

-- of fewer than two points there are no strokes
no_strokes : (d : ℤ) (points : List Point) → length points < 2 → strokes d points ≡ []
no_strokes d [] h = refl
no_strokes d (a ∷ []) h = refl
no_strokes d (a ∷ b ∷ points) h = absurd (omega (arith, h))

-- no stroke is left
pub all_stroked : (d : ℤ) (points : List Point) (k : ℕ) (shape : List Piece) → length points ≤ k → 1 ≤ k → shape ++ strokes d (drop (k - 1) points) ≡ strokes d points → shape ≡ strokes d points
all_stroked d points k shape h l e =
    let few : length (drop (k - 1) points) < 2 = omega (arith, length-drop (k - 1) points, h, l) in
    sym (append-nil shape) ∙ ap (λ s. shape ++ s) (sym (no_strokes d (drop (k - 1) points) few)) ∙ e
