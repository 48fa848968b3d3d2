-- The least along the row of the squares along the columns is the least square over the frame.
use Rattle.std.proofs.Common.{◌≡◌, ℕ, ◌<◌, ◌≤◌, ◌+◌, ◌*◌, ◌/◌, ◌%◌, ◌==◌, ◌⊎◌, inl, inr, Bool, true, false, not, get_or, refl, sym, ap, subst, ◌∙◌, arith}
use Rattle.std.proofs.lemmas.Nat.{div-add-mod', mod_below, div_below, mul-add-lt, mul-le}
use Rattle.std.specs.Int.{abs_diff}
use Rattle.board_base.specs.declared.places.Cell.{Cell}
use Rattle.cell_grid.specs.declared.frames.Frame.{Frame}
use Rattle.cell_grid.specs.Grid.{Grid}
use Rattle.cell_grid.specs.Place.{IsFrame, InFrame, place_of, row_of, column_of, cells_of}
use Rattle.cell_grid.specs.Cells.{in_plane, number_in}
use Rattle.cell_sets.specs.Clearance.{IsClearance}
use Rattle.centre_field.specs.Distances.{none, square_gap, square_to_place, is_kept_at, IsLeastSquare}
use Rattle.centre_field.specs.Columns.{IsNearest, number_at, AreNearest}
use Rattle.centre_field.specs.Rows.{value_at, AreDistances, IsLeastInRow, AreLeastInRows}
use Rattle.centre_field.proofs.LeastLaws.{square_to}
use Rattle.centre_field.proofs.ListingLaws.{some_distance}
use Rattle.centre_field.proofs.RowLaws.{is_none}
use Rattle.centre_field.proofs.FieldLaws.{field_is_clearance}
use Rattle.cell_grid.proofs.PlaceLaws.{column_below, row_below}

-- distances along columns are below 32,768
nearest_short : (g : Grid) (x y h v : ℕ) → h ≤ 32768 → y < h → IsNearest g x y h v → (v ≡ none) ⊎ (v < 32768)
nearest_short g x y h v few y_in p = elim p.reached as (λ _. (v ≡ none) ⊎ (v < 32768)) [
  | inl w ↦ inr (let i = w.1.0 in let e = w.1.1.1 in omega arith)
  | inr w ↦ inl w.0
]

pub distances : (g0 g1 : Grid) → g1 ≡ record g0 { clearances = g1.clearances } → g0.frame.height ≤ 32768 → AreNearest g0 g1 → (y : ℕ) → y < g1.frame.height → AreDistances g1 y
distances g0 g1 e few p y y_in a a_in =
    let w : g1.frame.width ≡ g0.frame.width = ap (λ (h : Grid). h.frame.width) e in
    let u : g1.frame.height ≡ g0.frame.height = ap (λ (h : Grid). h.frame.height) e in
    nearest_short g0 a y g0.frame.height (number_at g1 a y) few (omega arith) (p a y (omega arith) (omega arith))

-- squares of distances
square_le : (v y b : ℕ) → v ≤ abs_diff y b → v * v ≤ square_gap y b
unfolding square_gap
square_le v y b h = mul-le v v (abs_diff y b) (abs_diff y b) h h

square_is : (v y b : ℕ) → v ≡ abs_diff y b → v * v ≡ square_gap y b
unfolding square_gap
square_is v y b e = ap (λ (i : ℕ). i * i) e

never_both : {b : Bool} → b ≡ true → b ≡ false → ⊥
never_both p q = cc

join_le : (v a q s t : ℕ) → v ≤ a + q → q ≤ s → t ≡ a + s → v ≤ t
join_le v a q s t h k e = omega arith

join_is : (v a q s t : ℕ) → v ≡ a + q → q ≡ s → t ≡ a + s → v ≡ t
join_is v a q s t h k e = omega arith

-- from both passes
module _ (g0 g1 : Grid) (x y v : ℕ) (few : g0.frame.height ≤ 32768) (e : g1 ≡ record g0 { clearances = g1.clearances }) (columns : AreNearest g0 g1) (y_in : y < g0.frame.height)
    (row : IsLeastInRow g1 y x v) where
  w : ℕ
  w = g0.frame.width

  same_width : g1.frame.width ≡ g0.frame.width
  same_width = ap (λ (h : Grid). h.frame.width) e

  in_column : (a : ℕ) → a < g0.frame.width → IsNearest g0 a y g0.frame.height (number_at g1 a y)
  in_column a h = columns a y h y_in

  wide : (a b n : ℕ) → n < a * b → 0 < a
  wide a b n k = grind arith

  to : (a b n : ℕ) → a < g0.frame.width → n ≡ b * g0.frame.width + a → square_to_place g0.frame.width x y n ≡ square_gap x a + square_gap y b
  to a b n h k = square_to g0.frame.width x y a b n h k

  bound : (n : ℕ) → n < cells_of g0.frame → is_kept_at g0.kept n ≡ true → v ≤ square_to_place g0.frame.width x y n
  unfolding value_at
  bound n n_in on =
      let some : 0 < g0.frame.width = wide g0.frame.width g0.frame.height n n_in in
      let a = n % g0.frame.width in
      let b = n / g0.frame.width in
      let a_in : a < g0.frame.width = mod_below n g0.frame.width some in
      let b_in : b < g0.frame.height = div_below n g0.frame.width g0.frame.height some (omega arith) in
      let place : b * g0.frame.width + a ≡ n = div-add-mod' n g0.frame.width in
      let V = number_at g1 a y in
      let near : V ≤ abs_diff y b = (in_column a a_in).bound b b_in (ap (λ (k : ℕ). get_or g0.kept k false) place ∙ on) in
      let small : V < 32768 = omega arith in
      join_le v (square_gap x a) (V * V) (square_gap y b) (square_to_place g0.frame.width x y n) (row.bound a (omega (arith, same_width)) (some_distance V small)) (square_le V y b near)
      (to a b n a_in (sym place))

  reached : ((n : ℕ) × ((n < cells_of g0.frame) × ((is_kept_at g0.kept n ≡ true) × (v ≡ square_to_place g0.frame.width x y n))))
      ⊎ ((v ≡ none) × ((n : ℕ) → n < cells_of g0.frame → is_kept_at g0.kept n ≡ false))
  unfolding value_at
  reached = elim row.reached as (λ _. Reached) [
    | inl z ↦
        let a = z.0 in
        let a_in : a < g0.frame.width = (let h = z.1.0 in omega (arith, same_width)) in
        let V = number_at g1 a y in
        elim (in_column a a_in).reached as (λ _. Reached) [
          | inl u ↦
              let b = u.0 in
              let n = b * g0.frame.width + a in
              inl (
                n,
                (
                  mul-add-lt b g0.frame.width a g0.frame.height u.1.0 a_in,
                  (
                    u.1.1.0,
                    join_is v (square_gap x a) (V * V) (square_gap y b) (square_to_place g0.frame.width x y n) z.1.1.1 (square_is V y b u.1.1.1) (to a b n a_in refl),
                  ),
                ),
              )
          | inr u ↦ absurd (never_both z.1.1.0 (ap (λ (i : ℕ). not (i == none)) u.0))
        ]
    | inr z ↦ inr (
      z.0,
      λ n n_in.
          let some : 0 < g0.frame.width = wide g0.frame.width g0.frame.height n n_in in
          let a = n % g0.frame.width in
          let b = n / g0.frame.width in
          let a_in : a < g0.frame.width = mod_below n g0.frame.width some in
          let b_in : b < g0.frame.height = div_below n g0.frame.width g0.frame.height some (omega arith) in
          let place : b * g0.frame.width + a ≡ n = div-add-mod' n g0.frame.width in
          let off : number_at g1 a y ≡ none = is_none (number_at g1 a y) (z.1 a (omega (arith, same_width))) in
          elim (in_column a a_in).reached as (λ _. is_kept_at g0.kept n ≡ false) [
            | inl u ↦ absurd (let i = u.1.0 in let k = u.1.1.1 in omega arith)
            | inr u ↦ ap (λ (k : ℕ). get_or g0.kept k false) (sym place) ∙ u.1 b b_in
          ],
    )
  ]
    where
      Reached : Type 0
      Reached = ((n : ℕ) × ((n < cells_of g0.frame) × ((is_kept_at g0.kept n ≡ true) × (v ≡ square_to_place g0.frame.width x y n))))
          ⊎ ((v ≡ none) × ((n : ℕ) → n < cells_of g0.frame → is_kept_at g0.kept n ≡ false))

  pub least_square : IsLeastSquare g0 x y v
  least_square = record { bound = bound; reached = reached }

-- the clearance of each cell
pub two_passes : (g0 g1 g2 : Grid) → g0.frame.height ≤ 32768 → g1 ≡ record g0 { clearances = g1.clearances } → AreNearest g0 g1 → g2 ≡ record g1 { clearances = g2.clearances; scratch = g2.scratch } → AreLeastInRows g1 g2
    → (c : Cell) → InFrame g0.frame c → IsClearance (in_plane g0.frame g0.kept) c (number_in g0.frame 4294967295 g2.clearances c)
unfolding place_of
two_passes g0 g1 g2 few e columns d rows c c_in =
    let f = g0.frame in
    let x = column_of f c in
    let y = row_of f c in
    let width : g1.frame.width ≡ f.width = ap (λ (h : Grid). h.frame.width) e in
    let height : g1.frame.height ≡ f.height = ap (λ (h : Grid). h.frame.height) e in
    let widths : g2.frame.width ≡ f.width = ap (λ (h : Grid). h.frame.width) d ∙ width in
    let x_in = column_below f c c_in in
    let y_in = row_below f c c_in in
    field_is_clearance f g0.kept g2.clearances c c_in
    (subst (λ (w : ℕ). IsLeastSquare g0 x y (get_or g2.clearances (y * w + x) 0)) widths
    (least_square g0 g1 x y (number_at g2 x y) few e columns y_in (rows x y (omega arith) (omega arith))))

-- a frame has at most 32,768 rows
pub low_frame : (f f' : Frame) → f ≡ f' → IsFrame f → f'.height ≤ 32768
low_frame f f' e v = let h = v.high in let k : f.height ≡ f'.height = ap (λ (i : Frame). i.height) e in omega arith
