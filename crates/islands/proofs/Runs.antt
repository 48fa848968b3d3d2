-- The cells of a run point where the first of them points.
use Rattle.std.proofs.Common.{◌≡◌, ℕ, zero, suc, ℤ, pos, ◌+◌, ◌-◌, ◌*◌, ◌<◌, ◌≤◌, ◌+ℤ◌, ◌-ℤ◌, unsigned_abs, not, Bool, true, false, List, length, set, get_or, ◌⊎◌, inl, inr, refl, sym, ap, subst, ◌∙◌, arith, get_or-set_same}
use Rattle.std.proofs.lemmas.Bool.{false≢true}
use borrow.Author.Differences.{ints}
use mathlib.Core.Bool.{beq}
use Rattle.board_base.specs.declared.places.Cell.{Cell}
use Rattle.cell_grid.specs.declared.frames.Frame.{Frame}
use Rattle.cell_grid.specs.Spans.{set_span}
use Rattle.cell_grid.specs.Place.{InFrame, place_of, cells_of}
use Rattle.cell_grid.specs.Cells.{IsOnBorder}
use Rattle.cell_grid.proofs.CellsLaws.{in_frame_true}
use Rattle.cell_grid.proofs.SpanLaws.{span_len}
use Rattle.islands.specs.Taken.{is_taken}
use Rattle.islands.specs.Forests.{IsDone, IsJoined, IsHanging}
use Rattle.cell_sets.proofs.CellLaws.{cell}
use Rattle.islands.proofs.Numbers.{taken_inside}
use Rattle.islands.proofs.Borders.{border_edge}
use Rattle.islands.proofs.JoinLaws.{node_inside, points_inside}
use Rattle.islands.proofs.Joined.{beside_west}

-- the cell in a column and a row
abbrev pub at_xy : Frame → ℕ → ℕ → Cell
at_xy f x y = cell (f.i0 +ℤ pos x) (f.j0 +ℤ pos y)

pub xy_in : (f : Frame) (x y : ℕ) → x < f.width → y < f.height → InFrame f (at_xy f x y)
xy_in f x y l k = record { column = record { low = omega (arith, ints); high = omega (arith, ints, l) }; row = record { low = omega (arith, ints); high = omega (arith, ints, k) } }

pub xy_place : (f : Frame) (x y : ℕ) → place_of f (at_xy f x y) ≡ y * f.width + x
unfolding place_of
xy_place f x y =
    let c : unsigned_abs ((f.i0 +ℤ pos x) -ℤ f.i0) ≡ x = gone f.i0 x in
    let r : unsigned_abs ((f.j0 +ℤ pos y) -ℤ f.j0) ≡ y = gone f.j0 y in
    ap (λ (n : ℕ). n * f.width + unsigned_abs ((f.i0 +ℤ pos x) -ℤ f.i0)) r ∙ ap (λ (n : ℕ). y * f.width + n) c
  where
    gone : (a : ℤ) (n : ℕ) → unsigned_abs ((a +ℤ pos n) -ℤ a) ≡ n
    gone a n = omega (arith, ints)

pub beq_same : (a b : Bool) → a ≡ b → beq a b ≡ true
beq_same true b e = subst (λ (x : Bool). beq true x ≡ true) e refl
beq_same false b e = subst (λ (x : Bool). beq false x ≡ true) e refl

pub beq_true : (a b : Bool) → beq a b ≡ true → a ≡ b
beq_true true true e = refl
beq_true true false e = absurd (false≢true e)
beq_true false true e = absurd (false≢true e)
beq_true false false e = refl

pub beq_other : (a b : Bool) → a ≡ not b → beq a b ≡ false
beq_other a true e = subst (λ (x : Bool). beq x true ≡ false) (sym e) refl
beq_other a false e = subst (λ (x : Bool). beq x false ≡ false) (sym e) refl

pub not_not : (b : Bool) → not (not b) ≡ b
not_not true = refl
not_not false = refl

pub not_self : (b : Bool) → b ≡ not b → ⊥
not_self true e = false≢true (sym e)
not_self false e = false≢true e

module _ (f : Frame) (plane : List Bool) (on : Bool) (outer y : ℕ) (y_in : y < f.height) where
  -- whether the cell at a place of the row is taken
  pub taken_xy : (x y : ℕ) → x < f.width → y < f.height → is_taken on f plane (at_xy f x y) ≡ beq (get_or plane (y * f.width + x) false) on
  taken_xy x y l k =
      taken_inside on f plane (at_xy f x y) (in_frame_true f (at_xy f x y) (xy_in f x y l k)) ∙ ap (λ (n : ℕ). beq (get_or plane n false) on) (xy_place f x y)

  -- one more cell points where the one west of it points
  pub hangs : (works : List ℕ) (p : ℕ) → length works ≡ cells_of f → IsHanging f plane on y p → get_or plane p false ≡ on → get_or plane (p - 1) false ≡ on
      → IsJoined f (is_taken on f plane) outer works p → IsJoined f (is_taken on f plane) outer (set works p (get_or works (p - 1) 0)) (p + 1)
  hangs works p len h k kw j =
      let w = f.width in
      let x = p - y * w in
      let low = h.west in
      let east = h.east in
      let x_pos : 0 < x = omega (arith, low) in
      let x_in : x + 1 < w = omega (arith, low, east) in
      let p_is : y * w + x ≡ p = omega (arith, low) in
      let u_is : y * w + (x - 1) ≡ p - 1 = omega (arith, low) in
      let c = at_xy f x y in
      let u = at_xy f (x - 1) y in
      let s = at_xy f x (y - 1) in
      let c_in = xy_in f x y (omega (arith, x_in)) y_in in
      let u_in = xy_in f (x - 1) y (omega (arith, x_in)) y_in in
      let c_place : place_of f c ≡ p = xy_place f x y ∙ p_is in
      let u_place : place_of f u ≡ p - 1 = xy_place f (x - 1) y ∙ u_is in
      let taken_c : is_taken on f plane c ≡ true = taken_xy x y (omega (arith, x_in)) y_in ∙ ap (λ (n : ℕ). beq (get_or plane n false) on) p_is ∙ beq_same (get_or plane p false) on k in
      let taken_u : is_taken on f plane u ≡ true = taken_xy (x - 1) y (omega (arith, x_in)) y_in ∙ ap (λ (n : ℕ). beq (get_or plane n false) on) u_is ∙ beq_same (get_or plane (p - 1) false) on kw in
      let jc = subst (λ (n : ℕ). IsJoined f (is_taken on f plane) outer works n) (sym c_place) j in
      let ci = in_frame_true f c c_in in
      let ui = in_frame_true f u u_in in
      let free : get_or works (place_of f c) 0 ≡ 0 = sym (points_inside f outer works c ci) ∙ jc.clear c (λ d. let l = d.before in omega (arith, l, node_inside f c ci)) in
      let u_done : IsDone f (is_taken on f plane) (place_of f c) u = record { taken_there = taken_u; before = omega (arith, node_inside f u ui, u_place, c_place, low) } in
      let u_points = jc.some u u_done in
      let some : 0 < get_or works (place_of f u) 0 = omega (arith, u_points, points_inside f outer works u ui) in
      let south = h.south in
      let north = h.north in
      let within : IsOnBorder f c → ⊥ = λ b. inner x y f.width f.height x_pos x_in south north (border_edge f c x y refl refl b) in
      let r = beside_west f (is_taken on f plane) c ci outer works len u s ui (omega (arith, ints, x_pos)) refl refl (omega (arith, ints, south)) (omega (arith, u_place, c_place, low)) within
      (λ b d bi bj. corner x b x_in c_place p_is h d bi bj)
      taken_c free some jc in
      subst (λ (n : ℕ). IsJoined f (is_taken on f plane) outer (set works p (get_or works n 0)) (p + 1)) u_place
      (subst (λ (n : ℕ). IsJoined f (is_taken on f plane) outer (set works n (get_or works (place_of f u) 0)) (n + 1)) c_place r)
    where
      inner : (x y w h : ℕ) → 0 < x → x + 1 < w → 0 < y → y + 1 < h → (x ≡ 0) ⊎ (x + 1 ≡ w) ⊎ (y ≡ 0) ⊎ (y + 1 ≡ h) → ⊥
      inner x y w h a b c d e = elim e as (λ _. ⊥) [
        | inl e ↦ omega (arith, a, e)
        | inr e ↦ elim e as (λ _. ⊥) [
          | inl e ↦ omega (arith, b, e)
          | inr e ↦ elim e as (λ _. ⊥) [ inl e ↦ omega (arith, c, e) | inr e ↦ omega (arith, d, e) ]
        ]
      ]

      up_row : (y w : ℕ) → 0 < y → (y - 1) * w + w ≡ y * w
      up_row zero w l = absurd (omega (arith, l))
      up_row (suc n) w l =
          let e : suc n - 1 ≡ n = omega arith in
          ap (λ (k : ℕ). k * w + w) e ∙ omega arith

      -- where the cell south-east is done, the one south is
      corner : (x : ℕ) (b : Cell) → x + 1 < f.width → place_of f (at_xy f x y) ≡ p → y * f.width + x ≡ p → IsHanging f plane on y p → IsDone f (is_taken on f plane) (place_of f (at_xy f x y)) b
          → b.i ≡ (f.i0 +ℤ pos x) +ℤ pos 1 → b.j ≡ f.j0 +ℤ pos (y - 1) → IsDone f (is_taken on f plane) (place_of f (at_xy f x y)) (at_xy f x (y - 1))
      corner x b x_in c_place p_is h d bi bj =
          let south = h.south in
          let s = at_xy f x (y - 1) in
          let se = at_xy f (x + 1) (y - 1) in
          let q = (y - 1) * f.width + x in
          let y1 : y - 1 < f.height = omega (arith, y_in) in
          let s_in = xy_in f x (y - 1) (omega (arith, x_in)) y1 in
          let row = up_row y f.width south in
          let same : b ≡ se = ap (λ (i : ℤ). cell i b.j) (bi ∙ next f.i0 x) ∙ ap (λ (j : ℤ). cell (f.i0 +ℤ pos (x + 1)) j) bj in
          let east_on : get_or plane (q + 1) false ≡ on =
          ap (λ (n : ℕ). get_or plane n false) (shift ((y - 1) * f.width) x)
          ∙ beq_true (get_or plane ((y - 1) * f.width + (x + 1)) false) on (sym (taken_xy (x + 1) (y - 1) x_in y1) ∙ ap (is_taken on f plane) (sym same) ∙ d.taken_there) in
          let south_on = h.under q (omega (arith, row, p_is)) east_on in
          record {
            taken_there = taken_xy x (y - 1) (omega (arith, x_in)) y1 ∙ beq_same (get_or plane q false) on south_on;
            before = omega (arith, node_inside f s (in_frame_true f s s_in), xy_place f x (y - 1), c_place, row, p_is, x_in);
          }
        where
          next : (a : ℤ) (n : ℕ) → (a +ℤ pos n) +ℤ pos 1 ≡ a +ℤ pos (n + 1)
          next a n = omega (arith, ints)

          shift : (a b : ℕ) → a + b + 1 ≡ a + (b + 1)
          shift a b = omega arith

  -- as many cells point where the one before them points
  pub record IsHung (works : List ℕ) (m n v : ℕ) : Type 0 where
    pub joined : IsJoined f (is_taken on f plane) outer (set_span works (m + 1) n v) (m + 1 + n)
    pub last : get_or (set_span works (m + 1) n v) (m + n) 0 ≡ v

  pub hang_span : (works : List ℕ) (m n v : ℕ) → length works ≡ cells_of f → v ≡ get_or works m 0 → ((k : ℕ) → m ≤ k → k < m + 1 + n → get_or plane k false ≡ on)
      → ((k : ℕ) → m < k → k < m + 1 + n → IsHanging f plane on y k) → IsJoined f (is_taken on f plane) outer works (m + 1) → m + 1 + n ≤ cells_of f → IsHung works m n v
  hang_span works m zero v len e on_there hanging j fits = record {
    joined = subst (λ (k : ℕ). IsJoined f (is_taken on f plane) outer works k) (plain (m + 1)) j;
    last = ap (λ (k : ℕ). get_or works k 0) (sym (plain m)) ∙ sym e;
  }
    where
      plain : (k : ℕ) → k ≡ k + 0
      plain k = omega arith
  hang_span works m (suc n) v len e on_there hanging j fits =
      let q = hang_span works m n v len e (λ k l h. on_there k l (omega (arith, h))) (λ k l h. hanging k l (omega (arith, h))) j (omega (arith, fits)) in
      let xs = set_span works (m + 1) n v in
      let p = m + 1 + n in
      let len_xs : length xs ≡ cells_of f = span_len works (m + 1) n v ∙ len in
      let back : p - 1 ≡ m + n = omega arith in
      let t = hangs xs p len_xs (hanging p (omega arith) (omega arith)) (on_there p (omega arith) (omega arith)) (on_there (p - 1) (omega arith) (omega arith)) q.joined in
      let value : get_or xs (p - 1) 0 ≡ v = ap (λ (k : ℕ). get_or xs k 0) back ∙ q.last in
      record {
        joined = subst (λ (k : ℕ). IsJoined f (is_taken on f plane) outer (set xs p v) k) (one_more (m + 1) n) (subst (λ (u : ℕ). IsJoined f (is_taken on f plane) outer (set xs p u) (p + 1)) value t);
        last = ap (λ (k : ℕ). get_or (set xs p v) k 0) (turn m n) ∙ get_or-set_same xs p v 0 (omega (arith, len_xs, fits));
      }
    where
      one_more : (a b : ℕ) → a + b + 1 ≡ a + suc b
      one_more a b = omega arith

      turn : (a b : ℕ) → a + suc b ≡ a + 1 + b
      turn a b = omega arith
