-- Objects painted over the cells of a frame.
use Rattle.std.proofs.Common.{◌≡◌, ◌⊎◌, inl, inr, ℕ, ◌<◌, ◌≤◌, ◌+◌, ◌-◌, ◌*◌, ℤ, pos, ◌+ℤ◌, ◌-ℤ◌, ◌*ℤ◌, ◌≤ℤ◌, ◌<ℤ◌, Bool, true, false, cond, not, ◌&&◌, ◌||◌, ◌↔◌, List, length, get_or, take, set, Option, Some, None, refl, sym, ap, subst, ◌∙◌, arith, get_or-set_other, get_or-set_same}
use Rattle.std.proofs.lemmas.List.{length-set}
use Rattle.std.proofs.lemmas.Bool.{cases_eq, false≢true}
use Rattle.std.proofs.lemmas.Int.{by_lt_z}
use borrow.Author.Differences.{ints}
use Rattle.number_laws.proofs.Tests.{by_bool}
use Rattle.number_laws.proofs.Order.{square_nonneg}
use Rattle.board_base.specs.declared.places.Cell.{Cell}
use Rattle.board_base.specs.declared.places.Point.{Point}
use Rattle.board_base.specs.declared.places.Bounds.{Bounds}
use Rattle.board_base.specs.declared.places.CellBox.{CellBox}
use Rattle.board_base.specs.Lattice.{IsInBox, centre_of, half_diagonal_of}
use Rattle.board_base.proofs.LatticeLaws.{diagonal_nonneg}
use Rattle.cell_grid.specs.declared.frames.Frame.{Frame}
use Rattle.cell_grid.specs.Grid.{Grid, IsSized}
use Rattle.cell_grid.specs.Place.{IsFrame, InFrame, place_of, column_of, row_of, cells_of}
use Rattle.cell_grid.specs.Cells.{in_plane}
use Rattle.cell_grid.specs.Boxes.{HoldsCentres}
use Rattle.cell_grid.proofs.PlaceLaws.{place_below, place_same, column_below}
use Rattle.cell_grid.proofs.CellsLaws.{in_frame_true}
use Rattle.shape_parts.specs.declared.shape.Piece.{Piece}
use Rattle.shape_parts.specs.declared.shape.Painted.{Painted}
use Rattle.shape_parts.specs.Shapes.{shape_touches, shape_covers}
use Rattle.shape_parts.specs.BoxLaw.{Has, HasSquare}
use Rattle.shape_parts.specs.Boxes.{shape_box}
use Rattle.shape_parts.proofs.BoxLaws.{box_law_holds}
use Rattle.shape_parts.proofs.Standing.{stands_step}
use Rattle.shape_parts.specs.declared.shape.Part.{Part}
use Rattle.shape_parts.specs.Parts.{part_touches, part_covers}
use Rattle.shape_parts.proofs.PartLaws.{IsReach, part_touched, part_covered}
use Rattle.shape_parts.proofs.CoverLaws.{shape_touched, shape_covered}
use Rattle.cell_grid.specs.declared.windows.Window.{Window}
use Rattle.copper_cover.specs.Kept.{kept_after, keeps_after, keeps}
use Rattle.cell_grid.specs.Windows.{IsInWindow, IsWindowOf}

-- ---- a covered cell is touched

-- a point is in reach of itself
in_reach : (c : Point) (h : ℤ) → pos 0 ≤ℤ h → IsReach c c (pos 0) h
in_reach c h h_in = record {
  square = record { west = low c.x; east = high c.x; south = low c.y; north = high c.y };
  wide = wide h;
  h_in = h_in;
}
  where
    low : (x : ℤ) → (x -ℤ pos 0) ≤ℤ x
    low x = omega (arith, ints)

    high : (x : ℤ) → x ≤ℤ (x +ℤ pos 0)
    high x = omega (arith, ints)

    wide : (h : ℤ) → pos 0 ≤ℤ (h *ℤ h)
    wide h = square_nonneg h

-- what a part covers it touches
pub covered_part_touched : (c : Point) (h : ℤ) (part : Part) → pos 0 ≤ℤ h → part_covers c h part ≡ true → part_touches c h part ≡ true
covered_part_touched c h part h_in e =
    let r = in_reach c h h_in in
    part_touched c c (pos 0) h part r (part_covered c c (pos 0) h part r e)

-- what a shape covers it touches
pub covered_touched : (c : Point) (h : ℤ) (pieces : List Piece) → pos 0 ≤ℤ h → shape_covers c h pieces ≡ true → shape_touches c h pieces ≡ true
covered_touched c h pieces h_in e =
    let r = in_reach c h h_in in
    shape_touched c c (pos 0) h r pieces (shape_covered c c (pos 0) h r pieces e)

-- an object changes no cell that it doesn't touch
pub untouched : (c : Point) (h : ℤ) (o : Painted) → pos 0 ≤ℤ h → shape_touches c h o.shape ≡ false → (b : Bool) → kept_after c h b o ≡ b
untouched c h o h_in e b =
    let k : shape_covers c h o.shape ≡ false =
    by_bool (shape_covers c h o.shape) (λ t. absurd (false≢true (sym e ∙ covered_touched c h o.shape h_in t))) (λ f. f) in
    ap (λ (t : Bool). (o.dark && t) || (b && not (not o.dark && shape_covers c h o.shape))) e ∙ ap (λ (t : Bool). (o.dark && false) || (b && not (not o.dark && t))) k ∙ same o.dark b
  where
    same : (d b : Bool) → ((d && false) || (b && not (not d && false))) ≡ b
    same true true = refl
    same true false = refl
    same false true = refl
    same false false = refl

-- ---- cells of the frame

pub in_plane_in : (f : Frame) (plane : List Bool) (c : Cell) → InFrame f c → in_plane f plane c ≡ get_or plane (place_of f c) false
in_plane_in f plane c h = ap (λ (b : Bool). cond b (get_or plane (place_of f c) false) false) (in_frame_true f c h)

-- one of two numbers is below the other, or not
by_lt : {P : Type 0} (a b : ℕ) → (a < b → P) → (b ≤ a → P) → P
by_lt a b f g = by_lt_z (pos a) (pos b) (λ (l : pos a <ℤ pos b). f (omega (arith, ints))) (λ (l : pos b ≤ℤ pos a). g (omega (arith, ints)))

later_row : (a b w : ℕ) → a < b → a * w + w ≤ b * w
later_row a b w l = subst (λ (n : ℕ). a * w + w ≤ n * w) (sym split) (by a (b - (a + 1)) w)
  where
    split : b ≡ (a + 1) + (b - (a + 1))
    split = omega arith

    by : (a d w : ℕ) → a * w + w ≤ ((a + 1) + d) * w
    by a d w = omega arith

-- a cell whose place is in the row y or after it is in that row or a later one, and so on
pub row_from : (f : Frame) (c : Cell) (y : ℕ) → InFrame f c → y * f.width ≤ place_of f c → y ≤ row_of f c
unfolding place_of
row_from f c y h l =
    by_lt (row_of f c) y (λ (k : row_of f c < y). absurd (clash (row_of f c * f.width) (y * f.width) (column_of f c) f.width (later_row (row_of f c) y f.width k) (column_below f c h) l)) (λ (k : y ≤ row_of f c). k)
  where
    clash : (a b x w : ℕ) → a + w ≤ b → x < w → b ≤ a + x → ⊥
    clash a b x w h k l = omega arith

pub row_before : (f : Frame) (c : Cell) (y : ℕ) → InFrame f c → place_of f c < y * f.width → row_of f c < y
unfolding place_of
row_before f c y h l =
    by_lt (row_of f c) y (λ (k : row_of f c < y). k)
    (λ (k : y ≤ row_of f c). elim (cases_eq y (row_of f c)) as (λ _. row_of f c < y) [
      | inl e ↦ absurd (level (y * f.width) (row_of f c * f.width) (column_of f c) (ap (λ (n : ℕ). n * f.width) e) l)
      | inr n ↦ absurd (clash (y * f.width) (row_of f c * f.width) (column_of f c) f.width (later_row y (row_of f c) f.width (omega arith)) l)
    ])
  where
    level : (a b x : ℕ) → a ≡ b → b + x < a → ⊥
    level a b x e l = omega arith

    clash : (a b x w : ℕ) → a + w ≤ b → b + x < a → ⊥
    clash a b x w h l = omega arith

-- the column of a cell of the row y
pub column_at : (f : Frame) (c : Cell) (y : ℕ) → row_of f c ≡ y → place_of f c ≡ y * f.width + column_of f c
unfolding place_of
column_at f c y e = ap (λ (n : ℕ). n * f.width + column_of f c) e

-- the rows up to the last are all cells
pub all_rows : (f : Frame) (y : ℕ) → f.height ≤ y → cells_of f ≤ y * f.width
all_rows f y l = subst (λ (n : ℕ). cells_of f ≤ n * f.width) (sym split) (by f.width f.height (y - f.height))
  where
    split : y ≡ f.height + (y - f.height)
    split = omega arith

    by : (w h d : ℕ) → w * h ≤ (h + d) * w
    by w h d = omega arith

-- ---- the cells before one are painted

-- `after` says what becomes of a cell that was kept or not
pub record IsPainted (start : Grid) (frame : Frame) (after : Bool → Cell → Bool) (g : Grid) (n : ℕ) : Type 0 where
  pub rest : g ≡ record start { kept = g.kept }
  pub same_frame : frame ≡ start.frame
  pub valid : IsFrame frame
  pub len : length g.kept ≡ cells_of frame
  pub done : (c : Cell) → InFrame frame c → place_of frame c < n → get_or g.kept (place_of frame c) false ≡ after (get_or start.kept (place_of frame c) false) c
  pub later : (k : ℕ) → n ≤ k → get_or g.kept k false ≡ get_or start.kept k false

pub none_painted : (start : Grid) (frame : Frame) (after : Bool → Cell → Bool) → frame ≡ start.frame → IsFrame frame → IsSized start → IsPainted start frame after start 0
none_painted start frame after e v s = record {
  rest = refl;
  same_frame = e;
  valid = v;
  len = s.kept ∙ ap cells_of (sym e);
  done = λ c h l. absurd (omega arith);
  later = λ k h. refl;
}

before_next : (f : Frame) (c d : Cell) (n : ℕ) → InFrame f c → InFrame f d → place_of f d ≡ n → place_of f c < n + 1 → (place_of f c < n) ⊎ (c ≡ d)
before_next f c d n h k e l =
    elim (cases_eq (place_of f c) n) as (λ _. (place_of f c < n) ⊎ (c ≡ d)) [ inl same ↦ inr (place_same f c d h k (same ∙ sym e)) | inr other ↦ inl (omega arith) ]

pub one_painted : (start g g' : Grid) (frame : Frame) (after : Bool → Cell → Bool) (n n' : ℕ) (d : Cell) (on : Bool) → IsPainted start frame after g n → InFrame frame d → place_of frame d ≡ n → n' ≡ n + 1
    → on ≡ after (get_or start.kept n false) d → g' ≡ record g { kept = set g.kept n on } → IsPainted start frame after g' n'
one_painted start g g' frame after n n' d on p d_in d_at next on_is written =
    subst (λ (m : ℕ). IsPainted start frame after g' m) (sym next)
    (subst (λ (h : Grid). IsPainted start frame after h (n + 1)) (sym written) (record {
      rest = ap (λ (h : Grid). record h { kept = set g.kept n on }) p.rest;
      same_frame = p.same_frame;
      valid = p.valid;
      len = simp length-set p.len;
      done = λ c h l.
          elim (before_next frame c d n h d_in d_at l) as (λ _. get_or (set g.kept n on) (place_of frame c) false ≡ after (get_or start.kept (place_of frame c) false) c) [
            | inl less ↦ get_or-set_other g.kept n (place_of frame c) on false (omega arith) ∙ p.done c h less
            | inr same ↦ subst (λ (x : Cell). get_or (set g.kept n on) (place_of frame x) false ≡ after (get_or start.kept (place_of frame x) false) x) (sym same)
                (subst (λ (x : ℕ). get_or (set g.kept n on) x false ≡ after (get_or start.kept x false) d) (sym d_at) (get_or-set_same g.kept n on false n_in ∙ on_is))
          ];
      later = λ k h. get_or-set_other g.kept n k on false (omega arith) ∙ p.later k (omega arith);
    }))
  where
    n_in : n < length g.kept
    n_in = omega (arith, p.len, place_below frame d d_in, d_at)

-- cells that stay as they are
pub skipped : (start g : Grid) (frame : Frame) (after : Bool → Cell → Bool) (n n' : ℕ) → IsPainted start frame after g n → n ≤ n'
    → ((c : Cell) → InFrame frame c → n ≤ place_of frame c → place_of frame c < n' → (b : Bool) → after b c ≡ b) → IsPainted start frame after g n'
skipped start g frame after n n' p le same = record {
  rest = p.rest;
  same_frame = p.same_frame;
  valid = p.valid;
  len = p.len;
  done = λ c h l.
      by_lt (place_of frame c) n (λ (k : place_of frame c < n). p.done c h k)
      (λ (k : n ≤ place_of frame c). p.later (place_of frame c) k ∙ sym (same c h k l (get_or start.kept (place_of frame c) false)));
  later = λ k h. p.later k (omega arith);
}

pub all_painted : (start g : Grid) (frame : Frame) (after : Bool → Cell → Bool) (n : ℕ) → IsPainted start frame after g n → cells_of frame ≤ n
    → (c : Cell) → InFrame start.frame c → in_plane start.frame g.kept c ≡ after (in_plane start.frame start.kept c) c
all_painted start g frame after n p e c i =
    let h : InFrame frame c = subst (λ (f : Frame). InFrame f c) (sym p.same_frame) i in
    in_plane_in start.frame g.kept c i ∙ ap (λ (f : Frame). get_or g.kept (place_of f c) false) (sym p.same_frame) ∙ p.done c h (omega (arith, e, place_below frame c h))
    ∙ ap (λ (f : Frame). after (get_or start.kept (place_of f c) false) c) p.same_frame ∙ ap (λ (b : Bool). after b c) (sym (in_plane_in start.frame start.kept c i))

pub its_frame : (start : Grid) (frame : Frame) (after : Bool → Cell → Bool) (g : Grid) (n : ℕ) → IsPainted start frame after g n → g.frame ≡ frame
its_frame start frame after g n p = ap (λ (h : Grid). h.frame) p.rest ∙ sym p.same_frame

-- ---- a window

module _ (start g : Grid) (frame : Frame) (after : Bool → Cell → Bool) (w : Window) (inside : IsWindowOf frame w)
    (out : (c : Cell) → InFrame frame c → (IsInWindow frame w c → ⊥) → (b : Bool) → after b c ≡ b) where
  -- the rows south of it
  pub rows_before : IsPainted start frame after g 0 → IsPainted start frame after g (w.rows.from * frame.width)
  rows_before p = skipped start g frame after 0 (w.rows.from * frame.width) p (omega arith) (λ c h k l. out c h (λ i. south (row_before frame c w.rows.from h l) i.row.from))
    where
      south : {a b : ℕ} → a < b → b ≤ a → ⊥
      south l k = omega arith

  -- the columns west of it
  pub columns_before : (y n : ℕ) → n ≡ y * frame.width → IsPainted start frame after g n → IsPainted start frame after g (n + w.columns.from)
  columns_before y n e p =
      skipped start g frame after n (n + w.columns.from) p (omega arith)
      (λ c h k l. out c h (λ i. west (place_of frame c) (y * frame.width) (column_of frame c) w.columns.from n e (column_at frame c y (in_row c h k l)) l i.column.from))
    where
      west : (p a x from n : ℕ) → n ≡ a → p ≡ a + x → p < n + from → from ≤ x → ⊥
      west p a x from n e f l k = omega arith

      in_row : (c : Cell) → InFrame frame c → n ≤ place_of frame c → place_of frame c < n + w.columns.from → row_of frame c ≡ y
      in_row c h k l = level (row_from frame c y h (low k)) (row_before frame c (y + 1) h (high (y * frame.width) ((y + 1) * frame.width) frame.width l (step y frame.width)))
        where
          low : n ≤ place_of frame c → y * frame.width ≤ place_of frame c
          low k = omega arith

          step : (y w : ℕ) → (y + 1) * w ≡ y * w + w
          step y w = omega arith

          high : (a b v : ℕ) → place_of frame c < n + w.columns.from → b ≡ a + v → place_of frame c < (y + 1) * frame.width
          high a b v l s = omega (arith, l, e, inside.west, step y frame.width)

          level : {a b : ℕ} → b ≤ a → a < b + 1 → a ≡ b
          level l k = omega arith

  -- the columns east of it
  pub columns_after : (x y n n' : ℕ) → n ≡ y * frame.width + x → n' ≡ (y + 1) * frame.width → w.columns.to ≤ x → n ≤ n' → IsPainted start frame after g n → IsPainted start frame after g n'
  columns_after x y n n' e f t le p =
      skipped start g frame after n n' p le (λ c h k l. out c h (λ i. east (place_of frame c) (y * frame.width) (column_of frame c) w.columns.to x n e (column_at frame c y (in_row c h k l)) k t i.column.to))
    where
      east : (p a x to m n : ℕ) → n ≡ a + m → p ≡ a + x → n ≤ p → to ≤ m → x < to → ⊥
      east p a x to m n e f l t k = omega arith

      in_row : (c : Cell) → InFrame frame c → n ≤ place_of frame c → place_of frame c < n' → row_of frame c ≡ y
      in_row c h k l = level (row_from frame c y h (low k)) (row_before frame c (y + 1) h (subst (λ (m : ℕ). place_of frame c < m) f l))
        where
          low : n ≤ place_of frame c → y * frame.width ≤ place_of frame c
          low k = omega arith

          level : {a b : ℕ} → b ≤ a → a < b + 1 → a ≡ b
          level l k = omega arith

  -- the rows north of it
  pub rows_after : (y n n' : ℕ) → n ≡ y * frame.width → w.rows.to ≤ y → n ≤ n' → IsPainted start frame after g n → IsPainted start frame after g n'
  rows_after y n n' e t le p =
      skipped start g frame after n n' p le (λ c h k l. out c h (λ i. north (row_from frame c y h (subst (λ (m : ℕ). m ≤ place_of frame c) e k)) t i.row.to))
    where
      north : {a b r : ℕ} → b ≤ r → a ≤ b → r < a → ⊥
      north l t k = omega arith

-- a column of a row stands no later than the next row
pub in_next : (y x w : ℕ) → x ≤ w → y * w + x ≤ (y + 1) * w
in_next y x w l = omega arith

-- ---- a window by the rectangle that it goes round

-- a box of cells by the rectangle that holds their centres
box_square : (p h : ℤ) (b : Bounds) (box : CellBox) (c : Cell) → HoldsCentres p h b box → IsInBox box c ↔ HasSquare b (centre_of p c) (pos 0 -ℤ h)
box_square p h b box c holds = (
  λ i. record {
    west = low b.x0 h _ ((holds.west.all c.i).0 i.west);
    east = high b.x1 h _ ((holds.east.all c.i).0 i.east);
    south = low b.y0 h _ ((holds.south.all c.j).0 i.south);
    north = high b.y1 h _ ((holds.north.all c.j).0 i.north);
  },
  λ s. record {
    west = (holds.west.all c.i).1 (low' b.x0 h _ s.west);
    east = (holds.east.all c.i).1 (high' b.x1 h _ s.east);
    south = (holds.south.all c.j).1 (low' b.y0 h _ s.south);
    north = (holds.north.all c.j).1 (high' b.y1 h _ s.north);
  },
)
  where
    low : (a h m : ℤ) → (a -ℤ h) ≤ℤ m → (a +ℤ (pos 0 -ℤ h)) ≤ℤ m
    low a h m l = omega (arith, ints)

    high : (a h m : ℤ) → m ≤ℤ (a +ℤ h) → (m +ℤ (pos 0 -ℤ h)) ≤ℤ a
    high a h m l = omega (arith, ints)

    low' : (a h m : ℤ) → (a +ℤ (pos 0 -ℤ h)) ≤ℤ m → (a -ℤ h) ≤ℤ m
    low' a h m l = omega (arith, ints)

    high' : (a h m : ℤ) → (m +ℤ (pos 0 -ℤ h)) ≤ℤ a → m ≤ℤ (a +ℤ h)
    high' a h m l = omega (arith, ints)

-- the window of a rectangle
pub in_window : (f : Frame) (h : ℤ) (b : Bounds) (box : CellBox) (w : Window) (c : Cell) → HoldsCentres f.pitch h b box → IsInWindow f w c ↔ IsInBox box c
    → IsInWindow f w c ↔ HasSquare b (centre_of f.pitch c) (pos 0 -ℤ h)
in_window f h b box w c holds e = let k = box_square f.pitch h b box c holds in (λ i. k.0 (e.0 i), λ s. e.1 (k.1 s))

-- ---- one object

-- an object changes no cell outside the window of the cells that it may touch
pub outside : (f frame : Frame) (w : Window) (o : Painted) → frame ≡ f
    → ((c : Cell) → InFrame f c → shape_touches (centre_of f.pitch c) (half_diagonal_of f.pitch) o.shape ≡ true → IsInWindow f w c)
    → (c : Cell) → InFrame frame c → (IsInWindow frame w c → ⊥) → (b : Bool) → keeps_after f.pitch b o c ≡ b
unfolding keeps_after
outside f frame w o e round c i out b =
    untouched (centre_of f.pitch c) (half_diagonal_of f.pitch) o (diagonal_nonneg f.pitch)
    (by_bool (shape_touches (centre_of f.pitch c) (half_diagonal_of f.pitch) o.shape)
    (λ t. absurd (out (subst (λ (z : Frame). IsInWindow z w c) (sym e) (round c (subst (λ (z : Frame). InFrame z c) e i) t)))) (λ n. n)) b

-- what is written at a cell
pub painted_as : (start g : Grid) (frame : Frame) (after : Bool → Cell → Bool) (n : ℕ) (d : Cell) (o : Painted) (pitch h : ℤ) (q : Point) (was on : Bool) → IsPainted start frame after g n
    → place_of g.frame d ≡ n → was ≡ get_or g.kept (place_of g.frame d) false → q ≡ centre_of pitch d → h ≡ half_diagonal_of pitch → on ≡ kept_after q h was o
    → on ≡ keeps_after pitch (get_or start.kept n false) o d
unfolding keeps_after
painted_as start g frame after n d o pitch h q was on p spot read centre half e =
    e ∙ ap (λ (x : Point). kept_after x h was o) centre ∙ ap (λ (x : ℤ). kept_after (centre_of pitch d) x was o) half
    ∙ ap (λ (b : Bool). kept_after (centre_of pitch d) (half_diagonal_of pitch) b o) (read ∙ ap (λ (k : ℕ). get_or g.kept k false) spot ∙ p.later n (omega arith))

-- the window of the rectangle round an object
pub round_is : (f g : Frame) (b : Bounds) (h : ℤ) (w : Window) (o : Painted) → f ≡ g → h ≡ half_diagonal_of g.pitch → shape_box o.shape ≡ Some b
    → ((c : Cell) → InFrame f c → IsInWindow f w c ↔ HasSquare b (centre_of f.pitch c) (pos 0 -ℤ h))
    → (c : Cell) → InFrame g c → shape_touches (centre_of g.pitch c) (half_diagonal_of g.pitch) o.shape ≡ true → IsInWindow g w c
round_is f g b h w o e k s holds c i t =
    let there : Has (shape_box o.shape) (centre_of g.pitch c) (pos 0 -ℤ half_diagonal_of g.pitch) = box_law_holds (centre_of g.pitch c) (half_diagonal_of g.pitch) o.shape (diagonal_nonneg g.pitch) t in
    let square : Has (Some b) (centre_of g.pitch c) (pos 0 -ℤ half_diagonal_of g.pitch) = subst (λ (r : Option Bounds). Has r (centre_of g.pitch c) (pos 0 -ℤ half_diagonal_of g.pitch)) s there in
    let same : HasSquare b (centre_of g.pitch c) (pos 0 -ℤ h) = subst (λ (z : ℤ). HasSquare b (centre_of g.pitch c) (pos 0 -ℤ z)) (sym k) square in
    subst (λ (z : Frame). IsInWindow z w c) e ((holds c (subst (λ (z : Frame). InFrame z c) (sym e) i)).1 (subst (λ (z : Frame). HasSquare b (centre_of z.pitch c) (pos 0 -ℤ h)) (sym e) same))

-- an object without a rectangle changes nothing
pub none_is : (pitch : ℤ) (o : Painted) (c : Cell) (b : Bool) → shape_box o.shape ≡ None → b ≡ keeps_after pitch b o c
unfolding keeps_after
none_is pitch o c b e =
    sym (untouched (centre_of pitch c) (half_diagonal_of pitch) o (diagonal_nonneg pitch)
    (by_bool (shape_touches (centre_of pitch c) (half_diagonal_of pitch) o.shape)
    (λ t. absurd (subst (λ (r : Option Bounds). Has r (centre_of pitch c) (pos 0 -ℤ half_diagonal_of pitch)) e (box_law_holds (centre_of pitch c) (half_diagonal_of pitch) o.shape (diagonal_nonneg pitch) t))) (λ n. n)) b)

-- ---- all objects

-- the objects so far are painted over the frame
pub record IsCovered (start g : Grid) (painted : List Painted) : Type 0 where
  pub rest : g ≡ record start { kept = g.kept }
  pub kept : (c : Cell) → InFrame start.frame c → in_plane start.frame g.kept c ≡ keeps start.frame.pitch painted c

pub none_covered : (start g : Grid) (painted : List Painted) → g ≡ record start { kept = g.kept } → ((c : Cell) → InFrame start.frame c → in_plane start.frame g.kept c ≡ false) → IsCovered start g (take 0 painted)
unfolding keeps
none_covered start g painted rest clear = record { rest = rest; kept = λ c i. clear c i }

pub covered_frame : (start g : Grid) (painted : List Painted) → IsCovered start g painted → g.frame ≡ start.frame
covered_frame start g painted p = ap (λ (h : Grid). h.frame) p.rest

pub covered_more : (start g g' : Grid) (xs : List Painted) (k : ℕ) (o : Painted) → IsCovered start g (take k xs) → k < length xs → o ≡ get_or xs k o → g' ≡ record g { kept = g'.kept }
    → ((c : Cell) → InFrame g.frame c → in_plane g.frame g'.kept c ≡ keeps_after g.frame.pitch (in_plane g.frame g.kept c) o c) → IsCovered start g' (take (k + 1) xs)
unfolding keeps keeps_after
covered_more start g g' xs k o p l e rest painted = record {
  rest = rest ∙ ap (λ (h : Grid). record h { kept = g'.kept }) p.rest;
  kept = λ c i.
      let f = start.frame in
      let q = centre_of f.pitch c in
      let h = half_diagonal_of f.pitch in
      stands_step (λ x. x.dark && shape_touches q h x.shape) (λ x. not x.dark && shape_covers q h x.shape) xs k o (in_plane f g.kept c) (in_plane f g'.kept c) l e (p.kept c i)
      (subst (λ (z : Frame). in_plane z g'.kept c ≡ kept_after (centre_of z.pitch c) (half_diagonal_of z.pitch) (in_plane z g.kept c) o) (covered_frame start g (take k xs) p)
      (painted c (subst (λ (z : Frame). InFrame z c) (sym (covered_frame start g (take k xs) p)) i)));
}
