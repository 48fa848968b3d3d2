-- The cells near a segment are marked, row by row.
use Rattle.std.proofs.Common.{◌≡◌, ◌⊎◌, inl, inr, ℕ, ◌<◌, ◌≤◌, ◌+◌, ◌*◌, ℤ, pos, ◌+ℤ◌, ◌-ℤ◌, unsigned_abs, Bool, true, false, ◌||◌, List, length, get_or, set, refl, sym, ap, subst, ◌∙◌, arith, get_or-set_other, get_or-set_same}
use Rattle.std.proofs.lemmas.List.{length-set}
use Rattle.std.proofs.lemmas.Bool.{cases_eq, false≢true}
use borrow.Author.Differences.{ints}
use Rattle.number_laws.proofs.Tests.{cond_true}
use Rattle.board_base.specs.declared.places.Point.{Point}
use Rattle.board_base.specs.declared.places.Cell.{Cell}
use Rattle.board_base.specs.Lattice.{centre_of}
use Rattle.board_base.specs.Near.{near_of}
use Rattle.cell_grid.specs.declared.frames.Frame.{Frame}
use Rattle.cell_grid.specs.Place.{IsFrame, InFrame, place_of, row_of, column_of, cells_of}
use Rattle.cell_grid.specs.Grid.{Grid, IsSized}
use Rattle.cell_grid.specs.Cells.{in_plane, in_frame}
use Rattle.cell_grid.specs.declared.windows.Window.{Window}
use Rattle.cell_grid.specs.Windows.{IsInWindow}
use Rattle.cell_grid.proofs.PlaceLaws.{place_below, place_same}
use Rattle.cell_grid.proofs.CellsLaws.{in_frame_true}

-- the cell stands before column x of row y, in the order of rows
abbrev pub IsPassed : Frame → ℕ → ℕ → Cell → Type 0
IsPassed f y x c = (row_of f c < y) ⊎ ((row_of f c ≡ y) × (column_of f c < x))

-- the cells before column x of row y are marked where they are near; no other is, but those that were
pub record IsMarking (start g : Grid) (frame : Frame) (a b : Point) (d : ℤ) (y x : ℕ) : Type 0 where
  pub rest : g ≡ record start { swept = g.swept }
  pub same_frame : frame ≡ start.frame
  pub valid : IsFrame frame
  pub len : length g.swept ≡ cells_of frame
  pub sound : (c : Cell) → InFrame frame c → get_or g.swept (place_of frame c) false ≡ true
      → (get_or start.swept (place_of frame c) false ≡ true) ⊎ (near_of (centre_of frame.pitch c) a b d ≡ true)
  pub stays : (c : Cell) → InFrame frame c → get_or start.swept (place_of frame c) false ≡ true → get_or g.swept (place_of frame c) false ≡ true
  pub done : (c : Cell) → InFrame frame c → IsPassed frame y x c → near_of (centre_of frame.pitch c) a b d ≡ true → get_or g.swept (place_of frame c) false ≡ true

-- before the first row nothing is passed, and the cells of earlier rows lie outside the box
pub marking_begun : (start : Grid) (frame : Frame) (a b : Point) (d : ℤ) (y x : ℕ) → frame ≡ start.frame → IsFrame frame → IsSized start
    → ((c : Cell) → InFrame frame c → IsPassed frame y x c → near_of (centre_of frame.pitch c) a b d ≡ true → ⊥) → IsMarking start start frame a b d y x
marking_begun start frame a b d y x e v s none = record {
  rest = refl;
  same_frame = e;
  valid = v;
  len = s.swept ∙ ap cells_of (sym e);
  sound = λ c h on. inl on;
  stays = λ c h on. on;
  done = λ c h p k. absurd (none c h p k);
}

-- cells that aren't near may be passed over
pub marking_on : (start g : Grid) (frame : Frame) (a b : Point) (d : ℤ) (y x y' x' : ℕ) → IsMarking start g frame a b d y x
    → ((c : Cell) → InFrame frame c → IsPassed frame y' x' c → near_of (centre_of frame.pitch c) a b d ≡ true → IsPassed frame y x c) → IsMarking start g frame a b d y' x'
marking_on start g frame a b d y x y' x' p back = record {
  rest = p.rest;
  same_frame = p.same_frame;
  valid = p.valid;
  len = p.len;
  sound = p.sound;
  stays = p.stays;
  done = λ c h q k. p.done c h (back c h q k) k;
}

-- a cell is its column and its row
one_cell : (f : Frame) (c e : Cell) → InFrame f c → InFrame f e → row_of f c ≡ row_of f e → column_of f c ≡ column_of f e → c ≡ e
unfolding place_of
one_cell f c e h k r s = place_same f c e h k (ap (λ (n : ℕ). n * f.width + column_of f c) r ∙ ap (λ (n : ℕ). row_of f e * f.width + n) s)

-- what is passed one column on is the cell there or was passed
next_passed : (f : Frame) (c e : Cell) (y x : ℕ) → InFrame f c → InFrame f e → e.i ≡ f.i0 +ℤ pos x → e.j ≡ f.j0 +ℤ pos y → IsPassed f y (x + 1) c → (c ≡ e) ⊎ IsPassed f y x c
next_passed f c e y x h k i j p =
    elim p as (λ _. (c ≡ e) ⊎ IsPassed f y x c) [
      | inl less ↦ inr (inl less)
      | inr level ↦ elim (cases_eq (column_of f c) x) as (λ _. (c ≡ e) ⊎ IsPassed f y x c) [
        | inl same ↦ inl (one_cell f c e h k (level.0 ∙ sym (off e.j f.j0 y j)) (same ∙ sym (off e.i f.i0 x i)))
        | inr other ↦ inr (inr (level.0, omega (arith, level.1, other)))
      ]
    ]
  where
    off : (v from : ℤ) (n : ℕ) → v ≡ from +ℤ pos n → unsigned_abs (v -ℤ from) ≡ n
    off v from n e = omega (arith, ints)

-- the cell there isn't near
pub marking_off : (start g h : Grid) (frame : Frame) (a b : Point) (d : ℤ) (y x : ℕ) (e : Cell) → IsMarking start g frame a b d y x → InFrame frame e → e.i ≡ frame.i0 +ℤ pos x
    → e.j ≡ frame.j0 +ℤ pos y → near_of (centre_of frame.pitch e) a b d ≡ false → h ≡ g → IsMarking start h frame a b d y (x + 1)
marking_off start g h frame a b d y x e p k i j off same_grid =
    subst (λ (v : Grid). IsMarking start v frame a b d y (x + 1)) (sym same_grid)
    (marking_on start g frame a b d y x y (x + 1) p
    (λ c in_c q near. elim (next_passed frame c e y x in_c k i j q) as (λ _. IsPassed frame y x c) [
      | inl same ↦ absurd (false≢true (sym off ∙ ap (λ (v : Cell). near_of (centre_of frame.pitch v) a b d) (sym same) ∙ near))
      | inr was ↦ was
    ]))

-- the cell there is near, and is marked
pub marking_set : (start g h : Grid) (frame : Frame) (a b : Point) (d : ℤ) (y x : ℕ) (e : Cell) → IsMarking start g frame a b d y x → InFrame frame e → e.i ≡ frame.i0 +ℤ pos x
    → e.j ≡ frame.j0 +ℤ pos y → near_of (centre_of frame.pitch e) a b d ≡ true → h ≡ record g { swept = set g.swept (place_of g.frame e) true } → IsMarking start h frame a b d y (x + 1)
marking_set start g h frame a b d y x e p k i j near new =
    let spot : place_of g.frame e ≡ place_of frame e = ap (λ (v : Grid). place_of v.frame e) p.rest ∙ ap (λ (v : Frame). place_of v e) (sym p.same_frame) in
    let swept : h.swept ≡ set g.swept (place_of frame e) true = ap (λ (v : Grid). v.swept) new ∙ ap (λ (n : ℕ). set g.swept n true) spot in
    let here : get_or h.swept (place_of frame e) false ≡ true =
    ap (λ (v : List Bool). get_or v (place_of frame e) false) swept ∙ get_or-set_same g.swept (place_of frame e) true false (omega (arith, place_below frame e k, p.len)) in
    let there : (c : Cell) → InFrame frame c → (c ≡ e) ⊎ (get_or h.swept (place_of frame c) false ≡ get_or g.swept (place_of frame c) false) =
    λ c in_c. elim (cases_eq (place_of frame c) (place_of frame e)) as (λ _. (c ≡ e) ⊎ (get_or h.swept (place_of frame c) false ≡ get_or g.swept (place_of frame c) false)) [
      | inl same ↦ inl (place_same frame c e in_c k same)
      | inr ne ↦ inr (ap (λ (v : List Bool). get_or v (place_of frame c) false) swept ∙ get_or-set_other g.swept (place_of frame e) (place_of frame c) true false ne)
    ] in
    record {
      rest = new ∙ ap (λ (v : Grid). record v { swept = set g.swept (place_of g.frame e) true }) p.rest ∙ sym (ap (λ (v : List Bool). record start { swept = v }) (ap (λ (v : Grid). v.swept) new));
      same_frame = p.same_frame;
      valid = p.valid;
      len = ap length swept ∙ length-set g.swept (place_of frame e) true ∙ p.len;
      sound = λ c in_c on. elim (there c in_c) as (λ _. (get_or start.swept (place_of frame c) false ≡ true) ⊎ (near_of (centre_of frame.pitch c) a b d ≡ true)) [
        | inl same ↦ inr (ap (λ (v : Cell). near_of (centre_of frame.pitch v) a b d) same ∙ near)
        | inr other ↦ p.sound c in_c (sym other ∙ on)
      ];
      stays = λ c in_c on. elim (there c in_c) as (λ _. get_or h.swept (place_of frame c) false ≡ true) [
        | inl same ↦ ap (λ (v : Cell). get_or h.swept (place_of frame v) false) same ∙ here
        | inr other ↦ other ∙ p.stays c in_c on
      ];
      done = λ c in_c q near_c. elim (there c in_c) as (λ _. get_or h.swept (place_of frame c) false ≡ true) [
        | inl same ↦ ap (λ (v : Cell). get_or h.swept (place_of frame v) false) same ∙ here
        | inr other ↦ elim (next_passed frame c e y x in_c k i j q) as (λ _. get_or h.swept (place_of frame c) false ≡ true) [
          | inl same ↦ ap (λ (v : Cell). get_or h.swept (place_of frame v) false) same ∙ here
          | inr was ↦ other ∙ p.done c in_c was near_c
        ]
      ];
    }

-- what is true exactly where the one or the other is
either : (r s t : Bool) → (r ≡ true → (s ≡ true) ⊎ (t ≡ true)) → (s ≡ true → r ≡ true) → (t ≡ true → r ≡ true) → r ≡ (s || t)
either true true t f g h = refl
either true false true f g h = refl
either true false false f g h = absurd (elim (f refl) as (λ _. ⊥) [ inl e ↦ false≢true e | inr e ↦ false≢true e ])
either false true t f g h = absurd (false≢true (g refl))
either false false true f g h = absurd (false≢true (h refl))
either false false false f g h = refl

-- once all cells are passed, or aren't near, the plane is as it was to be
pub marked : (start g : Grid) (frame : Frame) (a b : Point) (d : ℤ) (y x : ℕ) → IsMarking start g frame a b d y x
    → ((c : Cell) → InFrame frame c → near_of (centre_of frame.pitch c) a b d ≡ true → IsPassed frame y x c) → (c : Cell) → InFrame start.frame c
    → in_plane start.frame g.swept c ≡ (in_plane start.frame start.swept c || near_of (centre_of start.frame.pitch c) a b d)
marked start g frame a b d y x p all c h =
    subst (λ (f : Frame). in_plane f g.swept c ≡ (in_plane f start.swept c || near_of (centre_of f.pitch c) a b d)) p.same_frame
    (let k : InFrame frame c = subst (λ (f : Frame). InFrame f c) (sym p.same_frame) h in
    let i : in_frame frame c ≡ true = in_frame_true frame c k in
    cond_true (in_frame frame c) (get_or g.swept (place_of frame c) false) false i
    ∙ either (get_or g.swept (place_of frame c) false) (get_or start.swept (place_of frame c) false) (near_of (centre_of frame.pitch c) a b d) (p.sound c k) (p.stays c k)
    (λ near. p.done c k (all c k near) near)
    ∙ ap (λ (v : Bool). v || near_of (centre_of frame.pitch c) a b d) (sym (cond_true (in_frame frame c) (get_or start.swept (place_of frame c) false) false i)))

-- the cells of the frame that are near the segment ab with d stand in this window
abbrev pub AreBetween : Frame → Point → Point → ℤ → Window → Type 0
AreBetween f a b d w = (c : Cell) → InFrame f c → near_of (centre_of f.pitch c) a b d ≡ true → IsInWindow f w c

module _ (start : Grid) (frame : Frame) (a b : Point) (d : ℤ) (s : Window) (all : AreBetween frame a b d s) where
  pub rows_begun : frame ≡ start.frame → IsFrame frame → IsSized start → IsMarking start start frame a b d s.rows.from 0
  rows_begun e v sized = marking_begun start frame a b d s.rows.from 0 e v sized (λ c h p near. let q = all c h near in none (row_of frame c) (column_of frame c) p q.row.from)
    where
      none : (r x : ℕ) → (r < s.rows.from) ⊎ ((r ≡ s.rows.from) × (x < 0)) → s.rows.from ≤ r → ⊥
      none r x p l = elim p as (λ _. ⊥) [ inl less ↦ omega (arith, less, l) | inr level ↦ omega (arith, level.1) ]

  pub row_begun : (g : Grid) (y : ℕ) → IsMarking start g frame a b d y 0 → IsMarking start g frame a b d y s.columns.from
  row_begun g y p = marking_on start g frame a b d y 0 y s.columns.from p (λ c h q near. back (row_of frame c) (column_of frame c) q (all c h near).column.from)
    where
      back : (r x : ℕ) → (r < y) ⊎ ((r ≡ y) × (x < s.columns.from)) → s.columns.from ≤ x → (r < y) ⊎ ((r ≡ y) × (x < 0))
      back r x p l = elim p as (λ _. (r < y) ⊎ ((r ≡ y) × (x < 0))) [ inl less ↦ inl less | inr level ↦ absurd (omega (arith, level.1, l)) ]

  pub row_ended : (g : Grid) (y x : ℕ) → s.columns.to ≤ x → IsMarking start g frame a b d y x → IsMarking start g frame a b d (y + 1) 0
  row_ended g y x past p = marking_on start g frame a b d y x (y + 1) 0 p (λ c h q near. back (row_of frame c) (column_of frame c) q (all c h near).column.to)
    where
      back : (r v : ℕ) → (r < y + 1) ⊎ ((r ≡ y + 1) × (v < 0)) → v < s.columns.to → (r < y) ⊎ ((r ≡ y) × (v < x))
      back r v p l = elim p as (λ _. (r < y) ⊎ ((r ≡ y) × (v < x))) [
        | inl less ↦ elim (cases_eq r y) as (λ _. (r < y) ⊎ ((r ≡ y) × (v < x))) [ inl e ↦ inr (e, omega (arith, past, l)) | inr ne ↦ inl (omega (arith, less, ne)) ]
        | inr level ↦ absurd (omega (arith, level.1))
      ]

  pub rows_ended : (g : Grid) (y : ℕ) → s.rows.to ≤ y → IsMarking start g frame a b d y 0 → (c : Cell) → InFrame start.frame c
      → in_plane start.frame g.swept c ≡ (in_plane start.frame start.swept c || near_of (centre_of start.frame.pitch c) a b d)
  rows_ended g y past p = marked start g frame a b d y 0 p (λ c h near. inl (omega (arith, past, (all c h near).row.to)))
