-- Clearances that are written one after the other: in the order of rows, or along one row.
use Rattle.std.proofs.Common.{◌≡◌, ℕ, ◌<◌, ◌≤◌, ◌+◌, ◌*◌, length, get_or, set, refl, sym, ap, subst, ◌∙◌, arith, below_more, get_or-set_other, get_or-set_same}
use Rattle.std.proofs.lemmas.List.{length-set}
use Rattle.std.proofs.lemmas.Nat.{mul-add-lt}
use Rattle.board_base.specs.declared.places.Cell.{Cell}
use Rattle.cell_grid.specs.declared.frames.Frame.{Frame}
use Rattle.cell_grid.specs.Grid.{Grid, IsSized}
use Rattle.cell_grid.specs.Place.{IsFrame, place_of, cells_of}
use Rattle.centre_field.specs.Columns.{number_at, ChangesRow}

-- only clearances changed, and of those at the places before n the fact holds
pub record IsWrittenBelow (Fact : ℕ → ℕ → Type 0) (start : Grid) (frame : Frame) (g : Grid) (n : ℕ) : Type 0 where
  pub rest : g ≡ record start { clearances = g.clearances }
  pub same_frame : frame ≡ start.frame
  pub valid : IsFrame frame
  pub width : frame.width ≡ g.frame.width
  pub height : frame.height ≡ g.frame.height
  pub sized : length g.clearances ≡ cells_of frame
  pub done : (k : ℕ) → k < n → Fact k (get_or g.clearances k 0)

pub none_written : (Fact : ℕ → ℕ → Type 0) (start : Grid) (frame : Frame) → frame ≡ start.frame → IsFrame frame → IsSized start → IsWrittenBelow Fact start frame start 0
none_written Fact start frame e v s = record {
  rest = refl;
  same_frame = e;
  valid = v;
  width = ap (λ (f : Frame). f.width) e;
  height = ap (λ (f : Frame). f.height) e;
  sized = s.clearances ∙ ap cells_of (sym e);
  done = λ k h. absurd (omega arith);
}

-- a place by another name of the frame
pub place_now : (f f' : Frame) (c : Cell) (n : ℕ) → f ≡ f' → place_of f c ≡ n → place_of f' c ≡ n
place_now f f' c n e p = subst (λ (h : Frame). place_of h c ≡ n) e p

-- the frame of the grid as it is now
pub frame_now : (start g : Grid) (frame : Frame) → frame ≡ start.frame → g ≡ record start { clearances = g.clearances } → frame ≡ g.frame
frame_now start g frame e rest = e ∙ sym (ap (λ (h : Grid). h.frame) rest)

-- what was written at a cell's place, by the number of the place
pub written_at : (start g g' : Grid) (frame : Frame) (c : Cell) (n v : ℕ) → frame ≡ start.frame → g ≡ record start { clearances = g.clearances } → place_of frame c ≡ n
    → g' ≡ record g { clearances = set g.clearances (place_of g.frame c) v } → g' ≡ record g { clearances = set g.clearances n v }
written_at start g g' frame c n v e rest place written =
    written ∙ ap (λ (k : ℕ). record g { clearances = set g.clearances k v }) (place_now frame g.frame c n (frame_now start g frame e rest) place)

-- and at a place
pub written_place : (g g' : Grid) (k n v : ℕ) → k ≡ n → g' ≡ record g { clearances = set g.clearances k v } → g' ≡ record g { clearances = set g.clearances n v }
written_place g g' k n v e written = written ∙ ap (λ (j : ℕ). record g { clearances = set g.clearances j v }) e

-- one more place
pub one_written : (Fact : ℕ → ℕ → Type 0) (start g g' : Grid) (frame : Frame) (n n' v : ℕ) → IsWrittenBelow Fact start frame g n → n < cells_of frame → n' ≡ n + 1
    → Fact n v → g' ≡ record g { clearances = set g.clearances n v } → IsWrittenBelow Fact start frame g' n'
one_written Fact start g g' frame n n' v p below next fact written =
    subst (λ (m : ℕ). IsWrittenBelow Fact start frame g' m) (sym next) (subst (λ (h : Grid). IsWrittenBelow Fact start frame h (n + 1)) (sym written) (record {
      rest = ap (λ (h : Grid). record h { clearances = set g.clearances n v }) p.rest;
      same_frame = p.same_frame;
      valid = p.valid;
      width = p.width;
      height = p.height;
      sized = simp length-set p.sized;
      done = below_more (λ (k : ℕ). Fact k (get_or (set g.clearances n v) k 0)) n
          (λ k h. subst (Fact k) (sym (get_or-set_other g.clearances n k v 0 (omega arith))) (p.done k h))
          (subst (Fact n) (sym (get_or-set_same g.clearances n v 0 (omega (arith, p.sized)))) fact);
    }))

-- the place after the last
pub ends : (y w h : ℕ) → y ≡ h → y * w ≡ w * h
ends y w h e = rw e (omega arith)

-- only clearances of row y changed, and of those before column x the fact holds
pub record IsRowWritten (Fact : ℕ → ℕ → Type 0) (start : Grid) (frame : Frame) (y : ℕ) (g : Grid) (x : ℕ) : Type 0 where
  pub rest : g ≡ record start { clearances = g.clearances }
  pub same_frame : frame ≡ start.frame
  pub valid : IsFrame frame
  pub width : frame.width ≡ g.frame.width
  pub height : frame.height ≡ g.frame.height
  pub sized : length g.clearances ≡ cells_of frame
  pub done : (a : ℕ) → a < x → Fact a (get_or g.clearances (y * frame.width + a) 0)
  pub before : (k : ℕ) → k < y * frame.width → get_or g.clearances k 0 ≡ get_or start.clearances k 0
  pub after : (k : ℕ) → y * frame.width + x ≤ k → get_or g.clearances k 0 ≡ get_or start.clearances k 0

pub no_row : (Fact : ℕ → ℕ → Type 0) (start : Grid) (frame : Frame) (y : ℕ) → frame ≡ start.frame → IsFrame frame → IsSized start → IsRowWritten Fact start frame y start 0
no_row Fact start frame y e v s = record {
  rest = refl;
  same_frame = e;
  valid = v;
  width = ap (λ (f : Frame). f.width) e;
  height = ap (λ (f : Frame). f.height) e;
  sized = s.clearances ∙ ap cells_of (sym e);
  done = λ a h. absurd (omega arith);
  before = λ k h. refl;
  after = λ k h. refl;
}

-- the columns before `from` stand
pub row_from : (Fact : ℕ → ℕ → Type 0) (start : Grid) (frame : Frame) (y from : ℕ) → frame ≡ start.frame → IsFrame frame → IsSized start
    → ((a : ℕ) → a < from → Fact a (get_or start.clearances (y * frame.width + a) 0)) → IsRowWritten Fact start frame y start from
row_from Fact start frame y from e v s stood = record {
  rest = refl;
  same_frame = e;
  valid = v;
  width = ap (λ (f : Frame). f.width) e;
  height = ap (λ (f : Frame). f.height) e;
  sized = s.clearances ∙ ap cells_of (sym e);
  done = stood;
  before = λ k h. refl;
  after = λ k h. refl;
}

pub row_more : (Fact : ℕ → ℕ → Type 0) (start g g' : Grid) (frame : Frame) (y x n v : ℕ) → IsRowWritten Fact start frame y g x → x < frame.width → y < frame.height → n ≡ y * frame.width + x
    → Fact x v → g' ≡ record g { clearances = set g.clearances n v } → IsRowWritten Fact start frame y g' (x + 1)
row_more Fact start g g' frame y x n v p x_in y_in place fact written =
    subst (λ (h : Grid). IsRowWritten Fact start frame y h (x + 1)) (sym written) (record {
      rest = ap (λ (h : Grid). record h { clearances = set g.clearances n v }) p.rest;
      same_frame = p.same_frame;
      valid = p.valid;
      width = p.width;
      height = p.height;
      sized = simp length-set p.sized;
      done = below_more (λ (a : ℕ). Fact a (get_or (set g.clearances n v) (y * frame.width + a) 0)) x
          (λ a h. subst (Fact a) (sym (get_or-set_other g.clearances n (y * frame.width + a) v 0 (omega arith))) (p.done a h))
          (subst (Fact x) (sym (ap (λ (k : ℕ). get_or (set g.clearances n v) k 0) (sym place) ∙ get_or-set_same g.clearances n v 0 n_in)) fact);
      before = λ k h. get_or-set_other g.clearances n k v 0 (omega arith) ∙ p.before k h;
      after = λ k h. get_or-set_other g.clearances n k v 0 (omega arith) ∙ p.after k (omega arith);
    })
  where
    n_in : n < length g.clearances
    n_in = omega (arith, p.sized, mul-add-lt y frame.width x frame.height y_in x_in)

pub row_changed : (Fact : ℕ → ℕ → Type 0) (start g : Grid) (frame : Frame) (y x : ℕ) → IsRowWritten Fact start frame y g x → x ≡ frame.width → ChangesRow start g y
row_changed Fact start g frame y x p e =
    let w : y * frame.width ≡ y * start.frame.width = ap (λ (f : Frame). y * f.width) p.same_frame in
    let v : frame.width ≡ start.frame.width = ap (λ (f : Frame). f.width) p.same_frame in
    record { rest = p.rest; before = λ k h. p.before k (omega arith); after = λ k h. p.after k (omega arith) }

-- what is known of a column, by the number at its place
pub row_fact : (Fact : ℕ → ℕ → Type 0) (start g : Grid) (frame : Frame) (y x a : ℕ) → IsRowWritten Fact start frame y g x → x ≡ frame.width → a < start.frame.width → Fact a (number_at g a y)
row_fact Fact start g frame y x a p e h =
    let v : frame.width ≡ start.frame.width = ap (λ (f : Frame). f.width) p.same_frame in
    subst (λ (w : ℕ). Fact a (get_or g.clearances (y * w + a) 0)) p.width (p.done a (omega arith))
