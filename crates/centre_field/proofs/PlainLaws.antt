-- The cells before one in the order of rows have their clearances.
use Rattle.std.proofs.Common.{◌≡◌, ℕ, ◌<◌, ◌+◌, ◌*◌, ◌/◌, ◌%◌, Bool, false, List, get_or, refl, sym, ap, subst, ◌∙◌, arith}
use Rattle.std.proofs.lemmas.Nat.{mod-mul-add, div-mul-add}
use Rattle.board_base.specs.declared.places.Cell.{Cell}
use Rattle.cell_grid.specs.declared.frames.Frame.{Frame}
use Rattle.cell_grid.specs.Grid.{Grid}
use Rattle.cell_grid.specs.Place.{InFrame, place_of, column_of, row_of, cells_of}
use Rattle.cell_grid.specs.Cells.{in_plane, number_in}
use Rattle.cell_sets.specs.Clearance.{IsClearance}
use Rattle.cell_grid.proofs.PlaceLaws.{place_below}
use Rattle.centre_field.specs.Distances.{IsLeast, IsLeastSquare, is_kept_at, square_to_place}
use Rattle.centre_field.proofs.FieldLaws.{field_is_clearance, column_at_place, row_at_place}
use Rattle.centre_field.proofs.WrittenLaws.{IsWrittenBelow, place_now}

-- a number is the least square from the cell at a place
abbrev pub IsLeastAt : Grid → Frame → ℕ → ℕ → Type 0
IsLeastAt start frame k v = IsLeastSquare start (k % frame.width) (k / frame.width) v

-- the least square found in the grid as it is now
pub least_at : (start g : Grid) (frame : Frame) (x y n v : ℕ) → g ≡ record start { clearances = g.clearances } → n ≡ y * frame.width + x → x < frame.width
    → IsLeastSquare g x y v → IsLeastAt start frame n v
least_at start g frame x y n v e place x_in least =
    subst (λ (a : ℕ). IsLeastSquare start a (n / frame.width) v) (sym (ap (λ (k : ℕ). k % frame.width) place ∙ mod-mul-add y frame.width x x_in))
    (subst (λ (b : ℕ). IsLeastSquare start x b v) (sym (ap (λ (k : ℕ). k / frame.width) place ∙ div-mul-add y frame.width x x_in))
    (subst (λ (h : Grid). IsLeast (is_kept_at h.kept) (square_to_place h.frame.width x y) (cells_of h.frame) v) e least))

-- what was read at a place
pub read_at : (xs : List Bool) (r : Bool) (f f' : Frame) (c : Cell) (n : ℕ) → r ≡ get_or xs (place_of f' c) false → f ≡ f' → place_of f c ≡ n → is_kept_at xs n ≡ r
read_at xs r f f' c n e same p = sym (e ∙ ap (λ (k : ℕ). get_or xs k false) (place_now f f' c n same p))

-- all cells have their clearances
pub all_clearances : (start g : Grid) (frame : Frame) (n : ℕ) → IsWrittenBelow (IsLeastAt start frame) start frame g n → n ≡ cells_of frame → (c : Cell) → InFrame start.frame c
    → IsClearance (in_plane start.frame start.kept) c (number_in start.frame 4294967295 g.clearances c)
all_clearances start g frame n p e c h = field_is_clearance start.frame start.kept g.clearances c h (at_cell (place_of start.frame c) refl)
  where
    at_cell : (k : ℕ) → k ≡ place_of start.frame c → IsLeastSquare start (column_of start.frame c) (row_of start.frame c) (get_or g.clearances (place_of start.frame c) 0)
    at_cell k is =
        let inside : place_of start.frame c < cells_of start.frame = place_below start.frame c h in
        let cells : cells_of frame ≡ cells_of start.frame = ap cells_of p.same_frame in
        let v = get_or g.clearances (place_of start.frame c) 0 in
        let d = p.done (place_of start.frame c) (omega arith) in
        let f = subst (λ (f : Frame). IsLeastSquare start (place_of start.frame c % f.width) (place_of start.frame c / f.width) v) p.same_frame d in
        subst (λ (b : ℕ). IsLeastSquare start (column_of start.frame c) b v) (row_at_place start.frame c h)
        (subst (λ (a : ℕ). IsLeastSquare start a (place_of start.frame c / start.frame.width) v) (column_at_place start.frame c h) f)
