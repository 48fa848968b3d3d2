-- The list of a plane's cells has each of them once, in the order of rows.
use Rattle.std.proofs.Common.{◌≡◌, ℕ, zero, suc, ◌+◌, ◌<◌, ◌≤◌, Bool, true, false, cond, List, [], ◌∷◌, ◌++◌, length, get_or, take, append-nil, refl, sym, ap, ◌∙◌, arith}
use Rattle.std.specs.List.{Contains, AllPairs, filter, count_by}
use Rattle.std.proofs.lemmas.List.Elements.{filter_more, filter_passes, All-contains}
use Rattle.std.proofs.lemmas.List.Kept.{AllPairs-filter}
use Rattle.std.proofs.lemmas.List.Sums.{length-filter, sum_by_more}
use Rattle.std.proofs.lemmas.List.FromFn.{get_or-map-range_with_len, length-map-range_with_len}
use Rattle.std.proofs.Math.Seq.{take-length}
use Rattle.number_laws.proofs.Tests.{by_bool}
use Rattle.board_base.specs.declared.places.Cell.{Cell}
use Rattle.cell_sets.specs.Chains.{IsBefore}
use Rattle.cell_sets.specs.Count.{IsListOf, IsCount}
use Rattle.cell_grid.specs.declared.frames.Frame.{Frame}
use Rattle.cell_grid.specs.Place.{InFrame, place_of, cells_of, cell_of_place}
use Rattle.cell_grid.specs.Cells.{in_frame, in_plane, all_cells, cells_in}
use Rattle.cell_grid.proofs.PlaceLaws.{place_below, cell_of_place-place_of}
use Rattle.cell_grid.proofs.CellsLaws.{in_frame_is, in_frame_true, before, cell_in, place_cell}

pub all_len : (f : Frame) → length (all_cells f) ≡ cells_of f
unfolding all_cells
all_len f = length-map-range_with_len (cell_of_place f) 0 (cells_of f)

pub cell_there : (f : Frame) (n : ℕ) (d : Cell) → n < cells_of f → get_or (all_cells f) n d ≡ cell_of_place f n
unfolding all_cells
cell_there f n d h = get_or-map-range_with_len (cell_of_place f) 0 (cells_of f) n n d h (omega arith)

-- the bit of the cell at a place
pub plane_there : (f : Frame) (plane : List Bool) (n : ℕ) → n < cells_of f → in_plane f plane (cell_of_place f n) ≡ get_or plane n false
plane_there f plane n h = rw (in_frame_true f (cell_of_place f n) (cell_in f n h)) (ap (λ m. get_or plane m false) (place_cell f n h))

-- ---- the list so far

pub none_listed : (f : Frame) (plane : List Bool) → filter (in_plane f plane) (take 0 (all_cells f)) ≡ []
none_listed f plane = by (all_cells f)
  where
    by : (xs : List Cell) → filter (in_plane f plane) (take 0 xs) ≡ []
    by [] = refl
    by (x ∷ xs) = refl

pub one_more : (f : Frame) (plane : List Bool) (n : ℕ) → n < cells_of f
    → filter (in_plane f plane) (take (n + 1) (all_cells f)) ≡ filter (in_plane f plane) (take n (all_cells f)) ++ cond (get_or plane n false) (cell_of_place f n ∷ []) []
one_more f plane n h =
    let here = cell_there f n (cell_of_place f n) h in
    filter_more (in_plane f plane) (all_cells f) n (cell_of_place f n) (omega (arith, h, all_len f))
    ∙ ap (λ c. filter (in_plane f plane) (take n (all_cells f)) ++ cond (in_plane f plane c) (c ∷ []) []) here
    ∙ ap (λ b. filter (in_plane f plane) (take n (all_cells f)) ++ cond b (cell_of_place f n ∷ []) []) (plane_there f plane n h)

pub listed_on : (f : Frame) (plane : List Bool) (list more : List Cell) (n : ℕ) (c : Cell) (on : Bool) → list ≡ filter (in_plane f plane) (take n (all_cells f)) → n < cells_of f
    → on ≡ get_or plane n false → on ≡ true → c ≡ cell_of_place f n → more ≡ list ++ c ∷ [] → more ≡ filter (in_plane f plane) (take (n + 1) (all_cells f))
listed_on f plane list more n c on so_far h bit is_on at e =
    e ∙ ap (λ xs. xs ++ c ∷ []) so_far ∙ ap (λ d. filter (in_plane f plane) (take n (all_cells f)) ++ d ∷ []) at
    ∙ ap (λ b. filter (in_plane f plane) (take n (all_cells f)) ++ cond b (cell_of_place f n ∷ []) []) (sym is_on ∙ bit) ∙ sym (one_more f plane n h)

pub listed_off : (f : Frame) (plane : List Bool) (list more : List Cell) (n : ℕ) (on : Bool) → list ≡ filter (in_plane f plane) (take n (all_cells f)) → n < cells_of f
    → on ≡ get_or plane n false → on ≡ false → more ≡ list → more ≡ filter (in_plane f plane) (take (n + 1) (all_cells f))
listed_off f plane list more n on so_far h bit is_off e =
    e ∙ so_far ∙ sym (append-nil (filter (in_plane f plane) (take n (all_cells f))))
    ∙ ap (λ b. filter (in_plane f plane) (take n (all_cells f)) ++ cond b (cell_of_place f n ∷ []) []) (sym is_off ∙ bit) ∙ sym (one_more f plane n h)

pub all_listed : (f : Frame) (plane : List Bool) (n : ℕ) → n ≡ cells_of f → filter (in_plane f plane) (take n (all_cells f)) ≡ cells_in f plane
unfolding cells_in
all_listed f plane n e = ap (λ m. filter (in_plane f plane) (take m (all_cells f))) (e ∙ sym (all_len f)) ∙ ap (filter (in_plane f plane)) (take-length (all_cells f))

-- ---- what is in the list

-- what passes the test is among what passes
contains_filter : {X : Type 0} (p : X → Bool) (xs : List X) (x : X) → p x ≡ true → Contains xs x → Contains (filter p xs) x
contains_filter p [] x on there = absurd (omega (arith, there.1))
contains_filter p (y ∷ xs) x on (zero, inside, here) = rw (ap p here ∙ on) (0, omega arith, here)
contains_filter p (y ∷ xs) x on (suc k, inside, here) =
    let later = contains_filter p xs x on (k, omega (arith, inside), here) in
    by_bool (p y) (λ e. rw e (suc later.0, omega (arith, later.1), later.2)) (λ e. rw e later)

in_all : (f : Frame) (c : Cell) → InFrame f c → Contains (all_cells f) c
in_all f c h = (place_of f c, omega (arith, place_below f c h, all_len f), cell_there f (place_of f c) c (place_below f c h) ∙ cell_of_place-place_of f c h)

all_rows : (f : Frame) → AllPairs IsBefore (all_cells f)
all_rows f i j d less below =
    let j_in : j < cells_of f = omega (arith, below, all_len f) in
    let i_in : i < cells_of f = omega (arith, less, j_in) in
    rw (cell_there f i d i_in, cell_there f j d j_in)
    (before f (cell_of_place f i) (cell_of_place f j) (cell_in f i i_in) (cell_in f j j_in) (rw (place_cell f i i_in, place_cell f j j_in) less))

-- each cell of the plane once, in the order of rows
pub list_of : (f : Frame) (plane : List Bool) → IsListOf (λ c. in_plane f plane c ≡ true) (cells_in f plane)
unfolding cells_in
list_of f plane = record {
  each = λ c. (
    λ there. All-contains (λ d. in_plane f plane d ≡ true) (filter (in_plane f plane) (all_cells f)) c (filter_passes (in_plane f plane) (all_cells f)) there,
    λ on. contains_filter (in_plane f plane) (all_cells f) c on (in_all f c (inside c on)),
  );
  order = AllPairs-filter IsBefore (in_plane f plane) (all_cells f) (all_rows f);
}
  where
    inside : (c : Cell) → in_plane f plane c ≡ true → InFrame f c
    inside c on = by_bool (in_frame f c) (λ e. in_frame_is f c e) (λ e. absurd (none (in_frame f c) _ e on))
      where
        none : (t v : Bool) → t ≡ false → cond t v false ≡ true → ⊥
        none true v e h = absurd (cc)
        none false v e h = absurd (cc)

-- ---- their count

counted : (f : Frame) (plane : List Bool) (n : ℕ) → length plane ≡ cells_of f → n ≤ cells_of f
    → count_by (in_plane f plane) (take n (all_cells f)) ≡ count_by (λ on. on) (take n plane)
counted f plane zero sized h = none (all_cells f) plane
  where
    none : (xs : List Cell) (ys : List Bool) → count_by (in_plane f plane) (take 0 xs) ≡ count_by (λ on. on) (take 0 ys)
    none [] [] = refl
    none [] (y ∷ ys) = refl
    none (x ∷ xs) [] = refl
    none (x ∷ xs) (y ∷ ys) = refl
counted f plane (suc n) sized h =
    let n_in : n < cells_of f = omega (arith, h) in
    let before = counted f plane n sized (omega (arith, h)) in
    let bit = ap (in_plane f plane) (cell_there f n (cell_of_place f n) n_in) ∙ plane_there f plane n n_in in
    ap (λ m. count_by (in_plane f plane) (take m (all_cells f))) (next n)
    ∙ sum_by_more (λ c. cond (in_plane f plane c) 1 0) (all_cells f) n (cell_of_place f n) (omega (arith, n_in, all_len f))
    ∙ ap (λ b. count_by (in_plane f plane) (take n (all_cells f)) + cond b 1 0) bit
    ∙ ap (λ m. m + cond (get_or plane n false) 1 0) before
    ∙ sym (sum_by_more (λ on. cond on 1 0) plane n false (omega (arith, n_in, sized)))
    ∙ ap (λ m. count_by (λ on. on) (take m plane)) (sym (next n))
  where
    next : (n : ℕ) → suc n ≡ n + 1
    next n = omega arith

-- the bits that are on are as many as the cells in the list
pub count_is : (f : Frame) (plane : List Bool) → length plane ≡ cells_of f → length (cells_in f plane) ≡ count_by (λ on. on) plane
unfolding cells_in
count_is f plane sized =
    length-filter (in_plane f plane) (all_cells f)
    ∙ ap (count_by (in_plane f plane)) (sym (take-length (all_cells f)))
    ∙ ap (λ n. count_by (in_plane f plane) (take n (all_cells f))) (all_len f)
    ∙ counted f plane (cells_of f) sized (omega arith)
    ∙ ap (λ n. count_by (λ on. on) (take n plane)) (sym sized)
    ∙ ap (count_by (λ on. on)) (take-length plane)

pub count_of : (f : Frame) (plane : List Bool) (n : ℕ) → length plane ≡ cells_of f → n ≡ count_by (λ on. on) plane → IsCount (λ c. in_plane f plane c ≡ true) n
count_of f plane n sized e = record { cells = cells_in f plane; all = list_of f plane; size = count_is f plane sized ∙ sym e }
