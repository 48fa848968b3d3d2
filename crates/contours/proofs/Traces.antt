-- The cells before one in the order of rows are tested, and Pass and Visited have those that passed.
use Rattle.std.proofs.Common.{◌≡◌, ◌≢◌, ◌⊎◌, inl, inr, ℕ, zero, suc, ◌<◌, ◌≤◌, ◌+◌, ◌-◌, ◌*◌, ℤ, pos, ◌+ℤ◌, ◌-ℤ◌, unsigned_abs, Bool, true, false, cond, ◌||◌, List, length, replicate, get_or, set, take, count_by, refl, sym, ap, subst, ◌∙◌, arith, get_or-set_other, get_or-set_same}
use Rattle.std.proofs.lemmas.List.{length-set, take-set-le}
use Rattle.std.proofs.Math.Nat.{add-zero}
use Rattle.std.proofs.lemmas.List.Sums.{count_by_more_yes, count_by_more_no}
use Rattle.std.proofs.lemmas.Bool.{cases_eq}
use borrow.Author.Differences.{ints}
use Rattle.board_base.specs.declared.places.Cell.{Cell}
use Rattle.cell_grid.specs.declared.frames.Frame.{Frame}
use Rattle.cell_grid.specs.Grid.{Grid, IsSized}
use Rattle.cell_grid.specs.Place.{IsFrame, InFrame, IsBetween, place_of, cells_of}
use Rattle.cell_grid.specs.Cells.{in_frame, in_plane, is_above}
use Rattle.cell_grid.proofs.PlaceLaws.{place_below, before_next}
use Rattle.cell_grid.proofs.CellsLaws.{in_frame_is}
use Rattle.contours.specs.Contour.{on_contour, cell_in, is_on, added_to}

-- of the cells before place n those that pass the test are in Pass, and Visited has them too
pub record IsTraced (start : Grid) (frame : Frame) (test : Cell → Bool) (g : Grid) (size n : ℕ) : Type 0 where
  pub rest : g ≡ record start { pass = g.pass; visited = g.visited }
  pub same_frame : frame ≡ start.frame
  pub valid : IsFrame frame
  pub pass_len : length g.pass ≡ cells_of frame
  pub visited_len : length g.visited ≡ cells_of frame
  pub pass : (c : Cell) → InFrame frame c → place_of frame c < n → get_or g.pass (place_of frame c) false ≡ test c
  pub visited : (k : ℕ) → k < n → get_or g.visited k false ≡ (get_or start.visited k false || get_or g.pass k false)
  pub later : (k : ℕ) → n ≤ k → get_or g.visited k false ≡ get_or start.visited k false
  pub count : size ≡ count_by (λ p. p) (take n g.pass)
  pub small : size ≤ n

pub none_traced : (start : Grid) (frame : Frame) (test : Cell → Bool) → frame ≡ start.frame → IsFrame frame → IsSized start → IsTraced start frame test start 0 0
none_traced start frame test e v s = record {
  rest = refl;
  same_frame = e;
  valid = v;
  pass_len = s.pass ∙ ap cells_of (sym e);
  visited_len = s.visited ∙ ap cells_of (sym e);
  pass = λ c h l. absurd (omega arith);
  visited = λ k l. absurd (omega arith);
  later = λ k h. refl;
  count = refl;
  small = omega arith;
}

number_before : (k n : ℕ) → k < n + 1 → (k < n) ⊎ (k ≡ n)
number_before k n l = elim (cases_eq k n) as (λ _. (k < n) ⊎ (k ≡ n)) [ inl same ↦ inr same | inr other ↦ inl (omega arith) ]

front : (xs : List Bool) (n : ℕ) (on : Bool) → take n (set xs n on) ≡ take n xs
front xs n on = take-set-le n xs n on (omega arith)

more : (xs : List Bool) (n : ℕ) (on : Bool) → n < length xs → count_by (λ p. p) (take (n + 1) (set xs n on)) ≡ count_by (λ p. p) (take n xs) + cond on 1 0
more xs n true h =
    let s : n < length (set xs n true) = simp length-set h in
    count_by_more_yes (λ (p : Bool). p) (set xs n true) n false s (get_or-set_same xs n true false h) ∙ ap (λ (l : List Bool). count_by (λ p. p) l + 1) (front xs n true)
more xs n false h =
    let s : n < length (set xs n false) = simp length-set h in
    count_by_more_no (λ (p : Bool). p) (set xs n false) n false s (get_or-set_same xs n false false h) ∙ ap (λ (l : List Bool). count_by (λ p. p) l) (front xs n false) ∙ sym (add-zero _)

or_true : (s : Bool) → true ≡ (s || true)
or_true true = refl
or_true false = refl

or_false : (s : Bool) → s ≡ (s || false)
or_false true = refl
or_false false = refl

added_len : (xs : List Bool) (n : ℕ) (on : Bool) → length (added_to xs n on) ≡ length xs
added_len xs n true = simp length-set
added_len xs n false = refl

added_other : (xs : List Bool) (n k : ℕ) (on : Bool) → k ≢ n → get_or (added_to xs n on) k false ≡ get_or xs k false
added_other xs n k true ne = get_or-set_other xs n k true false ne
added_other xs n k false ne = refl

added_here : (xs : List Bool) (n : ℕ) (on : Bool) → n < length xs → get_or (added_to xs n on) n false ≡ (get_or xs n false || on)
added_here xs n true h = get_or-set_same xs n true false h ∙ or_true (get_or xs n false)
added_here xs n false h = or_false (get_or xs n false)

-- one cell more
pub one_traced : (start g g' : Grid) (frame : Frame) (test : Cell → Bool) (size size' n n' : ℕ) (d : Cell) (on : Bool) → IsTraced start frame test g size n → InFrame frame d → place_of frame d ≡ n → n' ≡ n + 1
    → on ≡ test d → g' ≡ record g { pass = set g.pass n on; visited = added_to g.visited n on } → size' ≡ size + cond on 1 0 → IsTraced start frame test g' size' n'
one_traced start g g' frame test size size' n n' d on p d_in d_at next on_is written grown =
    subst (λ (m : ℕ). IsTraced start frame test g' size' m) (sym next)
    (subst (λ (s : ℕ). IsTraced start frame test g' s (n + 1)) (sym grown)
    (subst (λ (h : Grid). IsTraced start frame test h (size + cond on 1 0) (n + 1)) (sym written) (record {
      rest = ap (λ (h : Grid). record h { pass = set g.pass n on; visited = added_to g.visited n on }) p.rest;
      same_frame = p.same_frame;
      valid = p.valid;
      pass_len = simp length-set p.pass_len;
      visited_len = added_len g.visited n on ∙ p.visited_len;
      pass = λ c h l.
          elim (before_next frame c d n h d_in d_at l) as (λ _. get_or (set g.pass n on) (place_of frame c) false ≡ test c) [
            | inl less ↦ get_or-set_other g.pass n (place_of frame c) on false (omega arith) ∙ p.pass c h less
            | inr same ↦ ap (λ (x : Cell). get_or (set g.pass n on) (place_of frame x) false) same ∙ ap (λ (x : ℕ). get_or (set g.pass n on) x false) d_at
                ∙ get_or-set_same g.pass n on false n_in ∙ on_is ∙ ap test (sym same)
          ];
      visited = λ k l.
          elim (number_before k n l) as (λ _. get_or (added_to g.visited n on) k false ≡ (get_or start.visited k false || get_or (set g.pass n on) k false)) [
            | inl less ↦ added_other g.visited n k on (omega arith) ∙ p.visited k less ∙ ap (λ (b : Bool). get_or start.visited k false || b) (sym (get_or-set_other g.pass n k on false (omega arith)))
            | inr same ↦ subst (λ (x : ℕ). get_or (added_to g.visited n on) x false ≡ (get_or start.visited x false || get_or (set g.pass n on) x false)) (sym same)
                (added_here g.visited n on n_in_visited ∙ ap (λ (b : Bool). b || on) (p.later n (omega arith)) ∙ ap (λ (b : Bool). get_or start.visited n false || b) (sym (get_or-set_same g.pass n on false n_in)))
          ];
      later = λ k h. added_other g.visited n k on (omega arith) ∙ p.later k (omega arith);
      count = ap (λ (x : ℕ). x + cond on 1 0) p.count ∙ sym (more g.pass n on n_in);
      small = one_more on p.small;
    })))
  where
    n_in : n < length g.pass
    n_in = omega (arith, p.pass_len, place_below frame d d_in, d_at)

    n_in_visited : n < length g.visited
    n_in_visited = omega (arith, p.visited_len, place_below frame d d_in, d_at)

    one_more : {s m : ℕ} (b : Bool) → s ≤ m → s + cond b 1 0 ≤ m + 1
    one_more true h = omega arith
    one_more false h = omega arith

pub its_frame : (start : Grid) (frame : Frame) (test : Cell → Bool) (g : Grid) (size n : ℕ) → IsTraced start frame test g size n → g.frame ≡ frame
its_frame start frame test g size n p = ap (λ (h : Grid). h.frame) p.rest ∙ sym p.same_frame

pub zero_more : (start : Grid) (frame : Frame) (test : Cell → Bool) (g : Grid) (size n : ℕ) → IsTraced start frame test g size n → IsTraced start frame test g size (n + 0)
zero_more start frame test g size n p = subst (λ (m : ℕ). IsTraced start frame test g size m) (sym (add-zero n)) p

-- the tests of a cell inside and outside the frame
pub in_plane_in : (f : Frame) (plane : List Bool) (c : Cell) → in_frame f c ≡ true → in_plane f plane c ≡ get_or plane (place_of f c) false
in_plane_in f plane c e = ap (λ (b : Bool). cond b (get_or plane (place_of f c) false) false) e

pub in_plane_out : (f : Frame) (plane : List Bool) (c : Cell) → in_frame f c ≡ false → in_plane f plane c ≡ false
in_plane_out f plane c e = ap (λ (b : Bool). cond b (get_or plane (place_of f c) false) false) e

-- in the end Pass is the test, on the frame
pub plane_is : (start g : Grid) (frame : Frame) (test : Cell → Bool) (size n : ℕ) → IsTraced start frame test g size n → n ≡ cells_of frame
    → (c : Cell) → in_frame start.frame c ≡ true → in_plane start.frame g.pass c ≡ test c
plane_is start g frame test size n p e c i =
    let h : InFrame frame c = subst (λ (f : Frame). InFrame f c) (sym p.same_frame) (in_frame_is start.frame c i) in
    in_plane_in start.frame g.pass c i ∙ ap (λ (f : Frame). get_or g.pass (place_of f c) false) (sym p.same_frame) ∙ p.pass c h (omega (arith, e, place_below frame c h))

-- ---- cells that Pass hasn't, and that don't pass the test

-- Pass has no place from n on
abbrev pub IsBlankFrom : Grid → ℕ → Type 0
IsBlankFrom g n = (k : ℕ) → n ≤ k → get_or g.pass k false ≡ false

none_more : (xs : List Bool) (n : ℕ) → n < length xs → get_or xs n false ≡ false → count_by (λ p. p) (take (n + 1) xs) ≡ count_by (λ p. p) (take n xs)
none_more xs n h e = count_by_more_no (λ (p : Bool). p) xs n false h e

-- one cell that isn't
skip_one : (start g : Grid) (frame : Frame) (test : Cell → Bool) (size n n' : ℕ) (d : Cell) → IsTraced start frame test g size n → IsBlankFrom g n → InFrame frame d → place_of frame d ≡ n → n' ≡ n + 1 → test d ≡ false → IsTraced start frame test g size n'
skip_one start g frame test size n n' d p blank d_in d_at next off =
    subst (λ (m : ℕ). IsTraced start frame test g size m) (sym next) (record {
      rest = p.rest;
      same_frame = p.same_frame;
      valid = p.valid;
      pass_len = p.pass_len;
      visited_len = p.visited_len;
      pass = λ c h l.
          elim (before_next frame c d n h d_in d_at l) as (λ _. get_or g.pass (place_of frame c) false ≡ test c) [
            | inl less ↦ p.pass c h less
            | inr same ↦ ap (λ (x : Cell). get_or g.pass (place_of frame x) false) same ∙ blank (place_of frame d) (omega (arith, d_at)) ∙ sym off ∙ ap test (sym same)
          ];
      visited = λ k l.
          elim (number_before k n l) as (λ _. get_or g.visited k false ≡ (get_or start.visited k false || get_or g.pass k false)) [
            | inl less ↦ p.visited k less
            | inr same ↦ p.later k (omega arith) ∙ or_false (get_or start.visited k false) ∙ ap (λ (b : Bool). get_or start.visited k false || b) (sym (blank k (omega arith)))
          ];
      later = λ k h. p.later k (omega arith);
      count = p.count ∙ sym (none_more g.pass n n_in (blank n (omega arith)));
      small = weaker p.small;
    })
  where
    n_in : n < length g.pass
    n_in = omega (arith, p.pass_len, place_below frame d d_in, d_at)

    weaker : {s m : ℕ} → s ≤ m → s ≤ m + 1
    weaker h = omega arith

pub in_row : (f : Frame) (x y : ℕ) → x < f.width → y < f.height → InFrame f (cell_in f x y)
in_row f x y xl yl = record { column = between f.i0 x f.width xl; row = between f.j0 y f.height yl }
  where
    between : (a : ℤ) (n c : ℕ) → n < c → IsBetween (a +ℤ pos n) a c
    between a n c h = record { low = omega (arith, ints); high = omega (arith, ints) }

pub place_in_row : (f : Frame) (x y : ℕ) → place_of f (cell_in f x y) ≡ y * f.width + x
unfolding place_of
place_in_row f x y = ap (λ (r : ℕ). r * f.width + unsigned_abs ((f.i0 +ℤ pos x) -ℤ f.i0)) (by f.j0 y) ∙ ap (λ (k : ℕ). y * f.width + k) (by f.i0 x)
  where
    by : (a : ℤ) (n : ℕ) → unsigned_abs ((a +ℤ pos n) -ℤ a) ≡ n
    by a n = omega (arith, ints)

-- so many columns of a row
pub skip_columns : (start g : Grid) (frame : Frame) (test : Cell → Bool) (size x y k : ℕ) → IsTraced start frame test g size (y * frame.width + x) → IsBlankFrom g (y * frame.width + x) → y < frame.height → x + k ≤ frame.width
    → ((j : ℕ) → x ≤ j → j < x + k → test (cell_in frame j y) ≡ false) → IsTraced start frame test g size (y * frame.width + (x + k))
skip_columns start g frame test size x y zero p blank yl xl off = subst (λ (m : ℕ). IsTraced start frame test g size (y * frame.width + m)) (sym (add-zero x)) p
skip_columns start g frame test size x y (suc k) p blank yl xl off =
    skip_one start g frame test size (y * frame.width + (x + k)) (y * frame.width + (x + suc k)) (cell_in frame (x + k) y)
    (skip_columns start g frame test size x y k p blank yl (omega arith) (λ j l h. off j l (omega arith))) (λ j h. blank j (omega arith)) (in_row frame (x + k) y (omega arith) yl) (place_in_row frame (x + k) y) (omega arith)
    (off (x + k) (omega arith) (omega arith))

-- as far as a column
pub skip_to : (start g : Grid) (frame : Frame) (test : Cell → Bool) (size x y e : ℕ) → IsTraced start frame test g size (y * frame.width + x) → IsBlankFrom g (y * frame.width + x) → y < frame.height → x ≤ e → e ≤ frame.width
    → ((j : ℕ) → x ≤ j → j < e → test (cell_in frame j y) ≡ false) → IsTraced start frame test g size (y * frame.width + e)
skip_to start g frame test size x y e p blank yl low high off =
    subst (λ (m : ℕ). IsTraced start frame test g size (y * frame.width + m)) (rest x e low)
    (skip_columns start g frame test size x y (e - x) p blank yl (omega arith) (λ j l h. off j l (omega arith)))
  where
    rest : (x e : ℕ) → x ≤ e → x + (e - x) ≡ e
    rest x e h = omega arith

-- Pass with one place more is as blank past that one
pub blank_past : (g g' : Grid) (n : ℕ) (on : Bool) (v : List Bool) → IsBlankFrom g n → g' ≡ record g { pass = set g.pass n on; visited = v } → IsBlankFrom g' (n + 1)
blank_past g g' n on v blank e k h = ap (λ (x : Grid). get_or x.pass k false) e ∙ get_or-set_other g.pass n k on false (apart k n h) ∙ blank k (omega arith)
  where
    apart : (k n : ℕ) → n + 1 ≤ k → k ≢ n
    apart k n h = omega arith

-- a plane that is off is blank
pub blank_all : (g : Grid) (n : ℕ) → g.pass ≡ replicate n false → IsBlankFrom g 0
blank_all g n e k h = ap (λ (xs : List Bool). get_or xs k false) e ∙ off n k
  where
    off : (n k : ℕ) → get_or (replicate n false) k false ≡ false
    off zero k = refl
    off (suc n) zero = refl
    off (suc n) (suc k) = off n k

-- ---- the next cell on a contour

-- the cells of row y before column x are traced, and the one there is on the contour
pub record IsFound (start : Grid) (frame : Frame) (limit : ℕ) (g : Grid) (size y x : ℕ) : Type 0 where
  pub traced : IsTraced start frame (on_contour (is_above start.frame start.clearances limit)) g size (y * frame.width + x)
  pub blank : IsBlankFrom g (y * frame.width + x)
  pub most : x ≤ frame.width
  pub on : x < frame.width → on_contour (is_above start.frame start.clearances limit) (cell_in frame x y) ≡ true

-- from column x on, where the columns before e aren't on it
pub found_row : (start g : Grid) (frame : Frame) (limit size x y e : ℕ) → IsTraced start frame (on_contour (is_above start.frame start.clearances limit)) g size (y * frame.width + x) → IsBlankFrom g (y * frame.width + x)
    → y < frame.height → x ≤ e → e ≤ g.frame.width → ((j : ℕ) → x ≤ j → j < e → is_on g limit j y ≡ false) → (e < g.frame.width → is_on g limit e y ≡ true) → IsFound start frame limit g size y e
found_row start g frame limit size x y e p blank yl low high passed found =
    let M = is_above start.frame start.clearances limit in
    let same_frame : g.frame ≡ frame = ap (λ (h : Grid). h.frame) p.rest ∙ sym p.same_frame in
    let same : (j : ℕ) → is_on g limit j y ≡ on_contour M (cell_in frame j y) =
    λ j. ap (λ (h : Grid). is_on h limit j y) p.rest ∙ ap (λ (f : Frame). on_contour M (cell_in f j y)) (sym p.same_frame) in
    let most = subst (λ (f : Frame). e ≤ f.width) same_frame high in
    record {
      traced = skip_to start g frame (on_contour M) size x y e p blank yl low most (λ j l h. sym (same j) ∙ passed j l h);
      blank = λ k h. blank k (further (y * frame.width) x e k low h);
      most = most;
      on = λ h. sym (same e) ∙ found (subst (λ (f : Frame). e < f.width) (sym same_frame) h);
    }
  where
    further : (r x e k : ℕ) → x ≤ e → r + e ≤ k → r + x ≤ k
    further r x e k h l = omega arith
