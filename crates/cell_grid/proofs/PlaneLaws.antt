-- the planes of a table of bytes after one byte is read or written
use Rattle.std.proofs.Common.{◌≡◌, ◌≢◌, ℕ, ◌<◌, ◌==◌, ◌+◌, ◌≤◌, cond, zero, suc, Bool, false, List, [], ◌∷◌, map, length, replicate, get_or, set, get_or-set_same, get_or-set_other, Some, inl, inr, refl, sym, ap, subst, ◌∙◌, arith}
use Rattle.std.proofs.Math.Seq.{map-set_same}
use Rattle.std.proofs.lemmas.List.{length-map, length-set, length-replicate, map-set, get_or-map, get_or-replicate, get_or_default, ext_get_or}
use Rattle.std.proofs.lemmas.Bool.{cases_eq}
use Rattle.board_base.specs.declared.places.Cell.{Cell}
use Rattle.cell_grid.specs.Place.{place_of, cells_of, scratch_of, cell_of_place}
use Rattle.cell_grid.specs.Cells.{number_in}
use Rattle.cell_grid.proofs.CellsLaws.{number_at_place}
use Rattle.std.specs.Int.{bit_at}
use Rattle.std.specs.List.{count_by}
use Rattle.std.proofs.lemmas.List.Sums.{sum_by-cons}
use Rattle.std.specs.Vec.{with_item}
use Rattle.cell_grid.specs.declared.bits.Plane.{Plane}
use Rattle.cell_grid.specs.declared.bits.Plane.TheVariants.{Kept, Allowed, Pass, Visited, Swept}
use Rattle.cell_grid.specs.declared.tables.Workbench.TheInside.{Inside}
use Rattle.cell_grid.specs.Grid.{Grid, plane_of, with_plane, IsSized, blank_of}
use Rattle.cell_grid.specs.PlaneBits.{bits_at, bit_number}
use Rattle.cell_grid.specs.Rows.{off_rows}
use Rattle.cell_grid.specs.Planes.{grid_of, IsWhole}

bits_at_read : (b : ℕ) (xs : List ℕ) (k : ℕ) → k < length xs → (bit_at (get_or xs k 0) b == 1) ≡ get_or (bits_at b xs) k false
unfolding bits_at
bits_at_read b xs k h = sym (get_or-map (λ (n : ℕ). bit_at n b == 1) xs k 0 false h)

pub plane_read : (w : Inside) (p : Plane) (k : ℕ) → k < length w.flags.items → (bit_at (get_or w.flags.items k 0) (bit_number p) == 1) ≡ get_or (plane_of (grid_of w) p) k false
plane_read w Kept k h = bits_at_read 0 w.flags.items k h
plane_read w Allowed k h = bits_at_read 1 w.flags.items k h
plane_read w Pass k h = bits_at_read 2 w.flags.items k h
plane_read w Visited k h = bits_at_read 3 w.flags.items k h
plane_read w Swept k h = bits_at_read 4 w.flags.items k h

pub changed : (b : ℕ) (xs : List ℕ) (k v : ℕ) (on : Bool) → (bit_at v b == 1) ≡ on → bits_at b (set xs k v) ≡ set (bits_at b xs) k on
unfolding bits_at
changed b xs k v on e = map-set (λ (n : ℕ). bit_at n b == 1) xs k v ∙ ap (λ (x : Bool). set (map (λ (n : ℕ). bit_at n b == 1) xs) k x) e

pub kept_so : (b : ℕ) (xs : List ℕ) (k v : ℕ) → bit_at v b ≡ bit_at (get_or xs k 0) b → bits_at b (set xs k v) ≡ bits_at b xs
unfolding bits_at
kept_so b xs k v e = map-set_same (λ (n : ℕ). bit_at n b == 1) xs k v 0 (ap (λ (x : ℕ). x == 1) e)

-- one byte is written, with one bit changed
pub plane_written : (w : Inside) (p : Plane) (k v : ℕ) (on : Bool) → (bit_at v (bit_number p) == 1) ≡ on
    → ((i : ℕ) → i < 8 → i ≢ bit_number p → bit_at v i ≡ bit_at (get_or w.flags.items k 0) i)
    → grid_of (record w { flags = with_item w.flags k v }) ≡ with_plane (grid_of w) p (set (plane_of (grid_of w) p) k on)
plane_written w Kept k v on e others =
    let xs = w.flags.items in
    cc (
      changed 0 xs k v on e,
      kept_so 1 xs k v (others 1 (omega arith) (omega arith)),
      kept_so 2 xs k v (others 2 (omega arith) (omega arith)),
      kept_so 3 xs k v (others 3 (omega arith) (omega arith)),
      kept_so 4 xs k v (others 4 (omega arith) (omega arith)),
    )
plane_written w Allowed k v on e others =
    let xs = w.flags.items in
    cc (
      changed 1 xs k v on e,
      kept_so 0 xs k v (others 0 (omega arith) (omega arith)),
      kept_so 2 xs k v (others 2 (omega arith) (omega arith)),
      kept_so 3 xs k v (others 3 (omega arith) (omega arith)),
      kept_so 4 xs k v (others 4 (omega arith) (omega arith)),
    )
plane_written w Pass k v on e others =
    let xs = w.flags.items in
    cc (
      changed 2 xs k v on e,
      kept_so 0 xs k v (others 0 (omega arith) (omega arith)),
      kept_so 1 xs k v (others 1 (omega arith) (omega arith)),
      kept_so 3 xs k v (others 3 (omega arith) (omega arith)),
      kept_so 4 xs k v (others 4 (omega arith) (omega arith)),
    )
plane_written w Visited k v on e others =
    let xs = w.flags.items in
    cc (
      changed 3 xs k v on e,
      kept_so 0 xs k v (others 0 (omega arith) (omega arith)),
      kept_so 1 xs k v (others 1 (omega arith) (omega arith)),
      kept_so 2 xs k v (others 2 (omega arith) (omega arith)),
      kept_so 4 xs k v (others 4 (omega arith) (omega arith)),
    )
plane_written w Swept k v on e others =
    let xs = w.flags.items in
    cc (
      changed 4 xs k v on e,
      kept_so 0 xs k v (others 0 (omega arith) (omega arith)),
      kept_so 1 xs k v (others 1 (omega arith) (omega arith)),
      kept_so 2 xs k v (others 2 (omega arith) (omega arith)),
      kept_so 3 xs k v (others 3 (omega arith) (omega arith)),
    )

-- a bit that is read, by its place
pub read_place : (w : Inside) (g : Grid) (p : Plane) (k n b : ℕ) (r : Bool) → grid_of w ≡ g → k < length w.flags.items
    → n ≡ get_or w.flags.items k n → b ≡ bit_number p → r ≡ (bit_at n b == 1) → r ≡ get_or (plane_of g p) k false
read_place w g p k n b r view below byte bit e =
    e ∙ ap (λ (x : ℕ). bit_at n x == 1) bit ∙ ap (λ (x : ℕ). bit_at x (bit_number p) == 1) (byte ∙ get_or_default w.flags.items k n 0 below) ∙ plane_read w p k below
    ∙ ap (λ (x : Grid). get_or (plane_of x p) k false) view

-- the bit at a place tells whether its cell is in the plane
pub place_read : (w : Inside) (g : Grid) (p : Plane) (k b : ℕ) (on : Bool) → grid_of w ≡ g → k < length w.flags.items → b ≡ bit_number p → (bit_at (get_or w.flags.items k 0) b == 1) ≡ on
    → get_or (plane_of g p) k false ≡ on
place_read w g p k b on view below bit e =
    sym (ap (λ (x : Grid). get_or (plane_of x p) k false) view) ∙ sym (plane_read w p k below) ∙ ap (λ (x : ℕ). bit_at (get_or w.flags.items k 0) x == 1) (sym bit) ∙ e

-- what `get` says, from what its steps gave
pub read_at : (w : Inside) (g : Grid) (p : Plane) (c : Cell) (k n b : ℕ) (r : Bool) → grid_of w ≡ g → k < length w.flags.items → k ≡ place_of w.frame c
    → n ≡ get_or w.flags.items k n → b ≡ bit_number p → r ≡ (bit_at n b == 1) → r ≡ get_or (plane_of g p) (place_of g.frame c) false
read_at w g p c k n b r view below place byte bit e =
    read_place w g p k n b r view below byte bit e ∙ ap (λ (x : ℕ). get_or (plane_of g p) x false) (place ∙ ap (λ (x : Grid). place_of x.frame c) view)

pub write_place : (w : Inside) (g : Grid) (p : Plane) (k n b v : ℕ) (on : Bool) → grid_of w ≡ g → k < length w.flags.items → n ≡ get_or w.flags.items k n → b ≡ bit_number p
    → (bit_at v b == 1) ≡ on → ((i : ℕ) → i < 8 → i ≢ b → bit_at v i ≡ bit_at n i) → grid_of (record w { flags = with_item w.flags k v }) ≡ with_plane g p (set (plane_of g p) k on)
write_place w g p k n b v on view below byte bit same others =
    let zero_default : n ≡ get_or w.flags.items k 0 = byte ∙ get_or_default w.flags.items k n 0 below in
    plane_written w p k v on (ap (λ (x : ℕ). bit_at v x == 1) (sym bit) ∙ same)
    (λ i h ne. others i h (λ e. ne (e ∙ bit)) ∙ ap (λ (x : ℕ). bit_at x i) zero_default)
    ∙ ap (λ (x : Grid). with_plane x p (set (plane_of x p) k on)) view

pub write_at : (w : Inside) (g : Grid) (p : Plane) (c : Cell) (k n b v : ℕ) (on : Bool) → grid_of w ≡ g → k < length w.flags.items → k ≡ place_of w.frame c
    → n ≡ get_or w.flags.items k n → b ≡ bit_number p → (bit_at v b == 1) ≡ on → ((i : ℕ) → i < 8 → i ≢ b → bit_at v i ≡ bit_at n i)
    → grid_of (record w { flags = with_item w.flags k v }) ≡ with_plane g p (set (plane_of g p) (place_of g.frame c) on)
write_at w g p c k n b v on view below place byte bit same others =
    write_place w g p k n b v on view below byte bit same others ∙ ap (λ (x : ℕ). with_plane g p (set (plane_of g p) x on)) (place ∙ ap (λ (x : Grid). place_of x.frame c) view)

bits_at_len : (b : ℕ) (xs : List ℕ) → length (bits_at b xs) ≡ length xs
unfolding bits_at
bits_at_len b xs = simp length-map

whole_sized : (w : Inside) → IsWhole w → IsSized (grid_of w)
whole_sized w h = record {
  kept = bits_at_len 0 w.flags.items ∙ h.flags;
  allowed = bits_at_len 1 w.flags.items ∙ h.flags;
  pass = bits_at_len 2 w.flags.items ∙ h.flags;
  visited = bits_at_len 3 w.flags.items ∙ h.flags;
  swept = bits_at_len 4 w.flags.items ∙ h.flags;
  labels = h.labels;
  clearances = h.clearances;
  works = h.works;
  scratch = h.scratch;
  put = h.put;
}

pub sized : (w : Inside) (g : Grid) → grid_of w ≡ g → IsWhole w → IsSized g
sized w g view h = subst IsSized view (whole_sized w h)

map-replicate : {A B : Type 0} (f : A → B) (n : ℕ) (x : A) → map f (replicate n x) ≡ replicate n (f x)
map-replicate f zero x = refl
map-replicate f (suc n) x = ap (λ ys. f x ∷ ys) (map-replicate f n x)

bits_at-replicate : (b n : ℕ) → bits_at b (replicate n 0) ≡ replicate n (bit_at 0 b == 1)
unfolding bits_at
bits_at-replicate b n = map-replicate (λ (x : ℕ). bit_at x b == 1) n 0

pub blank : (w : Inside) → w.flags.items ≡ replicate (cells_of w.frame) 0 → w.labels.items ≡ replicate (cells_of w.frame) 0
    → w.clearances.items ≡ replicate (cells_of w.frame) 4294967295 → w.works.items ≡ replicate (cells_of w.frame) 0
    → w.scratch.items ≡ replicate (scratch_of w.frame) 0 → w.queue ≡ record { waiting = []; put = 0; room = cells_of w.frame } → w.rows ≡ Some (off_rows w.frame.width) → grid_of w ≡ blank_of w.frame
blank w f l d k s q r =
    let n = cells_of w.frame in
    cc (f, l, d, k, s, q, r, bits_at-replicate 0 n, bits_at-replicate 1 n, bits_at-replicate 2 n, bits_at-replicate 3 n, bits_at-replicate 4 n)

-- ---- one bit of all bytes

-- the bit is cleared in the first n bytes, and no other bit has changed
pub record IsBitCleared (k : ℕ) (old new : List ℕ) (n : ℕ) : Type 0 where
  pub len : length new ≡ length old
  pub cleared : (j : ℕ) → j < n → (bit_at (get_or new j 0) k == 1) ≡ false
  pub others : (i j : ℕ) → i < 8 → i ≢ k → bit_at (get_or new j 0) i ≡ bit_at (get_or old j 0) i

pub none_cleared : (k : ℕ) (xs : List ℕ) (n : ℕ) → n ≡ 0 → IsBitCleared k xs xs n
none_cleared k xs n e = record { len = refl; cleared = λ j l. absurd (omega (arith, l, e)); others = λ i j l ne. refl }

pub one_cleared : (k : ℕ) (old new : List ℕ) (n v : ℕ) → IsBitCleared k old new n → n < length new → (bit_at v k == 1) ≡ false
    → ((i : ℕ) → i < 8 → i ≢ k → bit_at v i ≡ bit_at (get_or new n 0) i) → IsBitCleared k old (set new n v) (n + 1)
one_cleared k old new n v p inside off same = record {
  len = length-set new n v ∙ p.len;
  cleared = λ j l. elim (cases_eq j n) as (λ _. (bit_at (get_or (set new n v) j 0) k == 1) ≡ false) [
    | inl e ↦ ap (λ (x : ℕ). bit_at (get_or (set new n v) x 0) k == 1) e ∙ ap (λ (x : ℕ). bit_at x k == 1) (get_or-set_same new n v 0 inside) ∙ off
    | inr ne ↦ ap (λ (x : ℕ). bit_at x k == 1) (get_or-set_other new n j v 0 ne) ∙ p.cleared j (omega (arith, l, ne))
  ];
  others = λ i j l ne. elim (cases_eq j n) as (λ _. bit_at (get_or (set new n v) j 0) i ≡ bit_at (get_or old j 0) i) [
    | inl e ↦ ap (λ (x : ℕ). bit_at (get_or (set new n v) x 0) i) e ∙ ap (λ (x : ℕ). bit_at x i) (get_or-set_same new n v 0 inside) ∙ same i l ne ∙ p.others i n l ne ∙ ap (λ (x : ℕ). bit_at (get_or old x 0) i) (sym e)
    | inr other ↦ ap (λ (x : ℕ). bit_at x i) (get_or-set_other new n j v 0 other) ∙ p.others i j l ne
  ];
}

pub all_cleared : (k : ℕ) (old new : List ℕ) (n : ℕ) → IsBitCleared k old new n → length new ≤ n → bits_at k new ≡ replicate (length old) false
unfolding bits_at
all_cleared k old new n p all =
    ext_get_or false (map (λ (x : ℕ). bit_at x k == 1) new) (replicate (length old) false) (bits_len ∙ sym (length-replicate (length old) false))
    (λ j l. let j_in : j < length new = omega (arith, l, bits_len, p.len) in
    get_or-map (λ (x : ℕ). bit_at x k == 1) new j 0 false j_in ∙ p.cleared j (omega (arith, j_in, all)) ∙ sym (get_or-replicate (length old) j false false (omega (arith, j_in, p.len))))
  where
    bits_len : length (map (λ (x : ℕ). bit_at x k == 1) new) ≡ length old
    bits_len = simp length-map p.len

pub others_same : (k i : ℕ) (old new : List ℕ) (n : ℕ) → IsBitCleared k old new n → i < 8 → i ≢ k → bits_at i new ≡ bits_at i old
unfolding bits_at
others_same k i old new n p i_in ne =
    ext_get_or false (map (λ (x : ℕ). bit_at x i == 1) new) (map (λ (x : ℕ). bit_at x i == 1) old) (len new ∙ p.len ∙ sym (len old))
    (λ j l. let j_in : j < length new = omega (arith, l, len new) in
    get_or-map (λ (x : ℕ). bit_at x i == 1) new j 0 false j_in ∙ ap (λ (x : ℕ). x == 1) (p.others i j i_in ne) ∙ sym (get_or-map (λ (x : ℕ). bit_at x i == 1) old j 0 false (omega (arith, j_in, p.len))))
  where
    len : (xs : List ℕ) → length (map (λ (x : ℕ). bit_at x i == 1) xs) ≡ length xs
    len xs = simp length-map

-- ---- how many bytes have a bit

count_bits : (b : ℕ) (xs : List ℕ) → count_by (λ (n : ℕ). bit_at n b == 1) xs ≡ count_by (λ (on : Bool). on) (bits_at b xs)
unfolding bits_at
count_bits b [] = refl
count_bits b (x ∷ xs) =
    sum_by-cons (λ (n : ℕ). cond (bit_at n b == 1) 1 0) x xs ∙ ap (λ (m : ℕ). cond (bit_at x b == 1) 1 0 + m) (count_bits b xs)
    ∙ sym (sum_by-cons (λ (on : Bool). cond on 1 0) (bit_at x b == 1) (map (λ (n : ℕ). bit_at n b == 1) xs))

plane_bits : (w : Inside) (p : Plane) → bits_at (bit_number p) w.flags.items ≡ plane_of (grid_of w) p
plane_bits w Kept = refl
plane_bits w Allowed = refl
plane_bits w Pass = refl
plane_bits w Visited = refl
plane_bits w Swept = refl

pub plane_counted : (w : Inside) (g : Grid) (p : Plane) (n b : ℕ) → grid_of w ≡ g → b ≡ bit_number p → n ≡ count_by (λ (x : ℕ). bit_at x b == 1) w.flags.items → n ≡ count_by (λ (on : Bool). on) (plane_of g p)
plane_counted w g p n b view bit e =
    e ∙ ap (λ (k : ℕ). count_by (λ (x : ℕ). bit_at x k == 1) w.flags.items) bit ∙ count_bits (bit_number p) w.flags.items
    ∙ ap (count_by (λ (on : Bool). on)) (plane_bits w p) ∙ ap (λ (x : Grid). count_by (λ (on : Bool). on) (plane_of x p)) view

-- numbers that are small at each cell are small at each place
pub works_small : (w : Inside) (g : Grid) → grid_of w ≡ g → length w.works.items ≡ cells_of w.frame → ((c : Cell) → number_in g.frame 0 g.works c ≤ 65535)
    → (k d : ℕ) → k < length w.works.items → get_or w.works.items k d ≤ 65535
works_small w g view sized h k d l =
    let small = subst (λ (x : Grid). (c : Cell) → number_in x.frame 0 x.works c ≤ 65535) (sym view) h in
    subst (λ (n : ℕ). n ≤ 65535) (number_at_place w.frame 0 w.works.items k (omega (arith, l, sized)) ∙ get_or_default w.works.items k 0 d l) (small (cell_of_place w.frame k))
