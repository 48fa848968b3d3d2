-- What the clearances of a side's grid tell of a pass.
use Rattle.std.proofs.Common.{◌≡◌, ◌↔◌, ℕ, ◌<◌, ◌≤◌, ℤ, pos, ◌≤ℤ◌, ◌<ℤ◌, Bool, true, false, cond, List, map, Ok, sym, ap, subst, ◌∙◌, arith}
use Rattle.std.specs.Prelude.{nat_lt, slice_index, slice_index_or}
use Rattle.std.proofs.lemmas.Bool.{false≢true}
use Rattle.std.proofs.Math.ListN.{get_or-map}
use Rattle.number_laws.proofs.Tests.{by_bool}
use borrow.Author.Differences.{ints}
use Rattle.board_base.specs.declared.places.Cell.{Cell}
use Rattle.board_base.specs.Lattice.{dist2}
use Rattle.cell_sets.specs.Contour.{IsAllowed, IsContour}
use Rattle.cell_sets.specs.Clearance.{IsClearance}
use Rattle.cell_grid.specs.declared.frames.Frame.{Frame}
use Rattle.cell_grid.specs.Grid.{Grid}
use Rattle.cell_grid.specs.Place.{IsFrame, InFrame, place_of}
use Rattle.cell_grid.specs.Cells.{in_frame, in_plane, number_in, is_above, IsOnBorder}
use Rattle.contours.specs.Contour.{IsContourOf}
use Rattle.copper_cover.specs.Kept.{KeptLaw}
use Rattle.shape_parts.specs.declared.shape.Painted.{Painted}
pub use Rattle.chain_walk.proofs.RowSteps.{plane_inside}
use Rattle.mill_plan.specs.declared.cutting.Cutting.{Cutting}
use Rattle.mill_plan.specs.Cutting.{IsCutting, guard, kept_by}
use Rattle.mill_plan.specs.Frame.{IsFrameOf}
use Rattle.mill_plan.specs.Raster.{IsFarAtEdge}
use Rattle.mill_plan.specs.Passes.{IsSpacious, IsMeasured, IsSideGrid, IsBegun}
use Rattle.mill_plan.proofs.AllowedLaws.{HasClearances, clearances_of, above_allowed, allowed_above, border_above, contour_above, above_contour}
use Rattle.mill_plan.proofs.FrameLaws.{guard_small}
use Rattle.mill_plan.proofs.GuardLaws.{guard_le}
use Rattle.mill_plan.proofs.SideLaws.{same_test, edge_far}

nearer : (a b c : ℤ) → a ≤ℤ b → b <ℤ c → a <ℤ c
nearer a b c h k = omega (arith, ints)

-- what is far for a guard is far for a smaller one
pub far_for : (g h : ℤ) (kept : Cell → Bool) (f : Frame) → g ≤ℤ h → IsFarAtEdge h kept f → IsFarAtEdge g kept f
far_for g h kept f less far = record {
  inside = far.inside;
  border = λ c d edge on. nearer g h (dist2 c d) less (far.border c d edge on);
  outside = λ c d out on. nearer g h (dist2 c d) less (far.outside c d out on);
}

-- the frame of the image has room for all passes
pub spacious : (k : Cutting) (painted : List Painted) (g : Grid) → KeptLaw → IsFrame g.frame → IsFrameOf k painted (Ok g.frame) → ((c : Cell) → in_plane g.frame g.kept c ≡ kept_by k painted c) → IsSpacious k g
spacious k painted g law valid framed kept = record {
  far = subst (λ (t : Cell → Bool). IsFarAtEdge (guard k k.last) t g.frame) (sym (same_test (in_plane g.frame g.kept) (kept_by k painted) kept)) (edge_far k painted g.frame framed law);
  small = guard_small k painted g.frame framed valid;
}

module _ (k : Cutting) (g : Grid) (ok : IsCutting k) (space : IsSpacious k g) (measured : IsMeasured g) (pass n : ℕ) (early : pass ≤ k.last) (is : pos n ≡ guard k pass) where
  kept : Cell → Bool
  kept = in_plane g.frame g.kept

  last : pos n ≤ℤ guard k k.last
  last = subst (λ v. v ≤ℤ guard k k.last) (sym is) (guard_le k pass k.last ok early)

  far : IsFarAtEdge (pos n) (in_plane g.frame g.kept) g.frame
  far = far_for (pos n) (guard k k.last) (in_plane g.frame g.kept) g.frame last space.far

  small : (c : Cell) → in_frame g.frame c ≡ true → n < 4294967295
  small c inside = by n (guard k k.last) last (space.small c inside)
    where
      by : (n : ℕ) (g : ℤ) → pos n ≤ℤ g → g <ℤ pos 4294967295 → n < 4294967295
      by n g h k = omega (arith, ints)

  has : HasClearances (in_plane g.frame g.kept) g.frame g.clearances
  has = record { each = measured.each }

  pub above_is : (c : Cell) → is_above g.frame g.clearances n c ≡ true ↔ IsAllowed (in_plane g.frame g.kept) (guard k pass) c
  above_is c = (
    λ t. subst (λ v. IsAllowed (in_plane g.frame g.kept) v c) is (above_allowed (in_plane g.frame g.kept) g.frame g.clearances n small far has c t),
    λ a. allowed_above (in_plane g.frame g.kept) g.frame g.clearances n small far has c (subst (λ v. IsAllowed (in_plane g.frame g.kept) v c) (sym is) a),
  )

  pub contour_is : (c : Cell) → IsContourOf (is_above g.frame g.clearances n) c ↔ IsContour (in_plane g.frame g.kept) (guard k pass) c
  contour_is c = (
    λ t. subst (λ v. IsContour (in_plane g.frame g.kept) v c) is (contour_above (in_plane g.frame g.kept) g.frame g.clearances n small far has c t),
    λ a. above_contour (in_plane g.frame g.kept) g.frame g.clearances n small far has c (subst (λ v. IsContour (in_plane g.frame g.kept) v c) (sym is) a),
  )

  pub border_is : (c : Cell) → IsOnBorder g.frame c → is_above g.frame g.clearances n c ≡ true
  border_is c border = border_above (in_plane g.frame g.kept) g.frame g.clearances n small far has c border

-- ---- grids that have the same frame, kept cells and clearances

pub space_same : (k : Cutting) (a b : Grid) → b.frame ≡ a.frame → b.kept ≡ a.kept → IsSpacious k a → IsSpacious k b
space_same k a b frame kept s = subst (λ (g : Grid). IsSpacious k g) (sym way) (record { far = s.far; small = s.small })
  where
    way : b ≡ record b { frame = a.frame; kept = a.kept }
    way = λ i. record b { frame = frame i; kept = kept i }

pub measured_same : (a b : Grid) → b.frame ≡ a.frame → b.kept ≡ a.kept → b.clearances ≡ a.clearances → IsMeasured a → IsMeasured b
measured_same a b frame kept clearances m = subst IsMeasured (sym way) (record { each = m.each })
  where
    way : b ≡ record b { frame = a.frame; kept = a.kept; clearances = a.clearances }
    way = λ i. record b { frame = frame i; kept = kept i; clearances = clearances i }

pub side_same : (k : Cutting) (painted : List Painted) (a b : Grid) → b.frame ≡ a.frame → b.kept ≡ a.kept → b.clearances ≡ a.clearances → IsSideGrid k painted a → IsSideGrid k painted b
side_same k painted a b frame kept clearances s = record {
  framed = subst (λ (f : Frame). IsFrameOf k painted (Ok f)) (sym frame) s.framed;
  kept = subst (λ (g : Grid). (c : Cell) → in_plane g.frame g.kept c ≡ kept_by k painted c) (sym way) s.kept;
  spacious = space_same k a b frame kept s.spacious;
  measured = measured_same a b frame kept clearances s.measured;
}
  where
    way : b ≡ record b { frame = a.frame; kept = a.kept }
    way = λ i. record b { frame = frame i; kept = kept i }

pub begun_same : (k : Cutting) (painted : List Painted) (a b : Grid) → b.frame ≡ a.frame → b.kept ≡ a.kept → b.clearances ≡ a.clearances → b.pass ≡ a.pass → b.visited ≡ a.visited → IsBegun k painted a → IsBegun k painted b
begun_same k painted a b frame kept clearances pass visited s = record {
  side = side_same k painted a b frame kept clearances s.side;
  contour = subst (λ (g : Grid). (c : Cell) → in_plane g.frame g.pass c ≡ true ↔ IsContour (kept_by k painted) (guard k 0) c) (sym way) s.contour;
  visited = subst (λ (g : Grid). (c : Cell) → in_plane g.frame g.visited c ≡ in_plane g.frame g.pass c) (sym way) s.visited;
}
  where
    way : b ≡ record b { frame = a.frame; pass = a.pass; visited = a.visited }
    way = λ i. record b { frame = frame i; pass = pass i; visited = visited i }

-- ---- the grid once it is measured

pub measured_by : (a b : Grid) → b ≡ record a { clearances = b.clearances; scratch = b.scratch }
    → ((c : Cell) → InFrame a.frame c → IsClearance (in_plane a.frame a.kept) c (number_in a.frame 4294967295 b.clearances c)) → IsMeasured b
measured_by a b rest least = measured_same (record a { clearances = b.clearances }) b (ap (λ (g : Grid). g.frame) rest) (ap (λ (g : Grid). g.kept) rest) (λ i. b.clearances)
    (record { each = (clearances_of (in_plane a.frame a.kept) a.frame b.clearances least).each })

none_early : (last : ℕ) → 0 ≤ last
none_early last = omega arith

pub traced_border : (k : Cutting) (a b : Grid) (n : ℕ) → IsCutting k → IsSpacious k a → b ≡ record a { clearances = b.clearances; scratch = b.scratch }
    → ((c : Cell) → InFrame a.frame c → IsClearance (in_plane a.frame a.kept) c (number_in a.frame 4294967295 b.clearances c)) → pos n ≡ guard k 0
    → (c : Cell) → IsOnBorder b.frame c → is_above b.frame b.clearances n c ≡ true
traced_border k a b n ok space rest least is =
    border_is k b ok (space_same k a b (ap (λ (g : Grid). g.frame) rest) (ap (λ (g : Grid). g.kept) rest) space) (measured_by a b rest least) 0 n (none_early k.last) is

-- the contour of a pass, by the test of clearances
pub pass_contour : (k : Cutting) (g : Grid) (pass n : ℕ) (plane : List Bool) → IsCutting k → IsSpacious k g → IsMeasured g → pass ≤ k.last → pos n ≡ guard k pass
    → ((c : Cell) → in_plane g.frame plane c ≡ true ↔ IsContourOf (is_above g.frame g.clearances n) c) → (c : Cell) → in_plane g.frame plane c ≡ true ↔ IsContour (in_plane g.frame g.kept) (guard k pass) c
pass_contour k g pass n plane ok space measured early is contour c =
    let same = contour_is k g ok space measured pass n early is c in
    (λ t. same.0 ((contour c).0 t), λ h. (contour c).1 (same.1 h))

pub traced_contour : (k : Cutting) (a b : Grid) (n : ℕ) (plane : List Bool) → IsCutting k → IsSpacious k a → b ≡ record a { clearances = b.clearances; scratch = b.scratch }
    → ((c : Cell) → InFrame a.frame c → IsClearance (in_plane a.frame a.kept) c (number_in a.frame 4294967295 b.clearances c)) → pos n ≡ guard k 0
    → ((c : Cell) → in_plane b.frame plane c ≡ true ↔ IsContourOf (is_above b.frame b.clearances n) c) → (c : Cell) → in_plane a.frame plane c ≡ true ↔ IsContour (in_plane a.frame a.kept) (guard k 0) c
traced_contour k a b n plane ok space rest least is contour =
    let frame : b.frame ≡ a.frame = ap (λ (g : Grid). g.frame) rest in
    let kept : b.kept ≡ a.kept = ap (λ (g : Grid). g.kept) rest in
    let found = pass_contour k b 0 n plane ok (space_same k a b frame kept space) (measured_by a b rest least) (none_early k.last) is contour in
    subst (λ (f : Frame). (c : Cell) → in_plane f plane c ≡ true ↔ IsContour (in_plane f a.kept) (guard k 0) c) frame
    (subst (λ xs. (c : Cell) → in_plane b.frame plane c ≡ true ↔ IsContour (in_plane b.frame xs) (guard k 0) c) kept found)

-- the allowed cells of the frame, by the table of Allowed
pub plane_allowed : (k : Cutting) (g : Grid) (n : ℕ) (plane : List Bool) → IsCutting k → IsSpacious k g → IsMeasured g → pos n ≡ guard k 0 → plane ≡ map (λ m. nat_lt n m) g.clearances
    → (c : Cell) → in_plane g.frame plane c ≡ true ↔ ((in_frame g.frame c ≡ true) × IsAllowed (in_plane g.frame g.kept) (guard k 0) c)
plane_allowed k g n plane ok space measured is made c = by_bool (in_frame g.frame c) inside outside
  where
    above : is_above g.frame g.clearances n c ≡ true ↔ IsAllowed (in_plane g.frame g.kept) (guard k 0) c
    above = above_is k g ok space measured 0 n (none_early k.last) is c

    none_below : nat_lt n 0 ≡ false
    none_below = grind arith

    at : (i : ℕ) → slice_index_or (map (λ m. nat_lt n m) g.clearances) i false ≡ nat_lt n (slice_index g.clearances i)
    at i = subst (λ b. slice_index_or (map (λ m. nat_lt n m) g.clearances) i b ≡ nat_lt n (slice_index g.clearances i)) none_below (get_or-map (λ m. nat_lt n m) g.clearances i 0)

    cell_is : in_frame g.frame c ≡ true → in_plane g.frame plane c ≡ is_above g.frame g.clearances n c
    cell_is t =
        ap (λ b. cond b (slice_index_or plane (place_of g.frame c) false) false) t ∙ ap (λ xs. slice_index_or xs (place_of g.frame c) false) made ∙ at (place_of g.frame c)
        ∙ sym (ap (λ b. cond b (nat_lt n (slice_index g.clearances (place_of g.frame c))) true) t)

    inside : in_frame g.frame c ≡ true → in_plane g.frame plane c ≡ true ↔ ((in_frame g.frame c ≡ true) × IsAllowed (in_plane g.frame g.kept) (guard k 0) c)
    inside t = (λ e. (t, above.0 (sym (cell_is t) ∙ e)), λ a. cell_is t ∙ above.1 a.1)

    outside : in_frame g.frame c ≡ false → in_plane g.frame plane c ≡ true ↔ ((in_frame g.frame c ≡ true) × IsAllowed (in_plane g.frame g.kept) (guard k 0) c)
    outside t = ((λ e. absurd (false≢true (sym (ap (λ b. cond b (slice_index_or plane (place_of g.frame c) false) false) t) ∙ e))), (λ a. absurd (false≢true (sym t ∙ a.0))))
