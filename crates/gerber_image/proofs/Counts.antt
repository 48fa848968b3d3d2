-- How many vertices objects and contours have.
use Rattle.std.proofs.Common.{◌≡◌, refl, ℕ, zero, suc, ◌+◌, ◌*◌, ◌<◌, ◌≤◌, ◌^◌, pos, ℤ, List, [], ◌∷◌, ◌++◌, length, map, Bool, true, false, Option, Some, None, ap, sym, ◌∙◌, arith, nat_le, get_or, take, ◌⊎◌, inl, inr}
use Rattle.std.specs.Prelude.{if◌then◌else◌, nat_lt, is_none}
use Rattle.std.specs.List.{flat_map, range_with_len}
use Rattle.std.proofs.lemmas.List.{length-append, append-nil}
use Rattle.std.proofs.lemmas.List.Sums.{sum_by-cons, sum_by-append}
use Rattle.number_laws.proofs.Tests.{by_bool}
use Rattle.board_base.specs.declared.places.Point.{Point}
use Rattle.poly_area.specs.Area.{edges_along, loop_edges, edges_of}
use Rattle.shape_parts.specs.declared.shape.Part.{Part}
use Rattle.shape_parts.specs.declared.shape.Part.TheVariants.{Disc, Capsule, Area}
use Rattle.shape_parts.specs.declared.shape.Piece.{Piece}
use Rattle.shape_parts.specs.declared.shape.Painted.{Painted}
use Rattle.shape_parts.specs.Vertices.{part_vertices, vertices_of}
use Rattle.apertures.specs.Defined.{solid}
use Rattle.gerber_image.specs.Image.{shifted_point, shifted_part, shifted_piece, shifted, copy, copies_of, vertices_in}
use Rattle.gerber_image.specs.Objects.{capped, excess}
use Rattle.gerber_image.specs.Checks.{excess_of}
use Rattle.gerber_image.specs.State.{listed}
use Rattle.gerber_image.specs.Regions.{without_return, area_through, area_of}
use Rattle.gerber_image.specs.declared.refusal.GerberKind.{GerberKind}
use Rattle.gerber_image.specs.declared.refusal.GerberKind.TheVariants as kinds
use Rattle.gerber_image.specs.declared.repeat.Repeat.{Repeat}

-- ---- objects one after the other

pub vertices_of-append : (xs ys : List Piece) → vertices_of (xs ++ ys) ≡ vertices_of xs + vertices_of ys
vertices_of-append xs ys = sum_by-append (λ (q : Piece). part_vertices q.part) xs ys

pub vertices_in-append : (xs ys : List Painted) → vertices_in (xs ++ ys) ≡ vertices_in xs + vertices_in ys
vertices_in-append [] ys = omega arith
vertices_in-append (x ∷ xs) ys = omega (arith, vertices_in-append xs ys)

pub one_more : (xs : List Painted) (p : Painted) → vertices_in (xs ++ p ∷ []) ≡ vertices_in xs + vertices_of p.shape
one_more xs p = omega (arith, vertices_in-append xs (p ∷ []))

-- ---- copies have as many as their block

-- a count that goes by parts, over lists that have the same count each
pub count_more : {A : Type 0} (count : List A → ℕ) → count [] ≡ 0 → ((xs ys : List A) → count (xs ++ ys) ≡ count xs + count ys)
    → (f : ℕ → List A) (a n k : ℕ) → ((i : ℕ) → count (f i) ≡ k) → count (flat_map f (range_with_len a n)) ≡ n * k
count_more count none join f a zero k each = omega (arith, none)
count_more count none join f a (suc n) k each =
    join (f a) (flat_map f (range_with_len (a + 1) n)) ∙ omega (arith, each a, count_more count none join f (a + 1) n k each)

edges_shifted : (move : Point → Point) (u v : Point) (us : List Point) → length (edges_along (move u) (move v) (map move us)) ≡ length (edges_along u v us)
edges_shifted move u v [] = refl
edges_shifted move u v (w ∷ us) = omega (arith, edges_shifted move u w us)

loop_shifted : (move : Point → Point) (us : List Point) → length (loop_edges (map move us)) ≡ length (loop_edges us)
loop_shifted move [] = refl
loop_shifted move (u ∷ us) = edges_shifted move u u us

edges_of_shifted : (move : Point → Point) (loops : List (List Point)) → length (edges_of (map (map move) loops)) ≡ length (edges_of loops)
edges_of_shifted move [] = refl
edges_of_shifted move (us ∷ loops) =
    length-append (loop_edges (map move us)) (edges_of (map (map move) loops))
    ∙ omega (arith, loop_shifted move us, edges_of_shifted move loops, length-append (loop_edges us) (edges_of loops))

part_shifted : (dx dy : ℤ) (part : Part) → part_vertices (shifted_part dx dy part) ≡ part_vertices part
part_shifted dx dy (Disc c d) = refl
part_shifted dx dy (Capsule a b d) = refl
part_shifted dx dy (Area loops) = edges_of_shifted (shifted_point dx dy) loops

shape_shifted : (dx dy : ℤ) (shape : List Piece) → vertices_of (map (shifted_piece dx dy) shape) ≡ vertices_of shape
shape_shifted dx dy [] = refl
shape_shifted dx dy (p ∷ shape) =
    sum_by-cons (λ (q : Piece). part_vertices q.part) (shifted_piece dx dy p) (map (shifted_piece dx dy) shape)
    ∙ omega (arith, part_shifted dx dy p.part, shape_shifted dx dy shape, sum_by-cons (λ (q : Piece). part_vertices q.part) p shape)

block_shifted : (dx dy : ℤ) (block : List Painted) → vertices_in (map (shifted dx dy) block) ≡ vertices_in block
block_shifted dx dy [] = refl
block_shifted dx dy (p ∷ block) = omega (arith, shape_shifted dx dy p.shape, block_shifted dx dy block)

-- how many vertices the copies have
vertices_in_copies : (r : Repeat) (block : List Painted) → vertices_in (copies_of r block) ≡ r.columns * (r.rows * vertices_in block)
vertices_in_copies r block =
    count_more vertices_in refl vertices_in-append _ 0 r.columns (r.rows * vertices_in block)
    (λ i. count_more vertices_in refl vertices_in-append (copy r block i) 0 r.rows (vertices_in block)
    (λ j. block_shifted (pos (i * r.dx)) (pos (j * r.dy)) block))

-- ---- counts that stop at one more than an image may have

capped_past : (n : ℕ) → nat_lt (2 ^ 22) n ≡ true → capped n ≡ 4194305
capped_past n t = rw t refl

capped_within : (n : ℕ) → nat_lt (2 ^ 22) n ≡ false → capped n ≡ n
capped_within n f = rw f refl

-- a sum of counts may be made of capped ones
pub capped_plus : (a b : ℕ) → capped (capped a + b) ≡ capped (a + b)
capped_plus a b = by_bool (nat_lt (2 ^ 22) a)
    (λ t. ap (λ n. capped (n + b)) (capped_past a t) ∙ capped_past (4194305 + b) (grind arith) ∙ sym (capped_past (a + b) (grind (arith, t))))
    (λ f. ap (λ n. capped (n + b)) (capped_within a f))

-- so many times a count passes the limit where so many times the capped one does
times_capped : (v n b : ℕ) → 0 < n → nat_lt (2 ^ 22) (v + n * capped b) ≡ nat_lt (2 ^ 22) (v + n * b)
times_capped v n b some = by_bool (nat_lt (2 ^ 22) b)
    (λ t. ap (λ m. nat_lt (2 ^ 22) (v + n * m)) (capped_past b t) ∙ past (v + n * 4194305) (more n 4194305 some (omega arith)) ∙ sym (past (v + n * b) (more n b some (grind (arith, t)))))
    (λ f. ap (λ m. nat_lt (2 ^ 22) (v + n * m)) (capped_within b f))
  where
    past : (m : ℕ) → 4194304 < m → nat_lt (2 ^ 22) m ≡ true
    past m h = grind (arith, h)

    more : (n m : ℕ) → 0 < n → 4194304 < m → 4194304 < v + n * m
    more zero m some h = elim some [ ]
    more (suc n) m some h = omega (arith, h)

-- what there is too much of with the copies of a block
pub excess_copies : (painted block : List Painted) (r : Repeat) (objects : ℕ) → 0 < r.columns → 0 < r.rows → objects ≡ length (copies_of r block)
    → excess (length painted + objects) (vertices_in painted + r.columns * (r.rows * capped (vertices_in block))) ≡ excess (length (painted ++ copies_of r block)) (vertices_in (painted ++ copies_of r block))
excess_copies painted block r objects hc hr e =
    let vertices : vertices_in (painted ++ copies_of r block) ≡ vertices_in painted + (r.columns * r.rows) * vertices_in block =
    vertices_in-append painted (copies_of r block) ∙ omega (arith, vertices_in_copies r block) in
    let count : length (painted ++ copies_of r block) ≡ length painted + objects = length-append painted (copies_of r block) ∙ omega (arith, e) in
    let same : vertices_in painted + r.columns * (r.rows * capped (vertices_in block)) ≡ vertices_in painted + (r.columns * r.rows) * capped (vertices_in block) = omega arith in
    let tells = times_capped (vertices_in painted) (r.columns * r.rows) (vertices_in block) (some r.columns r.rows hc hr) in
    ap (excess (length painted + objects)) same
    ∙ ap (λ (b : Bool). if nat_lt (2 ^ 20) (length painted + objects) then Some kinds.TooManyObjects else if b then Some kinds.TooManyVertices else None) tells
    ∙ sym (ap (λ n. excess n (vertices_in (painted ++ copies_of r block))) count ∙ ap (excess (length painted + objects)) vertices)
  where
    some : (m n : ℕ) → 0 < m → 0 < n → 0 < m * n
    some zero n h k = elim h [ ]
    some (suc m) zero h k = elim k [ ]
    some (suc m) (suc n) h k = omega arith

-- ---- corners of contours

edges_count : (u v : Point) (us : List Point) → length (edges_along u v us) ≡ length us + 1
edges_count u v [] = refl
edges_count u v (w ∷ us) = omega (arith, edges_count u w us)

loop_count : (points : List Point) → length (loop_edges points) ≡ length points
loop_count [] = refl
loop_count (p ∷ points) = omega (arith, edges_count p p points)

one_loop : (points : List Point) → length (edges_of (points ∷ [])) ≡ length points
one_loop points = length-append (loop_edges points) [] ∙ omega (arith, loop_count points)

-- the corners of the area through some points
pub corners : (points : List Point) → vertices_of (area_through points) ≡ (if nat_le 3 (length points) then length points else 0)
corners points = by_bool (nat_le 3 (length points))
    (λ t. rw t (sum_by-cons (λ (q : Piece). part_vertices q.part) (solid (Area (points ∷ []))) [] ∙ omega (arith, one_loop points)))
    (λ f. rw f refl)

-- ---- contours one after the other

-- the corners of a contour
pub contour_corners : (contour points : List Point) (n : ℕ) → points ≡ contour → n ≡ length (without_return points) → 3 ≤ n → n ≡ vertices_of (area_of contour)
unfolding area_of
contour_corners contour points n e c h =
    let three : nat_le 3 (length (without_return contour)) ≡ true = rw (sym e, sym c) (grind (arith, h)) in
    let same : length (without_return contour) ≡ n = rw (sym e) (sym c) in
    sym (corners (without_return contour) ∙ ap (λ b. if b then length (without_return contour) else 0) three ∙ same)

-- the kept points of a contour whose area has few corners
pub few_points : (contour points : List Point) (n : ℕ) → points ≡ contour → n ≡ length (without_return points) → 3 ≤ n → vertices_of (area_of contour) ≤ 4194304 → length (take n points) ≤ 4194304
few_points contour points n e c h few =
    let count : n ≡ vertices_of (area_of contour) = contour_corners contour points n e c h in
    omega (arith, count, few, take_length n points)
  where
    take_length : {A : Type 0} (m : ℕ) (xs : List A) → length (take m xs) ≤ m
    take_length zero xs = omega arith
    take_length (suc m) [] = omega arith
    take_length (suc m) (x ∷ xs) = omega (arith, take_length m xs)

-- ---- what there is too much of

-- with one object more
pub one_excess : (painted : List Painted) (o : Painted) → excess (length painted + 1) (vertices_in painted + vertices_of o.shape) ≡ excess (length (painted ++ o ∷ [])) (vertices_in (painted ++ o ∷ []))
one_excess painted o =
    let objects : length (painted ++ o ∷ []) ≡ length painted + 1 = length-append painted (o ∷ []) in
    sym (ap (λ n. excess n (vertices_in (painted ++ o ∷ []))) objects ∙ ap (excess (length painted + 1)) (one_more painted o))

-- the count with one object more
pub pushed_count : (painted new : List Painted) (o : Painted) (old added sum : ℕ) → old ≡ capped (vertices_in painted) → added ≡ vertices_of o.shape → sum ≡ capped (old + added) → new ≡ painted ++ o ∷ [] → sum ≡ capped (vertices_in new)
pushed_count painted new o old added sum e a s n =
    s ∙ ap (λ m. capped (m + added)) e ∙ capped_plus (vertices_in painted) added ∙ ap (λ m. capped (vertices_in painted + m)) a
    ∙ sym (ap (λ l. capped (vertices_in l)) n ∙ ap capped (one_more painted o))

-- an object that is too much, or not
pub full_one : (painted : List Painted) (object : Painted) (given : Option Painted) (repeat : Option Repeat) (vertices : ℕ) (kind : GerberKind) (found : Option GerberKind)
    → given ≡ Some object → repeat ≡ None → vertices ≡ vertices_of object.shape → found ≡ excess (length painted + 1) (vertices_in painted + vertices) → found ≡ Some kind
    → excess_of (if is_none repeat then painted ++ listed given else painted) ≡ Some kind
full_one painted object given repeat vertices kind found g r v e f =
    rw (g, r) (sym (one_excess painted object) ∙ ap (λ n. excess (length painted + 1) (vertices_in painted + n)) (sym v) ∙ sym e ∙ f)

pub added_one : (painted block new : List Painted) (object : Painted) (given : Option Painted) (repeat : Option Repeat) (vertices : ℕ) (found : Option GerberKind)
    → given ≡ Some object → repeat ≡ None → vertices ≡ vertices_of object.shape → found ≡ excess (length painted + 1) (vertices_in painted + vertices) → found ≡ None → new ≡ painted ++ object ∷ []
    → (block ≡ (if is_none repeat then block else block ++ listed given)) × (new ≡ (if is_none repeat then painted ++ listed given else painted)) × (excess_of new ≡ None)
added_one painted block new object given repeat vertices found g r v e f n =
    rw (g, r) (refl, n, ap excess_of n ∙ sym (one_excess painted object) ∙ ap (λ m. excess (length painted + 1) (vertices_in painted + m)) (sym v) ∙ sym e ∙ f)

-- what there is too much of with a region
pub region_excess : (painted : List Painted) (contours : List (List Point)) (dark : Bool) (corners : ℕ) (found : Option GerberKind)
    → corners ≡ vertices_of (flat_map area_of contours) → found ≡ excess (length painted + 1) (vertices_in painted + corners)
    → excess_of (painted ++ record { shape = flat_map area_of contours; dark = dark } ∷ []) ≡ found
region_excess painted contours dark corners found v e =
    sym (one_excess painted (record { shape = flat_map area_of contours; dark = dark })) ∙ ap (λ n. excess (length painted + 1) (vertices_in painted + n)) (sym v) ∙ sym e

-- what isn't too much has few vertices
pub few_vertices : (objects vertices : ℕ) → excess objects vertices ≡ None → vertices ≤ 4194304
few_vertices objects vertices e = by_bool (nat_lt (2 ^ 20) objects)
    (λ t.
    let bad : ◌≡◌ {A = Option GerberKind} (Some kinds.TooManyObjects) None = sym (ap (λ b. if b then Some kinds.TooManyObjects else if nat_lt (2 ^ 22) vertices then Some kinds.TooManyVertices else None) t) ∙ e in
    absurd cc)
    (λ f.
    let rest : ◌≡◌ {A = Option GerberKind} (if nat_lt (2 ^ 22) vertices then Some kinds.TooManyVertices else None) None = sym (ap (λ b. if b then Some kinds.TooManyObjects else if nat_lt (2 ^ 22) vertices then Some kinds.TooManyVertices else None) f) ∙ e in
    by_bool (nat_lt (2 ^ 22) vertices)
    (λ t. let bad : ◌≡◌ {A = Option GerberKind} (Some kinds.TooManyVertices) None = sym (ap (λ b. if b then Some kinds.TooManyVertices else None) t) ∙ rest in absurd cc)
    (λ g. grind (arith, g)))

-- a contour has no more corners than all of them
pub one_contour : (contours : List (List Point)) (i : ℕ) (d : List Point) → i < length contours → vertices_of (area_of (get_or contours i d)) ≤ vertices_of (flat_map area_of contours)
one_contour [] i d h = absurd (omega (arith, h))
one_contour (c ∷ contours) zero d h = rw (vertices_of-append (area_of c) (flat_map area_of contours)) (omega arith)
one_contour (c ∷ contours) (suc i) d h = rw (vertices_of-append (area_of c) (flat_map area_of contours)) (omega (arith, one_contour contours i d (omega (arith, h))))

-- an object has no more vertices than all of them
pub one_object : (objects : List Painted) (i : ℕ) (d : Painted) → i < length objects → vertices_of (get_or objects i d).shape ≤ vertices_in objects
one_object [] i d h = absurd (omega (arith, h))
one_object (o ∷ objects) zero d h = omega arith
one_object (o ∷ objects) (suc i) d h = omega (arith, one_object objects i d (omega (arith, h)))

-- a block has no more vertices than what is painted with its copies
pub few_in_block : (painted block : List Painted) (r : Repeat) → 0 < r.columns → 0 < r.rows → excess_of (painted ++ copies_of r block) ≡ None → vertices_in block ≤ 4194304
few_in_block painted block r hc hr e =
    let few : vertices_in (painted ++ copies_of r block) ≤ 4194304 = few_vertices (length (painted ++ copies_of r block)) (vertices_in (painted ++ copies_of r block)) e in
    let all : vertices_in (painted ++ copies_of r block) ≡ vertices_in painted + r.columns * (r.rows * vertices_in block) = vertices_in-append painted (copies_of r block) ∙ ap (λ n. vertices_in painted + n) (vertices_in_copies r block) in
    omega (arith, few, all, times r.columns (r.rows * vertices_in block) hc, times r.rows (vertices_in block) hr)
  where
    times : (n m : ℕ) → 0 < n → m ≤ n * m
    times zero m h = elim h [ ]
    times (suc n) m h = omega arith

-- the count of an object of a block
pub block_object : (shape large : List Piece) (first sum some : ℕ) → some ≡ vertices_of large → first ≡ capped (0 + vertices_of shape) → sum ≡ capped (first + some) → sum ≡ capped (vertices_of (shape ++ large))
block_object shape large first sum some s f a =
    let all : 0 + vertices_of shape + some ≡ vertices_of (shape ++ large) = omega (arith, s, vertices_of-append shape large) in
    a ∙ ap (λ n. capped (n + some)) f ∙ capped_plus (0 + vertices_of shape) some
    ∙ ap capped all

-- the count with one object of a block more
pub block_more : (objects : List Painted) (o : Painted) (old added sum : ℕ) → old ≡ capped (vertices_in objects) → added ≡ capped (vertices_of o.shape) → sum ≡ capped (old + added) → sum ≡ capped (vertices_in (objects ++ o ∷ []))
block_more objects o old added sum e a s =
    let turned : vertices_in objects + capped (vertices_of o.shape) ≡ capped (vertices_of o.shape) + vertices_in objects = omega arith in
    let all : vertices_of o.shape + vertices_in objects ≡ vertices_in (objects ++ o ∷ []) = omega (arith, one_more objects o) in
    s ∙ ap (λ n. capped (n + added)) e ∙ capped_plus (vertices_in objects) added ∙ ap (λ n. capped (vertices_in objects + n)) a
    ∙ ap capped turned ∙ capped_plus (vertices_of o.shape) (vertices_in objects) ∙ ap capped all

-- the shape of an object of a block that has few vertices
pub small_shape : (shape : List Piece) (large : List (List Point)) → (large ≡ []) ⊎ (4194304 < vertices_of (flat_map area_of large)) → vertices_of (shape ++ flat_map area_of large) ≤ 4194304 → shape ≡ shape ++ flat_map area_of large
small_shape shape large (inl e) h = rw e (sym (append-nil shape))
small_shape shape large (inr m) h = absurd (omega (arith, m, h, vertices_of-append shape (flat_map area_of large)))
