-- What a shape touches lies in its rectangle.
use Rattle.std.proofs.Common.{◌≡◌, ℤ, pos, negsuc, ◌+ℤ◌, ◌-ℤ◌, ◌*ℤ◌, ◌≤ℤ◌, ◌<ℤ◌, int_lt, int_le, Bool, true, false, not, cond, ◌&&◌, List, [], ◌∷◌, ◌++◌, Option, Some, None, refl, ap, subst, ◌∙◌, arith}
use Rattle.std.proofs.lemmas.Int.{by_lt_z}
use Rattle.std.specs.List.{fold, list_any, AllByRecursion}
use Rattle.std.specs.Int.{int_min, int_max}
use borrow.Author.Differences.{ints}
use Rattle.number_laws.proofs.Ring.{var, add, sub, mul, ring}
use Rattle.number_laws.proofs.Order.{mul_nonneg, mul_pos, le_by, sub_nonneg, add_nonneg}
use Rattle.number_laws.proofs.Tests.{by_bool, to_le, to_lt, of_le, of_lt}
use Rattle.board_base.specs.declared.places.Point.{Point}
use Rattle.board_base.specs.Near.{near_of}
use Rattle.plane_geom.proofs.Axis.{reached_of, axis_low, axis_high, first_part, second_part}
use Rattle.board_base.specs.declared.places.Bounds.{Bounds}
use Rattle.poly_area.specs.declared.edges.Edge.{Edge}
use Rattle.poly_area.specs.Crossing.{is_left, toggles, xor}
use Rattle.poly_area.specs.Area.{edges_along, loop_edges, edges_of, odd_of, crosses, is_near, area_holds, area_near}
use Rattle.poly_area.proofs.AreaLaws.{odd_of-append}
use Rattle.shape_parts.specs.declared.shape.Part.{Part}
use Rattle.shape_parts.specs.declared.shape.Part.TheVariants.{Disc, Capsule, Area}
use Rattle.shape_parts.specs.declared.shape.Piece.{Piece}
use Rattle.shape_parts.specs.Parts.{twice, grown, part_touches, part_covers}
use Rattle.shape_parts.specs.Shapes.{shape_touches}
use Rattle.shape_parts.specs.Boxes.{half_up, around, hull, widened, part_box, piece_box}
use Rattle.shape_parts.specs.BoxLaw.{HasSquare, Has, BoxLaw}
use Rattle.shape_parts.proofs.Standing.{first_true, second_true, either}

-- ---- growing

widened_has : (r : ℤ) (w : Option Bounds) (p : Point) → Has (widened r w p) p r
unfolding around hull
widened_has r None p = record { west = at p.x r; east = up (p.x +ℤ r); south = at p.y r; north = up (p.y +ℤ r) }
  where
    at : (x r : ℤ) → ((x -ℤ r) +ℤ r) ≤ℤ x
    at x r = omega (arith, ints)

    up : (x : ℤ) → x ≤ℤ x
    up x = omega (arith, ints)
widened_has r (Some b) p = record { west = low b.x0 p.x r; east = high b.x1 p.x r; south = low b.y0 p.y r; north = high b.y1 p.y r }
  where
    low : (a x r : ℤ) → (int_min a (x -ℤ r) +ℤ r) ≤ℤ x
    low a x r = pick (int_lt (x -ℤ r) a) refl
      where
        pick : (t : Bool) → int_lt (x -ℤ r) a ≡ t → (cond t (x -ℤ r) a +ℤ r) ≤ℤ x
        pick true e = omega (arith, ints)
        pick false e = omega (arith, ints, e)

    high : (a x r : ℤ) → (x +ℤ r) ≤ℤ int_max a (x +ℤ r)
    high a x r = pick (int_lt (x +ℤ r) a) refl
      where
        pick : (t : Bool) → int_lt (x +ℤ r) a ≡ t → (x +ℤ r) ≤ℤ cond t a (x +ℤ r)
        pick true e = omega (arith, ints, e)
        pick false e = omega (arith, ints)

widened_keeps : (r : ℤ) (w : Option Bounds) (q p : Point) (s : ℤ) → Has w p s → Has (widened r w q) p s
unfolding around hull
widened_keeps r None q p s h = absurd h
widened_keeps r (Some b) q p s h = record { west = low b.x0 (q.x -ℤ r) p.x s h.west; east = high b.x1 (q.x +ℤ r) p.x s h.east; south = low b.y0 (q.y -ℤ r) p.y s h.south; north = high b.y1 (q.y +ℤ r) p.y s h.north }
  where
    low : (a m x s : ℤ) → (a +ℤ s) ≤ℤ x → (int_min a m +ℤ s) ≤ℤ x
    low a m x s h = pick (int_lt m a) refl
      where
        pick : (t : Bool) → int_lt m a ≡ t → (cond t m a +ℤ s) ≤ℤ x
        pick true e = omega (arith, ints, e, h)
        pick false e = h

    high : (a m x s : ℤ) → (x +ℤ s) ≤ℤ a → (x +ℤ s) ≤ℤ int_max a m
    high a m x s h = pick (int_lt m a) refl
      where
        pick : (t : Bool) → int_lt m a ≡ t → (x +ℤ s) ≤ℤ cond t a m
        pick true e = h
        pick false e = omega (arith, ints, e, h)

pick_has : (b : Bool) (v w : Option Bounds) (p : Point) (s : ℤ) → Has v p s → Has w p s → Has (cond b v w) p s
pick_has true v w p s h k = h
pick_has false v w p s h k = k

edges_keep : (es : List Edge) (w : Option Bounds) (p : Point) (s : ℤ) → Has w p s → Has (fold (λ b e. widened (pos 0) b e.from) w es) p s
edges_keep [] w p s h = h
edges_keep (e ∷ es) w p s h = edges_keep es (widened (pos 0) w e.from) p s (widened_keeps (pos 0) w e.from p s h)

part_keeps : (part : Part) (w : Option Bounds) (p : Point) (s : ℤ) → Has w p s → Has (part_box w part) p s
part_keeps (Disc c d) w p s h = pick_has (int_lt (pos 0) d) (widened (half_up d) w c) w p s (widened_keeps (half_up d) w c p s h) h
part_keeps (Capsule a b d) w p s h =
    pick_has (int_lt (pos 0) d) (widened (half_up d) (widened (half_up d) w a) b) w p s (widened_keeps (half_up d) (widened (half_up d) w a) b p s (widened_keeps (half_up d) w a p s h)) h
part_keeps (Area poly) w p s h = edges_keep (edges_of poly) w p s h

pieces_keep : (pieces : List Piece) (w : Option Bounds) (p : Point) (s : ℤ) → Has w p s → Has (fold piece_box w pieces) p s
pieces_keep [] w p s h = h
pieces_keep (x ∷ xs) w p s h = pieces_keep xs (piece_box w x) p s (pick_has x.on (part_box w x.part) w p s (part_keeps x.part w p s h) h)

-- ---- near a segment

-- a point near a segment with d + 2 h, where d is at most 2 r and the squares of r round the ends are in the rectangle
segment_in : (b : Bounds) (c p q : Point) (d h r : ℤ) → pos 0 ≤ℤ d → pos 0 ≤ℤ h → d ≤ℤ (pos 2 *ℤ r) → HasSquare b p r → HasSquare b q r → near_of c p q (grown d h) ≡ true → HasSquare b c (pos 0 -ℤ h)
unfolding grown
segment_in b c p q d h r d_in h_in wide hp hq n =
    let e = reached_of c p q (d +ℤ pos 2 *ℤ h) n in
    let far = sum_in d h d_in h_in in
    let x_in = first_part (e.n *ℤ (c.x -ℤ p.x) -ℤ e.m *ℤ (q.x -ℤ p.x)) (e.n *ℤ (c.y -ℤ p.y) -ℤ e.m *ℤ (q.y -ℤ p.y)) _ e.within in
    let y_in = second_part (e.n *ℤ (c.x -ℤ p.x) -ℤ e.m *ℤ (q.x -ℤ p.x)) (e.n *ℤ (c.y -ℤ p.y) -ℤ e.m *ℤ (q.y -ℤ p.y)) _ e.within in
    record {
      west = low b.x0 c.x d h r wide (axis_low e.m e.n (d +ℤ pos 2 *ℤ h) p.x q.x c.x (b.x0 +ℤ r) e.n_pos e.m_low e.m_high far x_in hp.west hq.west);
      east = high b.x1 c.x d h r wide (axis_high e.m e.n (d +ℤ pos 2 *ℤ h) p.x q.x c.x (b.x1 -ℤ r) e.n_pos e.m_low e.m_high far x_in (back p.x r b.x1 hp.east) (back q.x r b.x1 hq.east));
      south = low b.y0 c.y d h r wide (axis_low e.m e.n (d +ℤ pos 2 *ℤ h) p.y q.y c.y (b.y0 +ℤ r) e.n_pos e.m_low e.m_high far y_in hp.south hq.south);
      north = high b.y1 c.y d h r wide (axis_high e.m e.n (d +ℤ pos 2 *ℤ h) p.y q.y c.y (b.y1 -ℤ r) e.n_pos e.m_low e.m_high far y_in (back p.y r b.y1 hp.north) (back q.y r b.y1 hq.north));
    }
  where
    sum_in : (d h : ℤ) → pos 0 ≤ℤ d → pos 0 ≤ℤ h → pos 0 ≤ℤ (d +ℤ pos 2 *ℤ h)
    sum_in d h k l = omega (arith, ints)

    back : (x r b : ℤ) → (x +ℤ r) ≤ℤ b → x ≤ℤ (b -ℤ r)
    back x r b h = omega (arith, ints)

    low : (b c d h r : ℤ) → d ≤ℤ (pos 2 *ℤ r) → (pos 2 *ℤ (b +ℤ r)) ≤ℤ (pos 2 *ℤ c +ℤ (d +ℤ pos 2 *ℤ h)) → (b +ℤ (pos 0 -ℤ h)) ≤ℤ c
    low b c d h r k l = omega (arith, ints)

    high : (b c d h r : ℤ) → d ≤ℤ (pos 2 *ℤ r) → (pos 2 *ℤ c) ≤ℤ (pos 2 *ℤ (b -ℤ r) +ℤ (d +ℤ pos 2 *ℤ h)) → (c +ℤ (pos 0 -ℤ h)) ≤ℤ b
    high b c d h r k l = omega (arith, ints)

segment_has : (w : Option Bounds) (c p q : Point) (d h r : ℤ) → pos 0 ≤ℤ d → pos 0 ≤ℤ h → d ≤ℤ (pos 2 *ℤ r) → Has w p r → Has w q r → near_of c p q (grown d h) ≡ true → Has w c (pos 0 -ℤ h)
segment_has None c p q d h r d_in h_in wide hp hq n = absurd hp
segment_has (Some b) c p q d h r d_in h_in wide hp hq n = segment_in b c p q d h r d_in h_in wide hp hq n

half_wide : (d : ℤ) → pos 0 ≤ℤ d → d ≤ℤ (pos 2 *ℤ half_up d)
unfolding half_up
half_wide (pos n) h = omega (arith, ints)
half_wide (negsuc n) h = absurd (omega (arith, ints))

-- ---- an Area

-- both ends lie in the rectangle
record IsHeld (w : Option Bounds) (e : Edge) : Type 0 where
  from_in : Has w e.from (pos 0)
  to_in : Has w e.to (pos 0)

abbrev Froms : Option Bounds → List Edge → Type 0
Froms w [] = Unit {0}
Froms w (e ∷ es) = Has w e.from (pos 0) × Froms w es

abbrev Ends : Option Bounds → List Edge → Type 0
Ends w [] = Unit {0}
Ends w (e ∷ es) = IsHeld w e × Ends w es

froms : (w : Option Bounds) (es : List Edge) → Froms (fold (λ b e. widened (pos 0) b e.from) w es) es
froms w [] = tt
froms w (e ∷ es) = (edges_keep es (widened (pos 0) w e.from) e.from (pos 0) (widened_has (pos 0) w e.from), froms (widened (pos 0) w e.from) es)

froms_left : (w : Option Bounds) (xs ys : List Edge) → Froms w (xs ++ ys) → Froms w xs
froms_left w [] ys h = tt
froms_left w (x ∷ xs) ys h = (h.0, froms_left w xs ys h.1)

froms_right : (w : Option Bounds) (xs ys : List Edge) → Froms w (xs ++ ys) → Froms w ys
froms_right w [] ys h = h
froms_right w (x ∷ xs) ys h = froms_right w xs ys h.1

ends-append : (w : Option Bounds) (xs ys : List Edge) → Ends w xs → Ends w ys → Ends w (xs ++ ys)
ends-append w [] ys h k = k
ends-append w (x ∷ xs) ys h k = (h.0, ends-append w xs ys h.1 k)

ends_along : (w : Option Bounds) (f u : Point) (us : List Point) → Has w f (pos 0) → Froms w (edges_along f u us) → Ends w (edges_along f u us)
ends_along w f u [] p h = (record { from_in = h.0; to_in = p }, tt)
ends_along w f u (v ∷ []) p h = (record { from_in = h.0; to_in = h.1.0 }, ends_along w f v [] p h.1)
ends_along w f u (v ∷ x ∷ vs) p h = (record { from_in = h.0; to_in = h.1.0 }, ends_along w f v (x ∷ vs) p h.1)

ends_loop : (w : Option Bounds) (points : List Point) → Froms w (loop_edges points) → Ends w (loop_edges points)
ends_loop w [] h = tt
ends_loop w (u ∷ []) h = ends_along w u u [] h.0 h
ends_loop w (u ∷ v ∷ vs) h = ends_along w u u (v ∷ vs) h.0 h

ends_of : (w : Option Bounds) (loops : List (List Point)) → Froms w (edges_of loops) → Ends w (edges_of loops)
ends_of w [] h = tt
ends_of w (points ∷ loops) h =
    ends-append w (loop_edges points) (edges_of loops) (ends_loop w points (froms_left w (loop_edges points) (edges_of loops) h)) (ends_of w loops (froms_right w (loop_edges points) (edges_of loops) h))

zero_twice : (h : ℤ) → twice h ≡ grown (pos 0) h
unfolding twice grown
zero_twice h = omega (arith, ints)

-- near an edge
near_has : (w : Option Bounds) (c : Point) (h : ℤ) (es : List Edge) → pos 0 ≤ℤ h → Ends w es → list_any (is_near c (twice h)) es ≡ true → Has w c (pos 0 -ℤ h)
near_has w c h [] h_in k e = absurd (cc)
near_has w c h (x ∷ xs) h_in k e =
    either (is_near c (twice h) x) (list_any (is_near c (twice h)) xs) e
    (λ n. segment_has w c x.from x.to (pos 0) h (pos 0) (omega (arith, ints)) h_in (omega (arith, ints)) k.0.from_in k.0.to_in (subst (λ (d : ℤ). near_of c x.from x.to d ≡ true) (zero_twice h) n))
    (λ n. near_has w c h xs h_in k.1 n)

-- ---- what an Area holds lies in its rectangle

none_odd : (c : Point) (es : List Edge) → AllByRecursion (λ e. crosses c e ≡ false) es → odd_of (crosses c) es ≡ false
none_odd c [] h = refl
none_odd c (e ∷ es) h = rw h.0 (none_odd c es h.1)

left_out : (a b e f x y : ℤ) → b ≤ℤ y → y <ℤ f → x <ℤ a → x <ℤ e → is_left a b e f x y ≡ false
unfolding is_left
left_out a b e f x y low high p q =
    let A = var 0 in let B = var 1 in let E = var 2 in let F = var 3 in let X = var 4 in let Y = var 5 in
    of_lt ((e -ℤ a) *ℤ (y -ℤ b)) ((f -ℤ b) *ℤ (x -ℤ a))
    (by ((f -ℤ b) *ℤ (x -ℤ a)) ((e -ℤ x) *ℤ (y -ℤ b)) ((a -ℤ x) *ℤ (f -ℤ y)) ((e -ℤ a) *ℤ (y -ℤ b)) (mul_nonneg _ _ (gap_in x e q) (sub_nonneg b y low)) (mul_pos _ _ (gap_pos x a p) (gap_pos y f high))
    (ring (a ∷ b ∷ e ∷ f ∷ x ∷ y ∷ []) (mul (sub E A) (sub Y B)) (add (mul (sub F B) (sub X A)) (add (mul (sub E X) (sub Y B)) (mul (sub A X) (sub F Y)))) refl))
  where
    gap_in : (x e : ℤ) → x <ℤ e → pos 0 ≤ℤ (e -ℤ x)
    gap_in x e h = omega (arith, ints)

    gap_pos : (x e : ℤ) → x <ℤ e → pos 0 <ℤ (e -ℤ x)
    gap_pos x e h = omega (arith, ints)

    by : (s p q t : ℤ) → pos 0 ≤ℤ p → pos 0 <ℤ q → t ≡ s +ℤ (p +ℤ q) → s <ℤ t
    by s p q t h k e = omega (arith, ints)

left_in : (a b e f x y : ℤ) → b ≤ℤ y → y <ℤ f → a ≤ℤ x → e ≤ℤ x → is_left a b e f x y ≡ true
unfolding is_left
left_in a b e f x y low high p q =
    let A = var 0 in let B = var 1 in let E = var 2 in let F = var 3 in let X = var 4 in let Y = var 5 in
    of_le ((e -ℤ a) *ℤ (y -ℤ b)) ((f -ℤ b) *ℤ (x -ℤ a))
    (le_by _ _ ((x -ℤ e) *ℤ (y -ℤ b) +ℤ (x -ℤ a) *ℤ (f -ℤ y)) (add_nonneg _ _ (mul_nonneg _ _ (sub_nonneg e x q) (sub_nonneg b y low)) (mul_nonneg _ _ (sub_nonneg a x p) (sub_nonneg y f (weak y f high))))
    (ring (a ∷ b ∷ e ∷ f ∷ x ∷ y ∷ []) (mul (sub F B) (sub X A)) (add (mul (sub E A) (sub Y B)) (add (mul (sub X E) (sub Y B)) (mul (sub X A) (sub F Y)))) refl))
  where
    weak : (y f : ℤ) → y <ℤ f → y ≤ℤ f
    weak y f h = omega (arith, ints)

west_none : (c u v : Point) → c.x <ℤ u.x → c.x <ℤ v.x → toggles c u v ≡ false
unfolding toggles
west_none c u v p q =
    by_bool (int_le u.y c.y)
    (λ s. by_bool (int_le v.y c.y) (λ t. simp (s, t)) (λ t. simp (s, t) (left_out u.x u.y v.x v.y c.x c.y (to_le _ _ s) (to_lt _ _ t) p q)))
    (λ s. by_bool (int_le v.y c.y) (λ t. simp (s, t) (left_out v.x v.y u.x u.y c.x c.y (to_le _ _ t) (to_lt _ _ s) q p)) (λ t. simp (s, t)))

south_none : (c u v : Point) → c.y <ℤ u.y → c.y <ℤ v.y → toggles c u v ≡ false
unfolding toggles
south_none c u v p q = let s = of_lt u.y c.y p in let t = of_lt v.y c.y q in simp (s, t)

north_none : (c u v : Point) → u.y ≤ℤ c.y → v.y ≤ℤ c.y → toggles c u v ≡ false
unfolding toggles
north_none c u v p q = let s = of_le u.y c.y p in let t = of_le v.y c.y q in simp (s, t)

east_both : (c u v : Point) → u.x ≤ℤ c.x → v.x ≤ℤ c.x → toggles c u v ≡ xor (int_le u.y c.y) (int_le v.y c.y)
unfolding toggles
east_both c u v p q =
    by_bool (int_le u.y c.y)
    (λ s. by_bool (int_le v.y c.y) (λ t. simp (s, t)) (λ t. simp (s, t) (left_in u.x u.y v.x v.y c.x c.y (to_le _ _ s) (to_lt _ _ t) p q)))
    (λ s. by_bool (int_le v.y c.y) (λ t. simp (s, t) (left_in v.x v.y u.x u.y c.x c.y (to_le _ _ t) (to_lt _ _ s) q p)) (λ t. simp (s, t)))

module _ (b : Bounds) (c : Point) where
  sides : (P : Edge → Type 0) → ((e : Edge) → IsHeld (Some b) e → P e) → (es : List Edge) → Ends (Some b) es → AllByRecursion P es
  sides P f [] h = tt
  sides P f (e ∷ es) h = (f e h.0, sides P f es h.1)

  -- right of all ends, the tests of a loop cancel
  east_along : (f u : Point) (us : List Point) → b.x1 ≤ℤ c.x → Ends (Some b) (edges_along f u us) → odd_of (crosses c) (edges_along f u us) ≡ xor (int_le u.y c.y) (int_le f.y c.y)
  east_along f u [] far h = ap (λ (s : Bool). xor s false) (east_both c u f (reach u h.0.from_in) (reach f h.0.to_in)) ∙ plain (xor (int_le u.y c.y) (int_le f.y c.y))
    where
      reach : (p : Point) → HasSquare b p (pos 0) → p.x ≤ℤ c.x
      reach p k = by p.x b.x1 c.x k.east far
        where
          by : (p b c : ℤ) → (p +ℤ pos 0) ≤ℤ b → b ≤ℤ c → p ≤ℤ c
          by p b c h k = omega (arith, ints)

      plain : (s : Bool) → xor s false ≡ s
      plain true = refl
      plain false = refl
  east_along f u (v ∷ vs) far h =
      ap (λ (s : Bool). xor s (odd_of (crosses c) (edges_along f v vs))) (east_both c u v (reach u h.0.from_in) (reach v h.0.to_in))
      ∙ ap (xor (xor (int_le u.y c.y) (int_le v.y c.y))) (east_along f v vs far h.1)
      ∙ chain (int_le u.y c.y) (int_le v.y c.y) (int_le f.y c.y)
    where
      reach : (p : Point) → HasSquare b p (pos 0) → p.x ≤ℤ c.x
      reach p k = by p.x b.x1 c.x k.east far
        where
          by : (p b c : ℤ) → (p +ℤ pos 0) ≤ℤ b → b ≤ℤ c → p ≤ℤ c
          by p b c h k = omega (arith, ints)

      chain : (s t o : Bool) → xor (xor s t) (xor t o) ≡ xor s o
      chain true true true = refl
      chain true true false = refl
      chain true false true = refl
      chain true false false = refl
      chain false true true = refl
      chain false true false = refl
      chain false false true = refl
      chain false false false = refl

  east_loop : (points : List Point) → b.x1 ≤ℤ c.x → Ends (Some b) (loop_edges points) → odd_of (crosses c) (loop_edges points) ≡ false
  east_loop [] far h = refl
  east_loop (u ∷ us) far h = east_along u u us far h ∙ none (int_le u.y c.y)
    where
      none : (s : Bool) → xor s s ≡ false
      none true = refl
      none false = refl

  ends_left : (xs ys : List Edge) → Ends (Some b) (xs ++ ys) → Ends (Some b) xs
  ends_left [] ys h = tt
  ends_left (x ∷ xs) ys h = (h.0, ends_left xs ys h.1)

  ends_right : (xs ys : List Edge) → Ends (Some b) (xs ++ ys) → Ends (Some b) ys
  ends_right [] ys h = h
  ends_right (x ∷ xs) ys h = ends_right xs ys h.1

  east_none : (loops : List (List Point)) → b.x1 ≤ℤ c.x → Ends (Some b) (edges_of loops) → odd_of (crosses c) (edges_of loops) ≡ false
  east_none [] far h = refl
  east_none (points ∷ loops) far h =
      odd_of-append (crosses c) (loop_edges points) (edges_of loops)
      ∙ ap (λ (s : Bool). xor s (odd_of (crosses c) (edges_of loops))) (east_loop points far (ends_left (loop_edges points) (edges_of loops) h))
      ∙ east_none loops far (ends_right (loop_edges points) (edges_of loops) h)

  no_both : {P : Type 0} (s : Bool) → s ≡ true → s ≡ false → P
  no_both s e f = absurd (clash e f)
    where
      clash : {s : Bool} → s ≡ true → s ≡ false → ⊥
      clash e f = cc

  holds_in : (loops : List (List Point)) (h : ℤ) → pos 0 ≤ℤ h → Ends (Some b) (edges_of loops) → area_holds c loops ≡ true → HasSquare b c (pos 0 -ℤ h)
  holds_in loops h h_in k e = record {
    west =
        by_lt_z c.x b.x0
        (λ (l : c.x <ℤ b.x0). no_both (area_holds c loops) e (none_odd c (edges_of loops) (sides (λ x. crosses c x ≡ false) (λ x w. west_none c x.from x.to (before c.x b.x0 x.from.x l w.from_in.west) (before c.x b.x0 x.to.x l w.to_in.west)) (edges_of loops) k)))
        (λ (l : b.x0 ≤ℤ c.x). low b.x0 c.x h h_in l);
    east =
        by_lt_z b.x1 c.x
        (λ (l : b.x1 <ℤ c.x). no_both (area_holds c loops) e (east_none loops (weak b.x1 c.x l) k))
        (λ (l : c.x ≤ℤ b.x1). high b.x1 c.x h h_in l);
    south =
        by_lt_z c.y b.y0
        (λ (l : c.y <ℤ b.y0). no_both (area_holds c loops) e (none_odd c (edges_of loops) (sides (λ x. crosses c x ≡ false) (λ x w. south_none c x.from x.to (before c.y b.y0 x.from.y l w.from_in.south) (before c.y b.y0 x.to.y l w.to_in.south)) (edges_of loops) k)))
        (λ (l : b.y0 ≤ℤ c.y). low b.y0 c.y h h_in l);
    north =
        by_lt_z b.y1 c.y
        (λ (l : b.y1 <ℤ c.y). no_both (area_holds c loops) e (none_odd c (edges_of loops) (sides (λ x. crosses c x ≡ false) (λ x w. north_none c x.from x.to (beyond c.y b.y1 x.from.y l w.from_in.north) (beyond c.y b.y1 x.to.y l w.to_in.north)) (edges_of loops) k)))
        (λ (l : c.y ≤ℤ b.y1). high b.y1 c.y h h_in l);
  }
    where
      before : (c b p : ℤ) → c <ℤ b → (b +ℤ pos 0) ≤ℤ p → c <ℤ p
      before c b p h k = omega (arith, ints)

      beyond : (c b p : ℤ) → b <ℤ c → (p +ℤ pos 0) ≤ℤ b → p ≤ℤ c
      beyond c b p h k = omega (arith, ints)

      weak : (b c : ℤ) → b <ℤ c → b ≤ℤ c
      weak b c h = omega (arith, ints)

      low : (b c h : ℤ) → pos 0 ≤ℤ h → b ≤ℤ c → (b +ℤ (pos 0 -ℤ h)) ≤ℤ c
      low b c h k l = omega (arith, ints)

      high : (b c h : ℤ) → pos 0 ≤ℤ h → c ≤ℤ b → (c +ℤ (pos 0 -ℤ h)) ≤ℤ b
      high b c h k l = omega (arith, ints)

-- an Area that holds a point has an edge, so its rectangle is there
holds_has : (w : Option Bounds) (c : Point) (loops : List (List Point)) (h : ℤ) → pos 0 ≤ℤ h → Ends w (edges_of loops) → area_holds c loops ≡ true → Has w c (pos 0 -ℤ h)
holds_has (Some b) c loops h h_in k e = holds_in b c loops h h_in k e
holds_has None c loops h h_in k e = empty (edges_of loops) k e
  where
    empty : (es : List Edge) → Ends None es → odd_of (crosses c) es ≡ true → ⊥
    empty [] k e = cc
    empty (x ∷ xs) k e = k.0.from_in

-- ---- parts and shapes

boxed : (t : Bool) (v w : Option Bounds) (p : Point) (s : ℤ) → t ≡ true → Has v p s → Has (cond t v w) p s
boxed true v w p s e h = h
boxed false v w p s e h = absurd (cc)

part_in : (c : Point) (h : ℤ) (part : Part) (w : Option Bounds) → pos 0 ≤ℤ h → part_touches c h part ≡ true → Has (part_box w part) c (pos 0 -ℤ h)
part_in c h (Disc a d) w h_in e =
    let wide = first_true (int_lt (pos 0) d) (near_of c a a (grown d h)) e in
    let d_in : pos 0 ≤ℤ d = not_below d wide in
    let there = widened_has (half_up d) w a in
    boxed (int_lt (pos 0) d) (widened (half_up d) w a) w c (pos 0 -ℤ h) wide (segment_has (widened (half_up d) w a) c a a d h (half_up d) d_in h_in (half_wide d d_in) there there (second_true (int_lt (pos 0) d) (near_of c a a (grown d h)) e))
  where
    not_below : (d : ℤ) → int_lt (pos 0) d ≡ true → pos 0 ≤ℤ d
    not_below d e = omega (arith, ints)
part_in c h (Capsule a b d) w h_in e =
    let wide = first_true (int_lt (pos 0) d) (near_of c a b (grown d h)) e in
    let d_in : pos 0 ≤ℤ d = not_below d wide in
    let r = half_up d in
    let v = widened r (widened r w a) b in
    boxed (int_lt (pos 0) d) v w c (pos 0 -ℤ h) wide (segment_has v c a b d h r d_in h_in (half_wide d d_in) (widened_keeps r (widened r w a) b a r (widened_has r w a)) (widened_has r (widened r w a) b) (second_true (int_lt (pos 0) d) (near_of c a b (grown d h)) e))
  where
    not_below : (d : ℤ) → int_lt (pos 0) d ≡ true → pos 0 ≤ℤ d
    not_below d e = omega (arith, ints)
part_in c h (Area loops) w h_in e =
    let v = fold (λ b e. widened (pos 0) b e.from) w (edges_of loops) in
    let ends = ends_of v loops (froms w (edges_of loops)) in
    either (area_near c (twice h) loops) (area_holds c loops) e (λ n. near_has v c h (edges_of loops) h_in ends n) (λ n. holds_has v c loops h h_in ends n)

shape_in : (c : Point) (h : ℤ) (pieces : List Piece) (w : Option Bounds) → pos 0 ≤ℤ h → shape_touches c h pieces ≡ true → Has (fold piece_box w pieces) c (pos 0 -ℤ h)
shape_in c h [] w h_in e = absurd (cc)
shape_in c h (x ∷ xs) w h_in e =
    either ((x.on && part_touches c h x.part) && not (list_any (λ p. not p.on && part_covers c h p.part) xs)) (shape_touches c h xs) e
    (λ t.
    let s = first_true (x.on && part_touches c h x.part) (not (list_any (λ p. not p.on && part_covers c h p.part) xs)) t in
    pieces_keep xs (piece_box w x) c (pos 0 -ℤ h) (boxed x.on (part_box w x.part) w c (pos 0 -ℤ h) (first_true x.on (part_touches c h x.part) s) (part_in c h x.part w h_in (second_true x.on (part_touches c h x.part) s))))
    (λ t. shape_in c h xs (piece_box w x) h_in t)

pub box_law_holds : BoxLaw
box_law_holds c h pieces h_in e = shape_in c h pieces None h_in e
