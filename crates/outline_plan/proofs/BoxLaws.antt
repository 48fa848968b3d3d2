-- The rectangle round points depends on the points alone.
use Rattle.std.proofs.Common.{◌≡◌, zero, suc, ℤ, pos, ◌+ℤ◌, ◌-ℤ◌, ◌≤ℤ◌, int_lt, Bool, true, false, cond, ◌⊎◌, inl, inr, List, [], ◌∷◌, Option, Some, None, refl, sym, ap, ◌∙◌, arith}
use Rattle.std.specs.List.{Contains, fold}
use Rattle.std.specs.Int.{int_min, int_max}
use borrow.Author.Differences.{ints}
use Rattle.board_base.specs.declared.places.Point.{Point}
use Rattle.board_base.specs.declared.places.Bounds.{Bounds}
use Rattle.poly_area.specs.declared.edges.Edge.{Edge}
use Rattle.shape_parts.specs.Boxes.{around, hull, widened}

-- an edge leads from the point
pub record HasFrom (edges : List Edge) (p : Point) : Type 0 where
  pub edge : Edge
  pub there : Contains edges edge
  pub is : edge.from ≡ p

-- ---- along one axis

-- the least value at the points, and the greatest
record IsLeast (P : Point → Type 0) (f : Point → ℤ) (m : ℤ) : Type 0 where
  below : (p : Point) → P p → m ≤ℤ f p
  point : Point
  there : P point
  reached : f point ≡ m

record IsGreatest (P : Point → Type 0) (f : Point → ℤ) (m : ℤ) : Type 0 where
  above : (p : Point) → P p → f p ≤ℤ m
  point : Point
  there : P point
  reached : f point ≡ m

least_one : (P : Point → Type 0) (f : Point → ℤ) (m n : ℤ) → IsLeast P f m → IsLeast P f n → m ≡ n
least_one P f m n h k = by m n (f k.point) (f h.point) (h.below k.point k.there) k.reached (k.below h.point h.there) h.reached
  where
    by : (m n a b : ℤ) → m ≤ℤ a → a ≡ n → n ≤ℤ b → b ≡ m → m ≡ n
    by m n a b h e k g = omega (arith, ints)

greatest_one : (P : Point → Type 0) (f : Point → ℤ) (m n : ℤ) → IsGreatest P f m → IsGreatest P f n → m ≡ n
greatest_one P f m n h k = by m n (f k.point) (f h.point) (h.above k.point k.there) k.reached (k.above h.point h.there) h.reached
  where
    by : (m n a b : ℤ) → a ≤ℤ m → a ≡ n → b ≤ℤ n → b ≡ m → m ≡ n
    by m n a b h e k g = omega (arith, ints)

-- the points of a kind, and one more
abbrev Or : (Point → Type 0) → Point → Point → Type 0
Or P q p = P p ⊎ (q ≡ p)

least_more : (P : Point → Type 0) (f : Point → ℤ) (m : ℤ) (q : Point) → IsLeast P f m → IsLeast (Or P q) f (int_min m (f q -ℤ pos 0))
least_more P f m q h = pick (int_lt (f q -ℤ pos 0) m) refl
  where
    under : (a b : ℤ) → a ≡ b → a ≤ℤ b
    under a b e = omega (arith, ints)

    even : (a : ℤ) → a ≡ a -ℤ pos 0
    even a = omega (arith, ints)

    lower : (a b c : ℤ) → int_lt (a -ℤ pos 0) b ≡ true → b ≤ℤ c → (a -ℤ pos 0) ≤ℤ c
    lower a b c e k = omega (arith, ints, e, k)

    higher : (a b c : ℤ) → int_lt (a -ℤ pos 0) b ≡ false → a ≡ c → b ≤ℤ c
    higher a b c e k = omega (arith, ints, e, k)

    less : (a c : ℤ) → a ≡ c → (a -ℤ pos 0) ≤ℤ c
    less a c k = omega (arith, ints)

    pick : (t : Bool) → int_lt (f q -ℤ pos 0) m ≡ t → IsLeast (Or P q) f (cond t (f q -ℤ pos 0) m)
    pick true e = record {
      below = λ p o. elim o as (λ _. (f q -ℤ pos 0) ≤ℤ f p) [
        | inl there ↦ lower (f q) m (f p) e (h.below p there)
        | inr is ↦ less (f q) (f p) (ap f is)
      ];
      point = q;
      there = inr refl;
      reached = even (f q);
    }
    pick false e = record {
      below = λ p o. elim o as (λ _. m ≤ℤ f p) [
        | inl there ↦ h.below p there
        | inr is ↦ higher (f q) m (f p) e (ap f is)
      ];
      point = h.point;
      there = inl h.there;
      reached = h.reached;
    }

greatest_more : (P : Point → Type 0) (f : Point → ℤ) (m : ℤ) (q : Point) → IsGreatest P f m → IsGreatest (Or P q) f (int_max m (f q +ℤ pos 0))
greatest_more P f m q h = pick (int_lt (f q +ℤ pos 0) m) refl
  where
    even : (a : ℤ) → a ≡ a +ℤ pos 0
    even a = omega (arith, ints)

    lower : (a b c : ℤ) → int_lt (a +ℤ pos 0) b ≡ true → a ≡ c → c ≤ℤ b
    lower a b c e k = omega (arith, ints, e, k)

    higher : (a b c : ℤ) → int_lt (a +ℤ pos 0) b ≡ false → c ≤ℤ b → c ≤ℤ (a +ℤ pos 0)
    higher a b c e k = omega (arith, ints, e, k)

    more : (a c : ℤ) → a ≡ c → c ≤ℤ (a +ℤ pos 0)
    more a c k = omega (arith, ints)

    pick : (t : Bool) → int_lt (f q +ℤ pos 0) m ≡ t → IsGreatest (Or P q) f (cond t m (f q +ℤ pos 0))
    pick true e = record {
      above = λ p o. elim o as (λ _. f p ≤ℤ m) [
        | inl there ↦ h.above p there
        | inr is ↦ lower (f q) m (f p) e (ap f is)
      ];
      point = h.point;
      there = inl h.there;
      reached = h.reached;
    }
    pick false e = record {
      above = λ p o. elim o as (λ _. f p ≤ℤ (f q +ℤ pos 0)) [
        | inl there ↦ higher (f q) m (f p) e (h.above p there)
        | inr is ↦ more (f q) (f p) (ap f is)
      ];
      point = q;
      there = inr refl;
      reached = even (f q);
    }

-- ---- rectangles

abbrev x_of : Point → ℤ
x_of p = p.x

abbrev y_of : Point → ℤ
y_of p = p.y

-- the least rectangle round the points of a kind
record IsBox (P : Point → Type 0) (b : Bounds) : Type 0 where
  west : IsLeast P x_of b.x0
  south : IsLeast P y_of b.y0
  east : IsGreatest P x_of b.x1
  north : IsGreatest P y_of b.y1

-- none where there is no point
abbrev IsBoxOr : (Point → Type 0) → Option Bounds → Type 0
IsBoxOr P None = (p : Point) → P p → ⊥
IsBoxOr P (Some b) = IsBox P b

one_box : (P : Point → Type 0) (a b : Option Bounds) → IsBoxOr P a → IsBoxOr P b → a ≡ b
one_box P None None h k = refl
one_box P None (Some b) h k = absurd (h k.west.point k.west.there)
one_box P (Some a) None h k = absurd (k h.west.point h.west.there)
one_box P (Some a) (Some b) h k =
    let x0 = least_one P x_of a.x0 b.x0 h.west k.west in
    let y0 = least_one P y_of a.y0 b.y0 h.south k.south in
    let x1 = greatest_one P x_of a.x1 b.x1 h.east k.east in
    let y1 = greatest_one P y_of a.y1 b.y1 h.north k.north in
    λ t. Some (record { x0 = x0 t; y0 = y0 t; x1 = x1 t; y1 = y1 t })

module _ (P Q : Point → Type 0) (to : (p : Point) → P p → Q p) (back : (p : Point) → Q p → P p) where
  least_same : (f : Point → ℤ) (m : ℤ) → IsLeast P f m → IsLeast Q f m
  least_same f m h = record { below = λ p q. h.below p (back p q); point = h.point; there = to h.point h.there; reached = h.reached }

  greatest_same : (f : Point → ℤ) (m : ℤ) → IsGreatest P f m → IsGreatest Q f m
  greatest_same f m h = record { above = λ p q. h.above p (back p q); point = h.point; there = to h.point h.there; reached = h.reached }

  box_same : (box : Option Bounds) → IsBoxOr P box → IsBoxOr Q box
  box_same None h = λ p q. h p (back p q)
  box_same (Some b) h = record { west = least_same x_of b.x0 h.west; south = least_same y_of b.y0 h.south; east = greatest_same x_of b.x1 h.east; north = greatest_same y_of b.y1 h.north }

box_more : (P : Point → Type 0) (box : Option Bounds) (q : Point) → IsBoxOr P box → IsBoxOr (Or P q) (widened (pos 0) box q)
unfolding around hull
box_more P None q none = record { west = least q.x x_of refl; south = least q.y y_of refl; east = greatest q.x x_of refl; north = greatest q.y y_of refl }
  where
    down : (a b : ℤ) → a ≡ b → (a -ℤ pos 0) ≤ℤ b
    down a b e = omega (arith, ints)

    up : (a b : ℤ) → a ≡ b → b ≤ℤ (a +ℤ pos 0)
    up a b e = omega (arith, ints)

    level : (a b : ℤ) → b ≡ a → b ≡ a -ℤ pos 0
    level a b e = omega (arith, ints)

    level_up : (a b : ℤ) → b ≡ a → b ≡ a +ℤ pos 0
    level_up a b e = omega (arith, ints)

    least : (v : ℤ) (f : Point → ℤ) → f q ≡ v → IsLeast (Or P q) f (v -ℤ pos 0)
    least v f e = record {
      below = λ p o. elim o as (λ _. (v -ℤ pos 0) ≤ℤ f p) [
        | inl there ↦ absurd (none p there)
        | inr is ↦ down v (f p) (sym e ∙ ap f is)
      ];
      point = q;
      there = inr refl;
      reached = level v (f q) e;
    }

    greatest : (v : ℤ) (f : Point → ℤ) → f q ≡ v → IsGreatest (Or P q) f (v +ℤ pos 0)
    greatest v f e = record {
      above = λ p o. elim o as (λ _. f p ≤ℤ (v +ℤ pos 0)) [
        | inl there ↦ absurd (none p there)
        | inr is ↦ up v (f p) (sym e ∙ ap f is)
      ];
      point = q;
      there = inr refl;
      reached = level_up v (f q) e;
    }
box_more P (Some b) q h = record {
  west = least_more P x_of b.x0 q h.west;
  south = least_more P y_of b.y0 q h.south;
  east = greatest_more P x_of b.x1 q h.east;
  north = greatest_more P y_of b.y1 q h.north;
}

-- the rectangle grown by the points from which edges lead
abbrev pub grown_by : Option Bounds → List Edge → Option Bounds
grown_by box edges = fold (λ b e. widened (pos 0) b e.from) box edges

box_grown : (P : Point → Type 0) (box : Option Bounds) (edges : List Edge) → IsBoxOr P box → IsBoxOr (λ p. P p ⊎ HasFrom edges p) (grown_by box edges)
box_grown P box [] h = box_same P (λ p. P p ⊎ HasFrom [] p) (λ p there. inl there) (λ p o. (elim o as (λ _. P p) [
  | inl there ↦ there
  | inr from ↦ absurd (let l = (from.there).1 in omega (arith, l))
])) box h
box_grown P box (e ∷ edges) h =
    box_same (λ p. Or P e.from p ⊎ HasFrom edges p) (λ p. P p ⊎ HasFrom (e ∷ edges) p)
    (λ p o. (elim o as (λ _. P p ⊎ HasFrom (e ∷ edges) p) [
      | inl first ↦ elim first as (λ _. P p ⊎ HasFrom (e ∷ edges) p) [
        | inl there ↦ inl there
        | inr is ↦ inr (record { edge = e; there = (0, omega arith, refl); is = is })
      ]
      | inr from ↦ inr (later p from)
    ]))
    (λ p o. (elim o as (λ _. Or P e.from p ⊎ HasFrom edges p) [
      | inl there ↦ inl (inl there)
      | inr from ↦ earlier p from.edge from.there from.is
    ]))
    (grown_by (widened (pos 0) box e.from) edges) (box_grown (Or P e.from) (widened (pos 0) box e.from) edges (box_more P box e.from h))
  where
    later : (p : Point) → HasFrom edges p → HasFrom (e ∷ edges) p
    later p from = record { edge = from.edge; there = (let m = from.there in (suc m.0, omega (arith, m.1), m.2)); is = from.is }

    earlier : (p : Point) (f : Edge) → Contains (e ∷ edges) f → f.from ≡ p → Or P e.from p ⊎ HasFrom edges p
    earlier p f (zero, inside, here) is = inl (inr (ap (λ (g : Edge). g.from) here ∙ is))
    earlier p f (suc k, inside, here) is = inr (record { edge = f; there = (k, omega (arith, inside), here); is = is })

-- edges that lead from the same points have one rectangle
pub same_box : (es fs : List Edge) → ((p : Point) → HasFrom es p → HasFrom fs p) → ((p : Point) → HasFrom fs p → HasFrom es p) → grown_by None es ≡ grown_by None fs
same_box es fs to back =
    one_box (λ p. None_of p ⊎ HasFrom fs p) (grown_by None es) (grown_by None fs)
    (box_same (λ p. None_of p ⊎ HasFrom es p) (λ p. None_of p ⊎ HasFrom fs p) (λ p o. (elim o as (λ _. None_of p ⊎ HasFrom fs p) [
      | inl none ↦ inl none
      | inr from ↦ inr (to p from)
    ])) (λ p o. (elim o as (λ _. None_of p ⊎ HasFrom es p) [
      | inl none ↦ inl none
      | inr from ↦ inr (back p from)
    ])) (grown_by None es) (box_grown None_of None es (λ p none. none)))
    (box_grown None_of None fs (λ p none. none))
  where
    None_of : Point → Type 0
    None_of p = ⊥
