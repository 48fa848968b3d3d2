-- Copies of points, cells and moves: what is near one another stays so.
use Rattle.std.proofs.Common.{◌≡◌, ℕ, zero, suc, ℤ, pos, negsuc, neg_ℤ, ◌+ℤ◌, ◌-ℤ◌, ◌*ℤ◌, ◌≤ℤ◌, ◌<ℤ◌, [], ◌∷◌, refl, sym, ap, ◌∙◌, arith}
use Rattle.std.specs.Int.{int_div_euclid}
use Rattle.std.proofs.lemmas.Int.{by_lt_z}
use borrow.Author.Differences.{ints}
use Rattle.number_laws.proofs.Laws.{mul_assoc, minus_one_mul}
use Rattle.number_laws.proofs.Ring.{var, num, add, mul, ring}
use Rattle.number_laws.proofs.Order.{mul_le_left}
use Rattle.number_laws.proofs.Quotients.{rounded_low, rounded_high}
use Rattle.board_base.specs.declared.places.Cell.{Cell}
use Rattle.board_base.specs.declared.places.Point.{Point}
use Rattle.board_base.specs.declared.places.Pos.{Pos}
use Rattle.board_base.specs.declared.places.Move.{Move}
use Rattle.board_base.specs.Lattice.{half_of, middle, centre_of, cell_of, IsBeside}
use Rattle.board_base.specs.Near.{from_to, near_vec, near_of}
use Rattle.cell_sets.specs.Chains.{Chain, IsLinkedOver}
use Rattle.rs274_sim.specs.Cutter.{nanometre, scaled, under, width_of, Sweeps}
use Rattle.tiling.specs.Copies.{Tile, shift_in, cell_in, point_in, pos_in, move_in, back}

-- ---- the way back

there_back : (x s : ℤ) → (x +ℤ s) +ℤ neg_ℤ s ≡ x
there_back x s = omega (arith, ints)

back_there : (x s : ℤ) → (x +ℤ neg_ℤ s) +ℤ s ≡ x
back_there x s = omega (arith, ints)

-- a point's copy, moved back, is the point
pub point_back : (by q : Point) → point_in (back by) (point_in by q) ≡ q
point_back by q i = record { x = there_back q.x by.x i; y = there_back q.y by.y i }

pub point_there : (by q : Point) → point_in by (point_in (back by) q) ≡ q
point_there by q i = record { x = back_there q.x by.x i; y = back_there q.y by.y i }

-- the tile as far to the other side
abbrev pub back_tile : Tile → Tile
back_tile t = record { east = neg_ℤ t.east; north = neg_ℤ t.north }

pub cell_back : (t : Tile) (c : Cell) → cell_in (back_tile t) (cell_in t c) ≡ c
cell_back t c i = record { i = there_back c.i t.east i; j = there_back c.j t.north i }

pub cell_there : (t : Tile) (c : Cell) → cell_in t (cell_in (back_tile t) c) ≡ c
cell_there t c i = record { i = back_there c.i t.east i; j = back_there c.j t.north i }

pub back_shift : (p : ℤ) (t : Tile) → shift_in p (back_tile t) ≡ back (shift_in p t)
back_shift p t = λ i. record { x = by t.east i; y = by t.north i }
  where
    by : (e : ℤ) → neg_ℤ e *ℤ p ≡ neg_ℤ (e *ℤ p)
    by e = ap (λ (z : ℤ). z *ℤ p) (sym (minus_one_mul e)) ∙ mul_assoc (negsuc 0) e p ∙ minus_one_mul (e *ℤ p)

-- ---- points near segments

moved_way : (a b s : ℤ) → from_to (a +ℤ s) (b +ℤ s) ≡ from_to a b
unfolding from_to
moved_way a b s = omega (arith, ints)

-- what is near a segment stays near when both are copied
pub near_copied : (by q a b : Point) (d : ℤ) → near_of (point_in by q) (point_in by a) (point_in by b) d ≡ near_of q a b d
unfolding near_of
near_copied by q a b d = λ i.
    near_vec (moved_way a.x b.x by.x i) (moved_way a.y b.y by.y i) (moved_way a.x q.x by.x i) (moved_way a.y q.y by.y i) (moved_way b.x q.x by.x i) (moved_way b.y q.y by.y i) d

scaled_copy : (by q : Point) → scaled (point_in by q) ≡ point_in (scaled by) (scaled q)
unfolding scaled
scaled_copy by q = λ i. record { x = sum q.x by.x i; y = sum q.y by.y i }
  where
    sum : (x s : ℤ) → (x +ℤ s) *ℤ nanometre ≡ x *ℤ nanometre +ℤ s *ℤ nanometre
    sum x s = ring (x ∷ s ∷ []) (mul (add (var 0) (var 1)) (num nanometre)) (add (mul (var 0) (num nanometre)) (mul (var 1) (num nanometre))) refl

under_copy : (by : Point) (p : Pos) → under (pos_in by p) ≡ point_in (scaled by) (under p)
unfolding scaled
under_copy by p = refl

-- so it is in the units of the machine
pub spot_copied : (by q a : Point) (d : ℤ) → near_of (scaled (point_in by q)) (scaled (point_in by a)) (scaled (point_in by a)) d ≡ near_of (scaled q) (scaled a) (scaled a) d
spot_copied by q a d =
    ap (λ (x : Point). near_of x (scaled (point_in by a)) (scaled (point_in by a)) d) (scaled_copy by q)
    ∙ ap (λ (x : Point). near_of (point_in (scaled by) (scaled q)) x x d) (scaled_copy by a)
    ∙ near_copied (scaled by) (scaled q) (scaled a) (scaled a) d

-- a copied move sweeps the copies of what the move sweeps, and nothing else
pub sweeps_copied : (by : Point) (m : Move) (q : Point) (r : ℤ) → near_of (scaled (point_in by q)) (under (move_in by m).from) (under (move_in by m).to) (width_of r) ≡ near_of (scaled q) (under m.from) (under m.to) (width_of r)
sweeps_copied by m q r =
    ap (λ (x : Point). near_of x (under (move_in by m).from) (under (move_in by m).to) (width_of r)) (scaled_copy by q)
    ∙ ap (λ (x : Point). near_of (point_in (scaled by) (scaled q)) x (under (move_in by m).to) (width_of r)) (under_copy by m.from)
    ∙ ap (λ (x : Point). near_of (point_in (scaled by) (scaled q)) (point_in (scaled by) (under m.from)) x (width_of r)) (under_copy by m.to)
    ∙ near_copied (scaled by) (scaled q) (under m.from) (under m.to) (width_of r)

pub sweeps_there : (by : Point) (m : Move) (q : Point) (r : ℤ) → Sweeps m q r → Sweeps (move_in by m) (point_in by q) r
sweeps_there by m q r swept = sweeps_copied by m q r ∙ swept

pub sweeps_back : (by : Point) (m : Move) (q : Point) (r : ℤ) → Sweeps (move_in by m) q r → Sweeps m (point_in (back by) q) r
sweeps_back by m q r swept = sym (sweeps_copied by m (point_in (back by) q) r) ∙ ap (λ (x : Point). near_of (scaled x) (under (move_in by m).from) (under (move_in by m).to) (width_of r)) (point_there by q) ∙ swept

-- the same of a move that is moved back
pub sweeps_home : (by : Point) (m : Move) (q : Point) (r : ℤ) → Sweeps (move_in (back by) m) q r → Sweeps m (point_in by q) r
sweeps_home by m q r swept =
    sym (sweeps_copied (back by) m (point_in by q) r) ∙ ap (λ (x : Point). near_of (scaled x) (under (move_in (back by) m).from) (under (move_in (back by) m).to) (width_of r)) (point_back by q) ∙ swept

pub home_sweeps : (by : Point) (m : Move) (q : Point) (r : ℤ) → Sweeps m (point_in by q) r → Sweeps (move_in (back by) m) q r
home_sweeps by m q r swept =
    sym (ap (λ (x : Point). near_of (scaled x) (under (move_in (back by) m).from) (under (move_in (back by) m).to) (width_of r)) (point_back by q)) ∙ sweeps_copied (back by) m (point_in by q) r ∙ swept

-- ---- cells

-- the centre of a copy is the copy of the centre
pub centre_copy : (p : ℤ) (t : Tile) (c : Cell) → centre_of p (cell_in t c) ≡ point_in (shift_in p t) (centre_of p c)
unfolding middle
centre_copy p t c = λ i. record { x = by c.i t.east i; y = by c.j t.north i }
  where
    by : (a e : ℤ) → (a +ℤ e) *ℤ p +ℤ half_of p ≡ (a *ℤ p +ℤ half_of p) +ℤ e *ℤ p
    by a e = ring (a ∷ e ∷ p ∷ half_of p ∷ []) (add (mul (add (var 0) (var 1)) (var 2)) (var 3)) (add (add (mul (var 0) (var 2)) (var 3)) (mul (var 1) (var 2))) refl

-- one number has one quotient
one_quotient : (p x a b : ℤ) → pos 0 <ℤ p → (p *ℤ a) ≤ℤ x → x <ℤ (p *ℤ a +ℤ p) → (p *ℤ b) ≤ℤ x → x <ℤ (p *ℤ b +ℤ p) → a ≡ b
one_quotient p x a b some la ha lb hb = equal a b (not_less a b ha lb) (not_less b a hb la)
  where
    equal : (a b : ℤ) → b ≤ℤ a → a ≤ℤ b → a ≡ b
    equal a b h k = omega (arith, ints)

    weak : (p : ℤ) → pos 0 <ℤ p → pos 0 ≤ℤ p
    weak p h = omega (arith, ints)

    next : (a b : ℤ) → a <ℤ b → (a +ℤ pos 1) ≤ℤ b
    next a b h = omega (arith, ints)

    clash : (pa pb pn x p : ℤ) → pn ≡ pa +ℤ p → pn ≤ℤ pb → pb ≤ℤ x → x <ℤ (pa +ℤ p) → ⊥
    clash pa pb pn x p e h k l = omega (arith, ints)

    not_less : (a b : ℤ) → x <ℤ (p *ℤ a +ℤ p) → (p *ℤ b) ≤ℤ x → b ≤ℤ a
    not_less a b h l =
        by_lt_z a b
        (λ (less : a <ℤ b). absurd (clash (p *ℤ a) (p *ℤ b) (p *ℤ (a +ℤ pos 1)) x p (ring (p ∷ a ∷ []) (mul (var 0) (add (var 1) (num (pos 1)))) (add (mul (var 0) (var 1)) (var 0)) refl) (mul_le_left p (a +ℤ pos 1) b (weak p some) (next a b less)) l h))
        (λ (more : b ≤ℤ a). more)

copied_quotient : (p x e : ℤ) → pos 0 <ℤ p → int_div_euclid (x +ℤ e *ℤ p) p ≡ int_div_euclid x p +ℤ e
copied_quotient p x e some =
    let q : ℤ = int_div_euclid x p in
    let spread : p *ℤ (q +ℤ e) ≡ p *ℤ q +ℤ e *ℤ p = ring (p ∷ q ∷ e ∷ []) (mul (var 0) (add (var 1) (var 2))) (add (mul (var 0) (var 1)) (mul (var 2) (var 0))) refl in
    one_quotient p (x +ℤ e *ℤ p) (int_div_euclid (x +ℤ e *ℤ p) p) (q +ℤ e) some (rounded_low (x +ℤ e *ℤ p) p (int_div_euclid (x +ℤ e *ℤ p) p) some refl) (rounded_high (x +ℤ e *ℤ p) p (int_div_euclid (x +ℤ e *ℤ p) p) some refl)
    (low (p *ℤ (q +ℤ e)) (p *ℤ q) (e *ℤ p) x spread (rounded_low x p q some refl))
    (high (p *ℤ (q +ℤ e)) (p *ℤ q) (e *ℤ p) x p spread (rounded_high x p q some refl))
  where
    low : (m a d x : ℤ) → m ≡ a +ℤ d → a ≤ℤ x → m ≤ℤ (x +ℤ d)
    low m a d x e h = omega (arith, ints)

    high : (m a d x p : ℤ) → m ≡ a +ℤ d → x <ℤ (a +ℤ p) → (x +ℤ d) <ℤ (m +ℤ p)
    high m a d x p e h = omega (arith, ints)

-- the cell of a copy is the copy of the cell
pub cell_copy : (p : ℤ) (t : Tile) (q : Point) → pos 0 <ℤ p → cell_of p (point_in (shift_in p t) q) ≡ cell_in t (cell_of p q)
cell_copy p t q some = λ i. record { i = copied_quotient p q.x t.east some i; j = copied_quotient p q.y t.north some i }

-- ---- chains

beside_copied : (t : Tile) (a b : Cell) → IsBeside a b → IsBeside (cell_in t a) (cell_in t b)
beside_copied t a b h = record { west = by a.i b.i t.east h.west; east = by b.i a.i t.east h.east; south = by a.j b.j t.north h.south; north = by b.j a.j t.north h.north }
  where
    by : (x y e : ℤ) → (x -ℤ y) ≤ℤ pos 1 → ((x +ℤ e) -ℤ (y +ℤ e)) ≤ℤ pos 1
    by x y e h = omega (arith, ints)

chain_copied : (t : Tile) (Free Free' : Cell → Type 0) → ((c : Cell) → Free c → Free' (cell_in t c)) → (a b : Cell) (n : ℕ) → Chain Free a b n → Chain Free' (cell_in t a) (cell_in t b) n
chain_copied t Free Free' over a b zero p = (ap (cell_in t) p.0, over a p.1)
chain_copied t Free Free' over a b (suc n) p = (cell_in t p.0, (chain_copied t Free Free' over a p.0 n p.1.0, beside_copied t p.0 b p.1.1, over b p.1.2))

-- a chain's copy
pub linked_copied : (t : Tile) (Free Free' : Cell → Type 0) → ((c : Cell) → Free c → Free' (cell_in t c)) → (a b : Cell) → IsLinkedOver Free a b → IsLinkedOver Free' (cell_in t a) (cell_in t b)
linked_copied t Free Free' over a b l = record { steps = l.steps; chain = chain_copied t Free Free' over a b l.steps l.chain }
