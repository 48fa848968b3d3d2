-- Why the clearing rows at the stride sweep what all allowed cells sweep.
use Rattle.std.proofs.Common.{◌≡◌, ◌⊎◌, inl, inr, ℕ, zero, suc, ◌+◌, ◌*◌, ◌-◌, ◌/◌, ◌%◌, ◌<◌, ◌≤◌, ℤ, pos, negsuc, ◌+ℤ◌, ◌-ℤ◌, ◌*ℤ◌, ◌≤ℤ◌, ◌<ℤ◌, unsigned_abs, max, Bool, true, false, [], ◌∷◌, refl, sym, ap, subst, ◌∙◌, arith}
use Rattle.std.specs.Int.{int_div_euclid}
use Rattle.std.proofs.Math.Nat.{le-max_left, max-le, mod-lt, div-add-mod', mul-le-mul, suc-mul}
use Rattle.std.proofs.lemmas.Bool.{false≢true, cases_lt}
use Rattle.std.proofs.lemmas.Int.{by_lt_z}
use borrow.Author.Differences.{ints}
use Rattle.number_laws.proofs.Tests.{by_bool}
use Rattle.number_laws.proofs.Ring.{var, num, add, sub, mul, ring}
use Rattle.number_laws.proofs.Order.{mul_nonneg, mul_le_left, le_by, le_trans_ℤ, square_nonneg}
use Rattle.number_laws.proofs.Quotients.{rounded_low, rounded_high}
use Rattle.board_base.specs.declared.places.Cell.{Cell}
use Rattle.board_base.specs.declared.places.CellBox.{CellBox}
use Rattle.board_base.specs.Lattice.{dist2, IsBeside, AreNeighbours, IsInBox}
use Rattle.cell_sets.specs.Sweep.{IsSwept}
use Rattle.cell_sets.specs.Cleared.{IsOnClearingRow, stride_of, Clearing}
use Rattle.cell_sets.proofs.Barriers.{IsEdge, edge_at, met, pos_le}

-- ---- the stride is at most twice the whole pitches, and their square is swept

-- s pitches are within the radius less half a diagonal
pub record IsWithinReach (s stride w : ℕ) : Type 0 where
  pub some : 1 ≤ stride
  pub short : (stride ≤ 1) ⊎ (stride ≤ 2 * s)
  pub swept : s * s ≤ w

-- d holds k pitches, and not so many squares of the pitch as w + 1
square_fits : (p d k w : ℤ) → pos 0 <ℤ p → pos 0 ≤ℤ k → (p *ℤ k) ≤ℤ d → (d *ℤ d) <ℤ ((w +ℤ pos 1) *ℤ (p *ℤ p)) → (k *ℤ k) ≤ℤ w
square_fits p d k w p_in k_in low high =
    let P = var 0 in let D = var 1 in let K = var 2 in let W = var 3 in
    let pk_in : pos 0 ≤ℤ (p *ℤ k) = mul_nonneg p k (weaker p p_in) k_in in
    let wide : ((p *ℤ k) *ℤ (p *ℤ k)) ≤ℤ (d *ℤ d) =
    le_by ((p *ℤ k) *ℤ (p *ℤ k)) (d *ℤ d) ((d -ℤ p *ℤ k) *ℤ (d +ℤ p *ℤ k)) (mul_nonneg (d -ℤ p *ℤ k) (d +ℤ p *ℤ k) (apart d (p *ℤ k) low) (together d (p *ℤ k) pk_in low))
    (ring (p ∷ d ∷ k ∷ []) (mul D D) (add (mul (mul P K) (mul P K)) (mul (sub D (mul P K)) (add D (mul P K)))) refl) in
    let turned : (p *ℤ k) *ℤ (p *ℤ k) ≡ (p *ℤ p) *ℤ (k *ℤ k) = ring (p ∷ d ∷ k ∷ []) (mul (mul P K) (mul P K)) (mul (mul P P) (mul K K)) refl in
    let exchanged : (w +ℤ pos 1) *ℤ (p *ℤ p) ≡ (p *ℤ p) *ℤ (w +ℤ pos 1) = swapped (w +ℤ pos 1) (p *ℤ p) in
    by_lt_z w (k *ℤ k)
    (λ (l : w <ℤ (k *ℤ k)). absurd (clash _ _ _ _ _ turned wide high exchanged (mul_le_left (p *ℤ p) (w +ℤ pos 1) (k *ℤ k) (square_nonneg p) (next w (k *ℤ k) l))))
    (λ (l : (k *ℤ k) ≤ℤ w). l)
  where
    weaker : (x : ℤ) → pos 0 <ℤ x → pos 0 ≤ℤ x
    weaker x h = omega (arith, ints)

    apart : (d m : ℤ) → m ≤ℤ d → pos 0 ≤ℤ (d -ℤ m)
    apart d m h = omega (arith, ints)

    together : (d m : ℤ) → pos 0 ≤ℤ m → m ≤ℤ d → pos 0 ≤ℤ (d +ℤ m)
    together d m h k = omega (arith, ints)

    next : (a b : ℤ) → a <ℤ b → (a +ℤ pos 1) ≤ℤ b
    next a b h = omega (arith, ints)

    swapped : (a b : ℤ) → a *ℤ b ≡ b *ℤ a
    swapped a b = ring (a ∷ b ∷ []) (mul (var 0) (var 1)) (mul (var 1) (var 0)) refl

    clash : (a b c d e : ℤ) → a ≡ b → a ≤ℤ c → c <ℤ d → d ≡ e → e ≤ℤ b → ⊥
    clash a b c d e f g h i j = omega (arith, ints)

-- the quotient by 100 of twice s times at most 100
part_of : (s m : ℕ) → m ≤ 100 → unsigned_abs (int_div_euclid (pos 2 *ℤ pos s *ℤ pos m) (pos 100)) ≤ 2 * s
part_of s m h =
    let n = pos 2 *ℤ pos s *ℤ pos m in
    let q = int_div_euclid n (pos 100) in
    let most : n ≤ℤ ((pos 2 *ℤ pos s) *ℤ pos 100) = mul_le_left (pos 2 *ℤ pos s) (pos m) (pos 100) (omega (arith, ints)) (omega (arith, ints)) in
    by n q s (mul_nonneg (pos 2 *ℤ pos s) (pos m) (omega (arith, ints)) (omega (arith, ints))) most (rounded_low n (pos 100) q (omega (arith, ints)) refl) (rounded_high n (pos 100) q (omega (arith, ints)) refl)
  where
    by : (n q : ℤ) (s : ℕ) → pos 0 ≤ℤ n → n ≤ℤ ((pos 2 *ℤ pos s) *ℤ pos 100) → (pos 100 *ℤ q) ≤ℤ n → n <ℤ (pos 100 *ℤ q +ℤ pos 100) → unsigned_abs q ≤ 2 * s
    by n q s a b c d = omega (arith, ints)

short_max : (n m : ℕ) → n ≤ m → (max 1 n ≤ 1) ⊎ (max 1 n ≤ m)
short_max n zero h = inl (max-le (omega arith) (omega arith))
short_max n (suc m) h = inr (max-le (omega arith) h)

pub within_reach : (p h r : ℤ) (overlap w : ℕ) → pos 0 <ℤ p → h <ℤ r → ((r -ℤ h) *ℤ (r -ℤ h)) <ℤ (pos (w + 1) *ℤ (p *ℤ p)) → IsWithinReach (unsigned_abs (int_div_euclid (r -ℤ h) p)) (stride_of p h r overlap) w
unfolding stride_of
within_reach p h r overlap w p_in r_in far =
    let d = r -ℤ h in
    let k = int_div_euclid d p in
    let low : (p *ℤ k) ≤ℤ d = rounded_low d p k p_in refl in
    let high : d <ℤ (p *ℤ k +ℤ p) = rounded_high d p k p_in refl in
    let k_in : pos 0 ≤ℤ k = some p d k p_in (room r h r_in) high in
    let is : k ≡ pos (unsigned_abs k) = whole k k_in in
    let s = unsigned_abs k in
    record {
      some = le-max_left 1 (unsigned_abs (int_div_euclid (pos 2 *ℤ k *ℤ pos (100 - overlap)) (pos 100)));
      short = short_max (unsigned_abs (int_div_euclid (pos 2 *ℤ k *ℤ pos (100 - overlap)) (pos 100))) (2 * s)
          (subst (λ (x : ℤ). unsigned_abs (int_div_euclid (pos 2 *ℤ x *ℤ pos (100 - overlap)) (pos 100)) ≤ 2 * s) (sym is) (part_of s (100 - overlap) (omega arith)));
      swept = square s w (subst (λ (x : ℤ). (x *ℤ x) ≤ℤ pos w) is (square_fits p d k (pos w) p_in k_in low far));
    }
  where
    room : (r h : ℤ) → h <ℤ r → pos 0 <ℤ (r -ℤ h)
    room r h l = omega (arith, ints)

    whole : (k : ℤ) → pos 0 ≤ℤ k → k ≡ pos (unsigned_abs k)
    whole k l = omega (arith, ints)

    square : (s w : ℕ) → (pos s *ℤ pos s) ≤ℤ pos w → s * s ≤ w
    square s w l = omega (arith, ints)

    -- a quotient of something above 0
    some : (p d k : ℤ) → pos 0 <ℤ p → pos 0 <ℤ d → d <ℤ (p *ℤ k +ℤ p) → pos 0 ≤ℤ k
    some p d k p_in d_in high =
        by_lt_z k (pos 0)
        (λ (l : k <ℤ pos 0). absurd (off p d k (mul_le_left p (k +ℤ pos 1) (pos 0) (weaker p p_in) (up k l)) (ring (p ∷ k ∷ []) (mul (var 0) (add (var 1) (num (pos 1)))) (add (mul (var 0) (var 1)) (var 0)) refl) d_in high))
        (λ (l : pos 0 ≤ℤ k). l)
      where
        weaker : (x : ℤ) → pos 0 <ℤ x → pos 0 ≤ℤ x
        weaker x h = omega (arith, ints)

        up : (k : ℤ) → k <ℤ pos 0 → (k +ℤ pos 1) ≤ℤ pos 0
        up k l = omega (arith, ints)

        off : (p d k : ℤ) → (p *ℤ (k +ℤ pos 1)) ≤ℤ (p *ℤ pos 0) → p *ℤ (k +ℤ pos 1) ≡ p *ℤ k +ℤ p → pos 0 <ℤ d → d <ℤ (p *ℤ k +ℤ p) → ⊥
        off p d k a e b c = by (p *ℤ (k +ℤ pos 1)) (p *ℤ k +ℤ p) d (le_trans_ℤ _ _ _ a (zero_right p)) e b c
          where
            by : (x y d : ℤ) → x ≤ℤ pos 0 → x ≡ y → pos 0 <ℤ d → d <ℤ y → ⊥
            by x y d a e b c = omega (arith, ints)

            zero_right : (p : ℤ) → (p *ℤ pos 0) ≤ℤ pos 0
            zero_right (pos n) = omega (arith, ints)
            zero_right (negsuc n) = omega (arith, ints)

-- ---- the way to the nearest clearing row

abbrev negate : ℕ → ℤ
negate zero = pos 0
negate (suc n) = negsuc n

-- a way of steps from a cell, none of them farther than s rows off
record IsWayTo (s : ℕ) (Goal : Cell → Type 0) (c : Cell) : Type 0 where
  pub way : ℕ → Cell
  pub start : way 0 ≡ c
  pub beside : (k : ℕ) → IsBeside (way k) (way (suc k))
  pub near : (k : ℕ) → k ≤ s → dist2 (way k) c ≤ℤ pos (s * s)
  pub steps : ℕ
  pub few : steps ≤ s
  pub goal : Goal (way steps)

abbrev south_of : Cell → ℕ → Cell
south_of c k = record { i = c.i; j = c.j -ℤ pos k }

abbrev north_of : Cell → ℕ → Cell
north_of c k = record { i = c.i; j = c.j +ℤ pos k }

-- k rows off, with k at most s, is at most s squared
near_by : (s k : ℕ) (x y : ℤ) → k ≤ s → x ≡ pos 0 → (y ≡ pos k) ⊎ (y ≡ negate k) → (x *ℤ x +ℤ y *ℤ y) ≤ℤ pos (s * s)
near_by s k x y h e (inl f) = rw (e, f) (within (k * k) (s * s) (mul-le-mul h h))
  where
    within : (m n : ℕ) → m ≤ n → (pos 0 *ℤ pos 0 +ℤ pos m) ≤ℤ pos n
    within m n h = omega (arith, ints)
near_by s k x y h e (inr f) = rw (e, f, turned k) (within (k * k) (s * s) (mul-le-mul h h))
  where
    turned : (k : ℕ) → negate k *ℤ negate k ≡ pos (k * k)
    turned zero = refl
    turned (suc k) = refl

    within : (m n : ℕ) → m ≤ n → (pos 0 *ℤ pos 0 +ℤ pos m) ≤ℤ pos n
    within m n h = omega (arith, ints)

south_way : (s steps : ℕ) (Goal : Cell → Type 0) (c : Cell) → steps ≤ s → Goal (south_of c steps) → IsWayTo s Goal c
unfolding dist2
south_way s steps Goal c h g = record {
  way = south_of c;
  start = same c (c.j -ℤ pos 0) (none c.j);
  beside = λ k. record { west = level c.i; east = level c.i; south = down c.j k; north = up c.j k };
  near = λ k k_in. near_by s k (c.i -ℤ c.i) ((c.j -ℤ pos k) -ℤ c.j) k_in (omega (arith, ints)) (inr (off c.j k));
  steps = steps;
  few = h;
  goal = g;
}
  where
    same : (c : Cell) (j : ℤ) → j ≡ c.j → ◌≡◌ {A = Cell} (record { i = c.i; j = j }) c
    same c j e = λ t. record { i = c.i; j = e t }

    none : (j : ℤ) → j -ℤ pos 0 ≡ j
    none j = omega (arith, ints)

    level : (i : ℤ) → (i -ℤ i) ≤ℤ pos 1
    level i = omega (arith, ints)

    down : (j : ℤ) (k : ℕ) → ((j -ℤ pos k) -ℤ (j -ℤ pos (suc k))) ≤ℤ pos 1
    down j k = omega (arith, ints)

    up : (j : ℤ) (k : ℕ) → ((j -ℤ pos (suc k)) -ℤ (j -ℤ pos k)) ≤ℤ pos 1
    up j k = omega (arith, ints)

    off : (j : ℤ) (k : ℕ) → (j -ℤ pos k) -ℤ j ≡ negate k
    off j zero = omega (arith, ints)
    off j (suc k) = omega (arith, ints)

north_way : (s steps : ℕ) (Goal : Cell → Type 0) (c : Cell) → steps ≤ s → Goal (north_of c steps) → IsWayTo s Goal c
unfolding dist2
north_way s steps Goal c h g = record {
  way = north_of c;
  start = same c (c.j +ℤ pos 0) (none c.j);
  beside = λ k. record { west = level c.i; east = level c.i; south = down c.j k; north = up c.j k };
  near = λ k k_in. near_by s k (c.i -ℤ c.i) ((c.j +ℤ pos k) -ℤ c.j) k_in (omega (arith, ints)) (inl (off c.j k));
  steps = steps;
  few = h;
  goal = g;
}
  where
    same : (c : Cell) (j : ℤ) → j ≡ c.j → ◌≡◌ {A = Cell} (record { i = c.i; j = j }) c
    same c j e = λ t. record { i = c.i; j = e t }

    none : (j : ℤ) → j +ℤ pos 0 ≡ j
    none j = omega (arith, ints)

    level : (i : ℤ) → (i -ℤ i) ≤ℤ pos 1
    level i = omega (arith, ints)

    down : (j : ℤ) (k : ℕ) → ((j +ℤ pos k) -ℤ (j +ℤ pos (suc k))) ≤ℤ pos 1
    down j k = omega (arith, ints)

    up : (j : ℤ) (k : ℕ) → ((j +ℤ pos (suc k)) -ℤ (j +ℤ pos k)) ≤ℤ pos 1
    up j k = omega (arith, ints)

    off : (j : ℤ) (k : ℕ) → (j +ℤ pos k) -ℤ j ≡ pos k
    off j k = omega (arith, ints)

-- from a cell of the box a clearing row is at most s rows off
to_row : (s stride w : ℕ) (inner : CellBox) (c : Cell) → IsWithinReach s stride w → IsInBox inner c → IsWayTo s (IsOnClearingRow stride inner) c
to_row s stride w inner c r b =
    let up = unsigned_abs (c.j -ℤ inner.j0) in
    let left = unsigned_abs (inner.j1 -ℤ c.j) in
    let q = up / stride in
    let m = up % stride in
    let split : q * stride + m ≡ up = div-add-mod' up stride in
    let less : m < stride = mod-lt up r.some in
    elim (cases_lt s m) as (λ _. IsWayTo s (IsOnClearingRow stride inner) c) [
      | inl far ↦
          let n = stride - m in
          let n_in : n ≤ s = rest s stride m far less r.short in
          elim (cases_lt left n) as (λ _. IsWayTo s (IsOnClearingRow stride inner) c) [
            | inl top ↦ north_way s left (IsOnClearingRow stride inner) c (omega (arith, top, n_in)) (record {
              inside = record { west = b.west; east = b.east; south = over c.j inner.j0 left b.south; north = to_top c.j inner.j1 left b.north refl };
              row = inl (at_top c.j inner.j1 left b.north refl);
            })
            | inr below ↦ north_way s n (IsOnClearingRow stride inner) c n_in (record {
              inside = record { west = b.west; east = b.east; south = over c.j inner.j0 n b.south; north = under c.j inner.j1 n left b.north refl (omega (arith, below)) };
              row = inr (suc q, on_row c.j inner.j0 up (q * stride) m stride n (suc q * stride) (suc-mul q stride) b.south refl split (omega (arith, less)));
            })
          ]
      | inr close ↦ south_way s m (IsOnClearingRow stride inner) c (omega (arith, close)) (record {
        inside = record { west = b.west; east = b.east; south = above c.j inner.j0 up (q * stride) m b.south refl split; north = back c.j inner.j1 m b.north };
        row = inr (q, row_below c.j inner.j0 up (q * stride) m b.south refl split);
      })
    ]
  where
    rest : (s stride m : ℕ) → s < m → m < stride → (stride ≤ 1) ⊎ (stride ≤ 2 * s) → stride - m ≤ s
    rest s stride m h k (inl l) = omega arith
    rest s stride m h k (inr l) = omega arith

    over : (j j0 : ℤ) (n : ℕ) → j0 ≤ℤ j → j0 ≤ℤ (j +ℤ pos n)
    over j j0 n h = omega (arith, ints)

    to_top : (j j1 : ℤ) (n : ℕ) → j ≤ℤ j1 → n ≡ unsigned_abs (j1 -ℤ j) → (j +ℤ pos n) ≤ℤ j1
    to_top j j1 n h e = omega (arith, ints)

    at_top : (j j1 : ℤ) (n : ℕ) → j ≤ℤ j1 → n ≡ unsigned_abs (j1 -ℤ j) → j +ℤ pos n ≡ j1
    at_top j j1 n h e = omega (arith, ints)

    under : (j j1 : ℤ) (n m : ℕ) → j ≤ℤ j1 → m ≡ unsigned_abs (j1 -ℤ j) → n ≤ m → (j +ℤ pos n) ≤ℤ j1
    under j j1 n m h e l = omega (arith, ints)

    on_row : (j j0 : ℤ) (up base m stride n next : ℕ) → next ≡ base + stride → j0 ≤ℤ j → up ≡ unsigned_abs (j -ℤ j0) → base + m ≡ up → n + m ≡ stride → j +ℤ pos n ≡ j0 +ℤ pos next
    on_row j j0 up base m stride n next k h e f g = omega (arith, ints)

    above : (j j0 : ℤ) (up base m : ℕ) → j0 ≤ℤ j → up ≡ unsigned_abs (j -ℤ j0) → base + m ≡ up → j0 ≤ℤ (j -ℤ pos m)
    above j j0 up base m h e f = omega (arith, ints)

    back : (j j1 : ℤ) (m : ℕ) → j ≤ℤ j1 → (j -ℤ pos m) ≤ℤ j1
    back j j1 m h = omega (arith, ints)

    row_below : (j j0 : ℤ) (up base m : ℕ) → j0 ≤ℤ j → up ≡ unsigned_abs (j -ℤ j0) → base + m ≡ up → j -ℤ pos m ≡ j0 +ℤ pos base
    row_below j j0 up base m h e f = omega (arith, ints)

-- ---- the way to a clearing row meets a visited cell

-- where a way leaves the set, its last cell before
record IsLeftAt (allowed : Cell → Bool) (way : ℕ → Cell) (n : ℕ) : Type 0 where
  pub last : ℕ
  pub before : last < n
  pub edge : IsEdge allowed (way last) (way (suc last))

left_at : (allowed : Cell → Bool) (way : ℕ → Cell) → ((k : ℕ) → IsBeside (way k) (way (suc k))) → (n : ℕ) → allowed (way 0) ≡ true → allowed (way n) ≡ false → IsLeftAt allowed way n
left_at allowed way beside zero a_in out = absurd (false≢true (sym out ∙ a_in))
left_at allowed way beside (suc n) a_in out =
    by_bool (allowed (way n))
    (λ i. record { last = n; before = omega arith; edge = edge_at allowed (way n) (way (suc n)) i (beside n) out })
    (λ o. let l = left_at allowed way beside n a_in o in record { last = l.last; before = omega (arith, l.before); edge = l.edge })

-- what the visited cells have
pub record HasRows (stride : ℕ) (inner : CellBox) (allowed : Cell → Bool) (Visited : Cell → Type 0) : Type 0 where
  pub contour : (c b : Cell) → allowed c ≡ true → AreNeighbours c b → allowed b ≡ false → Visited c
  pub rows : (c : Cell) → IsOnClearingRow stride inner c → allowed c ≡ true → Visited c

module _ (s stride w : ℕ) (reach : IsWithinReach s stride w) (inner : CellBox) (allowed : Cell → Bool) (Visited : Cell → Type 0) (cleared : HasRows stride inner allowed Visited) where
  -- a cell that isn't allowed is swept from the contour
  swept_out : (c : Cell) → allowed c ≡ false → IsSwept w (λ a. allowed a ≡ true) c → IsSwept w Visited c
  swept_out c out a =
      let m = met allowed _ a.from c refl a.member out in
      record { from = m.at; member = cleared.contour m.at m.outer m.edge.inside m.edge.neighbours m.edge.outside; within = le_trans_ℤ (dist2 m.at c) (dist2 a.from c) (pos w) m.nearer a.within }

  swept_from : (c : Cell) (t : IsWayTo s (IsOnClearingRow stride inner) c) (k : ℕ) → k ≤ s → Visited (t.way k) → IsSwept w Visited c
  swept_from c t k k_in v = record { from = t.way k; member = v; within = le_trans_ℤ (dist2 (t.way k) c) (pos (s * s)) (pos w) (t.near k k_in) (pos_le (s * s) w reach.swept) }

  -- an allowed one of the box from the way to the nearest clearing row
  swept_in : (c : Cell) → IsInBox inner c → allowed c ≡ true → IsSwept w Visited c
  swept_in c b a_in =
      let t = to_row s stride w inner c reach b in
      by_bool (allowed (t.way t.steps))
      (λ i. swept_from c t t.steps t.few (cleared.rows (t.way t.steps) t.goal i))
      (λ o.
      let l = left_at allowed t.way t.beside t.steps (ap allowed t.start ∙ a_in) o in
      swept_from c t l.last (omega (arith, l.before, t.few)) (cleared.contour (t.way l.last) (t.way (suc l.last)) l.edge.inside l.edge.neighbours l.edge.outside))

  pub swept_all : (c : Cell) → IsInBox inner c → IsSwept w (λ a. allowed a ≡ true) c → IsSwept w Visited c
  swept_all c b a = by_bool (allowed c) (λ i. swept_in c b i) (λ o. swept_out c o a)

pub clearing : Clearing
clearing p h r overlap w p_in r_in far inner allowed visited cleared =
    swept_all (unsigned_abs (int_div_euclid (r -ℤ h) p)) (stride_of p h r overlap) w (within_reach p h r overlap w p_in r_in far) inner allowed (λ v. visited v ≡ true) (record { contour = cleared.contour; rows = cleared.rows })
