-- Why each pass stays within the cells that the first pass allows.
use Rattle.std.proofs.Common.{◌≡◌, ◌↔◌, inl, inr, ℕ, ℤ, pos, ◌+ℤ◌, ◌-ℤ◌, ◌*ℤ◌, ◌≤ℤ◌, ◌<ℤ◌, unsigned_abs, Bool, true, false, Option, Some, [], ◌∷◌, refl, sym, subst, ◌∙◌, arith}
use Rattle.std.specs.Int.{int_div_euclid}
use Rattle.std.proofs.lemmas.Bool.{false≢true}
use Rattle.std.proofs.lemmas.Int.{by_lt_z}
use borrow.Author.Differences.{ints}
use Rattle.number_laws.proofs.Tests.{by_bool}
use Rattle.number_laws.proofs.Ring.{num, var, add, sub, mul, ring}
use Rattle.number_laws.proofs.Order.{mul_nonneg, mul_pos, mul_le_left, le_by, le_trans_ℤ, square_nonneg}
use Rattle.number_laws.proofs.Quotients.{rounded_low, rounded_high}
use Rattle.board_base.specs.declared.places.Cell.{Cell}
use Rattle.board_base.specs.Lattice.{dist2, AreNeighbours}
use Rattle.cell_sets.specs.Contour.{guard_of, IsAllowed}
use Rattle.cell_sets.specs.Sweep.{IsUnswept}
use Rattle.cell_sets.specs.Barrier.{IsPast}
use Rattle.cell_sets.specs.Cleared.{stride_of}
use Rattle.cell_sets.specs.Passes.{ClearingRows, guard_at, IsVisitedBy, IsAllowedTest, Passes, PassesPart, PassesGroup, RowsClear}
use Rattle.cell_sets.proofs.Links.{linked_same, groups_carried}
use Rattle.cell_sets.proofs.Barriers.{IsRoundKept, linked_past, groups_same}
use Rattle.cell_sets.proofs.Rows.{within_reach, swept_all}

-- of two numbers the larger has no smaller quotient
quotient_le : (x y d : ℤ) → pos 0 <ℤ d → x ≤ℤ y → int_div_euclid x d ≤ℤ int_div_euclid y d
quotient_le x y d d_in h =
    let a = int_div_euclid x d in
    let b = int_div_euclid y d in
    by_lt_z b a
    (λ (l : b <ℤ a). absurd (clash (d *ℤ a) (d *ℤ b) (d *ℤ (b +ℤ pos 1)) x y d (rounded_low x d a d_in refl) (rounded_high y d b d_in refl) h
    (mul_le_left d (b +ℤ pos 1) a (weaker d d_in) (next b a l))
    (ring (d ∷ b ∷ []) (mul (var 0) (add (var 1) (num (pos 1)))) (add (mul (var 0) (var 1)) (var 0)) refl)))
    (λ (l : a ≤ℤ b). l)
  where
    weaker : (x : ℤ) → pos 0 <ℤ x → pos 0 ≤ℤ x
    weaker x h = omega (arith, ints)

    next : (a b : ℤ) → a <ℤ b → (a +ℤ pos 1) ≤ℤ b
    next a b h = omega (arith, ints)

    clash : (da db db1 x y d : ℤ) → da ≤ℤ x → y <ℤ (db +ℤ d) → x ≤ℤ y → db1 ≤ℤ da → db1 ≡ db +ℤ d → ⊥
    clash da db db1 x y d a b c e f = omega (arith, ints)

-- and of two numbers from 0 on the larger has no smaller square
square_mono : (x y : ℤ) → pos 0 ≤ℤ x → x ≤ℤ y → (x *ℤ x) ≤ℤ (y *ℤ y)
square_mono x y x_in h =
    le_by (x *ℤ x) (y *ℤ y) ((y -ℤ x) *ℤ (y +ℤ x)) (mul_nonneg (y -ℤ x) (y +ℤ x) (omega (arith, ints)) (omega (arith, ints)))
    (ring (x ∷ y ∷ []) (mul (var 1) (var 1)) (add (mul (var 0) (var 0)) (mul (sub (var 1) (var 0)) (add (var 1) (var 0)))) refl)

guard_le : (a b p : ℤ) → pos 0 <ℤ p → pos 0 ≤ℤ a → a ≤ℤ b → guard_of a p ≤ℤ guard_of b p
unfolding guard_of
guard_le a b p p_in a_in h = quotient_le (a *ℤ a) (b *ℤ b) (p *ℤ p) (mul_pos p p p_in p_in) (square_mono a b a_in h)

guard_nonneg : (a p : ℤ) → pos 0 <ℤ p → pos 0 ≤ℤ guard_of a p
unfolding guard_of
guard_nonneg a p p_in =
    le_trans_ℤ (pos 0) (int_div_euclid (pos 0) (p *ℤ p)) (int_div_euclid (a *ℤ a) (p *ℤ p)) (zero_quotient (p *ℤ p) (mul_pos p p p_in p_in))
    (quotient_le (pos 0) (a *ℤ a) (p *ℤ p) (mul_pos p p p_in p_in) (square_nonneg a))
  where
    weaker : (x : ℤ) → pos 0 <ℤ x → pos 0 ≤ℤ x
    weaker x h = omega (arith, ints)

    up : (k : ℤ) → k <ℤ pos 0 → (k +ℤ pos 1) ≤ℤ pos 0
    up k l = omega (arith, ints)

    off : (dq d dq1 z : ℤ) → dq1 ≤ℤ z → dq1 ≡ dq +ℤ d → z ≡ pos 0 → pos 0 <ℤ (dq +ℤ d) → ⊥
    off dq d dq1 z a e f h = omega (arith, ints)

    zero_quotient : (d : ℤ) → pos 0 <ℤ d → pos 0 ≤ℤ int_div_euclid (pos 0) d
    zero_quotient d h =
        let q = int_div_euclid (pos 0) d in
        let high : pos 0 <ℤ (d *ℤ q +ℤ d) = rounded_high (pos 0) d q h refl in
        by_lt_z q (pos 0)
        (λ (l : q <ℤ pos 0). absurd (off (d *ℤ q) d (d *ℤ (q +ℤ pos 1)) (d *ℤ pos 0) (mul_le_left d (q +ℤ pos 1) (pos 0) (weaker d h) (up q l))
        (ring (d ∷ q ∷ []) (mul (var 0) (add (var 1) (num (pos 1)))) (add (mul (var 0) (var 1)) (var 0)) refl)
        (ring (d ∷ []) (mul (var 0) (num (pos 0))) (num (pos 0)) refl) high))
        (λ (l : pos 0 ≤ℤ q). l)

-- the first pass has the least guard
pub guard_first : (reach step p : ℤ) (j : ℕ) → pos 0 <ℤ p → pos 0 ≤ℤ reach → pos 0 ≤ℤ step → guard_at reach step p 0 ≤ℤ guard_at reach step p j
unfolding guard_at
guard_first reach step p j p_in reach_in step_in =
    let none : pos 0 *ℤ step ≡ pos 0 = ring (step ∷ []) (mul (num (pos 0)) (var 0)) (num (pos 0)) refl in
    guard_le (reach +ℤ pos 0 *ℤ step) (reach +ℤ pos j *ℤ step) p p_in (rw none (omega (arith, ints))) (rw none (more reach (pos j *ℤ step) (mul_nonneg (pos j) step (omega (arith, ints)) step_in)))
  where
    more : (a b : ℤ) → pos 0 ≤ℤ b → (a +ℤ pos 0) ≤ℤ (a +ℤ b)
    more a b h = omega (arith, ints)

-- so what a pass allows the first pass allows
pub allowed_first : (kept : Cell → Bool) (g g' : ℤ) → g ≤ℤ g' → (c : Cell) → IsAllowed kept g' c → IsAllowed kept g c
allowed_first kept g g' h c a = λ k k_in. by g g' (dist2 c k) h (a k k_in)
  where
    by : (g g' d : ℤ) → g ≤ℤ g' → g' <ℤ d → g <ℤ d
    by g g' d h l = omega (arith, ints)

-- no kept cell is allowed
not_allowed : (kept : Cell → Bool) (g : ℤ) (c : Cell) → pos 0 ≤ℤ g → kept c ≡ true → IsAllowed kept g c → ⊥
unfolding dist2
not_allowed kept g c g_in c_in a = out g g_in (subst (λ (y : ℤ). g <ℤ (pos 0 *ℤ pos 0 +ℤ y *ℤ y)) (none c.j) (subst (λ (x : ℤ). g <ℤ (x *ℤ x +ℤ (c.j -ℤ c.j) *ℤ (c.j -ℤ c.j))) (none c.i) (a c c_in)))
  where
    none : (x : ℤ) → x -ℤ x ≡ pos 0
    none x = omega (arith, ints)

    out : (g : ℤ) → pos 0 ≤ℤ g → g <ℤ (pos 0 *ℤ pos 0 +ℤ pos 0 *ℤ pos 0) → ⊥
    out g h l = omega (arith, ints)

first_nonneg : (reach step p : ℤ) → pos 0 <ℤ p → pos 0 ≤ℤ guard_at reach step p 0
unfolding guard_at
first_nonneg reach step p h = guard_nonneg (reach +ℤ pos 0 *ℤ step) p h

-- a visited cell is allowed
pub visited_allowed : (p reach step : ℤ) (last : ℕ) (rows : Option ClearingRows) (kept : Cell → Bool) → pos 0 <ℤ p → pos 0 ≤ℤ reach → pos 0 ≤ℤ step
    → (c : Cell) → IsVisitedBy (guard_at reach step p) last rows kept c → IsAllowed kept (guard_at reach step p 0) c
visited_allowed p reach step last rows kept p_in reach_in step_in c (inl pass) =
    allowed_first kept (guard_at reach step p 0) (guard_at reach step p pass.0) (guard_first reach step p pass.0 p_in reach_in step_in) c pass.1.1.0
visited_allowed p reach step last rows kept p_in reach_in step_in c (inr row) = row.allowed

-- the contour of the allowed cells is that of the first pass
module _ (reach step p : ℤ) (last : ℕ) (rows : Option ClearingRows) (kept allowed : Cell → Bool) (is : IsAllowedTest reach step p kept allowed) where
  abbrev pub Visited : Cell → Type 0
  Visited = IsVisitedBy (guard_at reach step p) last rows kept

  on_first : (c b : Cell) → allowed c ≡ true → AreNeighbours c b → allowed b ≡ false → Visited c
  on_first c b c_in near b_out = inl (0, (omega arith, ((is c).0 c_in, b, near, λ a. absurd (false≢true (sym b_out ∙ (is b).1 a)))))

  pub round_passes : pos 0 <ℤ p → pos 0 ≤ℤ reach → pos 0 ≤ℤ step → IsRoundKept allowed kept Visited
  round_passes p_in reach_in step_in = record {
    clear = λ c c_in. by_bool (allowed c) (λ a. absurd (not_allowed kept (guard_at reach step p 0) c (first_nonneg reach step p p_in) c_in ((is c).0 a))) (λ o. o);
    contour = on_first;
    within = λ c v. (is c).1 (visited_allowed p reach step last rows kept p_in reach_in step_in c v);
  }

  -- not swept from the test's cells or from the allowed ones is one
  past_is : (w : ℕ) (c : Cell) → IsPast w allowed c ↔ IsUnswept w (IsAllowed kept (guard_at reach step p 0)) c
  past_is w c = (
    λ o s. o (record { from = s.from; member = (is s.from).1 s.member; within = s.within }),
    λ o s. o (record { from = s.from; member = (is s.from).0 s.member; within = s.within }),
  )

pub passes : Passes
passes p reach step last rows kept allowed visited p_in reach_in step_in is visited_is =
    let r = round_passes reach step p last rows kept allowed is p_in reach_in step_in in
    record { clear = r.clear; contour = λ c b c_in near b_out. (visited_is c).1 (r.contour c b c_in near b_out); within = λ c v. r.within c ((visited_is c).0 v) }

pub passes_part : PassesPart
passes_part p reach step w last rows kept allowed p_in reach_in step_in is a b a_kept =
    let l = linked_past w allowed kept (IsVisitedBy (guard_at reach step p) last rows kept) (round_passes reach step p last rows kept allowed is p_in reach_in step_in) a b a_kept in
    let m = linked_same (IsPast w allowed) (IsUnswept w (IsAllowed kept (guard_at reach step p 0))) (past_is reach step p last rows kept allowed is w) a b in
    (λ x. m.0 (l.0 x), λ x. l.1 (m.1 x))

pub passes_group : PassesGroup
passes_group p reach step w last rows kept allowed number groups p_in reach_in step_in is islands g =
    groups_carried (IsPast w allowed) (IsUnswept w (IsAllowed kept (guard_at reach step p 0))) number groups
    (λ a b a_in. linked_same (IsPast w allowed) (IsUnswept w (IsAllowed kept (guard_at reach step p 0))) (past_is reach step p last rows kept allowed is w) a b)
    (λ a a_in. past_is reach step p last rows kept allowed is w a)
    (groups_same w allowed kept (IsVisitedBy (guard_at reach step p) last rows kept) (round_passes reach step p last rows kept allowed is p_in reach_in step_in) number groups islands g)

pub rows_clear : RowsClear
rows_clear p h r reach step overlap w last inner kept allowed p_in r_in far is c b s =
    let rows = Some (record { inner = inner; stride = stride_of p h r overlap }) in
    swept_all (unsigned_abs (int_div_euclid (r -ℤ h) p)) (stride_of p h r overlap) w (within_reach p h r overlap w p_in r_in far) inner allowed (IsVisitedBy (guard_at reach step p) last rows kept)
    (record {
      contour = on_first reach step p last rows kept allowed is;
      rows = λ d on d_in. inr (record { cleared = record { inner = inner; stride = stride_of p h r overlap }; given = refl; row = on; allowed = (is d).0 d_in });
    }) c b (record { from = s.from; member = (is s.from).1 s.member; within = s.within })
