-- every dark point lies in a kept cell
use Rattle.std.proofs.Common.{◌≡◌, ℤ, pos, ◌+ℤ◌, ◌-ℤ◌, ◌*ℤ◌, ◌≤ℤ◌, ◌<ℤ◌, Bool, true, not, ◌&&◌, List, [], ◌∷◌, refl, sym, ap, ◌∙◌, arith}
use Rattle.std.specs.Int.{int_div_euclid}
use borrow.Author.Differences.{ints}
use Rattle.number_laws.proofs.Ring.{var, num, mul, ring}
use Rattle.board_base.specs.declared.places.Point.{Point}
use Rattle.number_laws.proofs.Quotients.{rounded_low, rounded_high}
use Rattle.shape_parts.specs.declared.shape.Piece.{Piece}
use Rattle.shape_parts.specs.declared.shape.Painted.{Painted}
use Rattle.board_base.specs.Lattice.{half_of, middle, centre_of, cell_of, IsPitch, IsHalfDiagonal}
use Rattle.shape_parts.specs.Parts.{part_holds, part_touches, part_covers}
use Rattle.shape_parts.specs.Shapes.{shape_holds, shape_touches, shape_covers}
use Rattle.shape_parts.specs.Cover.{is_dark, is_kept, CoverLaw}
use Rattle.shape_parts.proofs.Standing.{both_true, first_true, second_true, stands_more}
use Rattle.shape_parts.proofs.PartLaws.{IsReach, part_touched, part_covered}

-- a test by a mark: what passes it passes the other
marked : (m s t : Bool) → (s ≡ true → t ≡ true) → (m && s) ≡ true → (m && t) ≡ true
marked m s t f e = both_true m t (first_true m s e) (f (second_true m s e))

module _ (c q : Point) (k h : ℤ) (r : IsReach c q k h) where
  pub shape_touched : (pieces : List Piece) → shape_holds q pieces ≡ true → shape_touches c h pieces ≡ true
  shape_touched pieces e =
      stands_more (λ p. p.on && part_holds q p.part) (λ p. not p.on && part_holds q p.part) (λ p. p.on && part_touches c h p.part) (λ p. not p.on && part_covers c h p.part)
      (record { more = λ p. marked p.on (part_holds q p.part) (part_touches c h p.part) (part_touched c q k h p.part r) })
      (record { more = λ p. marked (not p.on) (part_covers c h p.part) (part_holds q p.part) (part_covered c q k h p.part r) }) pieces e

  pub shape_covered : (pieces : List Piece) → shape_covers c h pieces ≡ true → shape_holds q pieces ≡ true
  shape_covered pieces e =
      stands_more (λ p. p.on && part_covers c h p.part) (λ p. not p.on && part_touches c h p.part) (λ p. p.on && part_holds q p.part) (λ p. not p.on && part_holds q p.part)
      (record { more = λ p. marked p.on (part_covers c h p.part) (part_holds q p.part) (part_covered c q k h p.part r) })
      (record { more = λ p. marked (not p.on) (part_holds q p.part) (part_touches c h p.part) (part_touched c q k h p.part r) }) pieces e

  pub dark_kept : (painted : List Painted) → is_dark q painted ≡ true → is_kept c h painted ≡ true
  dark_kept painted e =
      stands_more (λ o. o.dark && shape_holds q o.shape) (λ o. not o.dark && shape_holds q o.shape) (λ o. o.dark && shape_touches c h o.shape) (λ o. not o.dark && shape_covers c h o.shape)
      (record { more = λ o. marked o.dark (shape_holds q o.shape) (shape_touches c h o.shape) (shape_touched o.shape) })
      (record { more = λ o. marked (not o.dark) (shape_covers c h o.shape) (shape_holds q o.shape) (shape_covered o.shape) }) painted e

-- ---- the cell of a point

west_of : (p x : ℤ) → pos 0 <ℤ p → p ≡ pos 2 *ℤ half_of p → (middle p (int_div_euclid x p) -ℤ half_of p) ≤ℤ x
unfolding middle
west_of p x p_in e =
    let i = int_div_euclid x p in
    by (p *ℤ i) (i *ℤ p) (half_of p) x (ring (p ∷ i ∷ []) (mul (var 0) (var 1)) (mul (var 1) (var 0)) refl) (rounded_low x p i p_in refl)
  where
    by : (a b k x : ℤ) → a ≡ b → a ≤ℤ x → ((b +ℤ k) -ℤ k) ≤ℤ x
    by a b k x e h = rw (sym e) (plain a k x h)
      where
        plain : (a k x : ℤ) → a ≤ℤ x → ((a +ℤ k) -ℤ k) ≤ℤ x
        plain a k x h = omega (arith, ints)

east_of : (p x : ℤ) → pos 0 <ℤ p → p ≡ pos 2 *ℤ half_of p → x ≤ℤ (middle p (int_div_euclid x p) +ℤ half_of p)
unfolding middle
east_of p x p_in e =
    let i = int_div_euclid x p in
    by (p *ℤ i) (i *ℤ p) (half_of p) p x (ring (p ∷ i ∷ []) (mul (var 0) (var 1)) (mul (var 1) (var 0)) refl) e (rounded_high x p i p_in refl)
  where
    by : (a b k p x : ℤ) → a ≡ b → p ≡ pos 2 *ℤ k → x <ℤ (a +ℤ p) → x ≤ℤ ((b +ℤ k) +ℤ k)
    by a b k p x e f h = rw (sym e) (plain a k p x f h)
      where
        plain : (a k p x : ℤ) → p ≡ pos 2 *ℤ k → x <ℤ (a +ℤ p) → x ≤ℤ ((a +ℤ k) +ℤ k)
        plain a k p x f h = omega (arith, ints)

-- each point of a cell is in reach of its centre
pub reach_of : (p h : ℤ) (q : Point) → IsPitch p → IsHalfDiagonal p h → IsReach (centre_of p (cell_of p q)) q (half_of p) h
unfolding half_of
reach_of p h q pitch diagonal = record {
  square = record { west = west_of p q.x p_in pitch.even; east = east_of p q.x p_in pitch.even; south = west_of p q.y p_in pitch.even; north = east_of p q.y p_in pitch.even };
  wide = wide p (half_of p) h pitch.even diagonal.enough;
  h_in = weak h diagonal.positive;
}
  where
    p_in : pos 0 <ℤ p
    p_in = more p pitch.low
      where
        more : (p : ℤ) → pos 250 ≤ℤ p → pos 0 <ℤ p
        more p h = omega (arith, ints)

    weak : (h : ℤ) → pos 0 <ℤ h → pos 0 ≤ℤ h
    weak h l = omega (arith, ints)

    wide : (p k h : ℤ) → p ≡ pos 2 *ℤ k → (p *ℤ p) ≤ℤ (pos 2 *ℤ (h *ℤ h)) → (pos 2 *ℤ (k *ℤ k)) ≤ℤ (h *ℤ h)
    wide p k h e l =
        let K = var 0 in
        let four : p *ℤ p ≡ pos 4 *ℤ (k *ℤ k) = ap (λ (z : ℤ). z *ℤ z) e ∙ ring (k ∷ []) (mul (mul (num (pos 2)) K) (mul (num (pos 2)) K)) (mul (num (pos 4)) (mul K K)) refl in
        by (p *ℤ p) (k *ℤ k) (h *ℤ h) four l
      where
        by : (s k h : ℤ) → s ≡ pos 4 *ℤ k → s ≤ℤ (pos 2 *ℤ h) → (pos 2 *ℤ k) ≤ℤ h
        by s k h e l = omega (arith, ints)

pub cover_law_holds : CoverLaw
cover_law_holds p h painted q pitch diagonal e = dark_kept (centre_of p (cell_of p q)) q (half_of p) h (reach_of p h q pitch diagonal) painted e
