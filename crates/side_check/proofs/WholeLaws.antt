-- Whole nanometres, and nearness in the units of a machine.
use Rattle.std.proofs.Common.{◌≡◌, ℕ, ◌-◌, ◌/◌, ◌%◌, ℤ, pos, negsuc, ◌*ℤ◌, true, List, [], ◌∷◌, zero, suc, ap, subst, ◌∙◌, arith}
use Rattle.std.specs.List.{Contains}
use Rattle.std.specs.Int.{int_div_euclid}
use Rattle.std.proofs.lemmas.Bool.Decides.{Decides-int_eq}
use borrow.Author.Differences.{ints}
use Rattle.board_base.specs.declared.places.Move.{Move}
use Rattle.board_base.specs.declared.places.Point.{Point}
use Rattle.board_base.specs.declared.places.Pos.{Pos}
use Rattle.board_base.specs.Near.{near_of}
use Rattle.rs274_sim.specs.Evaluation.{is_whole}
use Rattle.rs274_sim.specs.Cutter.{nanometre, scaled, under, width_of}
use Rattle.program_check.specs.Deep.{point_under}
use Rattle.program_check.specs.Sound.{UnitLaw}
use Rattle.program_check.specs.Whole.{IsWholePlace, HaveWholeEnds}

no_rest : (n : ℕ) → pos n ≡ pos 0 → n ≡ 0
no_rest n e = cc

-- a number of whole nanometres is so many of them
whole_is : (z : ℤ) → is_whole 1000000 z ≡ true → z ≡ int_div_euclid z nanometre *ℤ nanometre
whole_is (pos a) e = by (no_rest (a % 1000000) ((Decides-int_eq (pos (a % 1000000)) (pos 0)).0 e))
  where
    by : a % 1000000 ≡ 0 → pos a ≡ pos (a / 1000000) *ℤ pos 1000000
    by h = omega (arith, ints)
whole_is (negsuc a) e = by (no_rest (1000000 - 1 - a % 1000000) ((Decides-int_eq (pos (1000000 - 1 - a % 1000000)) (pos 0)).0 e))
  where
    by : 1000000 - 1 - a % 1000000 ≡ 0 → negsuc a ≡ negsuc (a / 1000000) *ℤ pos 1000000
    by h = omega (arith, ints)

under_scaled : (p : Pos) → IsWholePlace p → under p ≡ scaled (point_under p)
unfolding scaled
under_scaled p w = λ i. record { x = whole_is p.x w.x i; y = whole_is p.y w.y i }

-- the ends of the move are whole nanometres
pub record HasWholeEnds (m : Move) : Type 0 where
  pub from : IsWholePlace m.from
  pub to : IsWholePlace m.to

pub whole_ends : (moves : List Move) (m : Move) → HaveWholeEnds moves → Contains moves m → HasWholeEnds m
whole_ends [] m h there = absurd (omega (arith, there.1))
whole_ends (a ∷ moves) m h (zero, small, is) = subst HasWholeEnds is (record { from = h.0; to = h.1 })
whole_ends (a ∷ moves) m h (suc k, small, is) = whole_ends moves m h.2 (k, omega (arith, small), is)

-- near in the units of the machine is near in nanometres
pub near_same : (m : Move) (q : Point) (r : ℤ) → UnitLaw → HasWholeEnds m → near_of (scaled q) (under m.from) (under m.to) (width_of r) ≡ near_of q (point_under m.from) (point_under m.to) (pos 2 *ℤ r)
near_same m q r law w =
    ap (λ (a : Point). near_of (scaled q) a (under m.to) (width_of r)) (under_scaled m.from w.from)
    ∙ ap (λ (b : Point). near_of (scaled q) (scaled (point_under m.from)) b (width_of r)) (under_scaled m.to w.to)
    ∙ law q (point_under m.from) (point_under m.to) r
