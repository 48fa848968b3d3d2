-- Why a program that passes the check doesn't bite, and parts what it doesn't print.
use Rattle.std.proofs.Common.{◌≡◌, List, sym, ◌∙◌, ◌*ℤ◌, ℤ, pos, ◌+ℤ◌, ◌-ℤ◌, ◌≤ℤ◌, ◌<ℤ◌, [], ◌∷◌, refl, subst, arith}
use borrow.Author.Differences.{ints}
use Rattle.std.proofs.lemmas.Bool.{false≢true}
use Rattle.number_laws.proofs.Ring.{var, add, sub, ring}
use Rattle.number_laws.proofs.Order.{sub_nonneg}
use Rattle.number_laws.proofs.Tests.{same_test}
use Rattle.board_base.specs.declared.places.Cell.{Cell}
use Rattle.board_base.specs.declared.places.Move.{Move}
use Rattle.board_base.specs.Lattice.{IsHalfDiagonal, centre_of, cell_of, half_diagonal_of}
use Rattle.board_base.specs.Near.{near_of}
use Rattle.board_base.proofs.LatticeLaws.{diagonal_nonneg}
use Rattle.cell_sets.specs.Reached.{IsReachedFrom}
use Rattle.cell_sets.proofs.Links.{linked_over}
use Rattle.cell_sets.proofs.Sweeps.{near_centre as in_cell}
use Rattle.cell_grid.specs.declared.frames.Frame.{Frame}
use Rattle.separation_check.proofs.Pairs.{pair_law_holds}
use Rattle.shape_parts.proofs.CoverLaws.{cover_law_holds}
use Rattle.copper_cover.specs.Kept.{keeps}
use Rattle.rs274_sim.specs.Cutter.{nanometre, scaled, width_of, Sweeps}
use Rattle.mill_plan.specs.declared.cutting.Cutting.{Cutting}
use Rattle.mill_plan.specs.Cutting.{IsCutting, bite_of}
use Rattle.mill_plan.proofs.PointLaws.{near_centre}
use Rattle.mill_plan.proofs.UnitLaws.{unscaled, upscaled, moved_on}
use Rattle.program_check.specs.Cutters.{IsCutter}
use Rattle.program_check.specs.Deep.{IsDeepOver}
use Rattle.program_check.specs.Marks.{IsReached, IsMarked, IsWhollySweptBy}
use Rattle.program_check.specs.Sound.{ClearLaw, MarkLaw, PartsLaw, UnitLaw}

-- the cuttings of jobs are such
pub cutter_of : (k : Cutting) → IsCutting k → IsHalfDiagonal k.pitch (half_diagonal_of k.pitch) → IsCutter k
cutter_of k ok diagonal = record { pitch = ok.pitch; diagonal = diagonal; some = less k.tolerance k.radius ok.less_tolerance; fine = less (half_diagonal_of k.pitch) k.radius ok.fine }
  where
    less : (a b : ℤ) → a <ℤ b → a ≤ℤ b
    less a b h = omega (arith, ints)

pub bite_nonneg : (k : Cutting) → IsCutter k → pos 0 ≤ℤ bite_of k
unfolding bite_of
bite_nonneg k ok = sub_nonneg k.tolerance k.radius ok.some

pub clear_holds : ClearLaw
unfolding keeps
clear_holds k painted safe moves ok clear q dark move there low swept =
    let c : Cell = cell_of k.pitch q in
    let h : ℤ = half_diagonal_of k.pitch in
    clear move c (there, low, cover_law_holds k.pitch h painted q ok.pitch ok.diagonal dark, moved_on move q (centre_of k.pitch c) (bite_of k) h (bite_nonneg k ok) (diagonal_nonneg k.pitch) (near_centre k.pitch h q ok.pitch ok.diagonal) swept)

back : (a b : ℤ) → (a -ℤ b) +ℤ b ≡ a
back a b = ring (a ∷ b ∷ []) (add (sub (var 0) (var 1)) (var 1)) (var 0) refl

pub reached_swept : (k : Cutting) (Deep : Move → Type 0) (moves : List Move) (c : Cell) → IsCutter k → IsReached k Deep moves c → IsWhollySweptBy k Deep moves c
reached_swept k Deep moves c ok r q inside =
    let h : ℤ = half_diagonal_of k.pitch in
    let short : IsReachedFrom h (centre_of k.pitch c) q = subst (λ (d : Cell). IsReachedFrom h (centre_of k.pitch d) q) inside (in_cell k.pitch h q ok.pitch ok.diagonal) in (
      r.0,
      r.1,
      r.2,
      subst (λ (d : ℤ). Sweeps r.0 q d) (back k.radius h) (moved_on r.0 (centre_of k.pitch c) q (k.radius -ℤ h) h (sub_nonneg h k.radius ok.fine) (diagonal_nonneg k.pitch) short r.3),
    )

pub marked_swept : (k : Cutting) (f : Frame) (Deep : Move → Type 0) (moves : List Move) (c : Cell) → IsCutter k → IsMarked k f Deep moves c → IsWhollySweptBy k Deep moves c
marked_swept k f Deep moves c ok marked = reached_swept k Deep moves c ok marked.1

pub mark_holds : MarkLaw
mark_holds k f surface work moves c = marked_swept k f (IsDeepOver surface work) moves c

pub parts_holds : PartsLaw
parts_holds k f surface work moves number groups ok printed u v su sv ne joined =
    let Deep : Move → Type 0 = IsDeepOver surface work in
    (pair_law_holds (λ c. IsMarked k f Deep moves c → ⊥) number groups printed u v su sv ne).1 (
      joined.0,
      joined.1,
      (
        joined.2.0,
        joined.2.1,
        linked_over (λ c. IsWhollySweptBy k Deep moves c → ⊥) (λ c. IsMarked k f Deep moves c → ⊥) (λ c left marked. left (marked_swept k f Deep moves c ok marked)) joined.0 joined.1 joined.2.2,
      ),
    )

pub unit_holds : UnitLaw
unfolding width_of
unit_holds q a b r =
    same_test (near_of (scaled q) (scaled a) (scaled b) ((pos 2 *ℤ r) *ℤ nanometre)) (near_of q a b (pos 2 *ℤ r)) (λ t f. false≢true (sym f ∙ unscaled q a b (pos 2 *ℤ r) t))
    (λ f t. false≢true (sym f ∙ upscaled q a b (pos 2 *ℤ r) t))
