-- A run's places are whole nanometres, since the machine refuses others.
use Rattle.std.proofs.Common.{◌≡◌, suc, ℤ, Bool, true, false, not, cond, List, [], ◌∷◌, None, refl, arith}
use Rattle.std.specs.List.{All}
use Rattle.number_laws.proofs.Tests.{first_of, second_of, not_false}
use Rattle.board_base.specs.declared.places.Move.{Move}
use Rattle.rs274_sim.specs.declared.said.Said.{Said}
use Rattle.rs274_sim.specs.Evaluation.{is_whole}
use Rattle.rs274_sim.specs.Machine.{Machine, fault_of, place_after, target, contact, passes, is_coarse}
use Rattle.program_check.specs.Whole.{IsWholePlace, HaveWholeEnds, WholeLaw}
use Rattle.program_check.proofs.EndLaws.{given_passes, HasEnds, first_none, run_ends}

coarse : (s : Said) (answers : List ℤ) (m : Machine) → fault_of answers s m ≡ None → is_coarse s ≡ true
coarse s answers m e = not_false (is_coarse s) (first_none (not (is_coarse s)) _ _ e)

place_whole : (answers : List ℤ) (s : Said) (m : Machine) → is_coarse s ≡ true → IsWholePlace m.at → IsWholePlace (place_after answers s m)
place_whole answers s m e h = by_probe s.probes
  where
    by_probe : (b : Bool) → IsWholePlace (cond b (record { x = m.at.x; y = m.at.y; z = contact answers m }) (target s m))
    by_probe true = record { x = h.x; y = h.y }
    by_probe false = record {
      x = given_passes (is_whole 1000000) s.x m.at.x (first_of (passes (is_whole 1000000) s.x) (passes (is_whole 1000000) s.y) e) h.x;
      y = given_passes (is_whole 1000000) s.y m.at.y (second_of (passes (is_whole 1000000) s.x) (passes (is_whole 1000000) s.y) e) h.y;
    }

all_whole : (moves : List Move) → All (HasEnds IsWholePlace) moves → HaveWholeEnds moves
all_whole [] h = record {}
all_whole (m ∷ moves) h =
    let first = h 0 m (omega arith) in
    (first.0, first.1, all_whole moves (λ k d small. h (suc k) d (omega (arith, small))))

pub whole_holds : WholeLaw
whole_holds answers lines moves e =
    all_whole moves (run_ends IsWholePlace answers (λ s m sound h. place_whole answers s m (coarse s answers m sound) h) lines moves (record { x = refl; y = refl }) e)
