-- A run's places are near the board, since the machine refuses others.
use Rattle.std.proofs.Common.{◌≡◌, ◌*◌, ℤ, pos, neg_ℤ, ◌+ℤ◌, ◌*ℤ◌, ◌≤ℤ◌, ◌<ℤ◌, Bool, true, false, not, ◌&&◌, cond, int_le, List, None, Ok, refl, arith}
use Rattle.std.specs.List.{All}
use Rattle.std.specs.Int.{int_div_euclid}
use Rattle.std.proofs.lemmas.Bool.{false≢true}
use borrow.Author.Differences.{ints}
use Rattle.number_laws.proofs.Tests.{first_of, second_of, not_false, to_le}
use Rattle.number_laws.proofs.Quotients.{rounded_low, rounded_high}
use Rattle.board_base.specs.declared.places.Move.{Move}
use Rattle.board_base.specs.declared.places.Pos.{Pos}
use Rattle.board_base.specs.Places.{IsNearCoordinate}
use Rattle.rs274_sim.specs.declared.line.Line.{Line}
use Rattle.rs274_sim.specs.declared.said.Said.{Said}
use Rattle.rs274_sim.specs.Cutter.{nanometre}
use Rattle.rs274_sim.specs.Machine.{one, within, is_count, Machine, fault_of, place_after, target, contact, passes, in_reach, in_range, is_coarse, run_of}
use Rattle.program_check.proofs.EndLaws.{given_passes, HasEnds, first_none, rest_none, run_ends}
use Rattle.side_check.specs.Ends.{HasNearEnds}

-- X and Y are in the machine's range
record IsReached (p : Pos) : Type 0 where
  x : in_reach p.x ≡ true
  y : in_reach p.y ≡ true

ranged : (s : Said) (answers : List ℤ) (m : Machine) → fault_of answers s m ≡ None → in_range s ≡ true
ranged s answers m e = not_false (in_range s) (first_none (not (in_range s)) _ _ (rest_none (not (is_coarse s)) _ _ e))

first_two : (a b c d e f : Bool) → (a && b && c && d && e && f) ≡ true → (a ≡ true) × (b ≡ true)
first_two true true c d e f h = (refl, refl)
first_two true false c d e f h = absurd (false≢true h)
first_two false b c d e f h = absurd (false≢true h)

keeps_reach : (answers : List ℤ) (s : Said) (m : Machine) → fault_of answers s m ≡ None → IsReached m.at → IsReached (place_after answers s m)
keeps_reach answers s m e h = by_probe s.probes
  where
    given : (passes in_reach s.x ≡ true) × (passes in_reach s.y ≡ true)
    given = first_two (passes in_reach s.x) (passes in_reach s.y) (passes in_reach s.z) (passes (within (pos 0) (pos (100000 * one))) s.feed) (passes (int_le (pos 0)) s.time) (passes (is_count 9999) s.tool) (ranged s answers m e)

    by_probe : (b : Bool) → IsReached (cond b (record { x = m.at.x; y = m.at.y; z = contact answers m }) (target s m))
    by_probe true = record { x = h.x; y = h.y }
    by_probe false = record { x = given_passes in_reach s.x m.at.x given.0 h.x; y = given_passes in_reach s.y m.at.y given.1 h.y }

no_less : (z q : ℤ) → neg_ℤ (pos 500000000000000) ≤ℤ z → z <ℤ (pos 1000000 *ℤ q +ℤ pos 1000000) → neg_ℤ (pos 500100000) ≤ℤ q
no_less z q h k = omega (arith, ints)

no_more : (z q : ℤ) → z ≤ℤ pos 500000000000000 → (pos 1000000 *ℤ q) ≤ℤ z → q ≤ℤ pos 500100000
no_more z q h k = omega (arith, ints)

-- a coordinate in the range is near the board, in nanometres
near_in : (z : ℤ) → in_reach z ≡ true → IsNearCoordinate (int_div_euclid z nanometre)
near_in z e = near (int_div_euclid z nanometre) refl
  where
    some : pos 0 <ℤ nanometre
    some = omega (arith, ints)

    low : neg_ℤ (pos 500000000000000) ≤ℤ z
    low = to_le (neg_ℤ (pos 500000000000000)) z (first_of (int_le (neg_ℤ (pos 500000000000000)) z) (int_le z (pos 500000000000000)) e)

    high : z ≤ℤ pos 500000000000000
    high = to_le z (pos 500000000000000) (second_of (int_le (neg_ℤ (pos 500000000000000)) z) (int_le z (pos 500000000000000)) e)

    near : (q : ℤ) → q ≡ int_div_euclid z nanometre → IsNearCoordinate q
    near q is = record { low = no_less z q low (rounded_high z nanometre q some is); high = no_more z q high (rounded_low z nanometre q some is) }

near_ends : (m : Move) → HasEnds IsReached m → HasNearEnds m
near_ends m h = record {
  from = record { x_in = near_in m.from.x h.0.x; y_in = near_in m.from.y h.0.y };
  to = record { x_in = near_in m.to.x h.1.x; y_in = near_in m.to.y h.1.y };
}

-- the moves of a run begin and end near the board
pub run_near : (answers : List ℤ) (lines : List Line) (moves : List Move) → run_of answers lines ≡ Ok moves → All HasNearEnds moves
run_near answers lines moves e k d small = near_ends _ (run_ends IsReached answers (keeps_reach answers) lines moves (record { x = refl; y = refl }) e k d small)
