-- What single lines over a grid of probes do to the machine.
use Rattle.std.proofs.Common.{◌≡◌, refl, ℕ, ◌+◌, ◌*◌, ℤ, pos, ◌*ℤ◌, int_le, List, [], ◌∷◌, true, false, Ok, Some, None}
use Rattle.std.specs.Prelude.{int_lt}
use Rattle.board_base.specs.declared.places.Pos.{Pos}
use Rattle.board_base.specs.declared.places.Move.{Move}
use Rattle.board_base.specs.declared.places.MoveKind.TheVariants.{Probe}
use Rattle.rs274_sim.specs.declared.line.Value.{Value, Num}
use Rattle.rs274_sim.specs.Evaluation.{value_of}
use Rattle.rs274_sim.specs.Machine.{F, G, X, Y, Z, one, Machine, step, is_whole, in_reach, within, rounded_up, next_answer, set_parameter, all_set, contact_settings}
use Rattle.mill_program.specs.Heights.{answer_parameter}
use Rattle.mill_program.specs.Lines.{code, words}
use Rattle.mill_program.specs.GridLines.{answer_line}
use Rattle.mill_program.proofs.StepLaws.{at_feed, feed_of}

-- straight to a height by its value
pub to_depth_by : (answers : List ℤ) (n : ℕ) (m : Machine) (v : Value) (z f g : ℤ) → value_of m.params v ≡ Ok z → in_reach z ≡ true → within (pos 0) (pos (100000 * one)) f ≡ true → rounded_up f 1000000000 ≡ g
    → int_le g (pos 0) ≡ false
    → step answers n (words (code G 1 ∷ record { letter = Z; value = v } ∷ record { letter = F; value = Num f } ∷ [])) m
    ≡ Ok (at_feed m (record { x = m.at.x; y = m.at.y; z = z }) g, Some (feed_of n m (record { x = m.at.x; y = m.at.y; z = z }) g))
to_depth_by answers n m v z f g ev rz rf e some = simp (ev, rz, rf, e, some)

-- to a place and a height by its value, at a feed that the line names
pub to_next_by_at : (answers : List ℤ) (n : ℕ) (m : Machine) (x y : ℤ) (v : Value) (z f g : ℤ) → value_of m.params v ≡ Ok z → is_whole 1000000 x ≡ true → is_whole 1000000 y ≡ true → in_reach x ≡ true → in_reach y ≡ true
    → in_reach z ≡ true → within (pos 0) (pos (100000 * one)) f ≡ true → rounded_up f 1000000000 ≡ g → int_le g (pos 0) ≡ false
    → step answers n
    (words (code G 1 ∷ record { letter = X; value = Num x } ∷ record { letter = Y; value = Num y } ∷ record { letter = Z; value = v } ∷ record { letter = F; value = Num f } ∷ [])) m
    ≡ Ok (at_feed m (record { x = x; y = y; z = z }) g, Some (feed_of n m (record { x = x; y = y; z = z }) g))
to_next_by_at answers n m x y v z f g ev wx wy rx ry rz rf e some = simp (ev, wx, wy, rx, ry, rz, rf, e, some)

-- the same at the feed in force
pub to_next_by : (answers : List ℤ) (n : ℕ) (m : Machine) (x y : ℤ) (v : Value) (z : ℤ) → value_of m.params v ≡ Ok z → is_whole 1000000 x ≡ true → is_whole 1000000 y ≡ true → in_reach x ≡ true → in_reach y ≡ true
    → in_reach z ≡ true → int_le m.feed_rate (pos 0) ≡ false
    → step answers n (words (code G 1 ∷ record { letter = X; value = Num x } ∷ record { letter = Y; value = Num y } ∷ record { letter = Z; value = v } ∷ [])) m
    ≡ Ok (at_feed m (record { x = x; y = y; z = z }) m.feed_rate, Some (feed_of n m (record { x = x; y = y; z = z }) m.feed_rate))
to_next_by answers n m x y v z ev wx wy rx ry rz some = simp (ev, wx, wy, rx, ry, rz, some)

-- ---- probes

-- the machine behind a contact: no motion is in force, and one more answer was used
abbrev pub at_contact : Machine → Pos → ℤ → Machine
at_contact m p f = record m { at = p; feed_rate = f; motion = None; params = all_set (contact_settings p) m.params; used = m.used + 1 }

-- the move to a contact
abbrev pub contact_of : ℕ → Machine → Pos → ℤ → Move
contact_of n m to f = record { from = m.at; to = to; kind = Probe; turning = m.turning; speed = m.speed; feed = f; tool = m.tool; line = n }

-- down to the next answer, which lies between the depth and the height before
pub to_contact : (answers : List ℤ) (n : ℕ) (m : Machine) (a z f g : ℤ) → next_answer answers m ≡ Some a → in_reach z ≡ true → within (pos 0) (pos (100000 * one)) f ≡ true → rounded_up f 1000000000 ≡ g
    → int_le g (pos 0) ≡ false → int_lt (a *ℤ pos 1000000) z ≡ false → int_lt m.at.z (a *ℤ pos 1000000) ≡ false
    → step answers n (words (record { letter = G; value = Num (pos 38200000000000) } ∷ record { letter = Z; value = Num z } ∷ record { letter = F; value = Num f } ∷ [])) m
    ≡ Ok (at_contact m (record { x = m.at.x; y = m.at.y; z = a *ℤ pos 1000000 }) g, Some (contact_of n m (record { x = m.at.x; y = m.at.y; z = a *ℤ pos 1000000 }) g))
to_contact answers n m a z f g known rz rf e some low high = simp (known, rz, rf, e, some, low, high)

-- the height of the contact is kept as an answer
pub to_answer : (answers : List ℤ) (n k : ℕ) (m : Machine) → step answers n (answer_line k) m ≡ Ok (record m { params = set_parameter m.params (answer_parameter k) (m.params 5063) }, None)
to_answer answers n k m = refl
