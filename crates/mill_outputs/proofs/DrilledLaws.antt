-- The holes and slots of bytes that stand for a drill file are on the board, and not too many.
use Rattle.std.proofs.Common.{◌≡◌, refl, ℕ, ◌≤◌, ℤ, pos, List, [], ◌∷◌, length, Bool, true, false, Option, Some, None, Ok, arith, subst}
use Rattle.std.specs.Prelude.{◌==◌, ◌&&◌, if◌then◌else◌, ◌≤ℤ◌}
use Rattle.std.proofs.lemmas.List.Elements.{All-nil}
use Rattle.text_cut.specs.Lines.{Line, lines_from}
use Rattle.plane_arcs.specs.Turned.{is_far}
use Rattle.excellon.specs.Body.{said_of}
use Rattle.excellon.specs.InForce.{diameter_of, part_at}
use Rattle.excellon.specs.Drilled.{act_of, tool_of, place_after, place_before, drilled_by}
use Rattle.excellon.specs.Checks.{Held, held, checks_of, fault_of, hits, is_empty, are_many}
use Rattle.excellon.specs.Fits.{IsHole, IsSlot, IsDrilled}
use Rattle.excellon.specs.State.{after}
use Rattle.excellon.specs.Drill.{Outcome, drill_of, outcome_in, told, led, is_end}
use Rattle.excellon.specs.declared.file.DrillFile.{DrillFile}
use Rattle.excellon.specs.declared.file.DrillKind.{DrillKind}
use Rattle.excellon.specs.declared.line.Said.{Said}
use Rattle.excellon.specs.declared.line.Said.TheVariants as says
use Rattle.excellon.proofs.ReachedLaws.{after_held}
use Rattle.excellon.proofs.ReadyLaws.{all_fail, defined_most, chosen_most, selected_most, still_holes, still_slots, still_few, not_far, or_false}

-- ---- tools

-- no tool is wider than 20 mm
abbrev AreThin : (ℕ → Option ℤ) → Type 0
AreThin tool = (number : ℕ) (d : ℤ) → tool number ≡ Some d → d ≤ℤ pos 20000000

-- ---- lines

-- the tools are thin, and what is drilled so far is on the board
record IsFit (h : Held) : Type 0 where
  tools : AreThin h.now.tool
  drilled : IsDrilled (record { holes = h.holes; slots = h.slots })

fit_go : (h : Held) (said : Said) → IsFit h → is_far (place_before h.now said) ≡ false → is_far (place_after h.now said) ≡ false → (hits (act_of h.now said) && is_empty (tool_of h.now)) ≡ false
    → (hits (act_of h.now said) && are_many (after h said).holes (after h said).slots) ≡ false → IsDrilled (record { holes = (after h said).holes; slots = (after h said).slots })
fit_go h said r from to some few =
    let most : (d : ℤ) → tool_of h.now ≡ Some d → d ≤ℤ pos 20000000 = λ d t. selected_most (h.now.selected == 0) (h.now.tool h.now.selected) d (r.tools h.now.selected d) t in
    record {
      few = still_few (act_of h.now said) (tool_of h.now) (place_before h.now said) (place_after h.now said) h.holes h.slots few r.drilled.few;
      holes = still_holes (act_of h.now said) (tool_of h.now) (place_after h.now said) h.holes some most (not_far _ to) r.drilled.holes;
      slots = still_slots (act_of h.now said) (tool_of h.now) (place_before h.now said) (place_after h.now said) h.slots some most (not_far _ from) (not_far _ to) r.drilled.slots;
    }

-- behind a line that is taken
fit_after : (h : Held) (said : Said) → IsFit h → fault_of h said ≡ None → IsFit (after h said)
fit_after h (says.Go way) r e =
    let tests = all_fail (checks_of h (says.Go way)) e in
    let far = or_false (is_far (place_before h.now (says.Go way))) (is_far (place_after h.now (says.Go way))) tests.1.1.1.1.1.0 in
    record { tools = r.tools; drilled = fit_go h (says.Go way) r far.0 far.1 tests.1.1.1.1.0 tests.1.1.1.1.1.1.0 }
fit_after h (says.Define number size) r e =
    let tests = all_fail (checks_of h (says.Define number size)) e in
    record {
      tools = λ other d t. chosen_most (number == other) (diameter_of h.now.scale.unit size) (h.now.tool other) d (defined_most h.now.scale.unit size d tests.1.1.1.1.1.0) (r.tools other d) t;
      drilled = r.drilled;
    }
fit_after h (says.Format f) r e = record { tools = r.tools; drilled = r.drilled }
fit_after h (says.Unit unit fills format) r e = record { tools = r.tools; drilled = r.drilled }
fit_after h says.Ignored r e = record { tools = r.tools; drilled = r.drilled }
fit_after h says.Begin r e = record { tools = r.tools; drilled = r.drilled }
fit_after h says.EndHeader r e = record { tools = r.tools; drilled = r.drilled }
fit_after h (says.Select number) r e = record { tools = r.tools; drilled = r.drilled }
fit_after h (says.Lower down) r e = record { tools = r.tools; drilled = r.drilled }
fit_after h says.EndRouting r e = record { tools = r.tools; drilled = r.drilled }
fit_after h says.Unsupported r e = record { tools = r.tools; drilled = r.drilled }
fit_after h says.End r e = record { tools = r.tools; drilled = r.drilled }

-- what a line leads to, by what the lines behind it lead to
line_drilled : (file : DrillFile) (past : List Said) (offset : ℕ) (text : List ℕ) (behind : Said → Outcome) → IsFit (held past) → ((said : Said) → IsFit (held (said ∷ past)) → behind said ≡ Ok file → IsDrilled file)
    → told past offset (said_of (part_at past) text) behind ≡ Ok file → IsDrilled file
line_drilled file past offset text behind r later e = by_said (said_of (part_at past) text) e
  where
    by_end : (said : Said) (end : Bool) → fault_of (held past) said ≡ None → (if end then Ok (drilled_by past) else behind said) ≡ Ok file → IsDrilled file
    by_end said true f e = let same : drilled_by past ≡ file = cc in subst IsDrilled same r.drilled
    by_end said false f e = later said (subst IsFit (after_held past said) (fit_after (held past) said r f)) e

    by_fault : (said : Said) (fault : Option DrillKind) → fault_of (held past) said ≡ fault → led past said offset fault (behind said) ≡ Ok file → IsDrilled file
    by_fault said (Some kind) f e = absurd cc
    by_fault said None f e = by_end said (is_end said) f e

    by_said : (said : Option Said) → told past offset said behind ≡ Ok file → IsDrilled file
    by_said None e = absurd cc
    by_said (Some said) e = by_fault said (fault_of (held past) said) refl e

-- where lines lead to a file
drilled_in : (size : ℕ) (file : DrillFile) (past : List Said) (lines : List Line) → IsFit (held past) → outcome_in size past lines ≡ Ok file → IsDrilled file
drilled_in size file past [] r e = absurd cc
drilled_in size file past (line ∷ lines) r e = line_drilled file past line.offset line.text (λ said. outcome_in size (said ∷ past) lines) r (λ said. drilled_in size file (said ∷ past) lines) e

none_wide : (number : ℕ) (d : ℤ) → ◌≡◌ {A = Option ℤ} None (Some d) → d ≤ℤ pos 20000000
none_wide number d e = absurd cc

-- each file that bytes stand for is on the board
pub drilled_law : (bytes : List ℕ) (file : DrillFile) → drill_of bytes ≡ Ok file → IsDrilled file
unfolding drill_of
drilled_law bytes file e =
    drilled_in (length bytes) file [] (lines_from 0 bytes)
    (record { tools = none_wide; drilled = record { few = omega arith; holes = All-nil IsHole; slots = All-nil IsSlot } }) e
