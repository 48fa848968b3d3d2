-- What bytes stand for is never want of memory.
use Rattle.std.proofs.Common.{◌≡◌, ℕ, Bool, true, false, cond, List, [], ◌∷◌, length, Option, Some, None, Ok, Err, refl, ap, sym, ◌∙◌}
use Rattle.std.specs.List.{AllByRecursion}
use Rattle.std.proofs.lemmas.Bool.{false≢true}
use Rattle.text_cut.specs.Lines.{Line, lines_from}
use Rattle.excellon.specs.Body.{said_of}
use Rattle.excellon.specs.InForce.{part_at}
use Rattle.excellon.specs.Drilled.{drilled_by}
use Rattle.excellon.specs.Checks.{Held, held, checks_of, fault_of, first_fault}
use Rattle.excellon.specs.Drill.{Outcome, drill_of, outcome_in, told, led, is_end, NeverMemory}
use Rattle.excellon.specs.declared.file.DrillKind.{DrillKind}
use Rattle.excellon.specs.declared.file.DrillKind.TheVariants as kinds
use Rattle.excellon.specs.declared.line.Said.{Said}

abbrev is_memory : DrillKind → Bool
is_memory kinds.Memory = true
is_memory _ = false

abbrev tells_memory : Outcome → Bool
tells_memory (Ok file) = false
tells_memory (Err e) = is_memory e.kind

-- a fault is one of its checks' kinds
fault_in : (checks : List (Bool × DrillKind)) (kind : DrillKind) → AllByRecursion (λ check. is_memory check.1 ≡ false) checks → first_fault checks ≡ Some kind → is_memory kind ≡ false
fault_in [] kind all e = absurd cc
fault_in (check ∷ checks) kind all e = by_test check.0 check.1 (first_fault checks) all.0 (fault_in checks kind all.1) e
  where
    by_test : (b : Bool) (first : DrillKind) (others : Option DrillKind) → is_memory first ≡ false → (others ≡ Some kind → is_memory kind ≡ false) → cond b (Some first) others ≡ Some kind → is_memory kind ≡ false
    by_test true first others own later e = let same : first ≡ kind = cc in ap is_memory (sym same) ∙ own
    by_test false first others own later e = later e

fault_never : (h : Held) (said : Said) (kind : DrillKind) → fault_of h said ≡ Some kind → is_memory kind ≡ false
fault_never h said kind e = fault_in (checks_of h said) kind (refl, (refl, (refl, (refl, (refl, (refl, (refl, tt))))))) e

led_never : (past : List Said) (said : Said) (at : ℕ) (fault : Option DrillKind) (behind : Outcome) → ((kind : DrillKind) → fault ≡ Some kind → is_memory kind ≡ false) → tells_memory behind ≡ false → tells_memory (led past said at fault behind) ≡ false
led_never past said at (Some kind) behind f h = f kind refl
led_never past said at None behind f h = by_end (is_end said)
  where
    by_end : (b : Bool) → tells_memory (cond b (Ok (drilled_by past)) behind) ≡ false
    by_end true = refl
    by_end false = h

told_never : (past : List Said) (at : ℕ) (said : Option Said) (behind : Said → Outcome) → ((said : Said) → tells_memory (behind said) ≡ false) → tells_memory (told past at said behind) ≡ false
told_never past at None behind h = refl
told_never past at (Some said) behind h = led_never past said at (fault_of (held past) said) (behind said) (fault_never (held past) said) (h said)

never : (size : ℕ) (past : List Said) (lines : List Line) → tells_memory (outcome_in size past lines) ≡ false
never size past [] = refl
never size past (line ∷ lines) = told_never past line.offset (said_of (part_at past) line.text) (λ said. outcome_in size (said ∷ past) lines) (λ said. never size (said ∷ past) lines)

pub never_memory : NeverMemory
unfolding drill_of
never_memory bytes at e = absurd (false≢true (sym (never (length bytes) [] (lines_from 0 bytes)) ∙ ap tells_memory e))
