-- What a reader that has come so far answers.
use Rattle.std.proofs.Common.{◌≡◌, ℕ, Bool, false, List, ◌∷◌, Option, Some, None, Ok, unwrap_or, refl, ap, sym, ◌∙◌}
use Rattle.std.specs.Option.{option_or}
use Rattle.gerber_lexer.specs.Cut.{next_of}
use Rattle.gerber_lexer.specs.declared.lexer.Span.{Span}
use Rattle.gerber_image.specs.Gerber.{all_commands, command_by, outcome_behind, found, told, led}
use Rattle.gerber_image.specs.Checks.{Held, held, fault_of, is_end}
use Rattle.gerber_image.specs.State.{after}
use Rattle.gerber_image.specs.Reached.{IsReached}
use Rattle.gerber_words.specs.declared.commands.Command.{Command}

or_default : {A : Type 0} (a b : Option A) (d : A) → unwrap_or (option_or a b) d ≡ unwrap_or a (unwrap_or b d)
or_default None b d = refl
or_default (Some x) b d = refl

-- each thing that is kept is what its last setter set
pub after_held : (past : List Command) (command : Command) → after (held past) command ≡ held (command ∷ past)
after_held past command = simp or_default refl

pub one_more : (h : Held) (past : List Command) (command : Command) → h ≡ held past → after h command ≡ held (command ∷ past)
one_more h past command e = ap (λ h. after h command) e ∙ after_held past command

-- what a command that says something leads to
leads : (bytes : List ℕ) (at : ℕ) (inside : Bool) (h : Held) (c : Span) (command : Command) (r : IsReached bytes at inside h) → next_of bytes at inside ≡ Ok (Some c) → command_by bytes c ≡ Some command
    → outcome_behind bytes r.past ≡ led (all_commands r.past) command c.from (fault_of h command)
leads bytes at inside h c command r f g = ap (found bytes (all_commands r.past)) (r.span ∙ f) ∙ ap (told (all_commands r.past) c.from) g ∙ ap (λ h. led (all_commands r.past) command c.from (fault_of h command)) (sym r.keeps)

pub went_on : (bytes : List ℕ) (at : ℕ) (inside : Bool) (h new : Held) (c : Span) (command : Command) → IsReached bytes at inside h → next_of bytes at inside ≡ Ok (Some c) → command_by bytes c ≡ Some command
    → fault_of h command ≡ None → is_end command ≡ false → new ≡ after h command → IsReached bytes c.next c.inside new
went_on bytes at inside h new c command r f g k e n = record {
  past = record { span = c; command = command } ∷ r.past;
  begins = (
    r.span ∙ f,
    g,
    leads bytes at inside h c command r f g ∙ ap (led (all_commands r.past) command c.from) k ∙ rw e refl,
    r.begins,
  );
  span = refl;
  keeps = n ∙ one_more h (all_commands r.past) command r.keeps;
}
