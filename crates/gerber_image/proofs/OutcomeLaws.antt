-- Bytes stand for their outcome.
use Rattle.std.proofs.Common.{◌≡◌, refl, ℕ, zero, suc, ◌+◌, ◌<◌, ◌≤◌, false, List, [], ◌∷◌, length, Option, Some, None, Result, Ok, Err, IfOk, IfErr, inl, inr, arith, ap, ◌∙◌}
use Rattle.gerber_lexer.specs.declared.lexer.Span.{Span}
use Rattle.gerber_lexer.proofs.TileLaws.{commands_within}
use Rattle.gerber_image.specs.Gerber.{Read, BeginsWith, all_commands, next_behind, command_by, found, told, outcome_behind, StandsFor}
use Rattle.gerber_image.specs.Outcome.{read_in, outcome_within, outcome_of, SomeOutcome, AnswersOutcome}
use Rattle.gerber_words.specs.declared.commands.Command.{Command}
use Rattle.gerber_image.specs.declared.refusal.GerberError.{GerberError}
use Rattle.gerber_image.specs.Answer.{Refuses}
use Rattle.gerber_image.proofs.OneOutcome.{one_outcome}
use Rattle.shape_parts.specs.declared.shape.Painted.{Painted}

-- where the search goes on behind these commands
abbrev offset_behind : List Read → ℕ
offset_behind [] = 0
offset_behind (r ∷ past) = r.span.next

next_goes_on : (bytes : List ℕ) (past : List Read) (c : Span) → offset_behind past ≤ length bytes → next_behind bytes past ≡ Ok (Some c) → (offset_behind past < c.next) × (c.next ≤ length bytes)
next_goes_on bytes [] c h e = let w = commands_within bytes 0 false c h e in (omega (arith, w.start, w.from, w.to), w.next)
next_goes_on bytes (r ∷ past) c h e = let w = commands_within bytes r.span.next r.span.inside c h e in (omega (arith, w.start, w.from, w.to), w.next)

-- the next command, which says something
pub record IsNext (bytes : List ℕ) (past : List Read) : Type 0 where
  pub r : Read
  pub span : next_behind bytes past ≡ Ok (Some r.span)
  pub command : command_by bytes r.span ≡ Some r.command

command_next : (bytes : List ℕ) (past : List Read) (span : Span) (s : Option Command) → next_behind bytes past ≡ Ok (Some span) → command_by bytes span ≡ s → outcome_behind bytes past ≡ None → IsNext bytes past
command_next bytes past span (Some command) h g e = record { r = record { span = span; command = command }; span = h; command = g }
command_next bytes past span None h g e =
    let some : outcome_behind bytes past ≡ told (all_commands past) span.from None = ap (found bytes (all_commands past)) h ∙ ap (told (all_commands past) span.from) g in
    absurd cc

-- where no outcome comes there is a next one
next_of_none : (bytes : List ℕ) (past : List Read) (next : Result (Option Span) ℕ) → next_behind bytes past ≡ next → outcome_behind bytes past ≡ None → IsNext bytes past
next_of_none bytes past (Err at) h e = let some = ap (found bytes (all_commands past)) h in absurd cc
next_of_none bytes past (Ok None) h e = let some = ap (found bytes (all_commands past)) h in absurd cc
next_of_none bytes past (Ok (Some span)) h e = command_next bytes past span (command_by bytes span) h refl e

by_option : {A P : Type 0} (o : Option A) → ((x : A) → o ≡ Some x → P) → (o ≡ None → P) → P
by_option (Some x) s n = s x refl
by_option None s n = n refl

within_stands : (n : ℕ) (bytes : List ℕ) (past : List Read) → BeginsWith bytes past → offset_behind past ≤ length bytes → length bytes + 1 ≤ n + offset_behind past → StandsFor bytes (outcome_within n bytes past)
within_stands zero bytes past b h few = absurd (omega (arith, h, few))
within_stands (suc n) bytes past b h few = by_option (outcome_behind bytes past)
    (λ x e. rw e (past, b, e))
    (λ e.
    let next = next_of_none bytes past (next_behind bytes past) refl e in
    let on = next_goes_on bytes past next.r.span h next.span in
    let read : read_in bytes (next_behind bytes past) ≡ Some next.r = ap (read_in bytes) next.span ∙ rw next.command refl in
    rw (e, read) (within_stands n bytes (next.r ∷ past) (next.span, next.command, e, b) on.1 (omega (arith, few, on.0))))

pub some_outcome : SomeOutcome
unfolding outcome_of
some_outcome bytes = within_stands (length bytes + 1) bytes [] tt (omega arith) (omega arith)

-- an answer that the bytes stand for is their outcome
pub answers : {X : Type 0} (view : X → List Painted) (result : Result X GerberError) (bytes : List ℕ) → IfOk result (λ v. StandsFor bytes (Ok (view v))) → IfErr result (Refuses bytes) → AnswersOutcome view bytes result
answers view (Ok v) bytes ok err = one_outcome bytes (outcome_of bytes) (Ok (view v)) (some_outcome bytes) ok
answers view (Err e) bytes ok (inl memory) = inl memory
answers view (Err e) bytes ok (inr stands) = inr (one_outcome bytes (outcome_of bytes) (Err (e.kind, e.at)) (some_outcome bytes) stands)
