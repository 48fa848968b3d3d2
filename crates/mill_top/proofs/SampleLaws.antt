-- What putting the line of `sample` leaves of its clauses.
use Rattle.std.proofs.Common.{◌≡◌, ◌⊎◌, ℕ, List, inl, inr}
use Rattle.board_base.specs.Files.{Files}
use Rattle.board_base.specs.Shelf.{ShelfState}
use Rattle.board_base.specs.Sink.{SinkState}
use Rattle.endings.specs.declared.status.Status.{Status}
use Rattle.endings.specs.declared.status.Status.TheVariants.{Done, Memory}
use Rattle.endings.specs.Answers.{IfTold}
use Rattle.endings.specs.Ending.{Ending}
use Rattle.endings.specs.Reads.{Reading, held_in}
use Rattle.endings.specs.Run.{IsAnswer, Answers}
use Rattle.endings.specs.Works.{Becomes, BecomesBehind}
use Rattle.endings.proofs.RunLaws.{all_told, answers_told}
use Rattle.sampling.specs.Sampled.{SampleEnds}
use Rattle.sampling.proofs.EndLaws.{done_lines}
use Rattle.mill_top.proofs.BehindLaws.{refusal_puts, done_answered}

-- each ending of the command has this status, unless memory was wanting
abbrev pub IsOfEach : List (List ℕ) → Status → Type 0
IsOfEach words status = (given : Reading) (e : Ending) → SampleEnds words given e → (status ≡ e.status) ⊎ (status ≡ Memory)

-- a board that was milled
pub milled_answers : (words : List (List ℕ)) (result : Status) (shelf : ShelfState) (k l : SinkState) → IsOfEach words Done → BecomesBehind Done result k l
    → IfTold shelf.files (λ files. Answers (SampleEnds words) files result shelf shelf k l)
milled_answers words result shelf k l each becomes =
    done_answered (SampleEnds words) result shelf shelf k l (done_lines words)
    (all_told shelf.files (λ files. (e : Ending) → SampleEnds words (held_in files) e → IsAnswer (SampleEnds words) files e Done shelf shelf) (λ files told e ends. answer files e (each (held_in files) e ends))) becomes
  where
    answer : (files : Files) (e : Ending) → (Done ≡ e.status) ⊎ (Done ≡ Memory) → IsAnswer (SampleEnds words) files e Done shelf shelf
    answer files e (inl is) = inl is
    answer files e (inr memory) = absurd (cc)

-- a refusal
pub refusal_answers : (words : List (List ℕ)) (status result : Status) (shelf : ShelfState) (k l : SinkState) → (status ≡ Done → ⊥) → IsOfEach words status → Becomes status result k l
    → IfTold shelf.files (λ files. Answers (SampleEnds words) files result shelf shelf k l)
refusal_answers words status result shelf k l other each becomes =
    answers_told (SampleEnds words) status result (refusal_puts (SampleEnds words) status other) shelf shelf k l becomes
    (all_told shelf.files (λ files. (e : Ending) → SampleEnds words (held_in files) e → IsAnswer (SampleEnds words) files e status shelf shelf)
    (λ files told e ends. answer files e (each (held_in files) e ends)))
  where
    answer : (files : Files) (e : Ending) → (status ≡ e.status) ⊎ (status ≡ Memory) → IsAnswer (SampleEnds words) files e status shelf shelf
    answer files e (inl is) = inl is
    answer files e (inr memory) = inr (inl memory)
