-- What the endings of the command that the words ask for make of the clauses on what was milled.
use Rattle.std.proofs.Common.{◌≡◌, ℕ, List, subst}
use Rattle.board_base.specs.Shelf.{ShelfState}
use Rattle.board_base.specs.Sink.{SinkState}
use Rattle.move_watch.specs.declared.bounds.Limits.{Limits}
use Rattle.endings.specs.declared.status.Status.{Status}
use Rattle.endings.specs.Answers.{IfTold}
use Rattle.endings.specs.Run.{Leaves, Answers, HasCause, Tells}
use Rattle.mill_outputs.specs.Mill.{Milled}
use Rattle.mill_outputs.specs.Done.{AfterDone}
use Rattle.checking.specs.Checked.{Checked}
use Rattle.checking.specs.Sound.{AfterDone as AfterDoneCheck}
use Rattle.checking.specs.Own.{OwnPasses}
use Rattle.mill_top.specs.declared.asked.Asked.{Asked}
use Rattle.mill_top.specs.Commands.{asked_of, EndsBy, CommandOf, AfterMill, AfterCheck, AfterOwnCheck}

-- what was milled where nothing but `mill` is asked for
pub after_mill : (P : Milled → Type 0) (limits : List Limits) (words : List (List ℕ)) (result : Status) (before now : ShelfState) → AfterDone P → Leaves (CommandOf limits words) result before now
    → AfterMill P words result before now
after_mill P limits words result before now law leaves asks done = law words result before now (subst (λ b. Leaves (EndsBy b limits words) result before now) asks leaves) done

-- what a check says where it is asked for
pub after_check : (P : Checked → Type 0) (limits : List Limits) (words : List (List ℕ)) (result : Status) (before now : ShelfState) (k l : SinkState) → AfterDoneCheck P
    → Tells (CommandOf limits words) result before now k l → AfterCheck P words result before k l
after_check P limits words result before now k l law tells asks done = law words result before now k l (subst (λ b. Tells (EndsBy b limits words) result before now k l) asks tells) done

-- and of the program of a side
pub after_own_check : (limits : List Limits) (words : List (List ℕ)) (result : Status) (before now : ShelfState) (k l : SinkState) → OwnPasses
    → HasCause (CommandOf limits words) result before now k l → Tells (CommandOf limits words) result before now k l → AfterOwnCheck words result before now k l
after_own_check limits words result before now k l law cause tells asks =
    law words result before now k l (subst (λ b. HasCause (EndsBy b limits words) result before now k l) asks cause) (subst (λ b. Tells (EndsBy b limits words) result before now k l) asks tells)

-- ---- what the command that the words ask for has made is what the run made

pub answers_by : (b : Asked) (limits : List Limits) (words : List (List ℕ)) (result : Status) (before now : ShelfState) (k l : SinkState) → b ≡ asked_of words
    → IfTold before.files (λ files. Answers (EndsBy b limits words) files result before now k l) → IfTold before.files (λ files. Answers (CommandOf limits words) files result before now k l)
answers_by b limits words result before now k l asks h = subst (λ b. IfTold before.files (λ files. Answers (EndsBy b limits words) files result before now k l)) asks h
