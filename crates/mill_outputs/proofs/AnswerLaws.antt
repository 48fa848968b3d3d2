-- What the answers say of words and files that are refused, of limits, and of those that are carried out.
use Rattle.std.proofs.Common.{◌≡◌, ◌⊎◌, ℕ, List, [], Option, Some, None, Ok, Err, inl, inr, refl, sym, ap, ◌∙◌, subst}
use Rattle.board_base.specs.declared.places.Role.TheVariants as roles
use Rattle.board_base.specs.Counts.{Rose}
use Rattle.board_base.specs.Files.{Files}
use Rattle.board_base.specs.Shelf.{ShelfState}
use Rattle.board_base.specs.Sink.{SinkState}
use Rattle.shape_parts.specs.declared.shape.Painted.{Painted}
use Rattle.mill_plan.specs.declared.limits.LimitHit.{LimitHit}
use Rattle.endings.specs.declared.status.Status.{Status}
use Rattle.endings.specs.declared.status.Status.TheVariants.{Done, Usage, Job, Gerber, Drill, Outline, TooLong, Limit, ReadFault, WriteFault, Ngc, Watch, Cell, Memory}
use Rattle.endings.specs.Answers.{ToldAnd}
use Rattle.endings.specs.Reads.{Reading, held_in}
use Rattle.endings.specs.Ending.{Ending, refusal, Reaches}
use Rattle.endings.specs.Run.{IsAnswer, Answers, HasCause}
use Rattle.mill_inputs.specs.Accepted.{Accepts, accepted}
use Rattle.mill_outputs.specs.Planned.{Passes, IsSide, IfGiven}
use Rattle.mill_outputs.specs.Written.{AreMade}
use Rattle.mill_outputs.specs.Mill.{Ends}
use Rattle.mill_outputs.proofs.MillLaws.{ends_refused, ends_limited, EndsAs, ends_as, EndsOf, ends_of}

-- a refusal is answered, or want of memory, or a counted fault of a read
refusal_answered : (words : List (List ℕ)) (files : Files) (result status : Status) (before now : ShelfState) (k l : SinkState) → Answers (Ends words) files result before now k l → Ends words (held_in files) (refusal status)
    → (result ≡ status) ⊎ (result ≡ Memory) ⊎ Rose before.read_faults now.read_faults
refusal_answered words files result status before now k l answers ends = by_case (answers (refusal status) ends)
  where
    by_case : IsAnswer (Ends words) files (refusal status) result before now ⊎ ((result ≡ WriteFault roles.Lines) × ((◌≡◌ {A = List ℕ} [] []) → ⊥) × Rose k.faults l.faults)
        → (result ≡ status) ⊎ (result ≡ Memory) ⊎ Rose before.read_faults now.read_faults
    by_case (inl (inl is)) = inl is
    by_case (inl (inr (inl is))) = inr (inl is)
    by_case (inl (inr (inr (inl read)))) = inr (inr read.3)
    by_case (inl (inr (inr (inr write)))) = absurd write.2
    by_case (inr lines) = absurd (lines.1 refl)

-- words and files that are refused are answered by that refusal
pub refused_so : (words : List (List ℕ)) (files : Files) (result status : Status) (before now : ShelfState) (k l : SinkState) → Answers (Ends words) files result before now k l → accepted words (held_in files) ≡ Err status
    → (result ≡ status) ⊎ (result ≡ Memory) ⊎ Rose before.read_faults now.read_faults
refused_so words files result status before now k l answers bad = refusal_answered words files result status before now k l answers (ends_refused words (held_in files) status bad)

-- what is made and refused is answered by that refusal, which is a limit
pub limited_so : (words : List (List ℕ)) (files : Files) (result : Status) (x : Accepts) (status : Status) (before now : ShelfState) (k l : SinkState) → Answers (Ends words) files result before now k l
    → accepted words (held_in files) ≡ Ok x → AreMade x (Err status) → (result ≡ status) ⊎ (result ≡ Memory) ⊎ Rose before.read_faults now.read_faults
limited_so words files result x status before now k l answers good refused = refusal_answered words files result status before now k l answers (ends_limited words (held_in files) x status good refused)

-- a front that passes a limit is such a refusal
pub front_limited : (x : Accepts) (painted : List Painted) (hit : LimitHit) → x.front ≡ Some painted → Passes hit x.job painted → AreMade x (Err (Limit hit))
front_limited x painted hit is passes = inl (inl (subst (λ (image : Option (List Painted)). IfGiven image (IsSide x.job) (Err (Limit hit))) (sym is) (hit, refl, passes)))

-- what is accepted and whose plans and tiles aren't refused is carried out, where no fault was counted, unless memory was wanting
pub complete_so : (words : List (List ℕ)) (files : Files) (result : Status) (x : Accepts) (before now : ShelfState) (k l : SinkState) → before.files ≡ Some files → HasCause (Ends words) result before now k l
    → accepted words (held_in files) ≡ Ok x → ((status : Status) → AreMade x (Err status) → ⊥)
    → (Rose before.read_faults now.read_faults → ⊥) → (Rose before.write_faults now.write_faults → ⊥) → (Rose k.faults l.faults → ⊥) → (result ≡ Done) ⊎ (result ≡ Memory)
complete_so words files result x before now k l told cause good within no_read no_write no_put = by_result result cause
  where
    of_end : (e : Ending) → EndsOf x e → Done ≡ e.status
    of_end e (inl limited) = absurd (within limited.0 limited.1)
    of_end e (inr planned) = sym (ap (λ (e : Ending). e.status) planned.2)

    is_done : (s : Status) → Reaches (Ends words) (Some files) (λ e. e.status ≡ s) → Done ≡ s
    is_done s r = of_end r.2 (ends_of words (held_in files) x r.2 good (subst (λ (given : Reading). Ends words given r.2) r.1 r.3)) ∙ r.4

    told_end : (s : Status) → Reaches (Ends words) before.files (λ e. e.status ≡ s) → Done ≡ s
    told_end s r = is_done s (subst (λ o. Reaches (Ends words) o (λ e. e.status ≡ s)) told r)

    by_result : (s : Status) → HasCause (Ends words) s before now k l → (s ≡ Done) ⊎ (s ≡ Memory)
    by_result Memory cause = inr refl
    by_result (WriteFault role) (inl put) = absurd (no_put put.1)
    by_result (WriteFault role) (inr write) = absurd (no_write write.1)
    by_result (ReadFault role) (inl read) = absurd (no_read read.0)
    by_result (ReadFault role) (inr missing) = inl (sym (told_end (ReadFault role) (missing_end before.files missing)))
      where
        missing_end : (o : Option Files) → ToldAnd o (λ files. Ends words (held_in files) (refusal (ReadFault role))) → Reaches (Ends words) o (λ e. e.status ≡ ReadFault role)
        missing_end None missing = absurd missing
        missing_end (Some files) missing = (held_in files, refl, refusal (ReadFault role), missing, refl)
    by_result (TooLong role) cause = inl (sym (told_end (TooLong role) cause.0))
    by_result Done cause = inl refl
    by_result (Usage word) cause = inl (sym (told_end (Usage word) cause))
    by_result (Job error) cause = inl (sym (told_end (Job error) cause))
    by_result (Gerber role error) cause = inl (sym (told_end (Gerber role error) cause))
    by_result (Drill error) cause = inl (sym (told_end (Drill error) cause))
    by_result (Outline error) cause = inl (sym (told_end (Outline error) cause))
    by_result (Ngc role fault line) cause = inl (sym (told_end (Ngc role fault line) cause))
    by_result (Watch watcher at) cause = inl (sym (told_end (Watch watcher at) cause))
    by_result (Cell i j line) cause = inl (sym (told_end (Cell i j line) cause))
    by_result (Limit hit) cause = inl (sym (told_end (Limit hit) cause))

-- the line of a refusal comes alone
pub no_lines : (words : List (List ℕ)) (given : Reading) (e : Ending) → Ends words given e → (e.status ≡ Done → ⊥) → e.lines ≡ []
no_lines words given e ends other = by_case (ends_as words given e ends)
  where
    by_case : EndsAs words given e → e.lines ≡ []
    by_case (inl refused) = ap (λ (e : Ending). e.lines) refused.2
    by_case (inr (inl limited)) = ap (λ (e : Ending). e.lines) limited.4
    by_case (inr (inr milled)) = absurd (other (ap (λ (e : Ending). e.status) milled.2))
