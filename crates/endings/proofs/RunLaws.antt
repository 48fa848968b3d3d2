-- What the parts of a run make of it, for every command alike.
use Rattle.std.proofs.Common.{◌≡◌, ◌≢◌, ◌⊎◌, ℕ, List, [], Option, Some, None, inl, inr, refl, sym, ◌∙◌, subst}
use Rattle.board_base.specs.declared.places.Role.{Role}
use Rattle.board_base.specs.declared.places.Role.TheVariants as roles
use Rattle.board_base.specs.Sink.{SinkState, appended}
use Rattle.board_base.specs.Files.{Files}
use Rattle.board_base.specs.Shelf.{ShelfState, OnlyReads}
use Rattle.endings.specs.declared.status.Status.{Status}
use Rattle.endings.specs.declared.status.Status.TheVariants.{Done, Usage, Job, Gerber, Drill, Outline, TooLong, Limit, ReadFault, WriteFault, Ngc, Watch, Cell, Memory}
use Rattle.endings.specs.Answers.{IfTold, ToldAnd}
use Rattle.endings.specs.Lines.{line_of}
use Rattle.endings.specs.Outputs.{all_stored, IsStopped}
use Rattle.endings.specs.Reads.{Reading, held_in, MayRead, without}
use Rattle.endings.specs.Ending.{Ending, refusal, Command, Reaches}
use Rattle.endings.specs.Run.{Leaves, IsAnswer, Answers, HasCause, Tells, EndsInMemory, EndsInFault}
use Rattle.endings.specs.Works.{Refuses, Works, Told, Becomes}
use Rattle.endings.proofs.TellLaws.{appended_nothing, got_prefix}

-- a fact about the files that are told, from any files that they may be
pub all_told : (o : Option Files) (P : Files → Type 0) → ((files : Files) → o ≡ Some files → P files) → IfTold o P
all_told None P h = tt
all_told (Some files) P h = h files refl

pub told_weaker : (o : Option Files) (P Q : Files → Type 0) → ((files : Files) → P files → Q files) → IfTold o P → IfTold o Q
told_weaker None P Q weaker h = tt
told_weaker (Some files) P Q weaker h = weaker files h

pub told_and_weaker : (o : Option Files) (P Q : Files → Type 0) → ((files : Files) → P files → Q files) → ToldAnd o P → ToldAnd o Q
told_and_weaker None P Q weaker h = absurd h
told_and_weaker (Some files) P Q weaker h = weaker files h

-- what reads of told files give
pub given_by : (o : Option Files) (files : Files) (given : Reading) → o ≡ Some files → MayRead o given → given ≡ held_in files
given_by o files given told may = subst (λ o. MayRead o given) told may

pub from_told_and : (o : Option Files) (files : Files) (P : Files → Type 0) → o ≡ Some files → ToldAnd o P → P files
from_told_and o files P told h = subst (λ o. ToldAnd o P) told h

-- the same for what such refusals imply
pub refuses_weaker : (R Q : Reading → Status → Type 0) (status : Status) (before now : ShelfState) → ((given : Reading) (s : Status) → R given s → Q given s) → Refuses R status before now → Refuses Q status before now
refuses_weaker R Q Done before now weaker r = absurd r
refuses_weaker R Q (Usage word) before now weaker r = (r.0, r.1, weaker r.0 (Usage word) r.2)
refuses_weaker R Q (Job error) before now weaker r = (r.0, r.1, weaker r.0 (Job error) r.2)
refuses_weaker R Q (Gerber role error) before now weaker r = (r.0, r.1, weaker r.0 (Gerber role error) r.2)
refuses_weaker R Q (Drill error) before now weaker r = (r.0, r.1, weaker r.0 (Drill error) r.2)
refuses_weaker R Q (Outline error) before now weaker r = (r.0, r.1, weaker r.0 (Outline error) r.2)
refuses_weaker R Q (TooLong role) before now weaker r = (((r.0).0, (r.0).1, weaker (r.0).0 (TooLong role) (r.0).2), r.1)
refuses_weaker R Q (Limit hit) before now weaker r = (r.0, r.1, weaker r.0 (Limit hit) r.2)
refuses_weaker R Q (Ngc role fault line) before now weaker r = (r.0, r.1, weaker r.0 (Ngc role fault line) r.2)
refuses_weaker R Q (Watch watcher at) before now weaker r = (r.0, r.1, weaker r.0 (Watch watcher at) r.2)
refuses_weaker R Q (Cell i j line) before now weaker r = (r.0, r.1, weaker r.0 (Cell i j line) r.2)
refuses_weaker R Q (ReadFault role) before now weaker (inl r) = inl (r.0, r.1, r.2, weaker (without role r.1) (ReadFault role) r.3)
refuses_weaker R Q (ReadFault role) before now weaker (inr r) =
    inr (told_and_weaker before.files (λ files. R (held_in files) (ReadFault role)) (λ files. Q (held_in files) (ReadFault role)) (λ files. weaker (held_in files) (ReadFault role)) r)
refuses_weaker R Q (WriteFault role) before now weaker r = absurd r
refuses_weaker R Q Memory before now weaker r = tt

-- the steps before the writes leave the files and the count of writes
pub works_refused : (ends : Command) (status : Status) (before now : ShelfState) → OnlyReads before now → Refuses (λ given s. ends given (refusal s)) status before now → Works ends status before now
works_refused ends Done before now keeps r = absurd r
works_refused ends (Usage word) before now keeps r = (keeps.files, keeps.writes, r)
works_refused ends (Job error) before now keeps r = (keeps.files, keeps.writes, r)
works_refused ends (Gerber role error) before now keeps r = (keeps.files, keeps.writes, r)
works_refused ends (Drill error) before now keeps r = (keeps.files, keeps.writes, r)
works_refused ends (Outline error) before now keeps r = (keeps.files, keeps.writes, r)
works_refused ends (TooLong role) before now keeps r = (keeps.files, keeps.writes, r)
works_refused ends (Limit hit) before now keeps r = (keeps.files, keeps.writes, r)
works_refused ends (Ngc role fault line) before now keeps r = (keeps.files, keeps.writes, r)
works_refused ends (Watch watcher at) before now keeps r = (keeps.files, keeps.writes, r)
works_refused ends (Cell i j line) before now keeps r = (keeps.files, keeps.writes, r)
works_refused ends (ReadFault role) before now keeps r = (keeps.files, keeps.writes, r)
works_refused ends (WriteFault role) before now keeps r = absurd r
works_refused ends Memory before now keeps r = inl keeps.files

pub reaches_weaker : (ends : Command) (files : Option Files) (P Q : Ending → Type 0) → ((given : Reading) (e : Ending) → ends given e → P e → Q e) → Reaches ends files P → Reaches ends files Q
reaches_weaker ends files P Q weaker r = (r.0, r.1, r.2, r.3, weaker r.0 r.2 r.3 r.4)

-- A command that is carried out puts ok, and nothing else. The laws below ask this where the status is Done: the refusals of a
-- command that has lines of its own are told as those of any other.
abbrev pub PutsOk : Command → Type 0
PutsOk ends = (given : Reading) (e : Ending) → ends given e → e.status ≡ Done → e.lines ≡ line_of Done

has_lines : (lines : List ℕ) → lines ≡ line_of Done → lines ≢ []
has_lines lines ok none = absurd (apart (sym ok ∙ none))
  where
    apart : line_of Done ≡ [] → ⊥
    apart e = cc

-- what is left, once the line is put
pub leaves_told : (ends : Command) (status result : Status) → (status ≡ Done → PutsOk ends) → (before now : ShelfState) (k l : SinkState) → Works ends status before now → Told status result k l → Leaves ends result before now
leaves_told ends Done result ok before now k l w (inl (is, text)) = subst (λ s. Leaves ends s before now) (sym is) w
leaves_told ends Done result ok before now k l w (inr (inl (is, rose, f))) =
    subst (λ s. Leaves ends s before now) (sym is)
    (reaches_weaker ends before.files _ (λ e. ((roles.Lines ≡ roles.Lines) × (e.lines ≢ []) × (now.files ≡ all_stored e.outputs before.files)) ⊎ ((roles.Lines ≢ roles.Lines) × IsStopped roles.Lines e.outputs before.files now.files))
    (λ given e h p. inl (refl, has_lines e.lines (ok refl given e h p.0), p.1)) w)
leaves_told ends Done result ok before now k l w (inr (inr (is, f))) =
    subst (λ s. Leaves ends s before now) (sym is)
    (inr (reaches_weaker ends before.files _ (λ e. (now.files ≡ all_stored e.outputs before.files) ⊎ ((role : Role) × IsStopped role e.outputs before.files now.files)) (λ given e h p. inl p.1) w))
leaves_told ends (WriteFault role) result ok before now k l w (inl (is, got)) =
    subst (λ s. Leaves ends s before now) (sym is)
    (reaches_weaker ends before.files _ (λ e. ((role ≡ roles.Lines) × (e.lines ≢ []) × (now.files ≡ all_stored e.outputs before.files)) ⊎ ((role ≢ roles.Lines) × IsStopped role e.outputs before.files now.files))
    (λ given e h p. inr (w.0, p)) w.2)
leaves_told ends (WriteFault role) result ok before now k l w (inr (is, same)) =
    subst (λ s. Leaves ends s before now) (sym is)
    (inr (reaches_weaker ends before.files _ (λ e. (now.files ≡ all_stored e.outputs before.files) ⊎ ((role : Role) × IsStopped role e.outputs before.files now.files)) (λ given e h p. inr (role, p)) w.2))
leaves_told ends Memory result ok before now k l w told = by_either told
  where
    left : Works ends Memory before now → Leaves ends Memory before now
    left (inl same) = inl same
    left (inr r) = inr (reaches_weaker ends before.files _ (λ e. (now.files ≡ all_stored e.outputs before.files) ⊎ ((role : Role) × IsStopped role e.outputs before.files now.files)) (λ given e h p. inr p) r)

    by_either : Told Memory result k l → Leaves ends result before now
    by_either (inl (is, got)) = subst (λ s. Leaves ends s before now) (sym is) (left w)
    by_either (inr (is, same)) = subst (λ s. Leaves ends s before now) (sym is) (left w)
leaves_told ends (Usage word) result ok before now k l w (inl (is, got)) = subst (λ s. Leaves ends s before now) (sym is) (w.0, w.1)
leaves_told ends (Usage word) result ok before now k l w (inr (is, same)) = subst (λ s. Leaves ends s before now) (sym is) (inl w.0)
leaves_told ends (Job error) result ok before now k l w (inl (is, got)) = subst (λ s. Leaves ends s before now) (sym is) (w.0, w.1)
leaves_told ends (Job error) result ok before now k l w (inr (is, same)) = subst (λ s. Leaves ends s before now) (sym is) (inl w.0)
leaves_told ends (Gerber role error) result ok before now k l w (inl (is, got)) = subst (λ s. Leaves ends s before now) (sym is) (w.0, w.1)
leaves_told ends (Gerber role error) result ok before now k l w (inr (is, same)) = subst (λ s. Leaves ends s before now) (sym is) (inl w.0)
leaves_told ends (Drill error) result ok before now k l w (inl (is, got)) = subst (λ s. Leaves ends s before now) (sym is) (w.0, w.1)
leaves_told ends (Drill error) result ok before now k l w (inr (is, same)) = subst (λ s. Leaves ends s before now) (sym is) (inl w.0)
leaves_told ends (Outline error) result ok before now k l w (inl (is, got)) = subst (λ s. Leaves ends s before now) (sym is) (w.0, w.1)
leaves_told ends (Outline error) result ok before now k l w (inr (is, same)) = subst (λ s. Leaves ends s before now) (sym is) (inl w.0)
leaves_told ends (TooLong role) result ok before now k l w (inl (is, got)) = subst (λ s. Leaves ends s before now) (sym is) (w.0, w.1)
leaves_told ends (TooLong role) result ok before now k l w (inr (is, same)) = subst (λ s. Leaves ends s before now) (sym is) (inl w.0)
leaves_told ends (Limit hit) result ok before now k l w (inl (is, got)) = subst (λ s. Leaves ends s before now) (sym is) (w.0, w.1)
leaves_told ends (Limit hit) result ok before now k l w (inr (is, same)) = subst (λ s. Leaves ends s before now) (sym is) (inl w.0)
leaves_told ends (Ngc role fault line) result ok before now k l w (inl (is, got)) = subst (λ s. Leaves ends s before now) (sym is) (w.0, w.1)
leaves_told ends (Ngc role fault line) result ok before now k l w (inr (is, same)) = subst (λ s. Leaves ends s before now) (sym is) (inl w.0)
leaves_told ends (Watch watcher at) result ok before now k l w (inl (is, got)) = subst (λ s. Leaves ends s before now) (sym is) (w.0, w.1)
leaves_told ends (Cell i j line) result ok before now k l w (inl (is, got)) = subst (λ s. Leaves ends s before now) (sym is) (w.0, w.1)
leaves_told ends (Watch watcher at) result ok before now k l w (inr (is, same)) = subst (λ s. Leaves ends s before now) (sym is) (inl w.0)
leaves_told ends (Cell i j line) result ok before now k l w (inr (is, same)) = subst (λ s. Leaves ends s before now) (sym is) (inl w.0)
leaves_told ends (ReadFault role) result ok before now k l w (inl (is, got)) = subst (λ s. Leaves ends s before now) (sym is) (w.0, w.1)
leaves_told ends (ReadFault role) result ok before now k l w (inr (is, same)) = subst (λ s. Leaves ends s before now) (sym is) (inl w.0)

-- why it came, once the line is put
pub cause_told : (ends : Command) (status result : Status) (before now : ShelfState) (k l : SinkState) → Works ends status before now → Becomes status result k l → HasCause ends result before now k l
cause_told ends status result before now k l w (inl is) = subst (λ s. HasCause ends s before now k l) (sym is) (by_status status w)
  where
    from_refusal : (s : Status) → (given : Reading) × MayRead before.files given × ends given (refusal s) → Reaches ends before.files (λ e. e.status ≡ s)
    from_refusal s r = (r.0, r.1, refusal s, r.2, refl)

    by_status : (s : Status) → Works ends s before now → HasCause ends s before now k l
    by_status Done w = reaches_weaker ends before.files _ (λ e. e.status ≡ Done) (λ given e h p. p.0) w
    by_status (Usage word) w = from_refusal (Usage word) w.2
    by_status (Job error) w = from_refusal (Job error) w.2
    by_status (Gerber role error) w = from_refusal (Gerber role error) w.2
    by_status (Drill error) w = from_refusal (Drill error) w.2
    by_status (Outline error) w = from_refusal (Outline error) w.2
    by_status (TooLong role) w = (from_refusal (TooLong role) (w.2).0, (w.2).1)
    by_status (Limit hit) w = from_refusal (Limit hit) w.2
    by_status (Ngc role fault line) w = from_refusal (Ngc role fault line) w.2
    by_status (Watch watcher at) w = from_refusal (Watch watcher at) w.2
    by_status (Cell i j line) w = from_refusal (Cell i j line) w.2
    by_status (ReadFault role) w = w.2
    by_status (WriteFault role) w = inr (w.0, w.1)
    by_status Memory w = tt
cause_told ends status result before now k l w (inr (inl is)) = subst (λ s. HasCause ends s before now k l) (sym is) tt
cause_told ends status result before now k l w (inr (inr f)) = subst (λ s. HasCause ends s before now k l) (sym f.1) (inl (refl, f.2))

-- what the sink got
pub lines_told : (ends : Command) (status result : Status) → (status ≡ Done → PutsOk ends) → (before now : ShelfState) (k l : SinkState) → Works ends status before now → Told status result k l → Tells ends result before now k l
lines_told ends Done result ok before now k l w (inl (is, text)) =
    subst (λ s. Tells ends s before now k l) (sym is)
    (reaches_weaker ends before.files _ (λ e. (e.status ≡ Done) × (l.text ≡ appended e.lines k.text))
    (λ given e h p. (p.0, subst (λ lines. l.text ≡ appended lines k.text) (sym (ok refl given e h p.0)) text)) w)
lines_told ends Done result ok before now k l w (inr (inl (is, rose, f))) =
    subst (λ s. Tells ends s before now k l) (sym is)
    (inr (
      refl,
      reaches_weaker ends before.files _ (λ e. (now.files ≡ all_stored e.outputs before.files) × EndsInFault e.lines k l)
          (λ given e h p. (p.1, subst (λ lines. EndsInFault lines k l) (sym (ok refl given e h p.0)) f)) w,
    ))
lines_told ends Done result ok before now k l w (inr (inr (is, f))) =
    subst (λ s. Tells ends s before now k l) (sym is)
    (inr (reaches_weaker ends before.files _ (λ e. (now.files ≡ all_stored e.outputs before.files) × EndsInMemory e.lines k l)
    (λ given e h p. (p.1, subst (λ lines. EndsInMemory lines k l) (sym (ok refl given e h p.0)) f)) w))
lines_told ends (WriteFault role) result ok before now k l w (inl (is, got)) = subst (λ s. Tells ends s before now k l) (sym is) (inl (w.0, got))
lines_told ends (WriteFault role) result ok before now k l w (inr (is, same)) = subst (λ s. Tells ends s before now k l) (sym is) (inl (0, same ∙ sym (appended_nothing k.text)))
lines_told ends Memory result ok before now k l w (inl (is, got)) = subst (λ s. Tells ends s before now k l) (sym is) (inl (got_prefix (line_of Memory) k l got))
lines_told ends Memory result ok before now k l w (inr (is, same)) = subst (λ s. Tells ends s before now k l) (sym is) (inl (0, same ∙ sym (appended_nothing k.text)))
lines_told ends (ReadFault role) result ok before now k l w (inl (is, got)) = subst (λ s. Tells ends s before now k l) (sym is) got
lines_told ends (ReadFault role) result ok before now k l w (inr (is, same)) = subst (λ s. Tells ends s before now k l) (sym is) (inl (0, same ∙ sym (appended_nothing k.text)))
lines_told ends (Usage word) result ok before now k l w (inl (is, got)) = subst (λ s. Tells ends s before now k l) (sym is) ((w.2).0, (w.2).1, refusal (Usage word), (w.2).2, (refl, got))
lines_told ends (Usage word) result ok before now k l w (inr (is, same)) = subst (λ s. Tells ends s before now k l) (sym is) (inl (0, same ∙ sym (appended_nothing k.text)))
lines_told ends (Job error) result ok before now k l w (inl (is, got)) = subst (λ s. Tells ends s before now k l) (sym is) ((w.2).0, (w.2).1, refusal (Job error), (w.2).2, (refl, got))
lines_told ends (Job error) result ok before now k l w (inr (is, same)) = subst (λ s. Tells ends s before now k l) (sym is) (inl (0, same ∙ sym (appended_nothing k.text)))
lines_told ends (Gerber role error) result ok before now k l w (inl (is, got)) = subst (λ s. Tells ends s before now k l) (sym is) ((w.2).0, (w.2).1, refusal (Gerber role error), (w.2).2, (refl, got))
lines_told ends (Gerber role error) result ok before now k l w (inr (is, same)) = subst (λ s. Tells ends s before now k l) (sym is) (inl (0, same ∙ sym (appended_nothing k.text)))
lines_told ends (Drill error) result ok before now k l w (inl (is, got)) = subst (λ s. Tells ends s before now k l) (sym is) ((w.2).0, (w.2).1, refusal (Drill error), (w.2).2, (refl, got))
lines_told ends (Drill error) result ok before now k l w (inr (is, same)) = subst (λ s. Tells ends s before now k l) (sym is) (inl (0, same ∙ sym (appended_nothing k.text)))
lines_told ends (Outline error) result ok before now k l w (inl (is, got)) = subst (λ s. Tells ends s before now k l) (sym is) ((w.2).0, (w.2).1, refusal (Outline error), (w.2).2, (refl, got))
lines_told ends (Outline error) result ok before now k l w (inr (is, same)) = subst (λ s. Tells ends s before now k l) (sym is) (inl (0, same ∙ sym (appended_nothing k.text)))
lines_told ends (TooLong role) result ok before now k l w (inl (is, got)) = subst (λ s. Tells ends s before now k l) (sym is) (((w.2).0).0, ((w.2).0).1, refusal (TooLong role), ((w.2).0).2, (refl, got))
lines_told ends (TooLong role) result ok before now k l w (inr (is, same)) = subst (λ s. Tells ends s before now k l) (sym is) (inl (0, same ∙ sym (appended_nothing k.text)))
lines_told ends (Limit hit) result ok before now k l w (inl (is, got)) = subst (λ s. Tells ends s before now k l) (sym is) ((w.2).0, (w.2).1, refusal (Limit hit), (w.2).2, (refl, got))
lines_told ends (Limit hit) result ok before now k l w (inr (is, same)) = subst (λ s. Tells ends s before now k l) (sym is) (inl (0, same ∙ sym (appended_nothing k.text)))
lines_told ends (Ngc role fault line) result ok before now k l w (inl (is, got)) = subst (λ s. Tells ends s before now k l) (sym is) ((w.2).0, (w.2).1, refusal (Ngc role fault line), (w.2).2, (refl, got))
lines_told ends (Ngc role fault line) result ok before now k l w (inr (is, same)) = subst (λ s. Tells ends s before now k l) (sym is) (inl (0, same ∙ sym (appended_nothing k.text)))
lines_told ends (Watch watcher at) result ok before now k l w (inl (is, got)) = subst (λ s. Tells ends s before now k l) (sym is) ((w.2).0, (w.2).1, refusal (Watch watcher at), (w.2).2, (refl, got))
lines_told ends (Cell i j line) result ok before now k l w (inl (is, got)) = subst (λ s. Tells ends s before now k l) (sym is) ((w.2).0, (w.2).1, refusal (Cell i j line), (w.2).2, (refl, got))
lines_told ends (Watch watcher at) result ok before now k l w (inr (is, same)) = subst (λ s. Tells ends s before now k l) (sym is) (inl (0, same ∙ sym (appended_nothing k.text)))
lines_told ends (Cell i j line) result ok before now k l w (inr (is, same)) = subst (λ s. Tells ends s before now k l) (sym is) (inl (0, same ∙ sym (appended_nothing k.text)))

-- what is answered to each ending
answer_told : (ends : Command) (status result : Status) → (status ≡ Done → PutsOk ends) → (files : Files) (before now : ShelfState) (k l : SinkState) → Becomes status result k l
    → ((e : Ending) → ends (held_in files) e → IsAnswer ends files e status before now) → Answers ends files result before now k l
answer_told ends status result ok files before now k l (inl is) answers = λ e h. inl (subst (λ s. IsAnswer ends files e s before now) (sym is) (answers e h))
answer_told ends status result ok files before now k l (inr (inl is)) answers = λ e h. inl (inr (inl is))
answer_told ends status result ok files before now k l (inr (inr f)) answers = λ e h. inr (f.1, has_lines e.lines (ok f.0 (held_in files) e h (is_done e (subst (λ s. IsAnswer ends files e s before now) f.0 (answers e h)))), f.2)
  where
    is_done : (e : Ending) → IsAnswer ends files e Done before now → e.status ≡ Done
    is_done e (inl is) = sym is
    is_done e (inr (inl is)) = absurd (cc)
    is_done e (inr (inr (inl read))) = absurd (not_read read.0 read.1)
      where
        not_read : (role : Role) → Done ≡ ReadFault role → ⊥
        not_read role e = cc
    is_done e (inr (inr (inr write))) = absurd (not_written write.0 write.1)
      where
        not_written : (role : Role) → Done ≡ WriteFault role → ⊥
        not_written role e = cc

pub answers_told : (ends : Command) (status result : Status) → (status ≡ Done → PutsOk ends) → (before now : ShelfState) (k l : SinkState) → Becomes status result k l
    → IfTold before.files (λ files. (e : Ending) → ends (held_in files) e → IsAnswer ends files e status before now) → IfTold before.files (λ files. Answers ends files result before now k l)
answers_told ends status result ok before now k l becomes answers =
    told_weaker before.files (λ files. (e : Ending) → ends (held_in files) e → IsAnswer ends files e status before now) (λ files. Answers ends files result before now k l)
    (λ files. answer_told ends status result ok files before now k l becomes) answers
