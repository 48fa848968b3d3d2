-- What the parts of a run make of it, for a command that writes no file and has lines of its own.
use Rattle.std.proofs.Common.{◌≡◌, ◌≢◌, ◌⊎◌, ℕ, List, [], ◌∷◌, ◌++◌, inl, inr, refl, sym, ap, ◌∙◌, subst}
use Rattle.board_base.specs.declared.places.Role.TheVariants as roles
use Rattle.board_base.specs.Counts.{Rose}
use Rattle.board_base.specs.Files.{Files}
use Rattle.board_base.specs.Shelf.{ShelfState}
use Rattle.board_base.specs.Sink.{SinkState, appended}
use Rattle.endings.specs.declared.status.Status.{Status}
use Rattle.endings.specs.declared.status.Status.TheVariants.{Done, Usage, Job, Gerber, Drill, Outline, TooLong, Limit, ReadFault, WriteFault, Ngc, Watch, Cell, Memory}
use Rattle.endings.specs.Answers.{IfTold}
use Rattle.endings.specs.Lines.{line_of}
use Rattle.endings.specs.Outputs.{all_stored, IsStopped}
use Rattle.endings.specs.Reads.{held_in}
use Rattle.endings.specs.Ending.{Ending, with_ok, Command, Reaches}
use Rattle.endings.specs.Run.{Leaves, IsAnswer, Answers, HasCause, Tells, Got, EndsInMemory, EndsInFault}
use Rattle.endings.specs.Works.{WorksAlone, BrokeOff, ToldBehind, BecomesBehind}
use Rattle.endings.proofs.RunLaws.{reaches_weaker, told_weaker}

-- the ending with this status and these lines
abbrev alone : List ℕ → Status → Ending
alone lines status = record { status = status; outputs = []; lines = with_ok status lines }

-- what is so of that ending is so of the one that was reached
reaches_alone : (ends : Command) (lines : List ℕ) (status : Status) (before now : ShelfState) (P : Ending → Type 0) → WorksAlone ends lines status before now → P (alone lines status) → Reaches ends before.files P
reaches_alone ends lines status before now P w p = reaches_weaker ends before.files (λ e. e ≡ alone lines status) P (λ given e h is. subst P (sym is) p) w.ending

some_more : (lines more : List ℕ) → lines ≢ [] → lines ++ more ≢ []
some_more [] more some e = some refl
some_more (b ∷ lines) more some e = cc

-- ---- by the status

-- lines that are some still are, with ok behind them
pub ok_some : (status : Status) (lines : List ℕ) → lines ≢ [] → with_ok status lines ≢ []
ok_some Done lines some = some_more lines (line_of Done) some
ok_some (Usage word) lines some = some
ok_some (Job error) lines some = some
ok_some (Gerber role error) lines some = some
ok_some (Drill error) lines some = some
ok_some (Outline error) lines some = some
ok_some (TooLong role) lines some = some
ok_some (Limit hit) lines some = some
ok_some (ReadFault role) lines some = some
ok_some (WriteFault role) lines some = some
ok_some (Ngc role fault line) lines some = some
ok_some (Watch watcher at) lines some = some
ok_some (Cell i j line) lines some = some
ok_some Memory lines some = some

leaves_as : (ends : Command) (lines : List ℕ) (status : Status) (before now : ShelfState) → WorksAlone ends lines status before now → Leaves ends status before now
leaves_as ends lines Done before now w = reaches_alone ends lines Done before now (λ e. (e.status ≡ Done) × (now.files ≡ all_stored e.outputs before.files)) w (refl, w.files)
leaves_as ends lines (Watch watcher at) before now w = (w.files, w.writes)
leaves_as ends lines (Usage word) before now w = absurd w.comes
leaves_as ends lines (Cell i j line) before now w = absurd w.comes
leaves_as ends lines (Job error) before now w = absurd w.comes
leaves_as ends lines (Gerber role error) before now w = absurd w.comes
leaves_as ends lines (Drill error) before now w = absurd w.comes
leaves_as ends lines (Outline error) before now w = absurd w.comes
leaves_as ends lines (TooLong role) before now w = absurd w.comes
leaves_as ends lines (Limit hit) before now w = absurd w.comes
leaves_as ends lines (ReadFault role) before now w = absurd w.comes
leaves_as ends lines (WriteFault role) before now w = absurd w.comes
leaves_as ends lines (Ngc role fault line) before now w = absurd w.comes
leaves_as ends lines Memory before now w = absurd w.comes

cause_as : (ends : Command) (lines : List ℕ) (status : Status) (before now : ShelfState) (k l : SinkState) → WorksAlone ends lines status before now → HasCause ends status before now k l
cause_as ends lines Done before now k l w = reaches_alone ends lines Done before now (λ e. e.status ≡ Done) w refl
cause_as ends lines (Watch watcher at) before now k l w = reaches_alone ends lines (Watch watcher at) before now (λ e. e.status ≡ Watch watcher at) w refl
cause_as ends lines (Usage word) before now k l w = absurd w.comes
cause_as ends lines (Cell i j line) before now k l w = absurd w.comes
cause_as ends lines (Job error) before now k l w = absurd w.comes
cause_as ends lines (Gerber role error) before now k l w = absurd w.comes
cause_as ends lines (Drill error) before now k l w = absurd w.comes
cause_as ends lines (Outline error) before now k l w = absurd w.comes
cause_as ends lines (TooLong role) before now k l w = absurd w.comes
cause_as ends lines (Limit hit) before now k l w = absurd w.comes
cause_as ends lines (ReadFault role) before now k l w = absurd w.comes
cause_as ends lines (WriteFault role) before now k l w = absurd w.comes
cause_as ends lines (Ngc role fault line) before now k l w = absurd w.comes
cause_as ends lines Memory before now k l w = absurd w.comes

-- ---- what a run makes of it

-- what is left, once the lines are put
pub leaves_alone : (ends : Command) (lines : List ℕ) (status result : Status) (before now : ShelfState) (k l : SinkState) → WorksAlone ends lines status before now → BecomesBehind status result k l → Leaves ends result before now
leaves_alone ends lines status result before now k l w (inl is) = subst (λ s. Leaves ends s before now) (sym is) (leaves_as ends lines status before now w)
leaves_alone ends lines status result before now k l w (inr (inl is)) = subst (λ s. Leaves ends s before now) (sym is) (inl w.files)
leaves_alone ends lines status result before now k l w (inr (inr f)) =
    subst (λ s. Leaves ends s before now) (sym f.0)
    (reaches_alone ends lines status before now (λ e. ((roles.Lines ≡ roles.Lines) × (e.lines ≢ []) × (now.files ≡ all_stored e.outputs before.files)) ⊎ ((roles.Lines ≢ roles.Lines) × IsStopped roles.Lines e.outputs before.files now.files))
    w (inl (refl, w.some, w.files)))

-- why it came
pub cause_alone : (ends : Command) (lines : List ℕ) (status result : Status) (before now : ShelfState) (k l : SinkState) → WorksAlone ends lines status before now → BecomesBehind status result k l → HasCause ends result before now k l
cause_alone ends lines status result before now k l w (inl is) = subst (λ s. HasCause ends s before now k l) (sym is) (cause_as ends lines status before now k l w)
cause_alone ends lines status result before now k l w (inr (inl is)) = subst (λ s. HasCause ends s before now k l) (sym is) tt
cause_alone ends lines status result before now k l w (inr (inr f)) = subst (λ s. HasCause ends s before now k l) (sym f.0) (inl (refl, f.1))

-- what the sink got, where the lines broke off
broke_alone : (ends : Command) (lines : List ℕ) (status result : Status) (before now : ShelfState) (k l : SinkState) → WorksAlone ends lines status before now → BrokeOff (alone lines status).lines result k l → Tells ends result before now k l
broke_alone ends lines status result before now k l w (inl (is, rose, f)) =
    subst (λ s. Tells ends s before now k l) (sym is)
    (inr (refl, reaches_alone ends lines status before now (λ e. (now.files ≡ all_stored e.outputs before.files) × EndsInFault e.lines k l) w (w.files, f)))
broke_alone ends lines status result before now k l w (inr (is, f)) =
    subst (λ s. Tells ends s before now k l) (sym is)
    (inr (reaches_alone ends lines status before now (λ e. (now.files ≡ all_stored e.outputs before.files) × EndsInMemory e.lines k l) w (w.files, f)))

-- what the sink got
pub lines_alone : (ends : Command) (lines : List ℕ) (status result : Status) (before now : ShelfState) (k l : SinkState) → WorksAlone ends lines status before now → ToldBehind lines status result k l → Tells ends result before now k l
lines_alone ends lines Done result before now k l w (inl (is, text)) =
    subst (λ s. Tells ends s before now k l) (sym is)
    (reaches_alone ends lines Done before now (λ e. (e.status ≡ Done) × (l.text ≡ appended e.lines k.text)) w (refl, text))
lines_alone ends lines Done result before now k l w (inr broke) = broke_alone ends lines Done result before now k l w broke
lines_alone ends lines (Watch watcher at) result before now k l w (inl (is, got)) =
    subst (λ s. Tells ends s before now k l) (sym is)
    (reaches_alone ends lines (Watch watcher at) before now (λ e. (e.status ≡ Watch watcher at) × Got (e.lines ++ line_of (Watch watcher at)) k l) w (refl, got))
lines_alone ends lines (Watch watcher at) result before now k l w (inr broke) = broke_alone ends lines (Watch watcher at) result before now k l w broke
lines_alone ends lines (Usage word) result before now k l w told = absurd w.comes
lines_alone ends lines (Cell i j line) result before now k l w told = absurd w.comes
lines_alone ends lines (Job error) result before now k l w told = absurd w.comes
lines_alone ends lines (Gerber role error) result before now k l w told = absurd w.comes
lines_alone ends lines (Drill error) result before now k l w told = absurd w.comes
lines_alone ends lines (Outline error) result before now k l w told = absurd w.comes
lines_alone ends lines (TooLong role) result before now k l w told = absurd w.comes
lines_alone ends lines (Limit hit) result before now k l w told = absurd w.comes
lines_alone ends lines (ReadFault role) result before now k l w told = absurd w.comes
lines_alone ends lines (WriteFault role) result before now k l w told = absurd w.comes
lines_alone ends lines (Ngc role fault line) result before now k l w told = absurd w.comes
lines_alone ends lines Memory result before now k l w told = absurd w.comes

-- what is answered to each ending, where the files have that one alone
pub answers_alone : (ends : Command) (lines : List ℕ) (status result : Status) (before now : ShelfState) (k l : SinkState) → WorksAlone ends lines status before now → BecomesBehind status result k l
    → IfTold before.files (λ files. (e : Ending) → ends (held_in files) e → e ≡ alone lines status) → IfTold before.files (λ files. Answers ends files result before now k l)
answers_alone ends lines status result before now k l w becomes only =
    told_weaker before.files (λ files. (e : Ending) → ends (held_in files) e → e ≡ alone lines status) (λ files. Answers ends files result before now k l)
    (λ files only e h. answer files e (only e h) becomes) only
  where
    answer : (files : Files) (e : Ending) → e ≡ alone lines status → BecomesBehind status result k l → IsAnswer ends files e result before now ⊎ ((result ≡ WriteFault roles.Lines) × (e.lines ≢ []) × Rose k.faults l.faults)
    answer files e is (inl same) = inl (inl (same ∙ sym (ap (λ e. e.status) is)))
    answer files e is (inr (inl memory)) = inl (inr (inl memory))
    answer files e is (inr (inr f)) = inr (f.0, subst (λ e. e.lines ≢ []) (sym is) w.some, f.1)
