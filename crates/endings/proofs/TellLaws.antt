-- What the sink got, by cases on the status.
use Rattle.std.proofs.Common.{◌≡◌, ◌≢◌, ◌⊎◌, ℕ, ◌+◌, ◌≤◌, List, [], ◌++◌, Option, Some, None, inl, inr, refl, sym, ap, ◌∙◌, take, length, append_assoc, drop, arith}
use Rattle.std.proofs.lemmas.List.{append-nil, take-append-drop}
use Rattle.std.proofs.Math.Seq.{take-length, take-append-add, take-append_seam}
use Rattle.std.proofs.lemmas.Grind.{common_steps}
use Rattle.board_base.specs.declared.places.Role.TheVariants as roles
use Rattle.board_base.specs.Counts.{Rose, RoseBy}
use Rattle.board_base.specs.Sink.{SinkState, appended, AppendsPrefix}
use Rattle.endings.specs.declared.status.Status.{Status}
use Rattle.endings.specs.declared.status.Status.TheVariants.{Done, Usage, Job, Gerber, Drill, Outline, TooLong, Limit, ReadFault, WriteFault, Ngc, Watch, Cell, Memory}
use Rattle.endings.specs.Lines.{line_of}
use Rattle.endings.specs.Run.{Got}
use Rattle.endings.specs.Works.{Told, ToldBehind, BrokeOff, RefusalTold}

-- one put after another
pub appended_twice : (x y : List ℕ) (text : Option (List ℕ)) → appended y (appended x text) ≡ appended (x ++ y) text
appended_twice x y None = refl
appended_twice x y (Some bytes) = ap Some (append_assoc {A = ℕ} bytes x y)

-- nothing put
pub appended_nothing : (text : Option (List ℕ)) → appended [] text ≡ text
appended_nothing None = refl
appended_nothing (Some bytes) = ap Some (append-nil bytes)

-- one text behind another
after_first : (first line : List ℕ) (before between now : Option (List ℕ)) → between ≡ appended first before → now ≡ appended line between → now ≡ appended (first ++ line) before
after_first first line before between now e f = f ∙ ap (appended line) e ∙ appended_twice first line before

-- two faults that were counted one after another
rose_twice : (a b c : ℕ) → Rose a b → Rose b c → RoseBy 2 a c
rose_twice a b c first second = grind (arith, common_steps)

rose_on : (a b c : ℕ) → Rose a b → b ≤ c → Rose a c
rose_on a b c rose more = grind (arith, common_steps)

-- lines broke off, and the line of the fault was put
pub lines_failed : (lines : List ℕ) (m : ℕ) (result : Status) (before between now : SinkState) → between.text ≡ appended (take m lines) before.text → Rose before.faults between.faults → between.faults ≤ now.faults
    → RefusalTold (WriteFault roles.Lines) result between now → BrokeOff lines result before now
lines_failed lines m result before between now first rose_first more (inl (is, inl whole)) =
    inl (
      is,
      rose_on before.faults between.faults now.faults rose_first more,
      (
        m,
        length (line_of (WriteFault roles.Lines)),
        after_first _ _ before.text between.text now.text first (whole ∙ ap (λ l. appended l between.text) (sym (take-length (line_of (WriteFault roles.Lines))))),
        inl (take-length (line_of (WriteFault roles.Lines))),
      ),
    )
lines_failed lines m result before between now first rose_first more (inl (is, inr part)) =
    inl (is, rose_on before.faults between.faults now.faults rose_first more, (m, part.1.0, after_first _ _ before.text between.text now.text first part.1.1, inr (rose_twice before.faults between.faults now.faults rose_first part.0)))
lines_failed lines m result before between now first rose_first more (inr (is, same)) =
    inr (is, (m, 0, same ∙ first ∙ ap (λ l. appended l before.text) (sym (append-nil (take m lines)))))

-- lines found no memory behind some of them, and the line of want of memory was put
pub lines_stopped : (lines : List ℕ) (m : ℕ) (result : Status) (before between now : SinkState) → between.text ≡ appended (take m lines) before.text → RefusalTold Memory result between now → BrokeOff lines result before now
lines_stopped lines m result before between now first (inl (is, inl whole)) =
    inr (is, (m, length (line_of Memory), after_first _ _ before.text between.text now.text first (whole ∙ ap (λ l. appended l between.text) (sym (take-length (line_of Memory))))))
lines_stopped lines m result before between now first (inl (is, inr part)) =
    inr (is, (m, part.1.0, after_first _ _ before.text between.text now.text first part.1.1))
lines_stopped lines m result before between now first (inr (is, same)) =
    inr (is, (m, 0, same ∙ first ∙ ap (λ l. appended l before.text) (sym (append-nil (take m lines)))))

-- none of the lines was put
pub lines_lost : (lines : List ℕ) (result : Status) (before between now : SinkState) → between.text ≡ before.text → RefusalTold Memory result between now → BrokeOff lines result before now
lines_lost lines result before between now first told =
    lines_stopped lines 0 result before between now (first ∙ sym (appended_nothing before.text)) told

-- lines that broke off, with more behind them
longer_prefix : (lines more : List ℕ) (m : ℕ) → take (length (take m lines)) (lines ++ more) ≡ take m lines
longer_prefix lines more m =
    ap (λ t. take (length (take m lines)) (t ++ more)) (sym (take-append-drop m lines))
    ∙ ap (take (length (take m lines))) (append_assoc (take m lines) (drop m lines) more)
    ∙ take-append_seam (take m lines) (drop m lines ++ more)

broke_longer : (lines more : List ℕ) (result : Status) (before now : SinkState) → BrokeOff lines result before now → BrokeOff (lines ++ more) result before now
broke_longer lines more result before now (inl (is, rose, f)) =
    inl (is, rose, (length (take f.0 lines), f.1, f.2 ∙ ap (λ t. appended (t ++ take f.1 (line_of (WriteFault roles.Lines))) before.text) (sym (longer_prefix lines more f.0)), f.3))
broke_longer lines more result before now (inr (is, f)) =
    inr (is, (length (take f.0 lines), f.1, f.2 ∙ ap (λ t. appended (t ++ take f.1 (line_of Memory)) before.text) (sym (longer_prefix lines more f.0))))

-- a count that rose from a later one rose from an earlier one
pub rose_before : (n a b c : ℕ) → a ≤ b → RoseBy n b c → RoseBy n a c
rose_before n a b c more rose = grind (arith, common_steps)

-- lines that broke off behind others
behind_first : (first line last : List ℕ) (m : ℕ) (before between now : Option (List ℕ)) → between ≡ appended first before → now ≡ appended (take m line ++ last) between → now ≡ appended (take (length first + m) (first ++ line) ++ last) before
behind_first first line last m before between now e f =
    after_first first (take m line ++ last) before between now e f
    ∙ ap (λ t. appended t before) (sym (append_assoc first (take m line) last) ∙ ap (λ t. t ++ last) (sym (take-append-add first line m)))

broke_behind : (first line : List ℕ) (result : Status) (before between now : SinkState) → between.text ≡ appended first before.text → before.faults ≤ between.faults → BrokeOff line result between now → BrokeOff (first ++ line) result before now
broke_behind first line result before between now e more (inl (is, rose, f)) =
    inl (is, rose_before 1 before.faults between.faults now.faults more rose, (length first + f.0, f.1, behind_first first line _ f.0 before.text between.text now.text e f.2, two f.3))
  where
    two : (take f.1 (line_of (WriteFault roles.Lines)) ≡ line_of (WriteFault roles.Lines)) ⊎ RoseBy 2 between.faults now.faults → (take f.1 (line_of (WriteFault roles.Lines)) ≡ line_of (WriteFault roles.Lines)) ⊎ RoseBy 2 before.faults now.faults
    two (inl whole) = inl whole
    two (inr rose) = inr (rose_before 2 before.faults between.faults now.faults more rose)
broke_behind first line result before between now e more (inr (is, f)) =
    inr (is, (length first + f.0, f.1, behind_first first line _ f.0 before.text between.text now.text e f.2))

got_behind : (first line : List ℕ) (before between now : SinkState) → between.text ≡ appended first before.text → before.faults ≤ between.faults → Got line between now → Got (first ++ line) before now
got_behind first line before between now e more (inl whole) = inl (after_first first line before.text between.text now.text e whole)
got_behind first line before between now e more (inr part) =
    inr (
      rose_before 1 before.faults between.faults now.faults more part.0,
      (
        length first + part.1.0,
        after_first first (take part.1.0 line) before.text between.text now.text e part.1.1 ∙ ap (λ t. appended t before.text) (sym (take-append-add first line part.1.0)),
      ),
    )

-- a refusal's line behind others
refusal_behind : (lines : List ℕ) (status result : Status) (before between now : SinkState) → between.text ≡ appended lines before.text → before.faults ≤ between.faults → RefusalTold status result between now
    → ((result ≡ status) × Got (lines ++ line_of status) before now) ⊎ BrokeOff lines result before now
refusal_behind lines status result before between now e more (inl (is, got)) = inl (is, got_behind lines (line_of status) before between now e more got)
refusal_behind lines status result before between now e more (inr (is, same)) =
    inr (inr (is, (length lines, 0, same ∙ e ∙ ap (λ t. appended t before.text) (sym (append-nil (take (length lines) lines) ∙ take-length lines)))))

-- a status is told behind lines
pub told_behind : (lines : List ℕ) (status result : Status) (before between now : SinkState) → between.text ≡ appended lines before.text → before.faults ≤ between.faults → Told status result between now → ToldBehind lines status result before now
told_behind lines Done result before between now e more (inl (is, text)) = inl (is, after_first lines (line_of Done) before.text between.text now.text e text)
told_behind lines Done result before between now e more (inr broke) = inr (broke_behind lines (line_of Done) result before between now e more broke)
told_behind lines (Usage word) result before between now e more told = refusal_behind lines (Usage word) result before between now e more told
told_behind lines (Job error) result before between now e more told = refusal_behind lines (Job error) result before between now e more told
told_behind lines (Gerber role error) result before between now e more told = refusal_behind lines (Gerber role error) result before between now e more told
told_behind lines (Drill error) result before between now e more told = refusal_behind lines (Drill error) result before between now e more told
told_behind lines (Outline error) result before between now e more told = refusal_behind lines (Outline error) result before between now e more told
told_behind lines (TooLong role) result before between now e more told = refusal_behind lines (TooLong role) result before between now e more told
told_behind lines (Limit hit) result before between now e more told = refusal_behind lines (Limit hit) result before between now e more told
told_behind lines (ReadFault role) result before between now e more told = refusal_behind lines (ReadFault role) result before between now e more told
told_behind lines (WriteFault role) result before between now e more told = refusal_behind lines (WriteFault role) result before between now e more told
told_behind lines (Ngc role fault line) result before between now e more told = refusal_behind lines (Ngc role fault line) result before between now e more told
told_behind lines (Watch watcher at) result before between now e more told = refusal_behind lines (Watch watcher at) result before between now e more told
told_behind lines (Cell i j line) result before between now e more told = refusal_behind lines (Cell i j line) result before between now e more told
told_behind lines Memory result before between now e more told = refusal_behind lines Memory result before between now e more told

-- the lines before a status broke off
pub broke_told : (lines : List ℕ) (status result : Status) (before now : SinkState) → BrokeOff lines result before now → ToldBehind lines status result before now
broke_told lines Done result before now broke = inr (broke_longer lines (line_of Done) result before now broke)
broke_told lines (Usage word) result before now broke = inr broke
broke_told lines (Job error) result before now broke = inr broke
broke_told lines (Gerber role error) result before now broke = inr broke
broke_told lines (Drill error) result before now broke = inr broke
broke_told lines (Outline error) result before now broke = inr broke
broke_told lines (TooLong role) result before now broke = inr broke
broke_told lines (Limit hit) result before now broke = inr broke
broke_told lines (ReadFault role) result before now broke = inr broke
broke_told lines (WriteFault role) result before now broke = inr broke
broke_told lines (Ngc role fault line) result before now broke = inr broke
broke_told lines (Watch watcher at) result before now broke = inr broke
broke_told lines (Cell i j line) result before now broke = inr broke
broke_told lines Memory result before now broke = inr broke

-- a refusal's line was put
pub refusal_told : (status result : Status) (before now : SinkState) → status ≢ Done → RefusalTold status result before now → Told status result before now
refusal_told Done result before now other told = absurd (other refl)
refusal_told (Usage word) result before now other told = told
refusal_told (Job error) result before now other told = told
refusal_told (Gerber role error) result before now other told = told
refusal_told (Drill error) result before now other told = told
refusal_told (Outline error) result before now other told = told
refusal_told (TooLong role) result before now other told = told
refusal_told (Limit hit) result before now other told = told
refusal_told (Ngc role fault line) result before now other told = told
refusal_told (Watch watcher at) result before now other told = told
refusal_told (Cell i j line) result before now other told = told
refusal_told (ReadFault role) result before now other told = told
refusal_told (WriteFault role) result before now other told = told
refusal_told Memory result before now other told = told

-- a text that the sink got in part
pub got_prefix : (text : List ℕ) (before now : SinkState) → Got text before now → AppendsPrefix text before.text now.text
got_prefix text before now (inl whole) = (length text, whole ∙ ap (λ l. appended l before.text) (sym (take-length text)))
got_prefix text before now (inr part) = part.1
