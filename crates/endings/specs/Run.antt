-- What a run leaves, tells and answers, for every command alike.
use Rattle.std.specs.Prelude.{◌≡◌, ◌≢◌, ◌⊎◌, ℕ, ◌+◌, List, [], ◌++◌, IsNone, take}
use Rattle.board_base.specs.declared.places.Role.{Role}
use Rattle.board_base.specs.declared.places.Role.TheVariants as roles
use Rattle.board_base.specs.Counts.{Rose, RoseBy}
use Rattle.board_base.specs.Files.{Files}
use Rattle.board_base.specs.Shelf.{ShelfState}
use Rattle.board_base.specs.Sink.{SinkState, appended, AppendsPrefix}
use Rattle.endings.specs.declared.status.Status.{Status}
use Rattle.endings.specs.declared.status.Status.TheVariants.{Done, TooLong, ReadFault, WriteFault, Memory}
use Rattle.endings.specs.Limits.{most_bytes}
use Rattle.endings.specs.Lines.{line_of}
use Rattle.endings.specs.Outputs.{all_stored, IsStopped, Writes}
use Rattle.endings.specs.Reads.{Reading, held_in, MayRead}
use Rattle.endings.specs.Ending.{Ending, refusal, Command, Reaches, Asks}
use Rattle.endings.specs.Answers.{ToldAnd}

-- what the shelf holds after each status
abbrev pub Leaves : Command → Status → ShelfState → ShelfState → Type 0
Leaves ends Done before now = Reaches ends before.files (λ e. (e.status ≡ Done) × (now.files ≡ all_stored e.outputs before.files))
Leaves ends (WriteFault role) before now = Reaches ends before.files (λ e.
    ((role ≡ roles.Lines) × (e.lines ≢ []) × (now.files ≡ all_stored e.outputs before.files))
    ⊎ ((role ≢ roles.Lines) × IsStopped role e.outputs before.files now.files))
Leaves ends Memory before now =
    (now.files ≡ before.files)
    ⊎ Reaches ends before.files (λ e. (now.files ≡ all_stored e.outputs before.files)
    ⊎ ((role : Role) × IsStopped role e.outputs before.files now.files))
Leaves ends status before now = (now.files ≡ before.files) × (now.writes ≡ before.writes)

-- the answer to an ending, before any line is put: its status, want of memory, or a counted fault of a read that the
-- command asks for before it ends, or of one of its files
abbrev pub IsAnswer : Command → Files → Ending → Status → ShelfState → ShelfState → Type 0
IsAnswer ends files e result before now =
    (result ≡ e.status) ⊎ (result ≡ Memory)
    ⊎ ((role : Role) × (result ≡ ReadFault role) × Asks ends role (held_in files) × Rose before.read_faults now.read_faults)
    ⊎ ((role : Role) × (result ≡ WriteFault role) × Writes role e.outputs × Rose before.write_faults now.write_faults)

-- what is answered to each ending that the command has with these files: that, or a counted fault of the sink where the
-- command has lines
abbrev pub Answers : Command → Files → Status → ShelfState → ShelfState → SinkState → SinkState → Type 0
Answers ends files result before now sink_before sink_now =
    (e : Ending) → ends (held_in files) e
    → IsAnswer ends files e result before now
    ⊎ ((result ≡ WriteFault roles.Lines) × (e.lines ≢ []) × Rose sink_before.faults sink_now.faults)

-- why each status comes, on every shelf
abbrev pub HasCause : Command → Status → ShelfState → ShelfState → SinkState → SinkState → Type 0
HasCause ends Memory before now sink_before sink_now = Unit {0}
HasCause ends (WriteFault role) before now sink_before sink_now =
    ((role ≡ roles.Lines) × Rose sink_before.faults sink_now.faults)
    ⊎ ((role ≢ roles.Lines) × Rose before.write_faults now.write_faults)
HasCause ends (ReadFault role) before now sink_before sink_now =
    (Rose before.read_faults now.read_faults × (given : Reading) × MayRead before.files given × Asks ends role given)
    ⊎ ToldAnd before.files (λ files. ends (held_in files) (refusal (ReadFault role)))
HasCause ends (TooLong role) before now sink_before sink_now =
    Reaches ends before.files (λ e. e.status ≡ TooLong role) × (IsNone before.files → RoseBy (most_bytes + 1) before.taken now.taken)
HasCause ends status before now sink_before sink_now = Reaches ends before.files (λ e. e.status ≡ status)

-- the sink got this text, or a prefix of it and a fault was counted
abbrev pub Got : List ℕ → SinkState → SinkState → Type 0
Got text before now =
    (now.text ≡ appended text before.text)
    ⊎ (Rose before.faults now.faults × AppendsPrefix text before.text now.text)

-- a prefix of these lines came, and then a prefix of the line of want of memory
abbrev pub EndsInMemory : List ℕ → SinkState → SinkState → Type 0
EndsInMemory lines before now = (m n : ℕ) × (now.text ≡ appended (take m lines ++ take n (line_of Memory)) before.text)

-- a prefix of these lines came, and then the line of the fault: whole, or a prefix of it and two faults were counted
abbrev pub EndsInFault : List ℕ → SinkState → SinkState → Type 0
EndsInFault lines before now =
    (m n : ℕ) × (now.text ≡ appended (take m lines ++ take n (line_of (WriteFault roles.Lines))) before.text)
    × ((take n (line_of (WriteFault roles.Lines)) ≡ line_of (WriteFault roles.Lines)) ⊎ RoseBy 2 before.faults now.faults)

-- What the sink got: the lines of the command where it is carried out, and else those that come before the line of its
-- refusal, and that line. Before want of memory and a fault of the sink a prefix of the command's lines may stand, once all
-- its files do.
abbrev pub Tells : Command → Status → ShelfState → ShelfState → SinkState → SinkState → Type 0
Tells ends Done shelf_before shelf_now before now =
    Reaches ends shelf_before.files (λ e. (e.status ≡ Done) × (now.text ≡ appended e.lines before.text))
Tells ends Memory shelf_before shelf_now before now =
    AppendsPrefix (line_of Memory) before.text now.text
    ⊎ Reaches ends shelf_before.files (λ e. (shelf_now.files ≡ all_stored e.outputs shelf_before.files) × EndsInMemory e.lines before now)
Tells ends (WriteFault role) shelf_before shelf_now before now =
    ((role ≢ roles.Lines) × Got (line_of (WriteFault role)) before now)
    ⊎ ((role ≡ roles.Lines)
    × Reaches ends shelf_before.files (λ e. (shelf_now.files ≡ all_stored e.outputs shelf_before.files) × EndsInFault e.lines before now))
Tells ends (ReadFault role) shelf_before shelf_now before now = Got (line_of (ReadFault role)) before now
Tells ends status shelf_before shelf_now before now =
    Reaches ends shelf_before.files (λ e. (e.status ≡ status) × Got (e.lines ++ line_of status) before now)
