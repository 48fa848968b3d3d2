-- The parts of a run: what is accepted or refused, what is done before any line is put, and what putting it makes of the
-- status.
use Rattle.std.specs.Prelude.{◌≡◌, ◌≢◌, ◌⊎◌, ℕ, ◌+◌, List, [], ◌++◌, Result, Ok, Err, IsNone}
use Rattle.board_base.specs.declared.places.Role.{Role}
use Rattle.board_base.specs.declared.places.Role.TheVariants as roles
use Rattle.board_base.specs.Counts.{Rose, RoseBy}
use Rattle.board_base.specs.Shelf.{ShelfState}
use Rattle.board_base.specs.Sink.{SinkState, appended}
use Rattle.endings.specs.declared.status.Status.{Status}
use Rattle.endings.specs.declared.status.Status.TheVariants.{Done, TooLong, ReadFault, WriteFault, Watch, Memory}
use Rattle.endings.specs.Limits.{most_bytes}
use Rattle.endings.specs.Lines.{line_of}
use Rattle.endings.specs.Outputs.{all_stored, IsStopped}
use Rattle.endings.specs.Reads.{Reading, held_in, MayRead, without}
use Rattle.endings.specs.Ending.{refusal, with_ok, Command, Reaches}
use Rattle.endings.specs.Answers.{ToldAnd}
use Rattle.endings.specs.Run.{Got, EndsInMemory, EndsInFault}

-- A refusal R that comes of what reads give, or want of memory, or a counted fault of a read that would be missed.
abbrev pub Refuses : (Reading → Status → Type 0) → Status → ShelfState → ShelfState → Type 0
Refuses R Memory before now = Unit {0}
Refuses R (ReadFault role) before now =
    (Rose before.read_faults now.read_faults × (given : Reading) × MayRead before.files given × R (without role given) (ReadFault role))
    ⊎ ToldAnd before.files (λ files. R (held_in files) (ReadFault role))
Refuses R (TooLong role) before now =
    ((given : Reading) × MayRead before.files given × R given (TooLong role))
    × (IsNone before.files → RoseBy (most_bytes + 1) before.taken now.taken)
Refuses R (WriteFault role) before now = ⊥
Refuses R Done before now = ⊥
Refuses R status before now = (given : Reading) × MayRead before.files given × R given status

-- What a step that reads returned, seen by view, is what is expected of what reads give, or a refusal.
abbrev pub Gives : {X Y : Type 0} → (X → Y) → ShelfState → ShelfState → (Reading → Result Y Status) → Result X Status → Type 0
Gives view before now expected (Ok x) = (given : Reading) × MayRead before.files given × (expected given ≡ Ok (view x))
Gives view before now expected (Err status) = Refuses (λ given s. expected given ≡ Err s) status before now

-- what was done before any line is put, and why
abbrev pub Works : Command → Status → ShelfState → ShelfState → Type 0
Works ends Done before now = Reaches ends before.files (λ e. (e.status ≡ Done) × (now.files ≡ all_stored e.outputs before.files))
Works ends (WriteFault role) before now =
    (role ≢ roles.Lines) × Rose before.write_faults now.write_faults
    × Reaches ends before.files (λ e. IsStopped role e.outputs before.files now.files)
Works ends Memory before now =
    (now.files ≡ before.files)
    ⊎ Reaches ends before.files (λ e. (role : Role) × IsStopped role e.outputs before.files now.files)
Works ends status before now =
    (now.files ≡ before.files) × (now.writes ≡ before.writes) × Refuses (λ given s. ends given (refusal s)) status before now

-- a status that comes behind lines of the command: it was carried out, or a watcher objected
abbrev pub ComesBehind : Status → Type 0
ComesBehind Done = Unit {0}
ComesBehind (Watch watcher at) = Unit {0}
ComesBehind status = ⊥

-- what was done before any line is put, where a command that writes no file came to this status with these lines
pub record WorksAlone (ends : Command) (lines : List ℕ) (status : Status) (before now : ShelfState) : Type 0 where
  pub comes : ComesBehind status
  pub files : now.files ≡ before.files
  pub writes : now.writes ≡ before.writes
  pub some : with_ok status lines ≢ []
  pub ending : Reaches ends before.files (λ e. e ≡ record { status = status; outputs = []; lines = with_ok status lines })

-- the line of a refusal was put, or nothing where memory was wanting
abbrev pub RefusalTold : Status → Status → SinkState → SinkState → Type 0
RefusalTold status result before now =
    ((result ≡ status) × Got (line_of status) before now)
    ⊎ ((result ≡ Memory) × (now.text ≡ before.text))

-- these lines broke off: by a fault of the sink, or by want of memory
abbrev pub BrokeOff : List ℕ → Status → SinkState → SinkState → Type 0
BrokeOff lines result before now =
    ((result ≡ WriteFault roles.Lines) × Rose before.faults now.faults × EndsInFault lines before now)
    ⊎ ((result ≡ Memory) × EndsInMemory lines before now)

-- what a status becomes once its line is put, and what the sink got
abbrev pub Told : Status → Status → SinkState → SinkState → Type 0
Told Done result before now =
    ((result ≡ Done) × (now.text ≡ appended (line_of Done) before.text))
    ⊎ BrokeOff (line_of Done) result before now
Told status result before now = RefusalTold status result before now

-- what a status becomes once its line is put
abbrev pub Becomes : Status → Status → SinkState → SinkState → Type 0
Becomes status result before now =
    (result ≡ status) ⊎ (result ≡ Memory)
    ⊎ ((status ≡ Done) × (result ≡ WriteFault roles.Lines) × Rose before.faults now.faults)

-- what a status becomes once lines of the command's own are put and then its line, and what the sink got
abbrev pub ToldBehind : List ℕ → Status → Status → SinkState → SinkState → Type 0
ToldBehind lines Done result before now =
    ((result ≡ Done) × (now.text ≡ appended (lines ++ line_of Done) before.text))
    ⊎ BrokeOff (lines ++ line_of Done) result before now
ToldBehind lines status result before now =
    ((result ≡ status) × Got (lines ++ line_of status) before now)
    ⊎ BrokeOff lines result before now

-- what a status becomes once those are put
abbrev pub BecomesBehind : Status → Status → SinkState → SinkState → Type 0
BecomesBehind status result before now =
    (result ≡ status) ⊎ (result ≡ Memory)
    ⊎ ((result ≡ WriteFault roles.Lines) × Rose before.faults now.faults)

-- the status that a result is, or Done
abbrev pub status_of : {X : Type 0} → Result X Status → Status
status_of (Ok x) = Done
status_of (Err status) = status
