-- The numbers of the statuses.
use Rattle.std.specs.Prelude.{ℕ}
use Rattle.endings.specs.declared.status.Status.{Status}
use Rattle.endings.specs.declared.status.Status.TheVariants.{Done, Usage, Job, Gerber, Drill, Outline, TooLong, Limit, ReadFault, WriteFault, Ngc, Watch, Cell, Memory}

-- the number with which a program ends
abbrev pub number_of : Status → ℕ
number_of Done = 0
number_of (Usage word) = 2
number_of (Job error) = 3
number_of (Gerber role error) = 4
number_of (Drill error) = 5
number_of (Outline error) = 6
number_of (TooLong role) = 7
number_of (Limit hit) = 7
number_of (ReadFault role) = 8
number_of (WriteFault role) = 9
number_of (Ngc role fault line) = 10
number_of (Watch watcher at) = 11
number_of (Cell i j line) = 11
number_of Memory = 12
