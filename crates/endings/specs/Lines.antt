-- The lines that the sink gets.
use Rattle.std.specs.Prelude.{ℕ, List, ◌++◌, codes, decimal}
use Rattle.std.specs.Fmt.{signed_decimal}
use Rattle.board_base.specs.declared.places.Role.{Role}
use Rattle.board_base.specs.declared.places.Role.TheVariants.{Job, Front, Back, Drill, Outline, Ngc, Probes, Report, Lines}
use Rattle.mill_plan.specs.declared.limits.LimitHit.{LimitHit}
use Rattle.mill_plan.specs.declared.limits.LimitHit.TheVariants as hits
use Rattle.endings.specs.declared.status.Status.{Status}
use Rattle.endings.specs.declared.status.Status.TheVariants.{Done, Usage, Job as RefusedJob, Gerber, Drill as RefusedDrill, Outline as RefusedOutline, TooLong, Limit, ReadFault, WriteFault, Ngc as RefusedNgc, Watch, Cell as HitCell, Memory}
use Rattle.endings.specs.declared.status.NgcOrSim.{NgcOrSim}
use Rattle.endings.specs.declared.status.NgcOrSim.TheVariants.{Reader, Machine}
use Rattle.macro_eval.specs.declared.fault.MacroFault.{MacroFault}
use Rattle.macro_eval.specs.declared.fault.MacroFault.TheVariants as faults
use Rattle.excellon.specs.declared.file.DrillKind.{DrillKind}
use Rattle.excellon.specs.declared.file.DrillKind.TheVariants as drills
use Rattle.outline_loops.specs.declared.refusals.OutlineError.{OutlineError}
use Rattle.outline_loops.specs.declared.refusals.OutlineError.TheVariants as outlines
use Rattle.job_file.specs.declared.error.JobError.{JobError}
use Rattle.job_file.specs.declared.error.JobKind.{JobKind}
use Rattle.job_file.specs.declared.error.JobKind.TheVariants as jobs
use Rattle.gerber_image.specs.declared.refusal.GerberKind.{GerberKind}
use Rattle.gerber_image.specs.declared.refusal.GerberKind.TheVariants as kinds
use Rattle.ngc_reader.specs.declared.error.NgcKind.{NgcKind}
use Rattle.ngc_reader.specs.declared.error.NgcKind.TheVariants as reads
use Rattle.rs274_sim.specs.declared.fault.SimFault.{SimFault}
use Rattle.rs274_sim.specs.declared.fault.SimFault.TheVariants as stops

-- the name of a role in a message
abbrev pub role_name : Role → List ℕ
role_name Job = codes "job"
role_name Front = codes "front"
role_name Back = codes "back"
role_name Drill = codes "drill"
role_name Outline = codes "outline"
role_name Ngc = codes "ngc"
role_name Probes = codes "probes"
role_name Report = codes "report"
role_name Lines = codes "lines"

-- the name of a macro's fault
abbrev pub macro_name : MacroFault → List ℕ
macro_name faults.BadExpression = codes "Macro BadExpression"
macro_name faults.ZeroDivisor = codes "Macro ZeroDivisor"
macro_name faults.Overflow = codes "Macro Overflow"
macro_name (faults.UnknownPrimitive code) = codes "Macro UnknownPrimitive"
macro_name faults.TooDeep = codes "Macro TooDeep"
macro_name faults.Memory = codes "Macro Memory"

-- the name of a refusal of a Gerber file
abbrev pub kind_name : GerberKind → List ℕ
kind_name kinds.Syntax = codes "Syntax"
kind_name kinds.Unsupported = codes "Unsupported"
kind_name kinds.NoFormat = codes "NoFormat"
kind_name kinds.NoUnit = codes "NoUnit"
kind_name kinds.NoAperture = codes "NoAperture"
kind_name kinds.OpenRegion = codes "OpenRegion"
kind_name kinds.OpenRepeat = codes "OpenRepeat"
kind_name kinds.OpenArc = codes "OpenArc"
kind_name (kinds.Macro fault) = macro_name fault
kind_name kinds.OutOfRange = codes "OutOfRange"
kind_name kinds.TooManyObjects = codes "TooManyObjects"
kind_name kinds.TooManyVertices = codes "TooManyVertices"
kind_name kinds.NoEnd = codes "NoEnd"
kind_name kinds.Memory = codes "Memory"

-- the name of what is wrong with a drill file
abbrev pub drill_name : DrillKind → List ℕ
drill_name drills.Syntax = codes "Syntax"
drill_name drills.Unsupported = codes "Unsupported"
drill_name drills.NoUnit = codes "NoUnit"
drill_name drills.NoTool = codes "NoTool"
drill_name drills.NoDiameter = codes "NoDiameter"
drill_name drills.OutOfRange = codes "OutOfRange"
drill_name drills.TooMany = codes "TooMany"
drill_name drills.NoEnd = codes "NoEnd"
drill_name drills.Memory = codes "Memory"

-- the name of what is wrong with an outline; of an open end, where it is, in nanometres, and how many lines meet there
abbrev pub outline_text : OutlineError → List ℕ
outline_text (outlines.OpenOutline at degree) =
    codes "OpenOutline " ++ signed_decimal at.x ++ codes " " ++ signed_decimal at.y ++ codes " degree " ++ decimal degree
outline_text outlines.EmptyOutline = codes "EmptyOutline"
outline_text (outlines.TooManyPoints count) = codes "TooManyPoints"
outline_text outlines.Memory = codes "Memory"

-- the name of what is wrong with a job
abbrev pub job_name : JobKind → List ℕ
job_name jobs.UnknownKey = codes "UnknownKey"
job_name jobs.TwiceGiven = codes "TwiceGiven"
job_name jobs.BadValue = codes "BadValue"
job_name jobs.Missing = codes "Missing"
job_name jobs.OutOfRange = codes "OutOfRange"
job_name jobs.TolerancePastCutter = codes "TolerancePastCutter"
job_name jobs.PitchTooCoarse = codes "PitchTooCoarse"
job_name jobs.Memory = codes "Memory"

-- the same, with the number of the key and the place
unfoldable pub job_text : JobError → List ℕ
job_text error = job_name error.kind ++ codes " key " ++ decimal error.key ++ codes " place " ++ decimal error.place

-- the name of what is wrong with the text of a program
abbrev pub ngc_name : NgcKind → List ℕ
ngc_name reads.LongLine = codes "LongLine"
ngc_name reads.BadNumber = codes "BadNumber"
ngc_name reads.BadExpression = codes "BadExpression"
ngc_name reads.TooDeep = codes "TooDeep"
ngc_name reads.OpenComment = codes "OpenComment"
ngc_name reads.BadParameter = codes "BadParameter"
ngc_name reads.BadByte = codes "BadByte"
ngc_name reads.TooFine = codes "TooFine"
ngc_name reads.Memory = codes "Memory"

-- the name of what stops the machine
abbrev pub sim_name : SimFault → List ℕ
sim_name stops.UnknownWord = codes "UnknownWord"
sim_name stops.TwoWords = codes "TwoWords"
sim_name stops.MissingWord = codes "MissingWord"
sim_name stops.NoMotion = codes "NoMotion"
sim_name stops.NoFeed = codes "NoFeed"
sim_name stops.SpindleRange = codes "SpindleRange"
sim_name stops.FinePosition = codes "FinePosition"
sim_name stops.OutOfRange = codes "OutOfRange"
sim_name (stops.ProbeMissed target answer) = codes "ProbeMissed"
sim_name (stops.NoProbeAnswer count) = codes "NoProbeAnswer"
sim_name stops.NoEnd = codes "NoEnd"

-- the name of either
abbrev pub fault_name : NgcOrSim → List ℕ
fault_name (Reader kind) = ngc_name kind
fault_name (Machine fault) = sim_name fault

-- the name of a limit, and the quantity that passes it
abbrev pub limit_text : LimitHit → List ℕ
limit_text (hits.Cells cells) = codes "Cells " ++ decimal cells
limit_text (hits.Side side) = codes "Side " ++ decimal side
limit_text (hits.Reach value) = codes "Reach " ++ signed_decimal value
limit_text hits.Islands = codes "Islands"
limit_text hits.Objects = codes "Objects"
limit_text hits.Vertices = codes "Vertices"
limit_text hits.Holes = codes "Holes"
limit_text (hits.Probes count) = codes "Probes " ++ decimal count
limit_text (hits.Tile x y) = codes "Tile " ++ signed_decimal x ++ codes " " ++ signed_decimal y

-- the line of a status
abbrev pub line_of : Status → List ℕ
line_of Done = codes "pcbmill: ok\n"
line_of (Usage word) = codes "pcbmill: usage: word " ++ decimal word ++ codes "\n"
line_of (RefusedJob error) = codes "pcbmill: job: " ++ job_text error ++ codes "\n"
line_of (Gerber role error) = codes "pcbmill: " ++ role_name role ++ codes ": " ++ kind_name error.kind ++ codes " at " ++ decimal error.at ++ codes "\n"
line_of (RefusedDrill error) = codes "pcbmill: drill: " ++ drill_name error.kind ++ codes " at " ++ decimal error.at ++ codes "\n"
line_of (RefusedOutline error) = codes "pcbmill: outline: " ++ outline_text error ++ codes "\n"
line_of (TooLong role) = codes "pcbmill: long " ++ role_name role ++ codes "\n"
line_of (Limit hit) = codes "pcbmill: limit: " ++ limit_text hit ++ codes "\n"
line_of (ReadFault role) = codes "pcbmill: read " ++ role_name role ++ codes "\n"
line_of (WriteFault role) = codes "pcbmill: write " ++ role_name role ++ codes "\n"
line_of (RefusedNgc role fault line) = codes "pcbmill: " ++ role_name role ++ codes ": " ++ fault_name fault ++ codes " line " ++ decimal line ++ codes "\n"
line_of (Watch watcher at) = codes "pcbmill: refused: watcher " ++ decimal watcher ++ codes " move " ++ decimal at ++ codes "\n"
line_of (HitCell i j line) = codes "pcbmill: refused: cell " ++ signed_decimal i ++ codes " " ++ signed_decimal j ++ codes " line " ++ decimal line ++ codes "\n"
line_of Memory = codes "pcbmill: memory\n"
