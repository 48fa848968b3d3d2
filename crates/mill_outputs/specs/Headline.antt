-- What Done means after `mill`, in plain steps, for the files that it wrote.
use Rattle.std.specs.Prelude.{◌≡◌, ℕ, ℤ, ◌*ℤ◌, true, List, [], ◌∷◌, ◌++◌, map, length, Option, Some, None, Ok, IfSome, MatchBool}
use Rattle.std.specs.List.{All, Contains}
use Rattle.std.specs.FinMap.{get}
use Rattle.board_base.specs.Files.{Files}
use Rattle.board_base.specs.declared.places.Cell.{Cell}
use Rattle.board_base.specs.declared.places.Move.{Move}
use Rattle.cell_sets.specs.Count.{IsCount}
use Rattle.cell_sets.specs.Islands.{AreIslands}
use Rattle.cell_sets.specs.Sweep.{IsSwept}
use Rattle.shape_parts.specs.declared.shape.Painted.{Painted}
use Rattle.rs274_sim.specs.Cutter.{NoBite, nanometre}
use Rattle.rs274_sim.specs.Runs.{Runs}
use Rattle.mill_program.specs.declared.cuts.Program.{Program}
use Rattle.mill_program.specs.declared.probes.ProbeGrid.{ProbeGrid}
use Rattle.mill_program.specs.Strokes.{CutsExactly}
use Rattle.excellon.specs.declared.file.DrillFile.{DrillFile}
use Rattle.drill_plan.specs.declared.plans.ToolPlan.{ToolPlan}
use Rattle.drill_program.specs.Tiled.{AreDrilledIn}
use Rattle.job_file.specs.declared.job.Job.{Job}
use Rattle.job_file.specs.Checks.{radius_of}
use Rattle.mill_plan.specs.declared.isolation.Isolation.{Isolation}
use Rattle.mill_plan.specs.Cutting.{kept_by, sweep_of, side_cutting, IsVisited}
use Rattle.mill_plan.specs.Frame.{IsFrameOf}
use Rattle.mill_plan.specs.Mills.{IsProgramOf}
use Rattle.mill_plan.specs.Cuts.{AreSideWalks, all_of}
use Rattle.mill_plan.specs.Isolated.{AreJoinedGroups, ListsJoined, ClearsBox}
use Rattle.outline_plan.specs.declared.plan.OutlineCut.{OutlineCut}
use Rattle.outline_plan.specs.Job.{bridge_width}
use Rattle.outline_plan.specs.CutOut.{Outlines, CutsOut}
use Rattle.endings.specs.Outputs.{Output, all_stored}
use Rattle.endings.specs.Reads.{held_in}
use Rattle.mill_inputs.specs.Accepted.{Accepts, accepted}
use Rattle.program_check.specs.Marks.{IsWhollySweptBy}
use Rattle.side_runs.specs.Sides.{AreApart, IsVisitedCopy, NoBiteIn}
use Rattle.side_levels.specs.Probed.{IsGridOver}
use Rattle.side_surfaces.specs.Runs.{RunsOver}
use Rattle.side_surfaces.specs.Sides.{IsDeepBy, PassesBy, PartsBy}
use Rattle.side_surfaces.specs.Strokes.{wants_by}
use Rattle.tiling.specs.Copies.{Tile, shift_in}
use Rattle.tiling.specs.Stretches.{InTiles}
use Rattle.mill_outputs.specs.Written.{step_by, seen_in_front, seen_behind, tiles_by, Made, AreMade}
use Rattle.mill_outputs.specs.Mill.{program_text, Milled, files_of}

-- ---- what was written

-- The words and the files at entry give these inputs, this was made of them, the files are those at entry with the
-- programs and the report stored, each under its own name, and P holds of both.
pub record Wrote (P : Milled → Type 0) (words : List (List ℕ)) (before : Files) (now : Option Files) : Type 0 where
  pub accepts : Accepts
  pub given : accepted words (held_in before) ≡ Ok accepts
  pub made : Made
  pub is_made : AreMade accepts (Ok made)
  pub after : Files
  pub told : now ≡ Some after
  pub stored : Some after ≡ all_stored (files_of accepts.job made) (Some before)
  pub each : (file : Output) → Contains (files_of accepts.job made) file → get after file.name ≡ Some file.bytes
  pub holds : P (record { accepts = accepts; made = made })

-- what is made of an input, its plan and its program, where they are there
abbrev pub made_if : {A B C : Type 0} → (A → B → Program → C) → Option A → Option B → Option Program → List C
made_if make (Some given) (Some plan) (Some program) = make given plan program ∷ []
made_if make given plan program = []

-- the tiles of what is seen from the front, and of what is seen from the back
abbrev pub front_tiles : Milled → List Tile
front_tiles m = tiles_by m.accepts.job (seen_in_front (step_by m.accepts.job m.made.plans))

abbrev pub back_tiles : Milled → List Tile
back_tiles m = tiles_by m.accepts.job (seen_behind (step_by m.accepts.job m.made.plans))

-- ---- the sides

-- a side that was milled: its tiles, its image as it is milled, its plan, the grid of its probes, if any, and the bytes of its
-- program
pub record Side : Type 0 where
  pub job : Job
  pub tiles : List Tile
  pub image : List Painted
  pub plan : Isolation
  pub grid : Option ProbeGrid
  pub program : List ℕ

abbrev pub milled_side : Job → List Tile → List Painted → Isolation → Program → Side
milled_side job tiles image plan program = record { job = job; tiles = tiles; image = image; plan = plan; grid = program.grid; program = program_text program }

-- the front, where it was milled
abbrev pub front_of : Milled → List Side
front_of m = made_if (milled_side m.accepts.job (front_tiles m)) m.accepts.front m.made.plans.front m.made.programs.front

-- the back, where it was milled
abbrev pub back_of : Milled → List Side
back_of m = made_if (milled_side m.accepts.job (back_tiles m)) m.accepts.back m.made.plans.back m.made.programs.back

-- both, as far as they were milled
abbrev pub sides_of : Milled → List Side
sides_of m = front_of m ++ back_of m

-- each side that was milled
abbrev pub OfSides : (Side → Type 0) → Milled → Type 0
OfSides P m = All P (sides_of m)

-- the grid of the front's probes is that of the job over its frame, exactly where the job levels the front
abbrev pub IsProbed : Side → Type 0
IsProbed side = MatchBool side.job.al_front ((g : ProbeGrid) × IsGridOver side.job side.plan.frame g × (side.grid ≡ Some g)) (side.grid ≡ None)

-- no other program is levelled
pub record LevelsFront (m : Milled) : Type 0 where
  pub front : All IsProbed (front_of m)
  pub back : All (λ side. side.grid ≡ None) (back_of m)
  pub drill : IfSome m.made.programs.drill (λ program. program.grid ≡ None)
  pub outline : IfSome m.made.programs.outline (λ program. program.grid ≡ None)

-- ---- what holds of each

-- the program is the text of the lines of a program with the job's heights, speeds, feeds and tool number, over the side's grid
abbrev pub IsTextOf : Side → Type 0
IsTextOf side = (program : Program) × IsProgramOf side.job program × (program.grid ≡ side.grid) × (side.program ≡ program_text program)

-- the program's run, over each surface that its probes may find, has P of their answers
abbrev pub RunsOn : Side → (List ℤ → List Move → Type 0) → Type 0
RunsOn side P = RunsOver side.grid side.program P

-- the program's run never brings the turning cutter within its radius less the tolerance of a dark point's copy in any tile
abbrev pub NeverBites : Side → Type 0
NeverBites side = RunsOn side (λ answers. NoBiteIn side.job side.image side.tiles)

-- the program's run passes the copies of the visited cells in each tile at its depth over the surface, and no others
abbrev pub PassesVisited : Side → Type 0
PassesVisited side = RunsOn side (PassesBy side.job side.image side.tiles side.grid)

-- the program's run sweeps wholly each cell that the copies of the visited cells sweep
abbrev pub SweepsVisited : Side → Type 0
SweepsVisited side =
    RunsOn side (λ answers moves. (c : Cell) → IsSwept (sweep_of (side_cutting side.job)) (IsVisitedCopy (side_cutting side.job) side.image side.tiles) c
    → IsWhollySweptBy (side_cutting side.job) (IsDeepBy side.job side.grid answers) moves c)

-- The strokes of the program's run are, tile after tile, the walks of each pass and then the clearing runs, in their order,
-- each corner at exactly its depth over the surface, and nothing else is low; the report's count is that of the walks.
pub record FollowsWalks (side : Side) : Type 0 where
  pub passes : List (List (List Cell))
  pub runs : List (List Cell)
  pub along : AreSideWalks (side_cutting side.job) side.image passes runs
  pub strokes : RunsOn side (λ answers. CutsExactly side.job.zsafe (wants_by side.job side.grid answers side.tiles (all_of passes ++ runs)))
  pub chains : length (all_of passes) ≡ side.plan.chains

-- where rows are cleared, the visited cells sweep each cell of their box that milling every allowed cell sweeps
abbrev pub Clears : Side → Type 0
Clears side = ClearsBox (side_cutting side.job) side.image

-- the frame and the counts of the report are those of the image: its kept cells, and the visited ones
pub record Counts (side : Side) : Type 0 where
  pub framed : IsFrameOf (side_cutting side.job) side.image (Ok side.plan.frame)
  pub kept : IsCount (λ c. kept_by (side_cutting side.job) side.image c ≡ true) side.plan.kept
  pub centres : IsCount (IsVisited (side_cutting side.job) side.image) side.plan.centres

-- With one numbering of the islands and one list of groups,
pub record Separates (side : Side) : Type 0 where
  pub number : Cell → ℕ
  pub islands : AreIslands (kept_by (side_cutting side.job) side.image) number side.plan.islands
  pub groups : AreJoinedGroups (side_cutting side.job) side.image number side.plan.groups.items
  -- two islands stand in one group, so in one `joined` line, exactly where they are joined, on the plane without border,
  -- past what milling every allowed centre sweeps,
  pub lists : ListsJoined (side_cutting side.job) side.image number side.plan.groups.items
  -- the copies of the frame in different tiles have no cell in common,
  pub apart : AreApart side.plan.frame side.tiles
  -- and islands' copies that cells not wholly swept by this program's run join are in one tile, and stand in one group.
  pub parts : RunsOn side (λ answers. PartsBy (side_cutting side.job) (IsDeepBy side.job side.grid answers) number side.plan.groups.items side.tiles)

-- ---- the holes

-- the holes that were drilled: the tiles, what the file drills, the drill list, and the bytes of the program
pub record Drilling : Type 0 where
  pub job : Job
  pub tiles : List Tile
  pub file : DrillFile
  pub plan : List ToolPlan
  pub program : List ℕ

abbrev pub drilling : Job → List Tile → DrillFile → List ToolPlan → Program → Drilling
drilling job tiles file plan program = record { job = job; tiles = tiles; file = file; plan = plan; program = program_text program }

-- the same, as far as the job names a drill file
abbrev pub OfHoles : (Drilling → Type 0) → Milled → Type 0
OfHoles P m = All P (made_if (drilling m.accepts.job (front_tiles m)) m.accepts.drill m.made.plans.drill m.made.programs.drill)

-- the program's run drills each hole of the file once in each tile and cuts each slot once, with the tool for its diameter
-- and under the tool's number, exactly to the drill's depth, and cuts nothing else
abbrev pub DrillsHoles : Drilling → Type 0
DrillsHoles d = Runs d.program (AreDrilledIn d.job d.file d.plan (map (shift_in d.job.pitch) d.tiles))

-- ---- the outline

-- a board that was cut out: its tiles, the image of its outline, what was planned, and the bytes of the program
pub record CutBoard : Type 0 where
  pub job : Job
  pub tiles : List Tile
  pub image : List Painted
  pub plan : OutlineCut
  pub program : List ℕ

abbrev pub cut_board : Job → List Tile → List Painted → OutlineCut → Program → CutBoard
cut_board job tiles image plan program = record { job = job; tiles = tiles; image = image; plan = plan; program = program_text program }

-- the same, as far as the job names an outline
abbrev pub OfOutline : (CutBoard → Type 0) → Milled → Type 0
OfOutline P m = All P (made_if (cut_board m.accepts.job (front_tiles m)) m.accepts.outline m.made.plans.outline m.made.programs.outline)

-- the program's run is a stretch for each tile, each of which, moved back to the first tile, has P
abbrev pub RunsInTiles : CutBoard → (List Move → Type 0) → Type 0
RunsInTiles b P = Runs b.program (InTiles (map (shift_in b.job.pitch) b.tiles) P)

-- The frame, the counts and the bridges of the report are those of the outline's board. In each tile the program's run
-- doesn't reach into it, goes along each level of each walk, with its unit steps lifted exactly where they are near a bridge,
-- and cuts nothing else.
pub record CutsBoardOut (b : CutBoard) : Type 0 where
  pub plan : CutsOut b.job b.image b.plan
  pub runs : RunsInTiles b (Outlines b.job plan.loops (b.plan.bridges).items plan.walks b.plan.program)

-- each bridge that the report lists stands in each tile: in the tile's own stretch the turning cutter comes nowhere near its
-- centre below the height of bridges
abbrev pub LeavesBridges : CutBoard → Type 0
LeavesBridges b = RunsInTiles b (λ moves. NoBite (b.job.zbridges *ℤ nanometre) (Contains (b.plan.bridges).items) (radius_of (bridge_width b.job)) moves)
