-- The moves of a program over a probed board, without the numbers of their lines.
use Rattle.std.specs.Prelude.{ℕ, ◌*◌, ℤ, ◌+ℤ◌, ◌*ℤ◌, false, if◌then◌else◌, List, [], ◌∷◌, ◌++◌}
use Rattle.std.specs.List.{range_with_len}
use Rattle.board_base.specs.declared.places.Point.{Point}
use Rattle.board_base.specs.declared.places.Pos.{Pos}
use Rattle.board_base.specs.declared.places.Move.{Move}
use Rattle.board_base.specs.declared.places.MoveKind.TheVariants.{Probe}
use Rattle.rs274_sim.specs.Cutter.{nanometre}
use Rattle.mill_program.specs.declared.cuts.Corner.{Corner}
use Rattle.mill_program.specs.declared.cuts.ToolRun.{ToolRun}
use Rattle.mill_program.specs.declared.cuts.Program.{Program}
use Rattle.mill_program.specs.declared.probes.ProbeGrid.{ProbeGrid}
use Rattle.mill_program.specs.Lines.{is_straight}
use Rattle.mill_program.specs.Moves.{Spindle, standing, turning_in, rapid, feeding, at_height, zero_pos, last_of}
use Rattle.mill_program.specs.Probes.{probe_place, answer_of, surface_of}
use Rattle.mill_program.specs.Heights.{place_over}

-- ---- positions

-- a corner over the surface: X and Y of the corner, and exactly its height above the surface there
abbrev pub place_on : ProbeGrid → List ℤ → Corner → Pos
place_on g answers c = record { x = c.x *ℤ nanometre; y = c.y *ℤ nanometre; z = c.z *ℤ nanometre +ℤ surface_of g answers (place_over c) }

-- over a point, at a height in nanometres
abbrev pub above : ℤ → Point → Pos
above z q = record { x = q.x *ℤ nanometre; y = q.y *ℤ nanometre; z = z *ℤ nanometre }

-- ---- probes

-- the spindle stands, with the tool of a tool run, and no speed was named before
abbrev pub standing_in : ToolRun → Spindle
standing_in run = record { turning = false; speed = 0; tool = run.tool }

-- down to the board at the feed of the probe
abbrev pub probing : ProbeGrid → ToolRun → Pos → Pos → Move
probing g run from to = record {
  from = from;
  to = to;
  kind = Probe;
  turning = false;
  speed = 0;
  feed = g.feed;
  tool = run.tool;
  line = 0;
}

-- over to the place of a probe, straight down to its answer, and straight up
abbrev pub probe_moves : ProbeGrid → List ℤ → ℤ → ToolRun → Pos → ℕ → List Move
probe_moves g answers safe run from k =
    rapid (standing_in run) from (above safe (probe_place g k))
    ∷ probing g run (above safe (probe_place g k)) (above (answer_of answers k) (probe_place g k))
    ∷ rapid (standing_in run) (above (answer_of answers k) (probe_place g k)) (above safe (probe_place g k))
    ∷ []

-- some probes, one after another
abbrev pub probes_moves : ProbeGrid → List ℤ → ℤ → ToolRun → Pos → List ℕ → List Move
probes_moves g answers safe run from [] = []
probes_moves g answers safe run from (k ∷ ks) = probe_moves g answers safe run from k ++ probes_moves g answers safe run (above safe (probe_place g k)) ks

-- where they end
abbrev pub after_probes : ProbeGrid → ℤ → Pos → List ℕ → Pos
after_probes g safe from [] = from
after_probes g safe from (k ∷ ks) = after_probes g safe (above safe (probe_place g k)) ks

-- the probes of a grid, by their numbers
abbrev pub probes_in : ProbeGrid → List ℕ
probes_in g = range_with_len 0 (g.nx * g.ny)

-- ---- cuts, with each corner at a place of its own

-- from one corner to the next
abbrev pub step_at : (Corner → Pos) → ToolRun → Corner → Corner → Move
step_at place run c d = feeding run (if is_straight c d then run.plunge else run.feed) (place c) (place d)

-- from corner to corner
abbrev pub steps_at : (Corner → Pos) → ToolRun → Corner → List Corner → List Move
steps_at place run c [] = []
steps_at place run c (d ∷ ds) = step_at place run c d ∷ steps_at place run d ds

-- straight down to the first corner from the safe height, from corner to corner, and straight up
abbrev pub stroke_at : (Corner → Pos) → ℤ → ToolRun → Corner → List Corner → List Move
stroke_at place safe run c cs =
    feeding run run.plunge (at_height safe (place c)) (place c)
    ∷ steps_at place run c cs ++ rapid (turning_in run) (place (last_of c cs)) (at_height safe (place (last_of c cs))) ∷ []

-- over the first corner, and its stroke
abbrev pub cut_at : (Corner → Pos) → ℤ → ToolRun → Pos → List Corner → List Move
cut_at place safe run from [] = []
cut_at place safe run from (c ∷ cs) = rapid (turning_in run) from (at_height safe (place c)) ∷ stroke_at place safe run c cs

-- where a cut ends
abbrev pub after_cut_at : (Corner → Pos) → ℤ → Pos → List Corner → Pos
after_cut_at place safe from [] = from
after_cut_at place safe from (c ∷ cs) = at_height safe (place (last_of c cs))

-- the cuts of a tool run, one after another
abbrev pub cuts_at : (Corner → Pos) → ℤ → ToolRun → Pos → List (List Corner) → List Move
cuts_at place safe run from [] = []
cuts_at place safe run from (cut ∷ cuts) = cut_at place safe run from cut ++ cuts_at place safe run (after_cut_at place safe from cut) cuts

-- where they end
abbrev pub after_cuts_at : (Corner → Pos) → ℤ → Pos → List (List Corner) → Pos
after_cuts_at place safe from [] = from
after_cuts_at place safe from (cut ∷ cuts) = after_cuts_at place safe (after_cut_at place safe from cut) cuts

-- ---- programs

-- For each tool run straight up to where the tool is changed, straight down to the safe height, the probes with the
-- spindle standing, the same height again with the spindle turning, and its cuts over the surface; in the end straight up.
abbrev pub runs_over : ProbeGrid → List ℤ → ℤ → ℤ → Spindle → Pos → List ToolRun → List Move
runs_over g answers safe change spindle from [] = rapid spindle from (at_height change from) ∷ []
runs_over g answers safe change spindle from (run ∷ runs) =
    rapid spindle from (at_height change from)
    ∷ rapid (standing_in run) (at_height change from) (at_height safe from)
    ∷ probes_moves g answers safe run (at_height safe from) (probes_in g)
    ++ (
    rapid (turning_in run) (after_probes g safe (at_height safe from) (probes_in g)) (at_height safe (after_probes g safe (at_height safe from) (probes_in g)))
    ∷ cuts_at (place_on g answers) safe run (at_height safe (after_probes g safe (at_height safe from) (probes_in g))) run.cuts
    ++ runs_over g answers safe change (turning_in run) (after_cuts_at (place_on g answers) safe (at_height safe (after_probes g safe (at_height safe from) (probes_in g))) run.cuts) runs
    )

-- the moves of a program over the surface that the answers of its probes give
unfoldable pub moves_over : ProbeGrid → List ℤ → Program → List Move
moves_over g answers p = runs_over g answers p.safe p.change standing zero_pos p.runs
