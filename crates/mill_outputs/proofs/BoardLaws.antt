-- What the program of the outline does, from the plan to the bytes.
use Rattle.std.proofs.Common.{◌<◌, List, map, length}
use Rattle.std.specs.Prelude.{◌*ℤ◌}
use Rattle.std.specs.List.{Contains}
use Rattle.board_base.specs.declared.places.Move.{Move}
use Rattle.shape_parts.specs.declared.shape.Painted.{Painted}
use Rattle.rs274_sim.specs.Cutter.{NoBite, nanometre}
use Rattle.rs274_sim.specs.Runs.{RunsTo}
use Rattle.mill_program.specs.declared.cuts.Program.{Program}
use Rattle.mill_program.specs.Lines.{lines_of}
use Rattle.grid_writer.specs.Laws.{SpellingOverLaw}
use Rattle.tiling.specs.Copies.{Tile, shift_in, tiled_in}
use Rattle.tiling.specs.Stretches.{InTiles}
use Rattle.tiling.proofs.StretchLaws.{in_tiles_weaker}
use Rattle.job_file.specs.declared.job.Job.{Job}
use Rattle.job_file.specs.Checks.{radius_of}
use Rattle.job_file.specs.Ranges.{IsInRanges}
use Rattle.outline_plan.specs.declared.plan.OutlineCut.{OutlineCut}
use Rattle.outline_plan.specs.Job.{bridge_width}
use Rattle.outline_plan.specs.CutOut.{Outlines, CutsOut}
use Rattle.outline_tiles.specs.Tiled.{TiledOutlineLaw}
use Rattle.mill_outputs.specs.Headline.{cut_board, CutsBoardOut, LeavesBridges}
use Rattle.mill_outputs.proofs.TextLaws.{runs_weaker}
use Rattle.mill_outputs.proofs.TileLaws.{IsTiled, in_text}

-- a board that was cut out in tiles, and its program
pub record IsBoardIn (job : Job) (tiles : List Tile) (image : List Painted) (plan : OutlineCut) (q : Program) : Type 0 where
  pub ranges : IsInRanges job
  pub some : 0 < length (map (shift_in job.pitch) tiles)
  pub cuts : CutsOut job image plan
  pub tiled : IsTiled job.pitch tiles plan.program q

cuts_in : TiledOutlineLaw → (job : Job) (tiles : List Tile) (image : List Painted) (plan : OutlineCut) (q : Program) → (b : IsBoardIn job tiles image plan q)
    → RunsTo (lines_of (tiled_in job.pitch tiles plan.program)) (InTiles (map (shift_in job.pitch) tiles) (Outlines job b.cuts.loops (plan.bridges).items b.cuts.walks plan.program))
cuts_in law job tiles image plan q b = law job image plan (map (shift_in job.pitch) tiles) b.some b.ranges b.cuts b.tiled.valid

pub cuts_board_out : SpellingOverLaw → TiledOutlineLaw → (job : Job) (tiles : List Tile) (image : List Painted) (plan : OutlineCut) (q : Program) → IsBoardIn job tiles image plan q
    → CutsBoardOut (cut_board job tiles image plan q)
cuts_board_out spelled law job tiles image plan q b = record {
  plan = b.cuts;
  runs = in_text spelled job.pitch tiles plan.program q (InTiles (map (shift_in job.pitch) tiles) (Outlines job b.cuts.loops (plan.bridges).items b.cuts.walks plan.program)) b.tiled
      (cuts_in law job tiles image plan q b);
}

pub leaves_bridges : SpellingOverLaw → TiledOutlineLaw → (job : Job) (tiles : List Tile) (image : List Painted) (plan : OutlineCut) (q : Program) → IsBoardIn job tiles image plan q
    → LeavesBridges (cut_board job tiles image plan q)
leaves_bridges spelled law job tiles image plan q b =
    let shifts = map (shift_in job.pitch) tiles in
    let whole : List Move → Type 0 = Outlines job b.cuts.loops (plan.bridges).items b.cuts.walks plan.program in
    let stand : List Move → Type 0 = NoBite (job.zbridges *ℤ nanometre) (Contains (plan.bridges).items) (radius_of (bridge_width job)) in
    in_text spelled job.pitch tiles plan.program q (InTiles shifts stand) b.tiled
    (runs_weaker (tiled_in job.pitch tiles plan.program) (InTiles shifts whole) (InTiles shifts stand) (λ moves. in_tiles_weaker whole stand (λ moves o. o.stands) shifts moves) (cuts_in law job tiles image plan q b))
