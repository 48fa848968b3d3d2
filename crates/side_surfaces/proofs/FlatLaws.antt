-- Without a grid the surface is flat: what is said over it is what is said of a program as it stands.
use Rattle.std.proofs.Common.{◌≡◌, ℕ, ℤ, List, [], ◌∷◌, ◌++◌, map, None, refl}
use Rattle.board_base.specs.declared.places.Cell.{Cell}
use Rattle.board_base.specs.declared.places.Move.{Move}
use Rattle.cell_sets.proofs.Links.{linked_over}
use Rattle.shape_parts.specs.declared.shape.Painted.{Painted}
use Rattle.tiling.specs.Copies.{Tile, shift_in, cell_in}
use Rattle.tiling.specs.Laws.{wanted_in}
use Rattle.tiling.proofs.ProgramLaws.{places_in}
use Rattle.job_file.specs.declared.job.Job.{Job}
use Rattle.mill_plan.specs.declared.cutting.Cutting.{Cutting}
use Rattle.mill_plan.specs.Cutting.{side_cutting}
use Rattle.mill_plan.specs.Cuts.{trace_of}
use Rattle.mill_plan.specs.Mills.{IsWhollySwept}
use Rattle.program_check.specs.Marks.{IsWhollySweptBy}
use Rattle.program_check.specs.Planes.{FlatLaw}
use Rattle.side_runs.specs.Sides.{PassesIn, PartsTiles}
use Rattle.side_runs.specs.SideStrokes.{wanted_walk, wants_along}
use Rattle.side_surfaces.specs.Sides.{IsDeepBy, PassesBy, PartsBy}
use Rattle.side_surfaces.specs.Strokes.{wanted_by, wants_by}
use Rattle.side_surfaces.specs.Flat.{FlatSideLaw}

-- ---- what is passed and parted

module _ (flat : FlatLaw) (job : Job) (tiles : List Tile) (answers : List ℤ) (moves : List Move) where
  passes_flat : (painted : List Painted) → PassesIn job painted tiles moves → PassesBy job painted tiles None answers moves
  passes_flat painted passes c = (
    (λ by. (passes c).0 (by.0, by.1, (flat.deep answers job.zwork by.0).0 by.2, by.3)),
    (λ v. let by = (passes c).1 v in (by.0, by.1, (flat.deep answers job.zwork by.0).1 by.2, by.3)),
  )

  parts_flat : (k : Cutting) (number : Cell → ℕ) (groups : List (List ℕ)) → PartsTiles k job.zwork number groups tiles moves → PartsBy k (IsDeepBy job None answers) number groups tiles moves
  parts_flat k number groups parts s t u v s_in t_in su sv joined = parts s t u v s_in t_in su sv (
    joined.0,
    joined.1,
    joined.2,
    joined.3,
    linked_over (λ c. IsWhollySweptBy k (IsDeepBy job None answers) moves c → ⊥) (λ c. IsWhollySwept k job.zwork moves c → ⊥)
        (λ c left swept. left ((flat.swept answers k job.zwork moves c).1 swept)) (cell_in s joined.0) (cell_in t joined.1) joined.4,
  )

-- ---- the strokes

tile_flat : (job : Job) (answers : List ℤ) (tile : Tile) (walks : List (List Cell)) → map (wanted_by job None answers tile) walks ≡ map (wanted_in (shift_in job.pitch tile)) (map (wanted_walk job) walks)
tile_flat job answers tile [] = refl
tile_flat job answers tile (walk ∷ walks) = λ i. record { tool = 1; places = places_in (shift_in job.pitch tile) (trace_of job walk) i } ∷ tile_flat job answers tile walks i

wants_flat : (job : Job) (tiles : List Tile) (walks : List (List Cell)) (answers : List ℤ) → wants_by job None answers tiles walks ≡ wants_along job tiles walks
wants_flat job [] walks answers = refl
wants_flat job (tile ∷ tiles) walks answers = λ i. tile_flat job answers tile walks i ++ wants_flat job tiles walks answers i

-- ---- the law

pub flat_side_holds : FlatLaw → FlatSideLaw
flat_side_holds flat = record {
  mills = λ job painted number groups tiles answers moves mills. record {
    no_bite = mills.no_bite;
    passes = passes_flat flat job tiles answers moves painted mills.passes;
    parts = parts_flat flat job tiles answers moves (side_cutting job) number groups mills.parts;
  };
  wants = wants_flat;
}
