-- Which answers the refusals are, and what the walks round a board are.
use Rattle.std.proofs.Common.{◌≡◌, ◌≢◌, ◌↔◌, ℤ, Bool, true, List, Err, refl, sym, ap, subst, ◌∙◌}
use Rattle.std.specs.List.{All}
use Rattle.board_base.specs.declared.places.Cell.{Cell}
use Rattle.board_base.specs.Lattice.{centre_of}
use Rattle.board_base.specs.Places.{IsPlace}
use Rattle.shape_parts.specs.declared.shape.Painted.{Painted}
use Rattle.cell_sets.specs.Contour.{IsContour}
use Rattle.cell_grid.specs.declared.frames.Frame.{Frame}
use Rattle.cell_grid.specs.Place.{InFrame}
use Rattle.cell_grid.specs.Cells.{in_plane}
use Rattle.chain_walk.specs.Runs.{WalkLaw}
use Rattle.outline_bridges.specs.Chains.{IsChain}
use Rattle.outline_loops.specs.declared.refusals.OutlineError.{OutlineError}
use Rattle.outline_loops.specs.declared.refusals.OutlineError.TheVariants.{OpenOutline, EmptyOutline, TooManyPoints, Memory as NoMemory}
use Rattle.outline_loops.specs.Answers.{Answers as BoardAnswers}
use Rattle.job_file.specs.declared.job.Job.{Job}
use Rattle.mill_plan.specs.declared.cutting.Cutting.{Cutting}
use Rattle.mill_plan.specs.declared.limits.LimitHit.{LimitHit}
use Rattle.mill_plan.specs.declared.limits.LimitHit.TheVariants.{Reach, Side, Cells, Islands, Objects, Vertices, Holes, Probes, Tile}
use Rattle.mill_plan.specs.declared.limits.PlanError.{PlanError}
use Rattle.mill_plan.specs.declared.limits.PlanError.TheVariants as plan
use Rattle.mill_plan.specs.Cutting.{guard, kept_by}
use Rattle.mill_plan.specs.Frame.{HitsLimit}
use Rattle.mill_plan.specs.Cuts.{ArePassWalks}
use Rattle.mill_plan.specs.Passes.{AreOrderedWalks}
use Rattle.mill_plan.proofs.MeasureLaws.{plane_inside}
use Rattle.mill_plan.proofs.ProgramLaws.{traces, all_in}
use Rattle.outline_plan.specs.declared.errors.OutlinePlanError.{OutlinePlanError}
use Rattle.outline_plan.specs.declared.errors.OutlinePlanError.TheVariants.{Outline, Limit, Memory}
use Rattle.outline_plan.specs.Job.{outline_cutting}
use Rattle.outline_plan.specs.Answers.{IsBoardPast, Answers}
use Rattle.outline_plan.proofs.JobLaws.{outline_width}
use Rattle.outline_plan.specs.Made.{IsBoardOf, refusal_of, IsRefusalOf, error_of, IsFrameRefusal}

-- ---- refusals

pub outline_refused : (job : Job) (painted : List Painted) (error : OutlinePlanError) → IsRefusalOf painted error → Answers job painted (Err error)
outline_refused job painted error r = subst (λ (e : OutlinePlanError). Answers job painted (Err e)) (sym r.is) (by r.cause r.refused)
  where
    by : (e : OutlineError) → BoardAnswers painted (Err e) → Answers job painted (Err (refusal_of e))
    by (OpenOutline at degree) h = h
    by EmptyOutline h = h
    by (TooManyPoints count) h = (count, h)
    by NoMemory h = tt

pub frame_refused : (job : Job) (painted board : List Painted) (error : OutlinePlanError) → IsBoardOf painted board → IsFrameRefusal (outline_cutting job) board error → Answers job painted (Err error)
frame_refused job painted board (Outline e) made h = absurd h
frame_refused job painted board Memory made h = tt
frame_refused job painted board (Limit hit) made h = by hit h.0 h.1
  where
    past : (hit : LimitHit) → HitsLimit (outline_cutting job) board hit → IsBoardPast job painted hit
    past hit h = record { loops = made.loops; board = made.closed; past = subst (λ (b : List Painted). HitsLimit (outline_cutting job) b hit) made.is h }

    by : (hit : LimitHit) → hit ≢ Islands → HitsLimit (outline_cutting job) board hit → Answers job painted (Err (Limit hit))
    by (Reach value) other h = past (Reach value) h
    by (Side side) other h = past (Side side) h
    by (Cells cells) other h = past (Cells cells) h
    by Islands other h = other refl
    by Objects other h = h
    by Holes other h = h
    by (Probes count) other h = h
    by (Tile x y) other h = h
    by Vertices other h = absurd h

pub grid_refused : (k : Cutting) (board : List Painted) (error : PlanError) → ((hit : LimitHit) → error ≡ plan.Limit hit → HitsLimit k board hit) → (error ≡ plan.Limit Islands → ⊥) → IsFrameRefusal k board (error_of error)
grid_refused k board (plan.Limit hit) limit frame = ((λ e. frame (ap plan.Limit e)), limit hit refl)
grid_refused k board plan.Memory limit frame = tt

-- ---- walks

pub pass_walks : (k : Cutting) (board : List Painted) (f : Frame) (pass : List Bool) (walks : List (List Cell)) → ((c : Cell) → in_plane f pass c ≡ true ↔ IsContour (kept_by k board) (guard k 0) c)
    → AreOrderedWalks k.pitch (in_plane f pass) walks → ArePassWalks k board 0 walks
pass_walks k board f pass walks contour w = record {
  rows = w.rows;
  contour = record { member = in_plane f pass; is_contour = contour; walks = w.are };
  ordered = w.ordered;
}

-- walks over cells of a frame whose centres are places are chains
pub walks_chained : (k : Cutting) (board : List Painted) (f : Frame) (pass : List Bool) (walks : List (List Cell)) → ((c : Cell) → in_plane f pass c ≡ true ↔ IsContour (kept_by k board) (guard k 0) c)
    → AreOrderedWalks k.pitch (in_plane f pass) walks → ((c : Cell) → InFrame f c → IsPlace (centre_of k.pitch c)) → WalkLaw → All (IsChain k.pitch) walks
walks_chained k board f pass walks contour w places law =
    let p = pass_walks k board f pass walks contour w in
    let t = traces k board 0 p.rows walks p.contour p.ordered law in
    all_in (IsChain k.pitch) walks (λ v m. record {
      some = (t.connected v m).some;
      places = all_in (λ c. IsPlace (centre_of k.pitch c)) v (λ c inside. places c (plane_inside f pass c ((contour c).1 (t.each v c m inside))));
    })

-- the same where the cutting and the pitch are those of a job
module _ (job : Job) (k : Cutting) (p : ℤ) (same : k ≡ outline_cutting job) (pitch : p ≡ job.pitch) where
  its_pitch : k.pitch ≡ job.pitch
  its_pitch = ap (λ (j : Cutting). j.pitch) same ∙ outline_width job

  pub places_at : (f : Frame) → ((c : Cell) → InFrame f c → IsPlace (centre_of k.pitch c)) → (c : Cell) → InFrame f c → IsPlace (centre_of p c)
  places_at f places c inside = subst (λ q. IsPlace (centre_of q c)) (its_pitch ∙ sym pitch) (places c inside)

  module _ (board : List Painted) (f : Frame) (pass : List Bool) (walks : List (List Cell)) (contour : (c : Cell) → in_plane f pass c ≡ true ↔ IsContour (kept_by k board) (guard k 0) c) (w : AreOrderedWalks p (in_plane f pass) walks) where
    ordered : AreOrderedWalks k.pitch (in_plane f pass) walks
    ordered = subst (λ q. AreOrderedWalks q (in_plane f pass) walks) (pitch ∙ sym its_pitch) w

    pub made_walks : ArePassWalks (outline_cutting job) board 0 walks
    made_walks = subst (λ (j : Cutting). ArePassWalks j board 0 walks) same (pass_walks k board f pass walks contour ordered)

    pub made_chains : ((c : Cell) → InFrame f c → IsPlace (centre_of k.pitch c)) → WalkLaw → All (IsChain job.pitch) walks
    made_chains places law = subst (λ q. All (IsChain q) walks) its_pitch (walks_chained k board f pass walks contour ordered places law)
