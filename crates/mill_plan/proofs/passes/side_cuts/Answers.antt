use Rattle.std.proofs.Common.{◌≡◌, ℕ, ◌+◌, List, refl, ap, sym, subst, ◌∙◌, rules}
use Rattle.board_base.specs.declared.places.Cell.{Cell}
use Rattle.board_base.specs.Lattice.{IsPitch, centre_of}
use Rattle.board_base.specs.Places.{IsPlace}
use Rattle.cell_grid.specs.declared.frames.Frame.{Frame}
use Rattle.cell_grid.specs.Grid.{Grid}
use Rattle.cell_grid.specs.Place.{InFrame}
use Rattle.cell_grid.specs.Cells.{in_plane}
use Rattle.mill_program.specs.declared.cuts.Corner.{Corner}
use Rattle.mill_plan.specs.Passes.{AddsComponents}
use Rattle.mill_plan.proofs.PassLaws.{HasPasses, first_pass, next_pass, passes_alone, alone_visited, rows_visited, with_rows, pitch_same, places_of}
use Rattle.mill_plan.proofs.passes.side_cuts.Goals as goal

pub add_walks-requires-clause-pitch : goal.add_walks-requires-clause-pitch
add_walks-requires-clause-pitch c = subst IsPitch (sym (pitch_same c.args.cutting c.args.job.now c.requires.job)) c.requires.cutting.pitch

pub add_walks-requires-clause-places : goal.add_walks-requires-clause-places
add_walks-requires-clause-places c = places_of c.args.cutting c.args.job.now c.args.painted.now.items c.args.bench.now c.requires.job c.requires.cutting c.requires.begun.side.framed

pub passes-init : goal.passes-init
passes-init c =
    first_pass c.args.cutting c.args.job.now c.args.painted.now.items c.args.bench.now c.add_walks.new.bench c.add_walks.new.cuts (pitch_same c.args.cutting c.args.job.now c.requires.job) c.requires.begun c.add_walks.ensures.rest
    (subst (λ (old : List (List Corner)). AddsComponents c.args.job.now (in_plane c.args.bench.now.frame c.args.bench.now.pass) old c.add_walks.new.cuts) c.empty-cuts.ensures c.in_ok-add_walks.ensures.adds)

pub add_pass-requires-clause-spacious : goal.add_pass-requires-clause-spacious
add_pass-requires-clause-spacious c = c.passes.invariant.side.spacious

pub add_pass-requires-clause-measured : goal.add_pass-requires-clause-measured
add_pass-requires-clause-measured c = c.passes.invariant.side.measured

pub add_pass-requires-clause-pitch : goal.add_pass-requires-clause-pitch
add_pass-requires-clause-pitch c = subst IsPitch (sym (pitch_same c.args.cutting c.args.job.now c.requires.job)) c.requires.cutting.pitch

pub add_pass-requires-clause-places : goal.add_pass-requires-clause-places
add_pass-requires-clause-places c = places_of c.args.cutting c.args.job.now c.args.painted.now.items c.passes.bench c.requires.job c.requires.cutting c.passes.invariant.side.framed

pub passes-preserved : goal.passes-preserved
passes-preserved c =
    next_pass c.args.cutting c.args.job.now c.args.painted.now.items c.args.bench.now.frame (c.passes.pass + 1) c.passes.bench c.add_pass.new.bench c.passes.cuts c.add_pass.new.cuts (pitch_same c.args.cutting c.args.job.now c.requires.job) c.passes.invariant
    c.in_ok-add_pass.ensures.rest c.in_ok-add_pass.ensures.contour c.in_ok-add_pass.ensures.visited c.in_ok-add_pass.ensures.adds

pub returns-in_default-clause-frame : goal.returns-in_default-clause-frame
returns-in_default-clause-frame c = c.passes.invariant.frame

pub returns-in_default-clause-cuts : goal.returns-in_default-clause-cuts
returns-in_default-clause-cuts c =
    passes_alone c.args.cutting c.args.job.now c.args.painted.now.items c.args.bench.now.frame c.passes.cuts c.passes.bench c.len-count.result (let end : c.passes.pass ≡ c.args.cutting.last = search rules in subst (λ (n : ℕ). HasPasses c.args.cutting c.args.job.now c.args.painted.now.items c.args.bench.now.frame (n + 1) c.passes.cuts c.passes.bench) end c.passes.invariant) c.len-count.ensures (c.in_default.ensures.none refl)

pub returns-in_default-clause-visited : goal.returns-in_default-clause-visited
returns-in_default-clause-visited c =
    alone_visited c.args.cutting c.args.job.now c.args.painted.now.items c.args.bench.now.frame c.passes.cuts c.passes.bench c.len-count.result (let end : c.passes.pass ≡ c.args.cutting.last = search rules in subst (λ (n : ℕ). HasPasses c.args.cutting c.args.job.now c.args.painted.now.items c.args.bench.now.frame (n + 1) c.passes.cuts c.passes.bench) end c.passes.invariant) c.len-count.ensures (c.in_default.ensures.none refl)

pub add_runs-requires-clause-pitch : goal.add_runs-requires-clause-pitch
add_runs-requires-clause-pitch c = subst IsPitch (sym (pitch_same c.args.cutting c.args.job.now c.requires.job)) c.requires.cutting.pitch

pub add_runs-requires-clause-places : goal.add_runs-requires-clause-places
add_runs-requires-clause-places c =
    subst (λ (f : Frame). (d : Cell) → InFrame f d → IsPlace (centre_of c.args.job.now.pitch d)) (sym (ap (λ (b : Grid). b.frame) c.clear.ensures.rest))
    (places_of c.args.cutting c.args.job.now c.args.painted.now.items c.passes.bench c.requires.job c.requires.cutting c.passes.invariant.side.framed)

pub returns-clause-frame : goal.returns-clause-frame
returns-clause-frame c = ap (λ (b : Grid). b.frame) c.clear.ensures.rest ∙ c.passes.invariant.frame

pub returns-clause-cuts : goal.returns-clause-cuts
returns-clause-cuts c =
    with_rows c.args.cutting c.args.job.now c.args.painted.now.items c.args.bench.now.frame c.passes.cuts c.passes.bench c.len-count.result (let end : c.passes.pass ≡ c.args.cutting.last = search rules in subst (λ (n : ℕ). HasPasses c.args.cutting c.args.job.now c.args.painted.now.items c.args.bench.now.frame (n + 1) c.passes.cuts c.passes.bench) end c.passes.invariant) c.len-count.ensures
    (record { inner = c.in-Some.clearing.inner; stride = c.in-Some.clearing.stride }) c.in-Some.ensures.some c.clear.new.bench c.add_runs.new.cuts c.clear.ensures.rest c.clear.ensures.rows c.clear.ensures.visited c.in_ok-add_runs.ensures

pub returns-clause-visited : goal.returns-clause-visited
returns-clause-visited c =
    rows_visited c.args.cutting c.args.job.now c.args.painted.now.items c.args.bench.now.frame c.passes.cuts c.passes.bench c.len-count.result (let end : c.passes.pass ≡ c.args.cutting.last = search rules in subst (λ (n : ℕ). HasPasses c.args.cutting c.args.job.now c.args.painted.now.items c.args.bench.now.frame (n + 1) c.passes.cuts c.passes.bench) end c.passes.invariant) c.len-count.ensures
    (record { inner = c.in-Some.clearing.inner; stride = c.in-Some.clearing.stride }) c.in-Some.ensures.some c.clear.new.bench c.passes.cuts c.clear.ensures.rest c.clear.ensures.rows c.clear.ensures.visited
