use Rattle.std.proofs.Common.{◌≡◌, not, true, ap, subst}
use Rattle.cell_grid.specs.declared.frames.Frame.{Frame}
use Rattle.cell_grid.specs.Grid.{Grid}
use Rattle.cell_grid.specs.Cells.{in_plane, number_in}
use Rattle.cell_sets.specs.Groups.{AreGroups}
use Rattle.side_check.proofs.marks.left_groups.Goals as goal

pub returns : goal.returns
returns c =
    let frame : c.relabel.new.bench.frame ≡ c.args.bench.now.frame = ap (λ (b : Grid). b.frame) c.relabel.ensures.rest in
    let swept : c.relabel.new.bench.swept ≡ c.args.bench.now.swept = ap (λ (b : Grid). b.swept) c.relabel.ensures.rest in
    let labels : c.relabel.new.bench.labels ≡ c.args.bench.now.labels = ap (λ (b : Grid). b.labels) c.relabel.ensures.rest in
    subst (λ xs. AreGroups (λ d. not (in_plane c.args.bench.now.frame c.args.bench.now.swept d) ≡ true) (number_in c.args.bench.now.frame 0 xs) c.in_ok-found.found.items) labels
    (subst (λ xs. AreGroups (λ d. not (in_plane c.args.bench.now.frame xs d) ≡ true) (number_in c.args.bench.now.frame 0 c.relabel.new.bench.labels) c.in_ok-found.found.items) swept
    (subst (λ (f : Frame). AreGroups (λ d. not (in_plane f c.relabel.new.bench.swept d) ≡ true) (number_in f 0 c.relabel.new.bench.labels) c.in_ok-found.found.items) frame c.in_ok-found.ensures))
