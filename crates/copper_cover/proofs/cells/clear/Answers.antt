use Rattle.std.proofs.Common.{◌≡◌, Bool, true, false, cond, replicate, refl, ap, ◌∙◌}
use Rattle.cell_grid.specs.Grid.{Grid}
use Rattle.cell_grid.specs.Place.{place_of, cells_of}
use Rattle.cell_grid.specs.Cells.{in_plane, in_frame}
use Rattle.copper_cover.proofs.RowLaws.{off_at}
use Rattle.copper_cover.proofs.cells.clear.Goals as goal

pub returns-clause-kept : goal.returns-clause-kept
returns-clause-kept c d i =
    let f = c.args.bench.now.frame in
    let n = cells_of f in
    ap (λ (g : Grid). in_plane f g.kept d) c.clear.ensures ∙ ap (λ (b : Bool). cond (in_frame f d) b false) (off_at (replicate n false) n (place_of f d) refl) ∙ neither (in_frame f d)
  where
    neither : (b : Bool) → cond b false false ≡ false
    neither true = refl
    neither false = refl
