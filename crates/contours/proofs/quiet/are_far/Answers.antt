use Rattle.std.proofs.Common.{ℕ, ◌<◌, ◌≤◌, ◌+◌, ◌-◌, ◌*◌, ap, ◌∙◌, arith}
use Rattle.number_laws.proofs.Tests.{is_below}
use Rattle.cell_grid.specs.declared.frames.Frame.{Frame}
use Rattle.contours.proofs.QuietLaws.{above_span, far_quiet}
use Rattle.contours.proofs.quiet.are_far.Goals as goal

pub returns : goal.returns
returns c = λ e x l h.
    let g = c.args.bench.now in
    let y = c.args.y in
    let west = c.args.from - 1 in
    let end = c.args.end in
    let all = is_below _ _ e in
    let least = c.min.ensures in
    let least_of_all = c.min-2.ensures in
    let at = λ (row column : ℕ). ap (λ (f : Frame). row * f.width + column) c.frame-frame.ensures.value in
    let here = above_span g c.args.g y west end _ _ c.least_clearance-here.result (c.place_at.ensures.value ∙ at y west) (c.place_at-2.ensures.value ∙ at y end) (omega (arith, all, least, least_of_all)) c.least_clearance-here.ensures in
    let south = above_span g c.args.g (y - 1) west end _ _ c.least_clearance-south.result (c.place_at-3.ensures.value ∙ at (y - 1) west) (c.place_at-4.ensures.value ∙ at (y - 1) end) (omega (arith, all, least, least_of_all))
    c.least_clearance-south.ensures in
    let north = above_span g c.args.g (y + 1) west end _ _ c.least_clearance-north.result (c.place_at-5.ensures.value ∙ at (y + 1) west) (c.place_at-6.ensures.value ∙ at (y + 1) end) (omega (arith, all, least, least_of_all))
    c.least_clearance-north.ensures in
    far_quiet g c.args.g x y west (end + 1) c.requires.south (past c.args.from x c.requires.west l) (within x end h) south here north
  where
    past : (f x : ℕ) → 0 < f → f ≤ x → f - 1 < x
    past f x h k = omega arith

    within : (x t : ℕ) → x < t → x + 1 < t + 1
    within x t h = omega arith
