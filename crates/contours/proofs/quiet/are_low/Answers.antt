use Rattle.std.proofs.Common.{◌≡◌, ℕ, ◌<◌, ◌≤◌, ◌+◌, ◌-◌, ◌*◌, ap, ◌∙◌, arith}
use Rattle.number_laws.proofs.Tests.{is_up_to}
use Rattle.cell_grid.specs.declared.frames.Frame.{Frame}
use Rattle.contours.proofs.QuietLaws.{low_quiet}
use Rattle.contours.proofs.quiet.are_low.Goals as goal

pub returns : goal.returns
returns c = λ e x l h.
    let g = c.args.bench.now in
    let y = c.args.y in
    let row = y * g.frame.width in
    let first : c.place_at-first.result ≡ row + c.args.from = c.place_at-first.ensures.value ∙ ap (λ (f : Frame). y * f.width + c.args.from) c.frame.ensures.value in
    let last : c.place_at-last.result ≡ row + (c.args.end - 1) = c.place_at-last.ensures.value ∙ ap (λ (f : Frame). y * f.width + (c.args.end - 1)) c.frame-2.ensures.value in
    let most = c.greatest_clearance.ensures (row + x) (from_first row c.args.from x _ first l) (to_last row c.args.end x _ last h) in
    low_quiet g c.args.g x y (inside x c.args.end g.frame.width h c.requires.end) c.requires.y (chain most (is_up_to _ _ e))
  where
    from_first : (r f x p : ℕ) → p ≡ r + f → f ≤ x → p ≤ r + x
    from_first r f x p e h = omega arith

    to_last : (r t x q : ℕ) → q ≡ r + (t - 1) → x < t → r + x < q + 1
    to_last r t x q e h = omega arith

    inside : (x t w : ℕ) → x < t → t ≤ w → x < w
    inside x t w h k = omega arith

    chain : {a b d : ℕ} → a ≤ b → b ≤ d → a ≤ d
    chain h k = omega arith
