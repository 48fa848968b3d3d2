use Rattle.std.proofs.Common.{ℕ, ◌≡◌, ◌*◌, arith}
use Rattle.centre_field.proofs.AllowedLaws.{all_done}
use Rattle.centre_field.proofs.centres.allowed.Goals as goal

pub returns : goal.returns
returns c =
    let last : c.rows.y ≡ c.frame-frame.result.height = omega arith in
    all_done c.args.bench.now c.rows.bench c.frame-frame.result c.args.g (c.rows.y * c.frame-frame.result.width) c.rows.invariant (ends c.rows.y c.frame-frame.result.width c.frame-frame.result.height last)
  where
    ends : (y w h : ℕ) → y ≡ h → y * w ≡ w * h
    ends y w h e = rw e (omega arith)
