-- Quarter turns.
use Rattle.std.specs.Prelude.{◌≡◌, ℤ, pos, neg_ℤ, ◌+ℤ◌}
use Rattle.fixed_num.specs.Angles.{sine_of, cosine_of}

-- sine and cosine are exact at 0, and a quarter more turns them round; so they are exact at all multiples of 90 degrees
pub record TurnLaw : Type 0 where
  pub no_sine : sine_of (pos 0) ≡ pos 0
  pub whole_cosine : cosine_of (pos 0) ≡ pos 1000000000000
  pub sine : (angle : ℤ) → sine_of (angle +ℤ pos 90000000) ≡ cosine_of angle
  pub cosine : (angle : ℤ) → cosine_of (angle +ℤ pos 90000000) ≡ neg_ℤ (sine_of angle)
