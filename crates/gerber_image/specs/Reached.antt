-- How far a reader has come.
use Rattle.std.specs.Prelude.{◌≡◌, ℕ, Bool, List}
use Rattle.gerber_lexer.specs.Cut.{next_of}
use Rattle.gerber_image.specs.Gerber.{Read, BeginsWith, next_behind, all_commands}
use Rattle.gerber_image.specs.Checks.{Held, held}

-- Some commands are read, the search goes on at this place, and what is kept is what they have set.
pub record IsReached (bytes : List ℕ) (at : ℕ) (inside : Bool) (h : Held) : Type 0 where
  pub past : List Read
  pub begins : BeginsWith bytes past
  pub span : next_behind bytes past ≡ next_of bytes at inside
  pub keeps : h ≡ held (all_commands past)
