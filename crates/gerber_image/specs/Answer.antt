-- What a reader answers.
use Rattle.std.specs.Prelude.{◌≡◌, ◌⊎◌, ℕ, List, Err}
use Rattle.gerber_image.specs.Gerber.{StandsFor}
use Rattle.gerber_image.specs.declared.refusal.GerberError.{GerberError}
use Rattle.gerber_image.specs.declared.refusal.GerberKind.TheVariants as kinds

-- the refusal that the bytes stand for, or want of memory
abbrev pub Refuses : List ℕ → GerberError → Type 0
Refuses bytes e = (e.kind ≡ kinds.Memory) ⊎ StandsFor bytes (Err (e.kind, e.at))
