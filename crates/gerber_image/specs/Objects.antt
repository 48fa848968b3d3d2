-- How much an image may hold.
use Rattle.std.specs.Prelude.{ℕ, ◌^◌, Option, Some, None, if◌then◌else◌, nat_lt}
use Rattle.gerber_image.specs.declared.refusal.GerberKind.{GerberKind}
use Rattle.gerber_image.specs.declared.refusal.GerberKind.TheVariants.{TooManyObjects, TooManyVertices}

-- a number of vertices, or one more than an image may have
abbrev pub capped : ℕ → ℕ
capped n = if nat_lt (2 ^ 22) n then 4194305 else n

-- more than 2^20 objects, or more than 2^22 vertices
abbrev pub excess : ℕ → ℕ → Option GerberKind
excess objects vertices =
    if nat_lt (2 ^ 20) objects then Some TooManyObjects
    else if nat_lt (2 ^ 22) vertices then Some TooManyVertices
    else None
