-- The bounds of the program's watchers.
use Rattle.std.specs.Prelude.{pos, neg_ℤ, List, [], ◌∷◌}
use Rattle.move_watch.specs.declared.bounds.Limits.{Limits}
use Rattle.move_watch.specs.declared.bounds.Limits.TheVariants.{Travel, Floor, Feed, Tools}

-- 500 mm to each side of the origin, 50 mm down, 6,000 mm a minute, and the tools 1 to 99
abbrev pub program_bounds : List Limits
program_bounds =
    Travel (neg_ℤ (pos 500000000000000)) (neg_ℤ (pos 500000000000000)) (pos 500000000000000) (pos 500000000000000)
    ∷ Floor (neg_ℤ (pos 50000000000000))
    ∷ Feed (pos 6000000)
    ∷ Tools 1 99
    ∷ []
