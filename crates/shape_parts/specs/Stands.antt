-- What later members of a list leave of the earlier ones.
use Rattle.std.specs.Prelude.{Bool, false, not, ◌&&◌, ◌||◌, List, [], ◌∷◌}
use Rattle.std.specs.List.{list_any}

-- some member adds, and no later one takes away
abbrev pub stands : {X : Type 0} → (X → Bool) → (X → Bool) → List X → Bool
stands adds takes [] = false
stands adds takes (x ∷ xs) = (adds x && not (list_any takes xs)) || stands adds takes xs
