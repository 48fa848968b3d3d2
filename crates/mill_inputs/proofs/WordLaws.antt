-- Tests of words over their texts.
use Rattle.std.proofs.Common.{◌≡◌, ℕ, Bool, List, map, drop, ap, ◌∙◌}
use Rattle.std.specs.List.{position}
use Rattle.std.proofs.lemmas.List.{drop-map}
use Rattle.job_file.proofs.KeyLaws.{position-map}

-- the first behind so many that passes
pub position_behind : {X Y : Type 0} (p : Y → Bool) (f : X → Y) (n : ℕ) (xs : List X) → position p (drop n (map f xs)) ≡ position (λ x. p (f x)) (drop n xs)
position_behind p f n xs = ap (position p) (drop-map f n xs) ∙ position-map p f (drop n xs)
