use Rattle.std.proofs.Common.{◌≡◌, ℕ, ◌-◌, ◌≤◌, ℤ, pos, List, [], ◌∷◌, length, get_or, take, drop, arith, ap, sym, subst, Ok, Err, MatchResult, ◌⊎◌, FitsSigned, rules}
use Rattle.std.specs.Int.{w128}
use Rattle.std.proofs.lemmas.Grind.{common_steps}
use Rattle.std.proofs.lemmas.Int.{to_z-of_z}
use Rattle.apertures.specs.declared.aperture.ApertureError.TheVariants.{Memory}
use Rattle.apertures.specs.Defined.{polygon_of}
use Rattle.apertures.proofs.templates.polygon.Goals as goal

-- the rest of a list behind three
rest_whole : (n : ℕ) (rest : List ℤ) → n ≡ length rest → take n rest ≡ rest
rest_whole n rest e = grind (arith, common_steps)

-- a list by its first three values and the rest
at_three : (values : List ℤ) (d : ℤ) → 3 ≤ length values → values ≡ get_or values 0 d ∷ get_or values 1 d ∷ get_or values 2 d ∷ take (length values - 3) (drop 3 values)
at_three [] d h = absurd (omega (arith, h))
at_three (x ∷ []) d h = absurd (omega (arith, h))
at_three (x ∷ y ∷ []) d h = absurd (omega (arith, h))
at_three (x ∷ y ∷ z ∷ rest) d h = ap (λ l. x ∷ y ∷ z ∷ l) (sym (rest_whole (length (x ∷ y ∷ z ∷ rest) - 3) rest (omega arith)))

pub returns-in-len3-up : goal.returns-in-len3-up
returns-in-len3-up c =
    let first : FitsSigned w128 (get_or c.args.values.now 0 (pos 0)) = search rules in
    let second : FitsSigned w128 (get_or c.args.values.now 1 (pos 0)) = search rules in
    let third : FitsSigned w128 (get_or c.args.values.now 2 (pos 0)) = search rules in
    subst (λ v. MatchResult c.polygon_at-in-len3-up.result (λ a. polygon_of c.args.unit v ≡ Ok a) (λ e. (e ≡ Memory) ⊎ (polygon_of c.args.unit v ≡ Err e)))
    (sym (at_three c.args.values.now (pos 0) c.in-len3-up.len_at_least)) (simp to_z-of_z at c.polygon_at-in-len3-up.ensures)
