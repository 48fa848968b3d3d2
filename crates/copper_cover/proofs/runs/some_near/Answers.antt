use Rattle.std.proofs.Common.{◌≡◌, ◌∙◌, ℕ, ◌<◌, ◌≤◌, false, sym, arith}
use Rattle.std.proofs.lemmas.Int.{to_z-of_z}
use mir.Val.{SFits}
use mir.Syntax.{w64}
use Rattle.copper_cover.specs.Rows.{is_near_in}
use Rattle.copper_cover.proofs.RunLaws.{one_more}
use Rattle.copper_cover.proofs.runs.some_near.Goals as goal

pub columns-preserved : goal.columns-preserved
columns-preserved c =
    let f : SFits w64 c.args.d = c.ranges.d in
    let near = is_near_in c.args.row c.args.a c.args.b c.args.d in
    let before : (j : ℕ) → c.args.span.from ≤ j → j < c.columns.k → near j ≡ false = simp to_z-of_z at c.columns.invariant in
    let here : near c.columns.k ≡ false = sym (simp to_z-of_z at c.is_near_at-in-columns.ensures) ∙ c.if-is_near_at-2.false in
    simp to_z-of_z (one_more near c.args.span.from c.columns.k before here)

pub returns-clause-none : goal.returns-clause-none
returns-clause-none c _ =
    let f : SFits w64 c.args.d = c.ranges.d in
    let before : (j : ℕ) → c.args.span.from ≤ j → j < c.columns.k → is_near_in c.args.row c.args.a c.args.b c.args.d j ≡ false = simp to_z-of_z at c.columns.invariant in
    λ j l h. before j l (less j c.args.span.to c.columns.k h c.columns-test.false)
  where
    less : (k t f : ℕ) → k < t → t ≤ f → k < f
    less k t f h i = omega arith
