use Rattle.std.proofs.Common.{◌≡◌, ℕ, ◌<◌, ◌≤◌, ◌+◌, true, false}
use Rattle.std.proofs.lemmas.Int.{to_z-of_z}
use mir.Val.{SFits}
use mir.Syntax.{w64}
use Rattle.cell_grid.specs.Windows.{IsInSpan}
use Rattle.copper_cover.specs.Rows.{is_near_in}
use Rattle.copper_cover.proofs.RunLaws.{no_run, run_is, in_run}
use Rattle.copper_cover.proofs.runs.columns_at.Goals as goal

pub returns-in-None-clause-holds : goal.returns-in-None-clause-holds
returns-in-None-clause-holds c k l =
    let f : SFits w64 c.args.d = c.ranges.d in
    let near = is_near_in c.args.row c.args.a c.args.b c.args.d in
    let s = c.columns_near-span.result in
    let inside : (j : ℕ) → j < c.args.n → near j ≡ true → IsInSpan s j = simp to_z-of_z at c.columns_near-span.ensures.holds in
    let none : (j : ℕ) → s.from ≤ j → j < s.to → near j ≡ false = simp to_z-of_z at (c.some_near.ensures.none c.in-None.is) in
    no_run near s c.args.n k inside none l

pub returns-in-Some-clause-holds : goal.returns-in-Some-clause-holds
returns-in-Some-clause-holds c k l =
    let f : SFits w64 c.args.d = c.ranges.d in
    let near = is_near_in c.args.row c.args.a c.args.b c.args.d in
    let s = c.columns_near-span.result in
    let first = c.first_near.result in
    let end = c.end_near.result in
    let inside : (j : ℕ) → j < c.args.n → near j ≡ true → IsInSpan s j = simp to_z-of_z at c.columns_near-span.ensures.holds in
    let before : (j : ℕ) → s.from ≤ j → j < first → near j ≡ false = simp to_z-of_z at c.first_near.ensures.before in
    let begins : near first ≡ true = simp to_z-of_z at c.first_near.ensures.near in
    let last : (j : ℕ) → j + 1 ≡ end → near j ≡ true = simp to_z-of_z at c.end_near.ensures.near in
    let after : (j : ℕ) → end ≤ j → j < s.to → near j ≡ false = simp to_z-of_z at c.end_near.ensures.after in
    run_is near s (record { from = first; to = end }) c.args.n k inside before (λ j low high. in_run c.args.row c.args.n c.args.a c.args.b c.args.d first end j c.requires.row low high begins last) after l
