use Rattle.std.proofs.Common.{◌≡◌, ◌∙◌, ℤ, pos, ◌≤ℤ◌, ◌<ℤ◌, true, false, sym, subst, arith, rules}
use Rattle.std.proofs.lemmas.Int.{to_z-of_z}
use borrow.Author.Differences.{ints}
use mir.Val.{SFits}
use mir.Syntax.{w64}
use Rattle.board_base.specs.Near.{near_of}
use Rattle.copper_cover.specs.Rows.{centre_in, misses}
use Rattle.copper_cover.proofs.ColumnLaws.{level, at_height, missed}
use Rattle.copper_cover.proofs.RowLaws.{far_touched, far_covered}
use Rattle.copper_cover.proofs.segments.add_segment.Goals as goal

weak : (h : ℤ) → pos 0 <ℤ h → pos 0 ≤ℤ h
weak h l = omega (arith, ints)

pub misses_row-requires-clause-y : goal.misses_row-requires-clause-y
misses_row-requires-clause-y c =
    let f : SFits w64 c.args.row.y = search rules in
    simp to_z-of_z (level c.args.row _ c.requires.row)

pub returns-then-misses_row-clause-touched : goal.returns-then-misses_row-clause-touched
returns-then-misses_row-clause-touched c k l =
    let f1 : SFits w64 c.args.row.y = search rules in
    let f2 : SFits w64 c.wider.result = search rules in
    let f3 : SFits w64 c.args.a.y = search rules in
    let f4 : SFits w64 c.args.b.y = search rules in
    let f5 : SFits w64 c.args.d = c.ranges.d in
    let f6 : SFits w64 c.args.row.h = search rules in
    let q = centre_in c.args.row k in
    let m : misses c.args.row.y c.wider.result c.args.a.y c.args.b.y ≡ true = sym (simp to_z-of_z at c.misses_row.ensures) ∙ c.if-misses_row.true in
    let far = missed q c.args.a c.args.b c.args.row.y c.wider.result (at_height c.args.row _ k c.requires.row) (weak c.wider.result c.wider.ensures.low) m in
    sym (far_touched q c.args.a c.args.b c.args.d c.args.row.h c.args.on _ (weak c.args.row.h c.requires.row.h_low)
    (subst (λ (z : ℤ). near_of q c.args.a c.args.b z ≡ false) (simp to_z-of_z at c.wider.ensures.value) far))

pub returns-then-misses_row-clause-covered : goal.returns-then-misses_row-clause-covered
returns-then-misses_row-clause-covered c k l =
    let f1 : SFits w64 c.args.row.y = search rules in
    let f2 : SFits w64 c.wider.result = search rules in
    let f3 : SFits w64 c.args.a.y = search rules in
    let f4 : SFits w64 c.args.b.y = search rules in
    let f5 : SFits w64 c.args.d = c.ranges.d in
    let f6 : SFits w64 c.args.row.h = search rules in
    let q = centre_in c.args.row k in
    let m : misses c.args.row.y c.wider.result c.args.a.y c.args.b.y ≡ true = sym (simp to_z-of_z at c.misses_row.ensures) ∙ c.if-misses_row.true in
    let far = missed q c.args.a c.args.b c.args.row.y c.wider.result (at_height c.args.row _ k c.requires.row) (weak c.wider.result c.wider.ensures.low) m in
    sym (far_covered q c.args.a c.args.b c.args.d c.args.row.h c.args.on _ (weak c.args.row.h c.requires.row.h_low)
    (subst (λ (z : ℤ). near_of q c.args.a c.args.b z ≡ false) (simp to_z-of_z at c.wider.ensures.value) far))

pub returns-clause-touched : goal.returns-clause-touched
returns-clause-touched c =
    let f1 : SFits w64 c.args.d = c.ranges.d in
    let f2 : SFits w64 c.args.row.h = search rules in
    simp to_z-of_z at c.step_segment.ensures.touched

pub returns-clause-covered : goal.returns-clause-covered
returns-clause-covered c =
    let f1 : SFits w64 c.args.d = c.ranges.d in
    let f2 : SFits w64 c.args.row.h = search rules in
    simp to_z-of_z at c.step_segment.ensures.covered
