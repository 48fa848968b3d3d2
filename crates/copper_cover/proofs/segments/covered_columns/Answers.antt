use Rattle.std.proofs.Common.{◌≡◌, ◌∙◌, sym, ap, ℤ, int_lt, true, rules}
use Rattle.std.proofs.lemmas.Int.{to_z-of_z}
use mir.Val.{SFits}
use mir.Syntax.{w64}
use Rattle.board_base.specs.Near.{near_of}
use Rattle.shape_parts.specs.Parts.{twice, shrunk}
use Rattle.copper_cover.specs.Rows.{centre_in, is_in_span}
use Rattle.copper_cover.proofs.RunLaws.{with_true}
use Rattle.copper_cover.proofs.segments.covered_columns.Goals as goal

pub returns-then-is_below-clause-holds : goal.returns-then-is_below-clause-holds
returns-then-is_below-clause-holds c k l =
    let f1 : SFits w64 c.args.d = c.ranges.d in
    let f2 : SFits w64 c.args.row.h = search rules in
    let f3 : SFits w64 c.narrower.result = search rules in
    let f4 : SFits w64 c.double.result = search rules in
    let width : c.narrower.result ≡ shrunk c.args.d c.args.row.h = simp to_z-of_z at c.narrower.ensures.value in
    let twofold : c.double.result ≡ twice c.args.row.h = simp to_z-of_z at c.double.ensures.value in
    let wide : int_lt c.double.result c.args.d ≡ true = sym (simp to_z-of_z at c.is_below.ensures) ∙ c.if-is_below.true in
    let some : int_lt (twice c.args.row.h) c.args.d ≡ true = sym (ap (λ (z : ℤ). int_lt z c.args.d) twofold) ∙ wide in
    let run : near_of (centre_in c.args.row k) c.args.a c.args.b c.narrower.result ≡ is_in_span c.columns_at.result k = simp to_z-of_z at (c.columns_at.ensures.holds k l) in
    with_true _ _ _ some (sym (ap (near_of (centre_in c.args.row k) c.args.a c.args.b) width) ∙ run)
