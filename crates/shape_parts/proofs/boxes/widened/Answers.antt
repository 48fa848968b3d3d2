use Rattle.std.proofs.Common.{◌≡◌, ◌∙◌, sym, ap, subst, Option, Some}
use Rattle.std.proofs.lemmas.Int.{to_z-of_z}
use mir.Val.{SFits}
use mir.Syntax.{w64}
use Rattle.board_base.specs.declared.places.Bounds.{Bounds}
use Rattle.shape_parts.specs.Boxes.{around, hull, widened, IsBounds, AreBounds}
use Rattle.shape_parts.proofs.BoundsLaws.{around_bounds, hull_bounds}
use Rattle.shape_parts.proofs.boxes.widened.Goals as goal

pub returns-in-None-clause-bounds : goal.returns-in-None-clause-bounds
returns-in-None-clause-bounds c =
    let g : SFits w64 c.args.r = c.ranges.r in
    let same : c.around.result ≡ around c.args.p c.args.r = λ t. record { x0 = (simp to_z-of_z at c.around.ensures.x0) t; y0 = (simp to_z-of_z at c.around.ensures.y0) t; x1 = (simp to_z-of_z at c.around.ensures.x1) t; y1 = (simp to_z-of_z at c.around.ensures.y1) t } in
    subst IsBounds (sym same) (around_bounds c.args.p c.args.r c.requires.p (record { low = c.requires.r_low; high = c.requires.r_high }))

pub returns-in-Some-clause-value : goal.returns-in-Some-clause-value
returns-in-Some-clause-value c =
    let g : SFits w64 c.args.r = c.ranges.r in
    let square : c.around-in-Some.result ≡ around c.args.p c.args.r = λ t. record { x0 = (simp to_z-of_z at c.around-in-Some.ensures.x0) t; y0 = (simp to_z-of_z at c.around-in-Some.ensures.y0) t; x1 = (simp to_z-of_z at c.around-in-Some.ensures.x1) t; y1 = (simp to_z-of_z at c.around-in-Some.ensures.y1) t } in
    let same : c.hull.result ≡ hull c.in-Some.b c.around-in-Some.result = λ t. record { x0 = c.hull.ensures.x0 t; y0 = c.hull.ensures.y0 t; x1 = c.hull.ensures.x1 t; y1 = c.hull.ensures.y1 t } in
    ap Some (same ∙ ap (hull c.in-Some.b) square) ∙ ap (λ (o : Option Bounds). widened c.args.r o c.args.p) (sym c.in-Some.is)

pub returns-in-Some-clause-bounds : goal.returns-in-Some-clause-bounds
returns-in-Some-clause-bounds c =
    let g : SFits w64 c.args.r = c.ranges.r in
    let square : c.around-in-Some.result ≡ around c.args.p c.args.r = λ t. record { x0 = (simp to_z-of_z at c.around-in-Some.ensures.x0) t; y0 = (simp to_z-of_z at c.around-in-Some.ensures.y0) t; x1 = (simp to_z-of_z at c.around-in-Some.ensures.x1) t; y1 = (simp to_z-of_z at c.around-in-Some.ensures.y1) t } in
    let same : c.hull.result ≡ hull c.in-Some.b c.around-in-Some.result = λ t. record { x0 = c.hull.ensures.x0 t; y0 = c.hull.ensures.y0 t; x1 = c.hull.ensures.x1 t; y1 = c.hull.ensures.y1 t } in
    let fits = around_bounds c.args.p c.args.r c.requires.p (record { low = c.requires.r_low; high = c.requires.r_high }) in
    subst IsBounds (sym (same ∙ ap (hull c.in-Some.b) square)) (hull_bounds c.in-Some.b (around c.args.p c.args.r) (subst AreBounds c.in-Some.is c.requires.bounds) fits)
