use Rattle.std.proofs.Common.{◌≡◌, ℕ, ◌<◌, length, subst, rules}
use Rattle.std.proofs.lemmas.Int.{to_z-of_z}
use mir.Val.{SFits}
use mir.Syntax.{w64}
use Rattle.shape_parts.specs.declared.shape.Part.TheVariants.{Capsule}
use Rattle.shape_parts.specs.Parts.{part_touches, part_covers}
use Rattle.copper_cover.specs.Rows.{centre_in, is_in_span}
use Rattle.copper_cover.proofs.RunLaws.{marked_on, marked_off}
use Rattle.copper_cover.proofs.segments.step_segment.Goals as goal

pub returns-then-on-clause-touched : goal.returns-then-on-clause-touched
returns-then-on-clause-touched c k l =
    let f1 : SFits w64 c.args.d = c.ranges.d in
    let f2 : SFits w64 c.args.row.h = search rules in
    let l' : k < length c.args.touched.now = subst (λ (n : ℕ). k < n) c.mark.ensures.len l in
    let t : part_touches (centre_in c.args.row k) c.args.row.h (Capsule c.args.a c.args.b c.args.d) ≡ is_in_span c.touched_columns-touches.result k =
    simp to_z-of_z at (c.touched_columns-touches.ensures.holds k l') in
    marked_on _ _ _ _ _ _ c.if-on.true t (c.mark.ensures.bits k l')

pub returns-then-on-clause-covered : goal.returns-then-on-clause-covered
returns-then-on-clause-covered c k l =
    let f1 : SFits w64 c.args.d = c.ranges.d in
    let f2 : SFits w64 c.args.row.h = search rules in
    let l' : k < length c.args.covered.now = subst (λ (n : ℕ). k < n) c.mark-then-on.ensures.len l in
    let t : part_covers (centre_in c.args.row k) c.args.row.h (Capsule c.args.a c.args.b c.args.d) ≡ is_in_span c.covered_columns-covers.result k =
    simp to_z-of_z at (c.covered_columns-covers.ensures.holds k (subst (λ (n : ℕ). k < n) c.requires.covered l')) in
    marked_on _ _ _ _ _ _ c.if-on.true t (c.mark-then-on.ensures.bits k l')

pub returns-else-on-clause-touched : goal.returns-else-on-clause-touched
returns-else-on-clause-touched c k l =
    let f1 : SFits w64 c.args.d = c.ranges.d in
    let f2 : SFits w64 c.args.row.h = search rules in
    let l' : k < length c.args.touched.now = subst (λ (n : ℕ). k < n) c.mark-else-on.ensures.len l in
    let t : part_covers (centre_in c.args.row k) c.args.row.h (Capsule c.args.a c.args.b c.args.d) ≡ is_in_span c.covered_columns-covers.result k =
    simp to_z-of_z at (c.covered_columns-covers.ensures.holds k l') in
    marked_off _ _ _ _ _ _ c.if-on.false t (c.mark-else-on.ensures.bits k l')

pub returns-else-on-clause-covered : goal.returns-else-on-clause-covered
returns-else-on-clause-covered c k l =
    let f1 : SFits w64 c.args.d = c.ranges.d in
    let f2 : SFits w64 c.args.row.h = search rules in
    let l' : k < length c.args.covered.now = subst (λ (n : ℕ). k < n) c.mark-else-on-2.ensures.len l in
    let t : part_touches (centre_in c.args.row k) c.args.row.h (Capsule c.args.a c.args.b c.args.d) ≡ is_in_span c.touched_columns-touches.result k =
    simp to_z-of_z at (c.touched_columns-touches.ensures.holds k (subst (λ (n : ℕ). k < n) c.requires.covered l')) in
    marked_off _ _ _ _ _ _ c.if-on.false t (c.mark-else-on-2.ensures.bits k l')
