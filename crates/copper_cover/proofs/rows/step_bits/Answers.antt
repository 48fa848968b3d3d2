use Rattle.std.proofs.Common.{◌<◌, ◌||◌, ◌&&◌, not, Bool, false, get_or, length, ap, ◌∙◌, rules}
use Rattle.copper_cover.specs.Rows.{bit_after}
use Rattle.copper_cover.proofs.RowLaws.{one_written}
use Rattle.copper_cover.proofs.rows.step_bits.Goals as goal

pub columns-preserved : goal.columns-preserved
columns-preserved c =
    let k = c.columns.k in
    let in_touched : k < length c.columns.touched = search rules in
    let in_covered : k < length c.columns.covered = search rules in
    let t = c.touches_by-touches.ensures in
    let v = c.covers_by-covers.ensures in
    record {
      touched = one_written _ _ _ k _ c.columns.invariant.touched in_touched
          (c.bit_after.ensures ∙ ap (λ (a : Bool). bit_after c.args.on a c.covers_by-covers.result (get_or c.columns.touched k false)) t
          ∙ ap (λ (a : Bool). bit_after c.args.on (get_or c.args.near.now k false || get_or c.args.held.now k false) a (get_or c.columns.touched k false)) v);
      covered = one_written _ _ _ k _ c.columns.invariant.covered in_covered
          (c.bit_after-in-columns.ensures ∙ ap (λ (a : Bool). bit_after c.args.on a c.touches_by-touches.result (get_or c.columns.covered k false)) v
          ∙ ap (λ (a : Bool). bit_after c.args.on (not (get_or c.args.near.now k false) && get_or c.args.held.now k false) a (get_or c.columns.covered k false)) t);
    }
