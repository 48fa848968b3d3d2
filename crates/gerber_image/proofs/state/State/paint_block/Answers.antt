use Rattle.std.proofs.Common.{rules, sym, ◌∙◌, ap, ◌≤◌, subst, List}
use Rattle.std.specs.List.{list_any}
use Rattle.shape_parts.specs.declared.shape.Painted.{Painted}
use Rattle.gerber_image.specs.Image.{copies_of, vertices_in}
use Rattle.gerber_image.specs.Checks.{is_outside}
use Rattle.gerber_image.specs.State.{IsRepeat}
use Rattle.gerber_image.proofs.Copies.{are_inside}
use Rattle.gerber_image.proofs.Counts.{few_in_block}
use Rattle.gerber_image.proofs.state.State.paint_block.Goals as goal

pub paint_copies-requires-clause-inside : goal.paint_copies-requires-clause-inside
paint_copies-requires-clause-inside c = are_inside c.in-Some.repeat c.deref-3.result.now
    (ap (λ block. list_any is_outside (copies_of c.in-Some.repeat block)) (c.deref-3.ensures.value ∙ sym c.deref.ensures.value) ∙ sym c.copies_leave.ensures ∙ c.if-copies_leave.false)

pub paint_copies-requires-clause-few : goal.paint_copies-requires-clause-few
paint_copies-requires-clause-few c =
    let fits : IsRepeat c.in-Some.repeat = search rules in
    subst (λ (l : List Painted). vertices_in l ≤ 4194304) (c.deref-2.ensures.value ∙ sym c.deref-3.ensures.value)
    (few_in_block c.args.self.now.painted c.deref-2.result.now c.in-Some.repeat fits.some_columns fits.some_rows (sym c.copies_excess.ensures ∙ c.in_default-copies_excess.is))
