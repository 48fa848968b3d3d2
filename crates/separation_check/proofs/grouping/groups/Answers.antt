use Rattle.std.proofs.Common.{List, refl, sym, subst}
use Rattle.cell_grid.specs.Place.{cells_of}
use Rattle.separation_check.specs.declared.meetings.Meeting.{Meeting}
use Rattle.separation_check.specs.Unswept.{is_unswept, island_of, class_of}
use Rattle.separation_check.specs.Meetings.{islands_of, classes_of, AreMeetings}
use Rattle.separation_check.specs.Grouping.{AreSome}
use Rattle.separation_check.proofs.Lifting.{some_islands, some_classes, lifted, island_inside}
use Rattle.separation_check.proofs.grouping.groups.Goals as goal

pub returns : goal.returns
returns c =
    let g = c.args.bench.now in
    let met =
    subst (λ (ms : List Meeting). AreMeetings g.frame (is_unswept g) (island_of g) (class_of g) (islands_of ms) (classes_of ms) (cells_of g.frame)) (sym c.as_slice.ensures.value)
    c.in_ok-meetings.ensures in
    lifted _ _ _ _ _ _ _ met c.requires refl (island_inside g) _ c.in_ok-found.ensures

pub groups_of-requires-clause-some_islands : goal.groups_of-requires-clause-some_islands
groups_of-requires-clause-some_islands c =
    subst (λ (ms : List Meeting). AreSome (islands_of ms)) (sym c.as_slice.ensures.value) (some_islands _ _ _ _ _ _ _ c.in_ok-meetings.ensures)

pub groups_of-requires-clause-some_classes : goal.groups_of-requires-clause-some_classes
groups_of-requires-clause-some_classes c =
    subst (λ (ms : List Meeting). AreSome (classes_of ms)) (sym c.as_slice.ensures.value) (some_classes _ _ _ _ _ _ _ c.in_ok-meetings.ensures c.requires)
