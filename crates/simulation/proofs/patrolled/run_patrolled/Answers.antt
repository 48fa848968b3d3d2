use Rattle.std.proofs.Common.{◌∙◌, ◌<◌, ◌^◌, length, ap, subst, rules, Global}
use Rattle.std.specs.declared.dyn_box.DynBox.{DynBox}
use Rattle.move_watch.specs.Watch.{Watch}
use Rattle.move_watch.specs.Watched.{findings_from}
use Rattle.rs274_sim.specs.Made.{made_of}
use Rattle.simulation.proofs.PatrolLaws.{all_found}
use Rattle.simulation.proofs.patrolled.run_patrolled.Goals as goal

pub returns-in-Ok-run : goal.returns-in-Ok-run
returns-in-Ok-run g c =
    let watch : DynBox _ Global _ → Watch = λ b. (goal.Watcher-dyn g (b.vtable, b.value)).watch b.value in
    let made = made_of c.args.answers.now.items c.args.lines.now.items in
    let fits : c.in-Ok-run.moves < 2 ^ 64 = search rules in
    let few : length made < 2 ^ 64 = subst (λ n. n < 2 ^ 64) c.in-Ok-run.ensures.value.1 fits in
    record {
      moves = made;
      runs = c.in-Ok-run.ensures.value.0;
      count = c.in-Ok-run.ensures.value.1;
      findings =
          c.close.ensures
          ∙ ap (findings_from 0) c.in-Ok-run.ensures.shown
          ∙ all_found watch c.args.watchers.items made _ c.findings_law.ensures c.requires.fresh few c.in-Ok.ensures;
    }
