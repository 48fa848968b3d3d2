use Rattle.std.proofs.Common.{◌≡◌, arith, ap, ◌∙◌, map, ◌<◌, List, length}
use Rattle.std.proofs.lemmas.List.{length-map}
use Rattle.std.proofs.lemmas.Grind.{common_steps}
use Rattle.std.specs.declared.alloc.Global.{Global}
use Rattle.std.specs.declared.dyn_box.DynBox.{DynBox}
use Rattle.move_watch.specs.Watch.{Watch}
use Rattle.move_watch.specs.Watched.{shown}
use Rattle.move_watch.specs.Patrol.{seen_at, watches}
use Rattle.move_watch.proofs.PostLaws.{changed_to, one_changed, all_changed}
use Rattle.move_watch.proofs.patrol.Patrol.show.Goals as goal

pub loop-k-preserved : goal.loop-k-preserved
loop-k-preserved g c =
    let watch : DynBox _ Global _ → Watch = λ b. (goal.Watcher-dyn g (b.vtable, b.value)).watch b.value in
    let inside : c.loop-k.k < length c.loop-k.self.posts.items = grind (arith, common_steps) in
    record {
      seen =
          one_changed (shown c.args.m.now) (seen_at watch) c.loop-k.self.posts.items (map (seen_at watch) c.args.self.now.posts.items) c.loop-k.k c.index_mut.result.now c.show.new.self inside
          c.index_mut.ensures.value c.show.ensures c.loop-k.invariant.seen;
      count = grind (arith, common_steps);
    }

pub returns : goal.returns
unfolding watches
returns g c =
    let watch : DynBox _ Global _ → Watch = λ b. (goal.Watcher-dyn g (b.vtable, b.value)).watch b.value in
    let olds : List Watch = map (seen_at watch) c.args.self.now.posts.items in
    let all : c.loop-k.k ≡ length olds = grind (arith, common_steps, length-map c.args.self.now.posts.items (seen_at watch)) in
    c.loop-k.invariant.seen ∙ ap (λ n. changed_to (shown c.args.m.now) n olds) all ∙ all_changed (shown c.args.m.now) olds
