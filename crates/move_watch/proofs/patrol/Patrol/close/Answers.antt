use Rattle.std.proofs.Common.{◌≡◌, arith, ap, ◌∙◌, map, ◌<◌, ◌+◌, ◌++◌, List, [], ◌∷◌, length, drop}
use Rattle.std.proofs.lemmas.Grind.{common_steps}
use Rattle.std.specs.declared.alloc.Global.{Global}
use Rattle.std.specs.declared.dyn_box.DynBox.{DynBox}
use Rattle.move_watch.specs.declared.finding.Finding.{Finding}
use Rattle.move_watch.specs.Watch.{Watch}
use Rattle.move_watch.specs.Watched.{finding_of, findings_from}
use Rattle.move_watch.specs.Patrol.{seen_at}
use Rattle.move_watch.proofs.PostLaws.{next_finding}
use Rattle.move_watch.proofs.patrol.Patrol.close.Goals as goal

pub loop-k-preserved : goal.loop-k-preserved
loop-k-preserved g c =
    let watch : DynBox _ Global _ → Watch = λ b. (goal.Watcher-dyn g (b.vtable, b.value)).watch b.value in
    let xs = c.args.self.posts.items in
    let inside : c.loop-k.k < length xs = grind (arith, common_steps) in
    let more : c.push_reserved.new.self.items ≡ c.loop-k.findings.items ++ finding_of c.loop-k.k (seen_at watch c.index.result.now) ∷ [] =
    c.push_reserved.ensures.items ∙ ap (λ (f : Finding). c.loop-k.findings.items ++ f ∷ []) c.finding-finding.ensures in
    record {
      found = ap (λ (fs : List Finding). fs ++ findings_from (c.loop-k.k + 1) (drop (c.loop-k.k + 1) (map (seen_at watch) xs))) more
          ∙ next_finding (seen_at watch) xs c.loop-k.findings.items c.loop-k.k c.index.result.now inside c.index.ensures c.loop-k.invariant.found;
      count = grind (arith, common_steps);
      room = grind (arith, common_steps);
      few = c.loop-k.invariant.few;
    }
