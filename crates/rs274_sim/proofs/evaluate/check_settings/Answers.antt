use Rattle.std.proofs.Common.{◌≡◌, Ok, ◌<◌, ◌≤◌, ◌+◌, take, length, slice_set, arith, ap, sym, subst, ◌∙◌, List, ℤ, pos}
use Rattle.std.specs.Prelude.{unwrap_or}
use Rattle.std.proofs.lemmas.Grind.{common_steps}
use Rattle.rs274_sim.specs.Evaluation.{value_of, set_values}
use Rattle.rs274_sim.specs.Table.{table, paired, number_found}
use Rattle.rs274_sim.proofs.TableLaws.{more_settings, setting_fault}
use Rattle.rs274_sim.proofs.evaluate.check_settings.Goals as goal

pub returns-in-Err : goal.returns-in-Err
returns-in-Err c =
    let l = c.loop-k in
    let ps = table c.args.params.now in
    let inside : l.k < length c.args.settings.now = grind (arith, common_steps) in
    let here = c.index-settings-k.is in
    setting_fault ps c.args.settings.now _ l.k c.index-settings-k.result c.in-Err.fault inside here l.invariant.set (ap (λ x. value_of ps x.1) here ∙ c.in-Err.ensures)

pub loop-k-preserved : goal.loop-k-preserved
loop-k-preserved c =
    let l = c.loop-k in
    let ps = table c.args.params.now in
    let inside : l.k < length c.args.settings.now = grind (arith, common_steps) in
    let here = c.index-settings-k.is in
    let room : length c.args.settings.now ≤ length l.numbers = grind (arith, common_steps) in
    let is : unwrap_or c.found.result (pos 0) ≡ c.in-Ok.field-0 = ap (λ o. unwrap_or o (pos 0)) (c.found.ensures ∙ ap number_found c.in-Ok.is) in
    let set : c.put.new.numbers ≡ slice_set l.numbers l.k c.in-Ok.field-0 = c.put.ensures ∙ ap (slice_set l.numbers l.k) is in
    record {
      set =
          subst (λ (ns : List ℤ). set_values ps (take (l.k + 1) c.args.settings.now) ≡ Ok (paired (take (l.k + 1) c.args.settings.now) ns)) (sym set)
          (more_settings ps c.args.settings.now l.numbers l.k c.index-settings-k.result c.in-Ok.field-0 inside room here (ap (λ x. value_of ps x.1) here ∙ c.in-Ok.ensures) l.invariant.set);
      size = grind (arith, common_steps);
    }
