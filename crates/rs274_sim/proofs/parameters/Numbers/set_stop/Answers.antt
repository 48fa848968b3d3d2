use Rattle.std.proofs.Common.{sym, ap, if◌then◌else◌}
use Rattle.rs274_sim.specs.Machine.{all_set, contact_settings}
use Rattle.rs274_sim.specs.Table.{table}
use Rattle.rs274_sim.proofs.parameters.Numbers.set_stop.Goals as goal

pub returns-else-probes : goal.returns-else-probes
returns-else-probes c =
    let ps = table c.args.self.now.items.items in
    sym (ap (λ p. if p then all_set (contact_settings c.args.at.now) ps else ps) c.if-probes.false)
