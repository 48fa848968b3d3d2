use Rattle.checking.proofs.DoneLaws.{sound_after, exact_after}
use Rattle.checking.proofs.laws.check_law.Goals as goal

pub returns-clause-sound : goal.returns-clause-sound
returns-clause-sound c = sound_after c.clear_law.ensures c.parts_law.ensures c.reading_law.ensures

pub returns-clause-exact : goal.returns-clause-exact
returns-clause-exact c = exact_after c.clear_law.ensures c.parts_law.ensures c.reading_law.ensures
