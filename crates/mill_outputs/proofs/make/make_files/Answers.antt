use Rattle.std.proofs.Common.{◌≡◌, ◌⊎◌, Err, subst}
use Rattle.endings.specs.declared.status.Status.{Status}
use Rattle.endings.specs.declared.status.Status.TheVariants.{Memory}
use Rattle.mill_inputs.specs.Accepted.{accepts_of}
use Rattle.mill_outputs.specs.Written.{Made, AreMade}
use Rattle.mill_outputs.specs.Mill.{AreFilesOf}
use Rattle.mill_outputs.proofs.PlanLaws.{refused_of}
use Rattle.mill_outputs.proofs.MadeLaws.{is_made, plans_refused, tiles_refused, one_made}
use Rattle.mill_outputs.proofs.AcceptedLaws.{IsAccepted}
use Rattle.mill_outputs.proofs.TileLaws.{TilingLaws}
use Rattle.mill_outputs.proofs.HoleLaws.{planned_within}
use Rattle.mill_outputs.proofs.MakeLaws.{has_pitch, plans_narrow, front_probed, front_lattice, programs_valid}
use Rattle.mill_outputs.proofs.make.make_files.Goals as goal

pub returns-in-Err-clause-one_answer : goal.returns-in-Err-clause-one_answer
returns-in-Err-clause-one_answer c status answer is made =
    let same : c.in-Err.status ≡ status = cc in
    let x = accepts_of c.args.accepted.now in
    subst (λ (s : Status). (s ≡ Memory) ⊎ (answer ≡ Err s)) same (one_made x c.in-Err.status answer (plans_refused x c.in-Err.status c.in-Err.ensures) made)

pub returns-in-Err-clause-refused : goal.returns-in-Err-clause-refused
returns-in-Err-clause-refused c status is =
    let same : c.in-Err.status ≡ status = cc in
    let x = accepts_of c.args.accepted.now in
    subst (λ (s : Status). (s ≡ Memory) ⊎ AreMade x (Err s)) same (refused_of (AreMade x) c.in-Err.status (plans_refused x c.in-Err.status c.in-Err.ensures))

pub make_programs-requires-clause-frames : goal.make_programs-requires-clause-frames
make_programs-requires-clause-frames c = plans_narrow (accepts_of c.args.accepted.now) c.in-Ok.plans (has_pitch c.args.accepted.now.job c.requires.ranges) c.in-Ok.ensures

pub make_programs-requires-clause-probed : goal.make_programs-requires-clause-probed
make_programs-requires-clause-probed c =
    let x = accepts_of c.args.accepted.now in
    let ok : IsAccepted x = record { ranges = c.requires.ranges; together = c.requires.together; drilled = c.requires.drilled; stands = c.requires.stands; named = c.requires.named } in
    front_probed c.probed_law.ensures x ok c.in-Ok.plans c.in-Ok.ensures

pub make_programs-requires-clause-lattice : goal.make_programs-requires-clause-lattice
make_programs-requires-clause-lattice c =
    let x = accepts_of c.args.accepted.now in
    let ok : IsAccepted x = record { ranges = c.requires.ranges; together = c.requires.together; drilled = c.requires.drilled; stands = c.requires.stands; named = c.requires.named } in
    front_lattice c.lattice_law.ensures x ok c.in-Ok.plans c.in-Ok.ensures

pub make_programs-requires-clause-drill : goal.make_programs-requires-clause-drill
make_programs-requires-clause-drill c = planned_within c.few_diameters_law.ensures c.limits_law.ensures (accepts_of c.args.accepted.now) c.in-Ok.plans c.requires.drilled c.requires.stands c.in-Ok.ensures

pub returns-in-Err-make_programs-clause-one_answer : goal.returns-in-Err-make_programs-clause-one_answer
returns-in-Err-make_programs-clause-one_answer c status answer is made =
    let same : c.in-Err-make_programs.status ≡ status = cc in
    let x = accepts_of c.args.accepted.now in
    let ok : IsAccepted x = record { ranges = c.requires.ranges; together = c.requires.together; drilled = c.requires.drilled; stands = c.requires.stands; named = c.requires.named } in
    let refused = tiles_refused c.one_of_each_law.ensures x ok c.in-Ok.plans c.in-Err-make_programs.status c.in-Ok.ensures c.in-Err-make_programs.ensures in
    subst (λ (s : Status). (s ≡ Memory) ⊎ (answer ≡ Err s)) same (one_made x c.in-Err-make_programs.status answer refused made)

pub made_files-requires-clause-drill : goal.made_files-requires-clause-drill
made_files-requires-clause-drill c = planned_within c.few_diameters_law.ensures c.limits_law.ensures (accepts_of c.args.accepted.now) c.in-Ok.plans c.requires.drilled c.requires.stands c.in-Ok.ensures

pub made_files-requires-clause-valid : goal.made_files-requires-clause-valid
made_files-requires-clause-valid c =
    let x = accepts_of c.args.accepted.now in
    let ok : IsAccepted x = record { ranges = c.requires.ranges; together = c.requires.together; drilled = c.requires.drilled; stands = c.requires.stands; named = c.requires.named } in
    let laws : TilingLaws = record {
      value = c.tile_value_law.ensures;
      shifts = c.shifts_law.ensures.cells;
      some = c.shifts_law.ensures.some;
      program = c.tiled_program_law.ensures;
      apart = c.apart_law.ensures;
      one_shift = c.shifts_law.ensures.one;
      one_tile = c.one_tile_law.ensures;
      one = c.levelled_sides_law.ensures.tiles;
    } in
    let within = planned_within c.few_diameters_law.ensures c.limits_law.ensures x c.in-Ok.plans c.requires.drilled c.requires.stands c.in-Ok.ensures in
    programs_valid laws c.levelled_sides_law.ensures x ok c.in-Ok.plans c.in-Ok-make_programs.programs c.in-Ok.ensures within c.in-Ok-make_programs.ensures

pub returns-in-Ok-made_files-clause-files : goal.returns-in-Ok-made_files-clause-files
unfolding AreFilesOf
returns-in-Ok-made_files-clause-files c =
    let made : Made = record { plans = c.in-Ok.plans; programs = c.in-Ok-make_programs.programs } in
    (made, is_made (accepts_of c.args.accepted.now) made c.in-Ok.ensures c.in-Ok-make_programs.ensures, c.in-Ok-made_files.ensures)
