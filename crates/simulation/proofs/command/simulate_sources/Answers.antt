use Rattle.std.proofs.Common.{◌≡◌, subst, Vec, Global, ℤ, Ok, Err}
use Rattle.board_base.specs.declared.places.Role.TheVariants as roles
use Rattle.rs274_sim.specs.declared.line.Line.{Line}
use Rattle.rs274_sim.specs.Reading.{program_of}
use Rattle.endings.specs.Answers.{MakesOf}
use Rattle.simulation.specs.Answers.{answers_of}
use Rattle.simulation.specs.Simulated.{sources_of, read_as}
use Rattle.simulation.proofs.CommandLaws.{program_out, answers_out, machine_out, run_told}
use Rattle.simulation.proofs.command.simulate_sources.Goals as goal

pub returns-in-Err : goal.returns-in-Err
returns-in-Err g c =
    let lines = λ (v : Vec Line Global). v.items in
    record { made = program_out lines _ (sources_of c.args.sources.now) c.in-Err.status (subst (λ b. MakesOf lines (read_as roles.Ngc (program_of b)) (Err c.in-Err.status)) c.deref.ensures.value c.in-Err.ensures.made) }

pub returns-in-Err-read_answers : goal.returns-in-Err-read_answers
returns-in-Err-read_answers g c =
    let answers = λ (v : Vec ℤ Global). v.items in
    let read = subst (λ b. read_as roles.Ngc (program_of b) ≡ Ok c.in-Ok.lines.items) c.deref.ensures.value c.in-Ok.ensures.made in
    record {
      made = answers_out answers _ (sources_of c.args.sources.now) c.in-Ok.lines.items c.in-Err-read_answers.status read
          (subst (λ b. MakesOf answers (read_as roles.Probes (answers_of b)) (Err c.in-Err-read_answers.status)) c.deref-2.ensures.value c.in-Err-read_answers.ensures.made);
    }

pub returns-in-Err-run_patrolled : goal.returns-in-Err-run_patrolled
returns-in-Err-run_patrolled g c =
    let read = subst (λ b. read_as roles.Ngc (program_of b) ≡ Ok c.in-Ok.lines.items) c.deref.ensures.value c.in-Ok.ensures.made in
    let answered = subst (λ b. read_as roles.Probes (answers_of b) ≡ Ok c.in-Ok-read_answers.answers.items) c.deref-2.ensures.value c.in-Ok-read_answers.ensures.made in
    record {
      made = rw c.stopped.ensures (machine_out _ (sources_of c.args.sources.now) c.in-Ok.lines.items c.in-Ok-read_answers.answers.items c.in-Err-run_patrolled.fault read answered c.in-Err-run_patrolled.ensures);
    }

pub returns-in-Ok-report : goal.returns-in-Ok-report
returns-in-Ok-report g c =
    let read = subst (λ b. read_as roles.Ngc (program_of b) ≡ Ok c.in-Ok.lines.items) c.deref.ensures.value c.in-Ok.ensures.made in
    let answered = subst (λ b. read_as roles.Probes (answers_of b) ≡ Ok c.in-Ok-read_answers.answers.items) c.deref-2.ensures.value c.in-Ok-read_answers.ensures.made in
    record {
      made = run_told _ (sources_of c.args.sources.now) c.in-Ok.lines.items c.in-Ok-read_answers.answers.items c.in-Ok-run_patrolled.run' c.in-Ok-report.simulation read answered
          c.in-Ok-run_patrolled.ensures c.in-Ok-report.ensures;
    }
