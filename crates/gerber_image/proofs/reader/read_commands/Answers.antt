use Rattle.std.proofs.Common.{rules, ◌∙◌, sym, ◌≡◌, Ok, Some}
use Rattle.gerber_lexer.specs.Cut.{next_of}
use Rattle.gerber_image.specs.State.{held_of}
use Rattle.gerber_image.proofs.ReachedLaws.{went_on}
use Rattle.gerber_image.proofs.reader.read_commands.Goals as goal

pub commands-preserved-else-is_end : goal.commands-preserved-else-is_end
commands-preserved-else-is_end c =
    let next : next_of c.args.bytes.now c.commands.at c.commands.inside ≡ Ok (Some c.in-Ok-Some.span) = search rules in
    record {
      reached = went_on c.args.bytes.now c.commands.at c.commands.inside (held_of c.commands.state) (held_of c.step.new.self) c.in-Ok-Some.span c.in-Ok-Some-read_command.command c.commands.invariant.reached next
          (sym c.in-Ok-Some-read_command.ensures.value ∙ c.in-Ok-Some-read_command.field-0-is) c.in-Ok.ensures.steps.0 (sym c.is_end.ensures ∙ c.if-is_end.false) c.in-Ok.ensures.steps.1;
      within = search rules;
      goes_on = search rules;
      ready = c.in-Ok.ensures.ready;
    }

pub commands-preserved-else-is_end-2 : goal.commands-preserved-else-is_end-2
commands-preserved-else-is_end-2 c =
    let next : next_of c.args.bytes.now c.commands.at c.commands.inside ≡ Ok (Some c.in-Ok-Some.span) = search rules in
    record {
      reached = went_on c.args.bytes.now c.commands.at c.commands.inside (held_of c.commands.state) (held_of c.step.new.self) c.in-Ok-Some.span c.in-Ok-Some-read_command.command c.commands.invariant.reached next
          (sym c.in-Ok-Some-read_command.ensures.value ∙ c.in-Ok-Some-read_command.field-0-is) c.in-Ok.ensures.steps.0 (sym c.is_end.ensures ∙ c.if-is_end.false) c.in-Ok.ensures.steps.1;
      within = search rules;
      goes_on = search rules;
      ready = c.in-Ok.ensures.ready;
    }

pub commands-preserved : goal.commands-preserved
commands-preserved c =
    let next : next_of c.args.bytes.now c.commands.at c.commands.inside ≡ Ok (Some c.in-Ok-Some.span) = search rules in
    record {
      reached = went_on c.args.bytes.now c.commands.at c.commands.inside (held_of c.commands.state) (held_of c.step.new.self) c.in-Ok-Some.span c.in-Ok-Some-read_command.command c.commands.invariant.reached next
          (sym c.in-Ok-Some-read_command.ensures.value ∙ c.in-Ok-Some-read_command.field-0-is) c.in-Ok.ensures.steps.0 (sym c.is_end.ensures ∙ c.if-is_end.false) c.in-Ok.ensures.steps.1;
      within = search rules;
      goes_on = search rules;
      ready = c.in-Ok.ensures.ready;
    }
