use Rattle.gerber_image.proofs.OutcomeLaws.{answers}
use Rattle.gerber_image.proofs.reader.read_image.Goals as goal

pub returns-clause-outcome : goal.returns-clause-outcome
returns-clause-outcome c = answers (λ v. v.items) c.read_commands.result c.args.bytes.now c.read_commands.ensures.image c.read_commands.ensures.refusal
