use Rattle.ngc_reader.proofs.FewLaws.{few_read}
use Rattle.ngc_reader.proofs.program.read_program.Goals as goal

pub returns-clause-settings : goal.returns-clause-settings
returns-clause-settings c = few_read c.args.bytes.now c.all_lines.result c.reading_law.ensures c.all_lines.ensures.value
