use Rattle.excellon.proofs.MemoryLaws.{never_memory}
use Rattle.excellon.proofs.reader.memory_law.Goals as goal

pub returns : goal.returns
returns c = never_memory
