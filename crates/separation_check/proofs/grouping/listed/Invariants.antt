use Rattle.separation_check.specs.Grouping.{IsListed}
use Rattle.separation_check.proofs.grouping.listed.Given as goal

abbrev pub invariant-islands : goal.invariant-islands
invariant-islands l = IsListed l.table l.u l.list.items
