use Rattle.poly_area.proofs.Running.{IsRunBelow}
use Rattle.poly_area.proofs.marks.run_parity.Given as goal

abbrev pub invariant-columns : goal.invariant-columns
invariant-columns l = IsRunBelow l.fn.marks l.marks l.odd l.k
