use Rattle.std.proofs.Common.{◌≡◌, length}
use Rattle.text_cut.specs.Spaces.{without_first}
use Rattle.text_cut.proofs.spaces.without_first.Given as goal

-- what is left has the same without its spaces
abbrev pub invariant-loop-rest : goal.invariant-loop-rest
invariant-loop-rest l = without_first l.rest ≡ without_first l.text

abbrev pub decreases-loop-rest : goal.decreases-loop-rest
decreases-loop-rest l = length l.rest
