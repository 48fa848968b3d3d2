use Rattle.plane_arcs.proofs.arcs.+bisect.Given as goal

abbrev pub decreases-bisect : goal.decreases-bisect
decreases-bisect l = l.times
