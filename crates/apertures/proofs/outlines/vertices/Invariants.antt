use Rattle.apertures.proofs.OutlineLaws.{FirstVertices}
use Rattle.apertures.proofs.outlines.vertices.Given as goal

-- the vertices so far
abbrev pub invariant-vertices : goal.invariant-vertices
invariant-vertices l = FirstVertices l.d l.n l.turn l.k l.points.items
