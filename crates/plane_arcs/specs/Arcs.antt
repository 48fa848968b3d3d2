-- Circular arcs, and the chains of chords that stand for them. Lengths are in nanometres.
use Rattle.std.specs.Prelude.{◌≡◌, ◌⊎◌, ℕ, zero, suc, ◌+◌, ◌-◌, nat_lt, pos, Bool, false, if◌then◌else◌, ◌&&◌, ◌||◌, not, List, [], ◌∷◌, ◌++◌, map, Result, Ok, Err}
use Rattle.std.specs.List.{list_all}
use Rattle.board_base.specs.declared.places.Point.{Point}
use Rattle.board_base.specs.Places.{same_point}
use Rattle.plane_arcs.specs.declared.arcs.Arc.{Arc}
use Rattle.plane_arcs.specs.declared.arcs.ArcError.{ArcError}
use Rattle.plane_arcs.specs.declared.arcs.ArcError.TheVariants.{OpenArc, PastRange, Memory}
use Rattle.plane_arcs.specs.Turned.{in_range}
use Rattle.plane_arcs.specs.Vectors.{vector, added, is_zero, vector_length, between, turned, last_quarter}

-- how many times a quarter of a circle of radius r is halved
unfoldable pub bisections : ℕ → ℕ
bisections r =
    if nat_lt r 100000 then 3
    else if nat_lt r 1000000 then 5
    else if nat_lt r 10000000 then 6
    else if nat_lt r 100000000 then 8
    else 9

-- the vectors after a, up to and with c, where the way from a to c is halved n times on the circle of radius r
abbrev pub bisected : ℕ → ℕ → Point → Point → List Point
bisected zero r a c = c ∷ []
bisected (suc n) r a c = bisected n r a (between r a c) ++ bisected n r (between r a c) c

-- the vectors after u through the first k quarters, each halved n times
abbrev pub quarters : ℕ → ℕ → Bool → Point → ℕ → List Point
quarters n r ccw u zero = []
quarters n r ccw u (suc k) = quarters n r ccw u k ++ bisected n r (turned k ccw u) (turned (suc k) ccw u)

-- the vectors after u through k quarters and then on to v
abbrev pub pieces : ℕ → ℕ → Bool → Point → ℕ → Point → List Point
pieces n r ccw u k v = quarters n r ccw u k ++ bisected n r (turned k ccw u) v

-- the vectors of an arc from u to v after u; v alone where the circle is a point
unfoldable pub round_to : Bool → Point → Point → List Point
round_to ccw u v =
    if is_zero u then v ∷ []
    else pieces (bisections (vector_length u)) (vector_length u) ccw u (last_quarter ccw u v) v

-- the points where vectors end that begin at the centre
abbrev pub points_round : Point → List Point → List Point
points_round centre vectors = map (added centre) vectors

-- how far two lengths are from one another
abbrev pub apart : ℕ → ℕ → ℕ
apart a b = (a - b) + (b - a)

-- whether the ends of an arc don't lie on one circle: their distances from the centre differ by more than 50,000, or
-- one of them is the centre and the other one isn't
unfoldable pub is_open : Point → Point → Bool
is_open u v = nat_lt 50000 (apart (vector_length u) (vector_length v)) || ((is_zero u || is_zero v) && not (same_point u v))

-- whether a point is in the range
abbrev pub is_inside : Point → Bool
is_inside p = in_range p.x && in_range p.y

-- whether all points are
abbrev pub all_inside : List Point → Bool
all_inside points = list_all is_inside points

-- the start of an arc, seen from its centre
abbrev pub start_of : Arc → Point
start_of arc = vector arc.centre arc.start

-- its end, seen from there
abbrev pub end_of : Arc → Point
end_of arc = vector arc.centre arc.end

-- the points of the chain that stands for an arc, in the range or not
unfoldable pub chain_points : Arc → List Point
chain_points arc = arc.start ∷ points_round arc.centre (round_to arc.ccw (start_of arc) (end_of arc))

-- the chain that stands for an arc, or what is wrong with the arc
unfoldable pub chain_of : Arc → Result (List Point) ArcError
chain_of arc =
    if is_open (start_of arc) (end_of arc) then Err (OpenArc (pos (vector_length (start_of arc))) (pos (vector_length (end_of arc))))
    else if all_inside (chain_points arc) then Ok (chain_points arc)
    else Err PastRange

-- why points weren't added: memory doesn't suffice, or one of them leaves the range
abbrev pub Stops : List Point → ArcError → Type 0
Stops points e = (e ≡ Memory) ⊎ ((e ≡ PastRange) × (all_inside points ≡ false))
