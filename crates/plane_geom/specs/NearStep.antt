-- What a step does to the distance from a segment.
use Rattle.std.specs.Prelude.{◌≡◌, ℤ, pos, ◌+ℤ◌, ◌-ℤ◌, ◌*ℤ◌, ◌≤ℤ◌, true}
use Rattle.board_base.specs.declared.places.Point.{Point}
use Rattle.board_base.specs.Near.{near_of}

-- the squared length of (x, y)
abbrev pub length2 : ℤ → ℤ → ℤ
length2 x y = x *ℤ x +ℤ y *ℤ y

-- a step of at most h takes a point that is near with d to one that is near with d + 2 h
abbrev pub NearStep : Type 0
NearStep =
    (q q' a b : Point) (d h : ℤ) → pos 0 ≤ℤ d → pos 0 ≤ℤ h → length2 (q'.x -ℤ q.x) (q'.y -ℤ q.y) ≤ℤ (h *ℤ h)
    → near_of q a b d ≡ true → near_of q' a b (d +ℤ pos 2 *ℤ h) ≡ true
