-- An image has one frame, and one set of clearing rows.
use Rattle.std.proofs.Common.{◌≡◌, ◌⊎◌, inl, inr, ℕ, ◌+◌, ◌*◌, ◌<◌, ◌≤◌, ℤ, pos, ◌+ℤ◌, ◌-ℤ◌, ◌≤ℤ◌, ◌<ℤ◌, List, Option, Some, None, Result, Ok, MatchOption, refl, sym, ap, subst, ◌∙◌, arith}
use Rattle.std.proofs.lemmas.Nat.{mul-le}
use borrow.Author.Differences.{ints}
use Rattle.board_base.specs.declared.places.Cell.{Cell}
use Rattle.board_base.specs.declared.places.Bounds.{Bounds}
use Rattle.board_base.specs.declared.places.CellBox.{CellBox}
use Rattle.board_base.specs.Lattice.{IsInBox, half_diagonal_of, IsFirst, IsLast}
use Rattle.cell_grid.specs.declared.frames.Frame.{Frame}
use Rattle.cell_grid.specs.declared.frames.GridError.{GridError}
use Rattle.cell_grid.specs.Boxes.{HoldsCentres, no_cells, framed_round, IsFramed}
use Rattle.cell_grid.specs.Place.{InFrame}
use Rattle.shape_parts.specs.declared.shape.Painted.{Painted}
use Rattle.copper_cover.specs.Kept.{dark_rectangle}
use Rattle.mill_plan.specs.declared.cutting.Cutting.{Cutting}
use Rattle.cell_sets.specs.Passes.{ClearingRows}
use Rattle.mill_plan.specs.Cutting.{guard, AreClearingRows}
use Rattle.mill_plan.specs.Frame.{IsMargin, IsFrameOf}
use Rattle.mill_plan.proofs.FrameLaws.{room_of, room_inside, round_or_none}

-- ---- the frame

first_same : (p limit a b : ℤ) → IsFirst p limit a → IsFirst p limit b → a ≡ b
first_same p limit a b h k = by a b ((k.all a).1 ((h.all a).0 (least a))) ((h.all b).1 ((k.all b).0 (least b)))
  where
    least : (a : ℤ) → a ≤ℤ a
    least a = omega (arith, ints)

    by : (a b : ℤ) → b ≤ℤ a → a ≤ℤ b → a ≡ b
    by a b h k = omega (arith, ints)

last_same : (p limit a b : ℤ) → IsLast p limit a → IsLast p limit b → a ≡ b
last_same p limit a b h k = by a b ((k.all a).1 ((h.all a).0 (least a))) ((h.all b).1 ((k.all b).0 (least b)))
  where
    least : (a : ℤ) → a ≤ℤ a
    least a = omega (arith, ints)

    by : (a b : ℤ) → a ≤ℤ b → b ≤ℤ a → a ≡ b
    by a b h k = omega (arith, ints)

boxes_same : (p h : ℤ) (b : Bounds) (c d : CellBox) → HoldsCentres p h b c → HoldsCentres p h b d → c ≡ d
boxes_same p h b c d k l =
    let i0 = first_same p (b.x0 -ℤ h) c.i0 d.i0 k.west l.west in
    let j0 = first_same p (b.y0 -ℤ h) c.j0 d.j0 k.south l.south in
    let i1 = last_same p (b.x1 +ℤ h) c.i1 d.i1 k.east l.east in
    let j1 = last_same p (b.y1 +ℤ h) c.j1 d.j1 k.north l.north in
    λ t. record { i0 = i0 t; j0 = j0 t; i1 = i1 t; j1 = j1 t }

margins_same : (cutting : Cutting) (m n : ℕ) → IsMargin cutting m → IsMargin cutting n → m ≡ n
margins_same cutting m n h k = h.is ∙ ap (λ r. r + 2) (roots h.root k.root (guard cutting cutting.last) h.low h.high k.low k.high) ∙ sym k.is
  where
    less : (a b : ℕ) → pos (a * a) <ℤ pos ((b + 1) * (b + 1)) → a ≤ b
    less a b h = below a b (omega (arith, ints))
      where
        below : (a b : ℕ) → a * a < (b + 1) * (b + 1) → a ≤ b
        below a b h = by_case (either a b)
          where
            either : (a b : ℕ) → (a ≤ b) ⊎ (b + 1 ≤ a)
            either a b = grind arith

            by_case : (a ≤ b) ⊎ (b + 1 ≤ a) → a ≤ b
            by_case (inl low) = low
            by_case (inr high) = absurd (omega (arith, mul-le (b + 1) (b + 1) a a high high, h))

    roots : (a b : ℕ) (g : ℤ) → pos (a * a) ≤ℤ g → g <ℤ pos ((a + 1) * (a + 1)) → pos (b * b) ≤ℤ g → g <ℤ pos ((b + 1) * (b + 1)) → a ≡ b
    roots a b g h k l m = both (less a b (by (pos (a * a)) g (pos ((b + 1) * (b + 1))) h m)) (less b a (by (pos (b * b)) g (pos ((a + 1) * (a + 1))) l k))
      where
        by : (x y z : ℤ) → x ≤ℤ y → y <ℤ z → x <ℤ z
        by x y z h k = omega (arith, ints)

        both : a ≤ b → b ≤ a → a ≡ b
        both h k = omega (arith, h, k)

answers_by : (p : ℤ) (m n : ℕ) (box : Option Bounds) (a b : Result Frame GridError) → m ≡ n → MatchOption box (a ≡ Ok (no_cells p)) (λ r. IsFramed p m r a) → MatchOption box (b ≡ Ok (no_cells p)) (λ r. IsFramed p n r b) → a ≡ b
answers_by p m n None a b e h k = h ∙ sym k
answers_by p m n (Some r) a b e h k =
    h.answer_is ∙ ap (λ v. framed_round p v h.cells) e ∙ ap (λ (c : CellBox). framed_round p n c) (boxes_same p (half_diagonal_of p) r h.cells k.cells h.centres k.centres) ∙ sym k.answer_is

-- an image has one frame, or one refusal of it
pub one_frame : (cutting : Cutting) (painted : List Painted) (a b : Result Frame GridError) → IsFrameOf cutting painted a → IsFrameOf cutting painted b → a ≡ b
one_frame cutting painted a b h k = answers_by cutting.pitch h.margin k.margin (dark_rectangle painted) a b (margins_same cutting h.margin k.margin h.margin_is k.margin_is) h.frame k.frame

-- ---- the rows that are cleared

rows_by : (stride : Option ℕ) (p h : ℤ) (box : Option Bounds) (m : ℕ) (f : Frame) → h ≡ half_diagonal_of p → MatchOption box (◌≡◌ {A = Result Frame GridError} (Ok f) (Ok (no_cells p))) (λ b. IsFramed p m b (Ok f))
    → (rows : Option ClearingRows) × MatchOption stride (rows ≡ None) (λ n. MatchOption box (rows ≡ None) (λ b. (inner : CellBox) × HoldsCentres p h b inner × (rows ≡ Some (record { inner = inner; stride = n }))))
rows_by None p h box m f e framed = (None, refl)
rows_by (Some n) p h None m f e framed = (None, refl)
rows_by (Some n) p h (Some b) m f e framed = (Some (record { inner = framed.cells; stride = n }), (framed.cells, subst (λ v. HoldsCentres p v b framed.cells) (sym e) framed.centres, refl))

-- a side that has a frame has clearing rows, or none
pub rows_there : (cutting : Cutting) (painted : List Painted) (f : Frame) → IsFrameOf cutting painted (Ok f) → (rows : Option ClearingRows) × AreClearingRows cutting painted rows
rows_there cutting painted f framed = rows_by cutting.stride cutting.pitch (half_diagonal_of cutting.pitch) (dark_rectangle painted) framed.margin f refl framed.frame

same_rows : (stride : Option ℕ) (p h : ℤ) (box : Option Bounds) (rows others : Option ClearingRows)
    → MatchOption stride (rows ≡ None) (λ n. MatchOption box (rows ≡ None) (λ b. (inner : CellBox) × HoldsCentres p h b inner × (rows ≡ Some (record { inner = inner; stride = n }))))
    → MatchOption stride (others ≡ None) (λ n. MatchOption box (others ≡ None) (λ b. (inner : CellBox) × HoldsCentres p h b inner × (others ≡ Some (record { inner = inner; stride = n }))))
    → rows ≡ others
same_rows None p h box rows others a b = a ∙ sym b
same_rows (Some n) p h None rows others a b = a ∙ sym b
same_rows (Some n) p h (Some r) rows others (inner, holds, e) (inner', holds', e') =
    e ∙ ap (λ (c : CellBox). Some (record { inner = c; stride = n })) (boxes_same p h r inner inner' holds holds') ∙ sym e'

-- the rows of a side are one
pub one_rows : (cutting : Cutting) (painted : List Painted) (rows others : Option ClearingRows) → AreClearingRows cutting painted rows → AreClearingRows cutting painted others → rows ≡ others
one_rows cutting painted rows others a b = same_rows cutting.stride cutting.pitch (half_diagonal_of cutting.pitch) (dark_rectangle painted) rows others a b

box_by : (stride : Option ℕ) (p h : ℤ) (box : Option Bounds) (m : ℕ) (f : Frame) (rows : ClearingRows) (k : Cell) → h ≡ half_diagonal_of p
    → MatchOption box (◌≡◌ {A = Result Frame GridError} (Ok f) (Ok (no_cells p))) (λ b. IsFramed p m b (Ok f))
    → MatchOption stride (Some rows ≡ None) (λ n. MatchOption box (Some rows ≡ None) (λ b. (inner : CellBox) × HoldsCentres p h b inner × (Some rows ≡ Some (record { inner = inner; stride = n }))))
    → IsInBox rows.inner k → InFrame f k
box_by None p h box m f rows k e framed a inside = absurd (apart rows a)
  where
    apart : (rows : ClearingRows) → ◌≡◌ {A = Option ClearingRows} (Some rows) None → ⊥
    apart rows e = cc
box_by (Some n) p h None m f rows k e framed a inside = absurd (apart rows a)
  where
    apart : (rows : ClearingRows) → ◌≡◌ {A = Option ClearingRows} (Some rows) None → ⊥
    apart rows e = cc
box_by (Some n) p h (Some b) m f rows k e framed (inner, holds, is) inside =
    let same : rows.inner ≡ framed.cells = ap (λ (r : ClearingRows). r.inner) (given rows (record { inner = inner; stride = n }) is) ∙ boxes_same p h b inner framed.cells holds (subst (λ v. HoldsCentres p v b framed.cells) (sym e) framed.centres) in
    let there : IsInBox framed.cells k = subst (λ (c : CellBox). IsInBox c k) same inside in
    room_inside f m k (room_of p m framed.cells f k (record { west = there.west; east = there.east; south = there.south; north = there.north }) (round_or_none p m framed.cells f framed.answer_is))
  where
    given : (x y : ClearingRows) → ◌≡◌ {A = Option ClearingRows} (Some x) (Some y) → x ≡ y
    given x y e = cc

-- a cell of the box whose rows are cleared is in the frame
pub box_inside : (cutting : Cutting) (painted : List Painted) (f : Frame) (rows : ClearingRows) → IsFrameOf cutting painted (Ok f) → AreClearingRows cutting painted (Some rows) → (k : Cell) → IsInBox rows.inner k → InFrame f k
box_inside cutting painted f rows framed are k inside = box_by cutting.stride cutting.pitch (half_diagonal_of cutting.pitch) (dark_rectangle painted) framed.margin f rows k refl framed.frame are inside
