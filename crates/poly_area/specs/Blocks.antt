-- Blocks of sixteen edges, and the rows between which they stand.
use Rattle.std.specs.Prelude.{ℕ, ◌<◌, ◌≤◌, ◌+◌, ◌*◌, ◌≤ℤ◌, List, length, take, drop, get_or}
use Rattle.std.specs.List.{All}
use Rattle.board_base.specs.Places.{IsCoordinate}
use Rattle.poly_area.specs.declared.edges.Edge.{Edge}
use Rattle.poly_area.specs.declared.blocks.Block.{Block}

-- both ends of the edge stand from the block's least y to its greatest
pub record IsWithin (b : Block) (e : Edge) : Type 0 where
  pub from_low : b.low ≤ℤ e.from.y
  pub from_high : e.from.y ≤ℤ b.high
  pub to_low : b.low ≤ℤ e.to.y
  pub to_high : e.to.y ≤ℤ b.high

-- both bounds of the block are coordinates
pub record IsBlock (b : Block) : Type 0 where
  pub low : IsCoordinate b.low
  pub high : IsCoordinate b.high

-- block k of the edges: the sixteen from edge 16 k on, or as many of them as there are
abbrev pub block_edges : List Edge → ℕ → List Edge
block_edges es k = take 16 (drop (16 * k) es)

-- the blocks of the first n edges: each edge stands within the block of its sixteen
pub record AreBlocks (blocks : List Block) (es : List Edge) (n : ℕ) : Type 0 where
  pub enough : n ≤ 16 * length blocks
  pub few : 16 * length blocks < n + 16
  pub bounds : All IsBlock blocks
  pub within : (k m : ℕ) (b : Block) (e : Edge) → 16 * k ≤ m → m < 16 * k + 16 → m < n → IsWithin (get_or blocks k b) (get_or es m e)
