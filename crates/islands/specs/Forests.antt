-- Forests: classes while they are joined. Each cell with a number points to one of its class that stands no later, and the first of a class to itself.
use Rattle.std.specs.Prelude.{◌≡◌, ◌≢◌, ℕ, pos, ◌+◌, ◌-◌, ◌*◌, ◌<◌, ◌≤◌, ◌+ℤ◌, ◌⊎◌, Bool, true, cond, false, List, ◌∷◌, slice_index, slice_index_or}
use Rattle.board_base.specs.declared.places.Cell.{Cell}
use Rattle.board_base.specs.Lattice.{IsBeside}
use Rattle.cell_grid.specs.declared.frames.Frame.{Frame}
use Rattle.cell_grid.specs.Grid.{Grid}
use Rattle.cell_grid.specs.Spans.{set_span}
use Rattle.cell_grid.specs.Place.{InFrame, place_of}
use Rattle.cell_grid.specs.Cells.{in_frame}
use Rattle.cell_sets.specs.Chains.{IsLinked}
use Rattle.islands.specs.Ways.{neighbour_of}
use Rattle.islands.specs.Classes.{IsEdge}

-- what each node points to, 0 for nothing: node 0 to nothing, node 1, all cells outside the frame, to itself where they are taken, and node k + 2, the cell at place k, to its working label
abbrev pub nodes : ℕ → List ℕ → List ℕ
nodes outer works = 0 ∷ outer ∷ works

-- the node of a cell
abbrev pub node_of : Frame → Cell → ℕ
node_of f c = cond (in_frame f c) (place_of f c + 2) 1

-- each node that points points to one no later that points too, and has the root that it leads to
pub record IsForest (xs : List ℕ) (root : ℕ → ℕ) : Type 0 where
  pub low : (m : ℕ) → slice_index xs m ≤ m
  pub up : (m : ℕ) → 0 < slice_index xs m → 0 < slice_index xs (slice_index xs m)
  pub step : (m : ℕ) → 0 < slice_index xs m → root (slice_index xs m) ≡ root m
  pub own : (m : ℕ) → 0 < slice_index xs m → slice_index xs m ≡ m → root m ≡ m
  pub first : (m : ℕ) → 0 < slice_index xs m → root m ≤ m

-- the nodes lead to roots
pub record IsForested (xs : List ℕ) : Type 0 where
  pub root : ℕ → ℕ
  pub forest : IsForest xs root

-- the same nodes point
pub record KeepsNodes (xs ys : List ℕ) : Type 0 where
  pub there : (m : ℕ) → 0 < slice_index xs m → 0 < slice_index ys m
  pub back : (m : ℕ) → 0 < slice_index ys m → 0 < slice_index xs m

-- the root of the node was found, and each node kept its root
pub record IsClimbed (xs ys : List ℕ) (node top : ℕ) : Type 0 where
  pub live : KeepsNodes xs ys
  pub forest : (root : ℕ → ℕ) → IsForest xs root → IsForest ys root
  pub value : (root : ℕ → ℕ) → IsForest xs root → root node ≡ top
  pub own : slice_index ys top ≡ top
  pub some : 0 < top

-- what the roots are once the classes of two nodes are one
pub record IsMerged (ys : List ℕ) (root : ℕ → ℕ) (a b : ℕ) : Type 0 where
  pub after : ℕ → ℕ
  pub forest : IsForest ys after
  pub meets : after a ≡ after b
  pub coarser : (m n : ℕ) → root m ≡ root n → after m ≡ after n
  pub fine : (m n : ℕ) → after m ≡ after n → (root m ≡ root n) ⊎ (((root m ≡ root a) × (root b ≡ root n)) ⊎ ((root m ≡ root b) × (root a ≡ root n)))

-- the classes of two nodes are one now, and no others changed
pub record IsUnited (xs ys : List ℕ) (a b : ℕ) : Type 0 where
  pub live : KeepsNodes xs ys
  pub merged : (root : ℕ → ℕ) → IsForest xs root → IsMerged ys root a b

-- the second node points, and the classes of the two are one now
pub record IsMet (xs ys : List ℕ) (a b : ℕ) : Type 0 where
  pub points : 0 < slice_index xs b
  pub united : IsUnited xs ys a b

-- the node doesn't point, and nothing changed
pub record IsLone (xs ys : List ℕ) (b : ℕ) : Type 0 where
  pub none : slice_index xs b ≡ 0
  pub same : ys ≡ xs

-- the cell is taken, and outside the frame or at one of the first n places
pub record IsDone (f : Frame) (taken : Cell → Bool) (n : ℕ) (a : Cell) : Type 0 where
  pub taken_there : taken a ≡ true
  pub before : node_of f a < n + 2

-- the done cells point, and have one root exactly where they are linked by now
pub record IsJoined (f : Frame) (taken : Cell → Bool) (outer : ℕ) (works : List ℕ) (n : ℕ) : Type 0 where
  pub root : ℕ → ℕ
  pub forest : IsForest (nodes outer works) root
  pub clear : (a : Cell) → (IsDone f taken n a → ⊥) → slice_index (nodes outer works) (node_of f a) ≡ 0
  pub some : (a : Cell) → IsDone f taken n a → 0 < slice_index (nodes outer works) (node_of f a)
  pub same : (a b : Cell) → IsDone f taken n a → IsDone f taken n b → root (node_of f a) ≡ root (node_of f b) → IsLinked taken a b
  pub whole : (a b : Cell) → IsDone f taken n a → IsDone f taken n b → IsBeside a b → root (node_of f a) ≡ root (node_of f b)

-- the cell points, and is joined to its neighbours in the first ways
pub record IsJoining (f : Frame) (taken : Cell → Bool) (outer : ℕ) (works : List ℕ) (c : Cell) (turn : ℕ) : Type 0 where
  pub root : ℕ → ℕ
  pub forest : IsForest (nodes outer works) root
  pub clear : (a : Cell) → (IsDone f taken (place_of f c + 1) a → ⊥) → slice_index (nodes outer works) (node_of f a) ≡ 0
  pub some : (a : Cell) → IsDone f taken (place_of f c + 1) a → 0 < slice_index (nodes outer works) (node_of f a)
  pub same : (a b : Cell) → IsDone f taken (place_of f c + 1) a → IsDone f taken (place_of f c + 1) b → root (node_of f a) ≡ root (node_of f b) → IsLinked taken a b
  pub whole : (a b : Cell) → IsDone f taken (place_of f c) a → IsDone f taken (place_of f c) b → IsBeside a b → root (node_of f a) ≡ root (node_of f b)
  pub met : (way : ℕ) → way < turn → 0 < slice_index (nodes outer works) (node_of f (neighbour_of c way)) → root (node_of f c) ≡ root (node_of f (neighbour_of c way))

-- the column and the row do not meet on the border, and the cell one row farther south points so
pub record IsSouthOf (f : Frame) (works : List ℕ) (x y up : ℕ) : Type 0 where
  pub within : IsEdge f x y → ⊥
  pub cell : Cell
  pub inside : InFrame f cell
  pub column : cell.i ≡ f.i0 +ℤ pos x
  pub row : cell.j +ℤ pos 1 ≡ f.j0 +ℤ pos y
  pub earlier : place_of f cell < y * f.width + x
  pub value : up ≡ slice_index works (place_of f cell)

-- the cell at a place of the row isn't on the border, and where the one south-east of it is as `on`, so is the one south of it
pub record IsHanging (f : Frame) (plane : List Bool) (on : Bool) (y p : ℕ) : Type 0 where
  pub south : 0 < y
  pub north : y + 1 < f.height
  pub west : y * f.width < p
  pub east : p + 1 < y * f.width + f.width
  pub under : (q : ℕ) → q + f.width ≡ p → slice_index_or plane (q + 1) false ≡ on → slice_index_or plane q false ≡ on

-- the nodes before n + 2 have numbers in place of what they pointed to: one number for each root, and those above `outer` in the order of the first nodes that have them
pub record IsRanked (xs ys : List ℕ) (outer : ℕ) (root : ℕ → ℕ) (count n : ℕ) : Type 0 where
  pub rest : (m : ℕ) → n + 2 ≤ m → slice_index ys m ≡ slice_index xs m
  pub live : KeepsNodes xs ys
  pub few : (m : ℕ) → m < n + 2 → slice_index ys m ≤ count
  pub equal : (a b : ℕ) → a < n + 2 → b < n + 2 → 0 < slice_index xs a → 0 < slice_index xs b → root a ≡ root b → slice_index ys a ≡ slice_index ys b
  pub apart : (a b : ℕ) → a < n + 2 → b < n + 2 → 0 < slice_index xs a → 0 < slice_index xs b → slice_index ys a ≡ slice_index ys b → root a ≡ root b
  pub present : (u : ℕ) → outer < u → u ≤ count → (m : ℕ) × ((1 < m) × (m < n + 2) × (slice_index ys m ≡ u))
  pub order : (a u : ℕ) → a < n + 2 → outer < u → u < slice_index ys a → (m : ℕ) × ((1 < m) × (m < a) × (slice_index ys m ≡ u))
  pub counted : count ≤ outer + n

-- the first cell of a run points to itself: the run has the next number
pub record IsFirstRun (old new : Grid) (count first past last : ℕ) : Type 0 where
  pub own : slice_index old.works first ≡ first + 2
  pub more : last ≡ count + 1
  pub written : new ≡ record old { works = set_span old.works first (past - first) (count + 1) }

-- it points to another node: the run has that one's number
pub record IsLaterRun (old new : Grid) (outer count first past last : ℕ) : Type 0 where
  pub other : slice_index old.works first ≢ first + 2
  pub still : last ≡ count
  pub written : new ≡ record old { works = set_span old.works first (past - first) (slice_index (nodes outer old.works) (slice_index old.works first)) }
