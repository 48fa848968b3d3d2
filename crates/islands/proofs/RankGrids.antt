-- The classes are numbered over the grid.
use Rattle.std.proofs.Common.{get_or-set_same, not, ◌≡◌, ℕ, zero, suc, ◌+◌, ◌-◌, ◌*◌, ◌<◌, ◌≤◌, Bool, true, false, List, length, set, get_or, ◌⊎◌, inl, inr, refl, sym, ap, subst, ◌∙◌, arith}
use Rattle.std.proofs.lemmas.Bool.{false≢true}
use Rattle.number_laws.proofs.Tests.{by_bool}
use Rattle.board_base.specs.declared.places.Cell.{Cell}
use Rattle.board_base.specs.Lattice.{IsBeside}
use Rattle.cell_grid.specs.declared.frames.Frame.{Frame}
use borrow.Author.Differences.{ints}
use mathlib.Core.Bool.{beq}
use Rattle.cell_grid.specs.declared.bits.Plane.{Plane}
use Rattle.cell_grid.specs.Spans.{set_span}
use Rattle.cell_grid.specs.Grid.{Grid, plane_of}
use Rattle.cell_grid.specs.Place.{IsFrame, InFrame, place_of, cells_of, cell_of_place}
use Rattle.cell_grid.specs.Cells.{in_frame, number_in}
use Rattle.cell_sets.specs.Chains.{Chain}
use Rattle.cell_grid.proofs.PlaceLaws.{place_below}
use Rattle.cell_grid.proofs.CellsLaws.{in_frame_is, in_frame_true, before, cell_in, place_cell}
use Rattle.cell_grid.proofs.SpanLaws.{span_len}
use Rattle.islands.specs.Taken.{is_taken}
use Rattle.islands.specs.Floods.{ChangesNumbers}
use Rattle.islands.specs.Classes.{IsNumbered}
use Rattle.islands.specs.Forests.{nodes, node_of, IsForest, IsDone, IsJoined, IsRanked, IsFirstRun, IsLaterRun}
use Rattle.islands.proofs.Numbers.{number_inside, number_outside, plane_same}
use Rattle.cell_sets.proofs.Links.{IsFree, chain_end}
use Rattle.islands.proofs.JoinLaws.{node_inside, node_outside, points_inside, points_outside, nodes_at, zero_kept, done_of}
use Rattle.islands.proofs.Ranks.{none_ranked, rank_none, rank_own, rank_beside, rank_under}
use Rattle.islands.proofs.Runs.{at_xy, xy_in, xy_place, beq_same, beq_other, not_not, taken_xy}
use Rattle.islands.proofs.RowGrids.{row_fits}

-- the cells before a place are numbered
pub record IsRankedAt (start : Grid) (p : Plane) (on : Bool) (outer : ℕ) (frame : Frame) (g : Grid) (count n : ℕ) : Type 0 where
  pub rest : ChangesNumbers start g
  pub same_frame : frame ≡ start.frame
  pub valid : IsFrame frame
  pub small : outer ≤ 1
  pub joined : IsJoined frame (is_taken on frame (plane_of start p)) outer start.works (cells_of frame)
  pub ranked : IsRanked (nodes outer start.works) (nodes outer g.works) outer joined.root count n

pub ranks_begin : (start : Grid) (p : Plane) (on : Bool) (outer : ℕ) (frame : Frame) (count n : ℕ) → n ≡ 0 → count ≡ outer → frame ≡ start.frame → IsFrame frame → outer ≤ 1
    → IsJoined start.frame (is_taken on start.frame (plane_of start p)) outer start.works (cells_of start.frame) → IsRankedAt start p on outer frame start count n
ranks_begin start p on outer frame count n z e same valid small j =
    let k = subst (λ (f : Frame). IsJoined f (is_taken on f (plane_of start p)) outer start.works (cells_of f)) (sym same) j in
    record {
      rest = refl;
      same_frame = same;
      valid = valid;
      small = small;
      joined = k;
      ranked = subst (λ (m : ℕ). IsRanked (nodes outer start.works) (nodes outer start.works) outer k.root count m) (sym z)
          (subst (λ (m : ℕ). IsRanked (nodes outer start.works) (nodes outer start.works) outer k.root m 0) (sym e) (none_ranked start.works outer k.root k.forest));
    }

pub ranks_same : (start : Grid) (p : Plane) (on : Bool) (outer : ℕ) (frame : Frame) (g : Grid) (count n n' : ℕ) → n' ≡ n → IsRankedAt start p on outer frame g count n → IsRankedAt start p on outer frame g count n'
ranks_same start p on outer frame g count n n' e q = subst (λ (k : ℕ). IsRankedAt start p on outer frame g count k) (sym e) q

-- as many cells that point nowhere are passed
pub ranked_none : (xs ys : List ℕ) (outer : ℕ) (root : ℕ → ℕ) (count m n : ℕ) → IsForest xs root → ((k : ℕ) → m ≤ k → k < m + n → get_or xs (k + 2) 0 ≡ 0) → IsRanked xs ys outer root count m
    → IsRanked xs ys outer root count (m + n)
ranked_none xs ys outer root count m zero p off q = subst (λ (k : ℕ). IsRanked xs ys outer root count k) (plain m) q
  where
    plain : (k : ℕ) → k ≡ k + 0
    plain k = omega arith
ranked_none xs ys outer root count m (suc n) p off q =
    subst (λ (k : ℕ). IsRanked xs ys outer root count k) (next m n)
    (rank_none xs ys outer root count (m + n) p (ranked_none xs ys outer root count m n p (λ k l h. off k l (omega (arith, h))) q) (off (m + n) (omega arith) (omega arith)))
  where
    next : (a b : ℕ) → a + b + 1 ≡ a + suc b
    next a b = omega arith

-- a run has one number
pub record IsSpanned (xs : List ℕ) (outer : ℕ) (root : ℕ → ℕ) (works : List ℕ) (count m n v : ℕ) : Type 0 where
  pub ranked : IsRanked xs (nodes outer (set_span works m (suc n) v)) outer root count (m + 1 + n)
  pub last : get_or (nodes outer (set_span works m (suc n) v)) (m + n + 2) 0 ≡ v

nodes_put : (outer : ℕ) (works : List ℕ) (k v : ℕ) → nodes outer (set works k v) ≡ set (nodes outer works) (k + 2) v
nodes_put outer works k v = ap (λ (i : ℕ). set (nodes outer works) i v) (up k)
  where
    up : (i : ℕ) → suc (suc i) ≡ i + 2
    up i = omega arith

pub ranked_span : (xs : List ℕ) (outer : ℕ) (root : ℕ → ℕ) (works : List ℕ) (count m n v : ℕ) → IsForest xs root → m + 1 + n ≤ length works
    → ((k : ℕ) → m ≤ k → k < m + 1 + n → 0 < get_or xs (k + 2) 0) → ((k : ℕ) → m ≤ k → k < m + n → root (k + 2) ≡ root (k + 1 + 2))
    → IsRanked xs (nodes outer (set works m v)) outer root count (m + 1) → IsSpanned xs outer root works count m n v
ranked_span xs outer root works count m zero v p len alive level q = record {
  ranked = subst (λ (k : ℕ). IsRanked xs (nodes outer (set works k v)) outer root count (m + 1 + 0)) (plain m) (subst (λ (k : ℕ). IsRanked xs (nodes outer (set works m v)) outer root count k) (plain (m + 1)) q);
  last = ap (λ (k : ℕ). get_or (nodes outer (set works k v)) (m + 0 + 2) 0) (sym (plain m)) ∙ nodes_at outer (set works m v) (m + 0 + 2) m (omega arith) ∙ get_or-set_same works m v 0 (omega (arith, len));
}
  where
    plain : (k : ℕ) → k ≡ k + 0
    plain k = omega arith
ranked_span xs outer root works count m (suc n) v p len alive level q =
    let r = ranked_span xs outer root works count m n v p (omega (arith, len)) (λ k l h. alive k l (omega (arith, h))) (λ k l h. level k l (omega (arith, h))) q in
    let old = set_span works m (suc n) v in
    let k = m + 1 + n in
    let same_root : root (m + n + 2) ≡ root (k + 2) = level (m + n) (omega arith) (omega arith) ∙ ap root (turn m n) in
    let t = rank_beside xs (nodes outer old) outer root count k p r.ranked (m + n + 2) (alive k (omega arith) (omega arith)) (omega arith) (alive (m + n) (omega arith) (omega arith)) same_root in
    let t2 = subst (λ (u : ℕ). IsRanked xs (set (nodes outer old) (k + 2) u) outer root count (k + 1)) r.last t in
    let now : nodes outer (set_span works m (suc (suc n)) v) ≡ set (nodes outer old) (k + 2) v = ap (λ (i : ℕ). nodes outer (set old i v)) (there m n) ∙ nodes_put outer old k v in
    record {
      ranked = subst (λ (ys : List ℕ). IsRanked xs ys outer root count (m + 1 + suc n)) (sym now) (subst (λ (i : ℕ). IsRanked xs (set (nodes outer old) (k + 2) v) outer root count i) (next m n) t2);
      last = nodes_at outer (set_span works m (suc (suc n)) v) (m + suc n + 2) (m + suc n) refl ∙ get_or-set_same old (m + suc n) v 0 (omega (arith, span_len works m (suc n) v, len));
    }
  where
    turn : (a b : ℕ) → a + b + 1 + 2 ≡ a + 1 + b + 2
    turn a b = omega arith

    there : (a b : ℕ) → a + suc b ≡ a + 1 + b
    there a b = omega arith

    next : (a b : ℕ) → a + 1 + b + 1 ≡ a + 1 + suc b
    next a b = omega arith

module _ (start : Grid) (p : Plane) (on : Bool) (outer : ℕ) (f : Frame) (y end : ℕ) where
  -- the cells of the row before a place are numbered
  pub record IsRankRow (g : Grid) (count at : ℕ) : Type 0 where
    pub here : IsRankedAt start p on outer f g count at
    pub low : y * f.width ≤ at
    pub high : at ≤ end
    pub last : end ≡ y * f.width + f.width

  pub rank_row_begins : (g : Grid) (count at : ℕ) → end ≡ y * f.width + f.width → at ≡ y * f.width → IsRankedAt start p on outer f g count (y * f.width) → IsRankRow g count at
  rank_row_begins g count at e z q = record {
    here = subst (λ (k : ℕ). IsRankedAt start p on outer f g count k) (sym z) q;
    low = omega (arith, z);
    high = omega (arith, e, z);
    last = e;
  }

  module _ (g : Grid) (count at : ℕ) (q : IsRankRow g count at) (y_in : y < f.height) where
    r_frame : f ≡ g.frame
    r_frame = q.here.same_frame ∙ sym (ap (λ (h : Grid). h.frame) q.here.rest)

    r_fits : end ≤ cells_of f
    r_fits = row_fits start p on outer f y end y_in q.last

    pub rank_row_in : end ≤ cells_of g.frame
    rank_row_in = omega (arith, r_fits, ap cells_of r_frame)

    pub rank_few : at < end → count ≤ 67108866
    rank_few l = let k = q.here.ranked.counted in omega (arith, k, q.here.small, q.here.valid.cells, r_fits, l)

    planes : plane_of g p ≡ plane_of start p
    planes = ap (λ (h : Grid). plane_of h p) q.here.rest ∙ plane_same start g p

    module _ (first past : ℕ) (low : at ≤ first) (high : first ≤ end) (off : (k : ℕ) → at ≤ k → k < first → get_or (plane_of g p) k false ≡ not on)
        (low2 : first ≤ past) (high2 : past ≤ end) (all : (k : ℕ) → first ≤ k → k < past → get_or (plane_of g p) k false ≡ not (not on)) where
      xy : (k : ℕ) → at ≤ k → k < end → (k - y * f.width < f.width) × (y * f.width + (k - y * f.width) ≡ k)
      xy k l h = let a = q.low in (omega (arith, l, h, a, q.last), omega (arith, l, a))

      node_is : (k : ℕ) → at ≤ k → k < end → node_of f (at_xy f (k - y * f.width) y) ≡ k + 2
      node_is k l h =
          let e = xy k l h in
          omega (arith, node_inside f (at_xy f (k - y * f.width) y) (in_frame_true f (at_xy f (k - y * f.width) y) (xy_in f (k - y * f.width) y e.0 y_in)), xy_place f (k - y * f.width) y, e.1)

      taken_is : (k : ℕ) → at ≤ k → k < end → is_taken on f (plane_of start p) (at_xy f (k - y * f.width) y) ≡ beq (get_or (plane_of g p) k false) on
      taken_is k l h =
          let e = xy k l h in
          taken_xy f (plane_of start p) on outer y y_in (k - y * f.width) y e.0 y_in ∙ ap (λ (i : ℕ). beq (get_or (plane_of start p) i false) on) e.1
          ∙ ap (λ (xs : List Bool). beq (get_or xs k false) on) (sym planes)

      -- up to the run no cell points
      pub off_none : (k : ℕ) → at ≤ k → k < first → get_or (nodes outer start.works) (k + 2) 0 ≡ 0
      off_none k l h =
          let kh : k < end = omega (arith, h, high) in
          let c = at_xy f (k - y * f.width) y in
          let free : is_taken on f (plane_of start p) c ≡ false = taken_is k l kh ∙ beq_other (get_or (plane_of g p) k false) on (off k l h) in
          ap (λ (i : ℕ). get_or (nodes outer start.works) i 0) (sym (node_is k l kh)) ∙ q.here.joined.clear c (λ d. false≢true (sym free ∙ d.taken_there))

      run_done : (k : ℕ) → first ≤ k → k < past → IsDone f (is_taken on f (plane_of start p)) (cells_of f) (at_xy f (k - y * f.width) y)
      run_done k l h =
          let kl : at ≤ k = omega (arith, l, low) in
          let kh : k < end = omega (arith, h, high2) in
          record {
            taken_there = taken_is k kl kh ∙ beq_same (get_or (plane_of g p) k false) on (all k l h ∙ not_not on);
            before = omega (arith, node_is k kl kh, kh, r_fits);
          }

      pub run_alive : (k : ℕ) → first ≤ k → k < past → 0 < get_or (nodes outer start.works) (k + 2) 0
      run_alive k l h =
          subst (λ (i : ℕ). 0 < get_or (nodes outer start.works) i 0) (node_is k (omega (arith, l, low)) (omega (arith, h, high2))) (q.here.joined.some (at_xy f (k - y * f.width) y) (run_done k l h))

      run_level : (k : ℕ) → first ≤ k → k + 1 < past → q.here.joined.root (k + 2) ≡ q.here.joined.root (k + 1 + 2)
      run_level k l h =
          let kl : at ≤ k = omega (arith, l, low) in
          let lo = q.low in
          let c = at_xy f (k - y * f.width) y in
          let d = at_xy f (k + 1 - y * f.width) y in
          let next : k + 1 - y * f.width ≡ k - y * f.width + 1 = omega (arith, lo, kl) in
          let s : IsBeside c d = record { west = omega (arith, ints, next); east = omega (arith, ints, next); south = omega (arith, ints); north = omega (arith, ints) } in
          ap q.here.joined.root (sym (node_is k kl (omega (arith, h, high2))))
          ∙ q.here.joined.whole c d (run_done k l (omega (arith, h))) (run_done (k + 1) (omega (arith, l)) h) s
          ∙ ap q.here.joined.root (node_is (k + 1) (omega (arith, kl)) (omega (arith, h, high2)))

      at_first : IsRanked (nodes outer start.works) (nodes outer g.works) outer q.here.joined.root count first
      at_first =
          let n = first - at in
          let e : at + n ≡ first = omega (arith, low) in
          subst (λ (k : ℕ). IsRanked (nodes outer start.works) (nodes outer g.works) outer q.here.joined.root count k) e
          (ranked_none (nodes outer start.works) (nodes outer g.works) outer q.here.joined.root count at n q.here.joined.forest (λ k l h. off_none k l (omega (arith, h, e))) q.here.ranked)

      -- what the first cell of the run points to
      up_now : get_or g.works first 0 ≡ get_or (nodes outer start.works) (first + 2) 0
      up_now = sym (nodes_at outer g.works (first + 2) first refl) ∙ at_first.rest (first + 2) (omega arith)

      pub run_points : first < past → 0 < get_or (nodes outer g.works) (get_or g.works first 0) 0
      run_points l =
          subst (λ (k : ℕ). 0 < get_or (nodes outer g.works) k 0) (sym up_now)
          (at_first.live.there (get_or (nodes outer start.works) (first + 2) 0) (q.here.joined.forest.up (first + 2) (run_alive first (omega arith) l)))

      one_on : (count' v : ℕ) → first < past → length g.works ≡ cells_of g.frame
          → IsRanked (nodes outer start.works) (set (nodes outer g.works) (first + 2) v) outer q.here.joined.root count' (first + 1)
          → IsRanked (nodes outer start.works) (nodes outer (set_span g.works first (past - first) v)) outer q.here.joined.root count' past
      one_on count' v l len r =
          let n = past - (first + 1) in
          let e : suc n ≡ past - first = omega (arith, l) in
          let e2 : first + 1 + n ≡ past = omega (arith, l) in
          let frames = ap cells_of r_frame in
          let s = ranked_span (nodes outer start.works) outer q.here.joined.root g.works count' first n v q.here.joined.forest (omega (arith, e2, high2, r_fits, len, frames))
          (λ k a b. run_alive k a (omega (arith, b, e2))) (λ k a b. run_level k a (omega (arith, b, e2)))
          (subst (λ (ys : List ℕ). IsRanked (nodes outer start.works) ys outer q.here.joined.root count' (first + 1)) (sym (nodes_put outer g.works first v)) r) in
          subst (λ (k : ℕ). IsRanked (nodes outer start.works) (nodes outer (set_span g.works first k v)) outer q.here.joined.root count' past) e
          (subst (λ (k : ℕ). IsRanked (nodes outer start.works) (nodes outer (set_span g.works first (suc n) v)) outer q.here.joined.root count' k) e2 s.ranked)

      written_on : (g' : Grid) (count' v : ℕ) → g' ≡ record g { works = set_span g.works first (past - first) v }
          → IsRanked (nodes outer start.works) (nodes outer (set_span g.works first (past - first) v)) outer q.here.joined.root count' past → IsRankRow g' count' past
      written_on g' count' v put r = record {
        here = record {
          rest = subst (λ (h : Grid). ChangesNumbers start h) (sym put) (ap (λ (h : Grid). record h { works = set_span g.works first (past - first) v }) q.here.rest);
          same_frame = q.here.same_frame;
          valid = q.here.valid;
          small = q.here.small;
          joined = q.here.joined;
          ranked = subst (λ (ws : List ℕ). IsRanked (nodes outer start.works) (nodes outer ws) outer q.here.joined.root count' past) (sym (ap (λ (h : Grid). h.works) put)) r;
        };
        low = let k = q.low in omega (arith, k, low, low2);
        high = high2;
        last = q.last;
      }

      pub run_numbered : (g' : Grid) (count' : ℕ) → first < past → length g.works ≡ cells_of g.frame → IsFirstRun g g' count first past count' ⊎ IsLaterRun g g' outer count first past count' → IsRankRow g' count' past
      run_numbered g' count' l len w = elim w as (λ _. IsRankRow g' count' past) [
        | inl s ↦
            subst (λ (k : ℕ). IsRankRow g' k past) (sym s.more)
            (written_on g' (count + 1) (count + 1) s.written (one_on (count + 1) (count + 1) l len
            (rank_own (nodes outer start.works) (nodes outer g.works) outer q.here.joined.root count first q.here.joined.forest at_first (sym up_now ∙ s.own))))
        | inr s ↦
            let v = get_or (nodes outer g.works) (get_or g.works first 0) 0 in
            let r = rank_under (nodes outer start.works) (nodes outer g.works) outer q.here.joined.root count first q.here.joined.forest at_first (run_alive first (omega arith) l) (λ e. s.other (up_now ∙ e)) in
            subst (λ (k : ℕ). IsRankRow g' k past) (sym s.still)
            (written_on g' count v s.written (one_on count v l len
            (subst (λ (k : ℕ). IsRanked (nodes outer start.works) (set (nodes outer g.works) (first + 2) (get_or (nodes outer g.works) k 0)) outer q.here.joined.root count (first + 1)) (sym up_now) r)))
      ]

      -- no run is left in the row
      pub run_none : (first < past → ⊥) → IsRankRow g count past
      run_none none = record {
        here = record {
          rest = q.here.rest;
          same_frame = q.here.same_frame;
          valid = q.here.valid;
          small = q.here.small;
          joined = q.here.joined;
          ranked = subst (λ (k : ℕ). IsRanked (nodes outer start.works) (nodes outer g.works) outer q.here.joined.root count k) (omega (arith, none, low2)) at_first;
        };
        low = let k = q.low in omega (arith, k, low, low2);
        high = high2;
        last = q.last;
      }

-- the classes of the joined cells have their numbers
module _ (f : Frame) (taken : Cell → Bool) (outer : ℕ) (works new : List ℕ) (count : ℕ) (j : IsJoined f taken outer works (cells_of f))
    (q : IsRanked (nodes outer works) (nodes outer new) outer j.root count (cells_of f)) where
  number_is : (a : Cell) → number_in f outer new a ≡ get_or (nodes outer new) (node_of f a) 0
  number_is a =
      by_bool (in_frame f a)
      (λ i. number_inside f outer new a i ∙ sym (points_inside f outer new a i))
      (λ o. number_outside f outer new a o ∙ sym (points_outside f outer new a o))

  node_in : (a : Cell) → node_of f a < cells_of f + 2
  node_in a =
      by_bool (in_frame f a)
      (λ i. let l = place_below f a (in_frame_is f a i) in omega (arith, l, node_inside f a i))
      (λ o. omega (arith, node_outside f a o))

  done : (a : Cell) → taken a ≡ true → IsDone f taken (cells_of f) a
  done a k = record { taken_there = k; before = node_in a }

  points : (a : Cell) → 0 < number_in f outer new a → 0 < get_or (nodes outer works) (node_of f a) 0
  points a l = q.live.back (node_of f a) (omega (arith, l, number_is a))

  done_there : (a : Cell) → 0 < number_in f outer new a → IsDone f taken (cells_of f) a
  done_there a l = done_of f taken (cells_of f) (get_or (nodes outer works) (node_of f a) 0) a (j.clear a) (points a l)

  one_number : (a b : Cell) → IsDone f taken (cells_of f) a → IsDone f taken (cells_of f) b → j.root (node_of f a) ≡ j.root (node_of f b) → number_in f outer new a ≡ number_in f outer new b
  one_number a b da db e = number_is a ∙ q.equal (node_of f a) (node_of f b) (node_in a) (node_in b) (j.some a da) (j.some b db) e ∙ sym (number_is b)

  along : (a b : Cell) (n : ℕ) → Chain (λ c. taken c ≡ true) a b n → number_in f outer new a ≡ number_in f outer new b
  along a b zero p = ap (number_in f outer new) p.0
  along a b (suc n) p =
      let k = chain_end (IsFree taken) a p.0 n p.1.0 in
      along a p.0 n p.1.0 ∙ one_number p.0 b (done p.0 k) (done b p.1.2) (j.whole p.0 b (done p.0 k) (done b p.1.2) p.1.1)

  -- a node from 2 on is a cell's
  cell_at_node : (m : ℕ) → 1 < m → m < cells_of f + 2 → (b : Cell) × (InFrame f b × (place_of f b + 2 ≡ m) × (number_in f outer new b ≡ get_or (nodes outer new) m 0))
  cell_at_node m low high =
      let k = m - 2 in
      let k_in : k < cells_of f = omega (arith, low, high) in
      let b = cell_of_place f k in
      let b_in = cell_in f k k_in in
      let at : place_of f b + 2 ≡ m = omega (arith, place_cell f k k_in, low) in
      (b, (b_in, at, number_is b ∙ ap (λ (i : ℕ). get_or (nodes outer new) i 0) (node_inside f b (in_frame_true f b b_in) ∙ at)))

  pub all_numbered : IsNumbered f taken outer new count
  all_numbered = record {
    clear = λ a k. number_is a ∙ zero_kept (nodes outer works) (nodes outer new) (node_of f a) q.live (j.clear a (λ d. false≢true (sym k ∙ d.taken_there)));
    some = λ a k. let l = q.live.there (node_of f a) (j.some a (done a k)) in omega (arith, l, number_is a);
    few = λ a. let l = q.few (node_of f a) (node_in a) in omega (arith, l, number_is a);
    most = q.counted;
    same = λ a b l e. let m : 0 < number_in f outer new b = omega (arith, l, e) in
        j.same a b (done_there a l) (done_there b m) (q.apart (node_of f a) (node_of f b) (node_in a) (node_in b) (points a l) (points b m) (sym (number_is a) ∙ e ∙ number_is b));
    whole = λ a b link. along a b link.steps link.chain;
    order = λ a u low less.
        let r = q.order (node_of f a) u (node_in a) low (omega (arith, less, number_is a)) in
        let node_a = node_in a in
        let s = cell_at_node r.0 r.1.0 (omega (arith, r.1.1, node_a)) in
        by_bool (in_frame f a)
        (λ i. (s.0, (before f s.0 a s.1.0 (in_frame_is f a i) (omega (arith, s.1.1, r.1.1, node_inside f a i)), s.1.2 ∙ r.1.2)))
        (λ o. absurd (omega (arith, r.1.0, r.1.1, node_outside f a o)));
    present = λ u low high.
        let r = q.present u low high in
        let s = cell_at_node r.0 r.1.0 r.1.1 in
        (s.0, s.1.2 ∙ r.1.2);
  }

pub ranks_end : (start : Grid) (p : Plane) (on : Bool) (outer : ℕ) (frame : Frame) (g : Grid) (count n : ℕ) → IsRankedAt start p on outer frame g count n → n ≡ cells_of frame
    → IsNumbered start.frame (is_taken on start.frame (plane_of start p)) outer g.works count
ranks_end start p on outer frame g count n q e =
    subst (λ (f : Frame). IsNumbered f (is_taken on f (plane_of start p)) outer g.works count) q.same_frame
    (all_numbered frame (is_taken on frame (plane_of start p)) outer start.works g.works count q.joined
    (subst (λ (k : ℕ). IsRanked (nodes outer start.works) (nodes outer g.works) outer q.joined.root count k) e q.ranked))
