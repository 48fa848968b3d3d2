-- The climb to a root, over the grid.
use Rattle.std.proofs.Common.{◌≡◌, ◌≢◌, ℕ, zero, suc, ◌+◌, ◌-◌, ◌<◌, ◌≤◌, List, length, set, get_or, inl, inr, refl, sym, ap, subst, ◌∙◌, arith}
use Rattle.std.proofs.lemmas.List.{length-set}
use Rattle.cell_grid.specs.Grid.{Grid}
use Rattle.cell_grid.specs.Place.{cells_of}
use Rattle.islands.specs.Floods.{ChangesNumbers}
use Rattle.islands.specs.Forests.{nodes, IsForest, IsForested, KeepsNodes, IsClimbed, IsUnited}
use Rattle.islands.proofs.ForestLaws.{points_in, by_eq, keeps, keeps_none, keeps_both, halved, hung_merged, same_merged}

-- a write to a node from 2 on
pub nodes_set_at : (outer : ℕ) (works : List ℕ) (m v : ℕ) → 2 ≤ m → nodes outer (set works (m - 2) v) ≡ set (nodes outer works) m v
nodes_set_at outer works zero v l = absurd (omega (arith, l))
nodes_set_at outer works (suc zero) v l = absurd (omega (arith, l))
nodes_set_at outer works (suc (suc k)) v l =
    let e : suc (suc k) - 2 ≡ k = omega arith in
    ap (λ (j : ℕ). nodes outer (set works j v)) e

pub node_in : (outer : ℕ) (works : List ℕ) (m : ℕ) → 0 < get_or (nodes outer works) m 0 → m < length works + 2
node_in outer works m l = let i = points_in (nodes outer works) m l in omega (arith, i)

-- a node that points elsewhere is a cell's
pub is_cell : (outer : ℕ) (works : List ℕ) (root : ℕ → ℕ) (m : ℕ) → IsForest (nodes outer works) root → 0 < get_or (nodes outer works) m 0 → get_or (nodes outer works) m 0 ≢ m → 2 ≤ m
is_cell outer works root m p l ne =
    by_eq (2 ≤ m) m 1
    (λ e.
    let at : get_or (nodes outer works) m 0 ≡ outer = ap (λ (k : ℕ). get_or (nodes outer works) k 0) e in
    let low = p.low m in
    absurd (ne (omega (arith, at, low, l, e))))
    (λ n1. let low = p.low m in omega (arith, low, l, n1))

pub record IsClimbing (start g : Grid) (outer node at up : ℕ) : Type 0 where
  pub rest : ChangesNumbers start g
  pub len : length g.works ≡ cells_of start.frame
  pub live : KeepsNodes (nodes outer start.works) (nodes outer g.works)
  pub forest : (root : ℕ → ℕ) → IsForest (nodes outer start.works) root → IsForest (nodes outer g.works) root
  pub value : (root : ℕ → ℕ) → IsForest (nodes outer start.works) root → root node ≡ root at
  pub here : 0 < get_or (nodes outer g.works) at 0
  pub next : up ≡ get_or (nodes outer g.works) at 0
  pub forested : IsForested (nodes outer start.works)

pub climb_begins : (start : Grid) (outer node up : ℕ) → length start.works ≡ cells_of start.frame → IsForested (nodes outer start.works) → 0 < get_or (nodes outer start.works) node 0
    → up ≡ get_or (nodes outer start.works) node 0 → IsClimbing start start outer node node up
climb_begins start outer node up len p l e = record {
  rest = refl;
  len = len;
  live = keeps_none (nodes outer start.works);
  forest = λ root q. q;
  value = λ root q. refl;
  here = l;
  next = e;
  forested = p;
}

module _ (start g : Grid) (outer node at up : ℕ) (p : IsClimbing start g outer node at up) where
  pub up_points : 0 < get_or (nodes outer g.works) up 0
  up_points =
      let q = p.forest p.forested.root p.forested.forest in
      subst (λ (k : ℕ). 0 < get_or (nodes outer g.works) k 0) (sym p.next) (q.up at p.here)

  pub climb_cell : up ≢ at → 2 ≤ at
  climb_cell ne =
      let q = p.forest p.forested.root p.forested.forest in
      is_cell outer g.works p.forested.root at q p.here (λ e. ne (p.next ∙ e))

  pub climb_in : up ≢ at → at - 2 < cells_of g.frame
  climb_in ne =
      let l = node_in outer g.works at p.here in
      let f : cells_of g.frame ≡ cells_of start.frame = ap (λ (h : Grid). cells_of h.frame) p.rest in
      let c = climb_cell ne in
      omega (arith, l, f, p.len, c)

  module _ (g' : Grid) (next : ℕ) (ne : up ≢ at) (ahead : next ≡ get_or (nodes outer g.works) up 0) (set_there : g' ≡ record g { works = set g.works (at - 2) next }) where
    pub next_less : next < at
    next_less =
        let q = p.forest p.forested.root p.forested.forest in
        let a = q.low at in
        let b = q.low up in
        omega (arith, a, b, p.next, ahead, ne)

    works_now : nodes outer g'.works ≡ set (nodes outer g.works) at (get_or (nodes outer g.works) (get_or (nodes outer g.works) at 0) 0)
    works_now =
        ap (λ (h : Grid). nodes outer h.works) set_there
        ∙ nodes_set_at outer g.works at next (climb_cell ne)
        ∙ ap (λ (v : ℕ). set (nodes outer g.works) at v) (ahead ∙ ap (λ (k : ℕ). get_or (nodes outer g.works) k 0) p.next)

    ahead_points : 0 < get_or (nodes outer g.works) (get_or (nodes outer g.works) (get_or (nodes outer g.works) at 0) 0) 0
    ahead_points = let q = p.forest p.forested.root p.forested.forest in q.up (get_or (nodes outer g.works) at 0) (q.up at p.here)

    still : KeepsNodes (nodes outer g.works) (nodes outer g'.works)
    still =
        let q = p.forest p.forested.root p.forested.forest in
        subst (λ (xs : List ℕ). KeepsNodes (nodes outer g.works) xs) (sym works_now)
        (keeps (nodes outer g.works) at (get_or (nodes outer g.works) (get_or (nodes outer g.works) at 0) 0) (points_in (nodes outer g.works) at p.here) (q.up at p.here) p.here)

    pub next_points : 0 < get_or (nodes outer g'.works) next 0
    next_points = still.there next (subst (λ (k : ℕ). 0 < get_or (nodes outer g.works) k 0) (sym (ahead ∙ ap (λ (k : ℕ). get_or (nodes outer g.works) k 0) p.next)) ahead_points)

    pub climb_on : (up' : ℕ) → up' ≡ get_or (nodes outer g'.works) next 0 → IsClimbing start g' outer node next up'
    climb_on up' e = record {
      rest = subst (λ (h : Grid). ChangesNumbers start h) (sym set_there) (ap (λ (h : Grid). record h { works = set g.works (at - 2) next }) p.rest);
      len = ap (λ (h : Grid). length h.works) set_there ∙ simp length-set p.len;
      live = keeps_both (nodes outer start.works) (nodes outer g.works) (nodes outer g'.works) p.live still;
      forest = λ root q. subst (λ (xs : List ℕ). IsForest xs root) (sym works_now) (halved (nodes outer g.works) at root p.here (p.forest root q));
      value = λ root q.
          let r = p.forest root q in
          p.value root q ∙ sym (ap root ahead ∙ r.step up up_points ∙ ap root p.next ∙ r.step at p.here);
      here = next_points;
      next = e;
      forested = p.forested;
    }

  pub climbed : up ≡ at → IsClimbed (nodes outer start.works) (nodes outer g.works) node at
  climbed e =
      let q = p.forest p.forested.root p.forested.forest in
      let low = q.low at in
      let own : get_or (nodes outer g.works) at 0 ≡ at = sym p.next ∙ e in
      record {
        live = p.live;
        forest = p.forest;
        value = λ root r. p.value root r ∙ (p.forest root r).own at p.here own;
        own = own;
        some = omega (arith, low, p.here);
      }

-- a node that is a root points to itself
root_stays : (xs : List ℕ) (root : ℕ → ℕ) (r : ℕ) → IsForest xs root → root r ≡ r → 0 < get_or xs r 0 → get_or xs r 0 ≡ r
root_stays xs root r p e l =
    let low = p.low r in
    let f = p.first (get_or xs r 0) (p.up r l) in
    let s = p.step r l in
    omega (arith, low, f, s, e)

-- the two roots were found, and the later one points to the earlier
module _ (outer : ℕ) (start mid g g' : Grid) (a b r s : ℕ) (first : IsClimbed (nodes outer start.works) (nodes outer mid.works) a r) (second : IsClimbed (nodes outer mid.works) (nodes outer g.works) b s) where
  r_points : 0 < get_or (nodes outer g.works) r 0
  r_points = second.live.there r (let some = first.some in omega (arith, first.own, some))

  s_points : 0 < get_or (nodes outer g.works) s 0
  s_points = let some = second.some in omega (arith, second.own, some)

  pub hang_in : length g.works ≡ cells_of g.frame → r < s → s - 2 < cells_of g.frame
  hang_in len l = let i = node_in outer g.works s s_points in let some = first.some in omega (arith, i, some, l, len)

  pub hang_in_back : length g.works ≡ cells_of g.frame → s < r → r - 2 < cells_of g.frame
  hang_in_back len l = let i = node_in outer g.works r r_points in let some = second.some in omega (arith, i, some, l, len)

  both_live : KeepsNodes (nodes outer start.works) (nodes outer g.works)
  both_live = keeps_both (nodes outer start.works) (nodes outer mid.works) (nodes outer g.works) first.live second.live

  ends : (root : ℕ → ℕ) → IsForest (nodes outer start.works) root → (root a ≡ r) × ((root b ≡ s) × (get_or (nodes outer g.works) r 0 ≡ r))
  ends root p =
      let p1 = first.forest root p in
      let p2 = second.forest root p1 in
      let r_own : root r ≡ r = p1.own r (let some = first.some in omega (arith, first.own, some)) first.own in
      (first.value root p, (second.value root p1, root_stays (nodes outer g.works) root r p2 r_own r_points))

  pub united_low : r < s → g' ≡ record g { works = set g.works (s - 2) r } → IsUnited (nodes outer start.works) (nodes outer g'.works) a b
  united_low l e =
      let some = first.some in
      let now : nodes outer g'.works ≡ set (nodes outer g.works) s r = ap (λ (h : Grid). nodes outer h.works) e ∙ nodes_set_at outer g.works s r (omega (arith, l, some)) in
      subst (λ (xs : List ℕ). IsUnited (nodes outer start.works) xs a b) (sym now) (record {
        live = keeps_both (nodes outer start.works) (nodes outer g.works) (set (nodes outer g.works) s r) both_live
            (keeps (nodes outer g.works) s r (points_in (nodes outer g.works) s s_points) some s_points);
        merged = λ root p.
            let q = ends root p in
            hung_merged (nodes outer g.works) s r root (second.forest root (first.forest root p)) second.own q.1.1 some l a b (inr (q.0, q.1.0));
      })

  pub united_high : s < r → g' ≡ record g { works = set g.works (r - 2) s } → IsUnited (nodes outer start.works) (nodes outer g'.works) a b
  united_high l e =
      let some = second.some in
      let now : nodes outer g'.works ≡ set (nodes outer g.works) r s = ap (λ (h : Grid). nodes outer h.works) e ∙ nodes_set_at outer g.works r s (omega (arith, l, some)) in
      subst (λ (xs : List ℕ). IsUnited (nodes outer start.works) xs a b) (sym now) (record {
        live = keeps_both (nodes outer start.works) (nodes outer g.works) (set (nodes outer g.works) r s) both_live
            (keeps (nodes outer g.works) r s (points_in (nodes outer g.works) r r_points) some r_points);
        merged = λ root p.
            let q = ends root p in
            hung_merged (nodes outer g.works) r s root (second.forest root (first.forest root p)) q.1.1 second.own some l a b (inl (q.0, q.1.0));
      })

  pub united_one : r ≡ s → IsUnited (nodes outer start.works) (nodes outer g.works) a b
  united_one e = record {
    live = both_live;
    merged = λ root p. let q = ends root p in same_merged (nodes outer g.works) root a b (second.forest root (first.forest root p)) (q.0 ∙ e ∙ sym q.1.0);
  }
