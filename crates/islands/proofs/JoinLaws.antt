-- A cell is joined to its neighbours.
use Rattle.std.proofs.Common.{◌≡◌, ◌≢◌, ℕ, suc, ◌+◌, ◌<◌, Bool, true, false, List, ◌∷◌, get_or, ◌⊎◌, inl, inr, refl, sym, ap, subst, ◌∙◌, arith}
use Rattle.std.proofs.lemmas.Bool.{cases_lt, false≢true}
use Rattle.number_laws.proofs.Tests.{by_bool}
use Rattle.board_base.specs.declared.places.Cell.{Cell}
use Rattle.cell_grid.specs.declared.frames.Frame.{Frame}
use Rattle.cell_grid.specs.Grid.{Grid}
use Rattle.cell_grid.specs.Place.{InFrame, place_of}
use Rattle.cell_grid.specs.Cells.{in_frame}
use Rattle.cell_sets.specs.Chains.{IsLinked}
use Rattle.cell_grid.proofs.CellsLaws.{in_frame_true}
use Rattle.islands.specs.Ways.{neighbour_of}
use Rattle.islands.specs.Floods.{ChangesNumbers}
use Rattle.islands.specs.Forests.{nodes, node_of, IsForested, KeepsNodes, IsUnited, IsMet, IsLone, IsDone, IsJoining}
use Rattle.number_laws.proofs.Tests.{cond_true, cond_false}
use Rattle.cell_sets.proofs.Links.{IsFree, linked_sym, linked_trans, linked_step}
use Rattle.islands.proofs.Links.{beside_neighbour}
use Rattle.islands.proofs.ForestLaws.{by_eq}

pub node_inside : (f : Frame) (c : Cell) → in_frame f c ≡ true → node_of f c ≡ place_of f c + 2
node_inside f c e = cond_true (in_frame f c) (place_of f c + 2) 1 e

pub node_outside : (f : Frame) (c : Cell) → in_frame f c ≡ false → node_of f c ≡ 1
node_outside f c e = cond_false (in_frame f c) (place_of f c + 2) 1 e

-- what a node from 2 on points to
pub nodes_at : (outer : ℕ) (works : List ℕ) (m k : ℕ) → m ≡ k + 2 → get_or (nodes outer works) m 0 ≡ get_or works k 0
nodes_at outer works m k e =
    let s : m ≡ suc (suc k) = omega (arith, e) in
    ap (λ (j : ℕ). get_or (nodes outer works) j 0) s

pub points_inside : (f : Frame) (outer : ℕ) (works : List ℕ) (c : Cell) → in_frame f c ≡ true → get_or (nodes outer works) (node_of f c) 0 ≡ get_or works (place_of f c) 0
points_inside f outer works c e = nodes_at outer works (node_of f c) (place_of f c) (node_inside f c e)

pub points_outside : (f : Frame) (outer : ℕ) (works : List ℕ) (c : Cell) → in_frame f c ≡ false → get_or (nodes outer works) (node_of f c) 0 ≡ outer
points_outside f outer works c e = ap (λ (j : ℕ). get_or (nodes outer works) j 0) (node_outside f c e)

-- two nodes that lead to one root are united with a third as one
pub united_through : (xs ys : List ℕ) (a up b : ℕ) → up ≡ get_or xs b 0 → 0 < up → IsUnited xs ys a up → IsUnited xs ys a b
united_through xs ys a up b e some u = record {
  live = u.live;
  merged = λ root p.
      let m = u.merged root p in
      let same : root up ≡ root b = ap root e ∙ p.step b (omega (arith, e, some)) in
      record {
        after = m.after;
        forest = m.forest;
        meets = m.meets ∙ m.coarser up b same;
        coarser = m.coarser;
        fine = λ i j k. elim (m.fine i j k) as (λ _. (root i ≡ root j) ⊎ (((root i ≡ root a) × (root b ≡ root j)) ⊎ ((root i ≡ root b) × (root a ≡ root j)))) [
          | inl q ↦ inl q
          | inr r ↦ elim r as (λ _. (root i ≡ root j) ⊎ (((root i ≡ root a) × (root b ≡ root j)) ⊎ ((root i ≡ root b) × (root a ≡ root j)))) [
            | inl q ↦ inr (inl (q.0, sym same ∙ q.1))
            | inr q ↦ inr (inr (q.0 ∙ same, q.1))
          ]
        ];
      };
}

pub zero_kept : (xs ys : List ℕ) (m : ℕ) → KeepsNodes xs ys → get_or xs m 0 ≡ 0 → get_or ys m 0 ≡ 0
zero_kept xs ys m k z = by_eq (get_or ys m 0 ≡ 0) (get_or ys m 0) 0 (λ e. e) (λ ne. absurd (let l = k.back m (omega (arith, ne)) in omega (arith, l, z)))

pub done_or_not : (f : Frame) (taken : Cell → Bool) (n : ℕ) (a : Cell) (P : Type 0) → (IsDone f taken n a → P) → ((IsDone f taken n a → ⊥) → P) → P
done_or_not f taken n a P g h =
    by_bool (taken a)
    (λ k. elim (cases_lt (node_of f a) (n + 2)) as (λ _. P) [ inl l ↦ g (record { taken_there = k; before = l }) | inr past ↦ h (λ d. omega (arith, past, d.before)) ])
    (λ k. h (λ d. false≢true (sym k ∙ d.taken_there)))

-- a cell that points is done
pub done_of : (f : Frame) (taken : Cell → Bool) (n m : ℕ) (a : Cell) → ((IsDone f taken n a → ⊥) → m ≡ 0) → 0 < m → IsDone f taken n a
done_of f taken n m a clear l = done_or_not f taken n a (IsDone f taken n a) (λ d. d) (λ none. absurd (let z = clear none in omega (arith, z, l)))

module _ (f : Frame) (taken : Cell → Bool) (outer : ℕ) (works : List ℕ) (c : Cell) (turn : ℕ) (c_in : in_frame f c ≡ true) (p : IsJoining f taken outer works c turn) where
  c_done : 0 < get_or (nodes outer works) (node_of f c) 0 → IsDone f taken (place_of f c + 1) c
  c_done l = done_of f taken (place_of f c + 1) (get_or (nodes outer works) (node_of f c) 0) c (p.clear c) l

  pub joining_met : (new : List ℕ) → 0 < get_or (nodes outer works) (node_of f c) 0 → IsMet (nodes outer works) (nodes outer new) (node_of f c) (node_of f (neighbour_of c turn)) → IsJoining f taken outer new c (turn + 1)
  joining_met new l u =
      let d = neighbour_of c turn in
      let m = u.united.merged p.root p.forest in
      let c_ok = c_done l in
      let d_ok = done_of f taken (place_of f c + 1) (get_or (nodes outer works) (node_of f d) 0) d (p.clear d) u.points in
      let link = linked_step (IsFree taken) c d c_ok.taken_there (beside_neighbour c turn) d_ok.taken_there in
      record {
        root = m.after;
        forest = m.forest;
        clear = λ a none. zero_kept (nodes outer works) (nodes outer new) (node_of f a) u.united.live (p.clear a none);
        some = λ a k. u.united.live.there (node_of f a) (p.some a k);
        same = λ a b ka kb e. elim (m.fine (node_of f a) (node_of f b) e) as (λ _. IsLinked taken a b) [
          | inl q ↦ p.same a b ka kb q
          | inr r ↦ elim r as (λ _. IsLinked taken a b) [
            | inl q ↦ linked_trans (IsFree taken) a c b (p.same a c ka c_ok q.0) (linked_trans (IsFree taken) c d b link (p.same d b d_ok kb q.1))
            | inr q ↦ linked_trans (IsFree taken) a d b (p.same a d ka d_ok q.0) (linked_trans (IsFree taken) d c b (linked_sym (IsFree taken) c d link) (p.same c b c_ok kb q.1))
          ]
        ];
        whole = λ a b ka kb s. m.coarser (node_of f a) (node_of f b) (p.whole a b ka kb s);
        met = λ way less points. by_eq (m.after (node_of f c) ≡ m.after (node_of f (neighbour_of c way))) way turn
            (λ e. m.meets ∙ ap (λ (w : ℕ). m.after (node_of f (neighbour_of c w))) (sym e))
            (λ ne. m.coarser (node_of f c) (node_of f (neighbour_of c way)) (p.met way (omega (arith, less, ne)) (u.united.live.back (node_of f (neighbour_of c way)) points)));
      }

  pub joining_lone : get_or (nodes outer works) (node_of f (neighbour_of c turn)) 0 ≡ 0 → IsJoining f taken outer works c (turn + 1)
  joining_lone none = record {
    root = p.root;
    forest = p.forest;
    clear = p.clear;
    some = p.some;
    same = p.same;
    whole = p.whole;
    met = λ way less points. by_eq (p.root (node_of f c) ≡ p.root (node_of f (neighbour_of c way))) way turn
        (λ e. absurd (omega (arith, none, points, ap (λ (w : ℕ). get_or (nodes outer works) (node_of f (neighbour_of c w)) 0) e)))
        (λ ne. p.met way (omega (arith, less, ne)) points);
  }

-- the cell is joined in the first ways
pub record IsAround (start g : Grid) (f : Frame) (outer : ℕ) (c : Cell) (node turn : ℕ) : Type 0 where
  pub rest : ChangesNumbers start g
  pub frame : f ≡ g.frame
  pub forested : IsForested (nodes outer g.works)
  pub live : 0 < get_or (nodes outer g.works) node 0
  pub joined : (taken : Cell → Bool) → IsJoining f taken outer start.works c 0 → IsJoining f taken outer g.works c turn

pub around_begins : (start : Grid) (f : Frame) (outer : ℕ) (c : Cell) (node turn : ℕ) → f ≡ start.frame → IsForested (nodes outer start.works) → 0 < get_or (nodes outer start.works) node 0 → turn ≡ 0 → IsAround start start f outer c node turn
around_begins start f outer c node turn e p l z = record {
  rest = refl;
  frame = e;
  forested = p;
  live = l;
  joined = λ taken q. subst (λ (k : ℕ). IsJoining f taken outer start.works c k) (sym z) q;
}

pub around_on : (start g g' : Grid) (f : Frame) (outer : ℕ) (c : Cell) (node turn : ℕ) → IsAround start g f outer c node turn → InFrame f c → node ≡ node_of f c → ChangesNumbers g g'
    → IsMet (nodes outer g.works) (nodes outer g'.works) node (node_of f (neighbour_of c turn)) ⊎ IsLone (nodes outer g.works) (nodes outer g'.works) (node_of f (neighbour_of c turn))
    → IsAround start g' f outer c node (turn + 1)
around_on start g g' f outer c node turn p c_in at rest s =
    let i = in_frame_true f c c_in in
    let both : ChangesNumbers start g' = rest ∙ ap (λ (x : Grid). record x { works = g'.works; waiting = g'.waiting; put = g'.put }) p.rest in
    let frames : f ≡ g'.frame = p.frame ∙ sym (ap (λ (x : Grid). x.frame) rest) in
    elim s as (λ _. IsAround start g' f outer c node (turn + 1)) [
      | inl u ↦
          let m = u.united.merged p.forested.root p.forested.forest in
          record {
            rest = both;
            frame = frames;
            forested = record { root = m.after; forest = m.forest };
            live = u.united.live.there node p.live;
            joined = λ taken q. joining_met f taken outer g.works c turn i (p.joined taken q) g'.works (subst (λ (k : ℕ). 0 < get_or (nodes outer g.works) k 0) at p.live)
                (subst (λ (k : ℕ). IsMet (nodes outer g.works) (nodes outer g'.works) k (node_of f (neighbour_of c turn))) at u);
          }
      | inr u ↦
          let same : g'.works ≡ g.works = ap tail2 u.same in
          record {
            rest = both;
            frame = frames;
            forested = subst IsForested (sym u.same) p.forested;
            live = subst (λ (xs : List ℕ). 0 < get_or xs node 0) (sym u.same) p.live;
            joined = λ taken q. subst (λ (works : List ℕ). IsJoining f taken outer works c (turn + 1)) (sym same) (joining_lone f taken outer g.works c turn i (p.joined taken q) u.none);
          }
    ]
  where
    tail2 : List ℕ → List ℕ
    tail2 (x ∷ y ∷ xs) = xs
    tail2 xs = xs

-- the neighbour's working label is what its node points to
pub pointed_at : (f h : Frame) (outer : ℕ) (works : List ℕ) (b d : Cell) (n : ℕ) → f ≡ h → b ≡ d → InFrame f b → n ≡ get_or works (place_of h b) 0 → n ≡ get_or (nodes outer works) (node_of f d) 0
pointed_at f h outer works b d n e same b_in read =
    read
    ∙ ap (λ (g : Frame). get_or works (place_of g b) 0) (sym e)
    ∙ sym (points_inside f outer works b (in_frame_true f b b_in))
    ∙ ap (λ (x : Cell). get_or (nodes outer works) (node_of f x) 0) same

pub met_or_lone : (xs ys : List ℕ) (a up b : ℕ) → up ≡ get_or xs b 0 → up ≢ 0 → IsUnited xs ys a up → IsMet xs ys a b ⊎ IsLone xs ys b
met_or_lone xs ys a up b e ne u = inl (record { points = omega (arith, e, ne); united = united_through xs ys a up b e (omega (arith, ne)) u })
