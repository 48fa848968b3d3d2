-- Cells are joined over the grid.
use Rattle.std.proofs.Common.{◌≡◌, ◌≢◌, ℕ, zero, suc, pos, ◌+◌, ◌-◌, ◌*◌, ◌<◌, ◌≤◌, ◌+ℤ◌, Bool, true, false, List, length, set, get_or, inl, inr, refl, sym, ap, subst, ◌∙◌, arith}
use Rattle.std.proofs.lemmas.Bool.{false≢true}
use borrow.Author.Differences.{ints}
use mathlib.Core.Bool.{beq}
use Rattle.number_laws.proofs.Tests.{by_bool}
use Rattle.board_base.specs.declared.places.Cell.{Cell}
use Rattle.cell_grid.specs.declared.frames.Frame.{Frame}
use Rattle.cell_grid.specs.declared.bits.Plane.{Plane}
use Rattle.cell_grid.specs.Grid.{Grid, plane_of}
use Rattle.cell_grid.specs.Place.{IsFrame, InFrame, place_of, cells_of}
use Rattle.cell_grid.specs.Cells.{in_frame}
use Rattle.cell_grid.proofs.CellsLaws.{in_frame_true}
use Rattle.islands.specs.Taken.{is_taken, outer_number}
use Rattle.islands.specs.Floods.{ChangesNumbers}
use Rattle.islands.specs.Classes.{IsEdge}
use Rattle.islands.specs.Forests.{nodes, node_of, IsForest, IsForested, IsDone, IsJoined, IsJoining, IsSouthOf}
use Rattle.islands.proofs.Numbers.{taken_inside, taken_outside, rest_outside, plane_same}
use Rattle.islands.proofs.Links.{outside_linked}
use Rattle.islands.proofs.Borders.{border_edge}
use Rattle.islands.proofs.JoinLaws.{node_inside, node_outside, points_inside, points_outside}
use Rattle.islands.proofs.Joined.{alone_forested, alone_points, alone, joined_all, under, passed_by}

-- a cell's working label is written
module _ (f : Frame) (g g' : Grid) (c : Cell) (v : ℕ) (same : f ≡ g.frame) (put : g' ≡ record g { works = set g.works (place_of g.frame c) v }) where
  works_put : g'.works ≡ set g.works (place_of f c) v
  works_put = ap (λ (h : Grid). h.works) put ∙ ap (λ (h : Frame). set g.works (place_of h c) v) (sym same)

  works_len : length g.works ≡ cells_of g.frame → length g.works ≡ cells_of f
  works_len len = len ∙ ap cells_of (sym same)

  module _ (outer : ℕ) (c_in : InFrame f c) (len : length g.works ≡ cells_of g.frame) (own : v ≡ node_of f c) where
    works_own : g'.works ≡ set g.works (place_of f c) (node_of f c)
    works_own = works_put ∙ ap (λ (x : ℕ). set g.works (place_of f c) x) own

    pub put_forested : IsForested (nodes outer g.works) → get_or g.works (place_of g.frame c) 0 ≡ 0 → IsForested (nodes outer g'.works)
    put_forested p z =
        subst (λ (xs : List ℕ). IsForested (nodes outer xs)) (sym works_own)
        (alone_forested f (λ _. true) c (in_frame_true f c c_in) outer g.works (works_len len) p (ap (λ (h : Frame). get_or g.works (place_of h c) 0) same ∙ z))

    pub put_points : 0 < get_or (nodes outer g'.works) v 0
    put_points =
        subst (λ (x : ℕ). 0 < get_or (nodes outer g'.works) x 0) (sym own)
        (subst (λ (xs : List ℕ). 0 < get_or (nodes outer xs) (node_of f c) 0) (sym works_own) (alone_points f (λ _. true) c (in_frame_true f c c_in) outer g.works (works_len len)))

    pub put_joined : (g'' : Grid) → get_or g.works (place_of f c) 0 ≡ 0 → ((taken : Cell → Bool) → IsJoining f taken outer g'.works c 0 → IsJoining f taken outer g''.works c 8)
        → (taken : Cell → Bool) → taken c ≡ true → IsJoined f taken outer g.works (place_of f c) → IsJoined f taken outer g''.works (place_of f c + 1)
    put_joined g'' z on taken k p =
        let i = in_frame_true f c c_in in
        joined_all f taken c i outer g''.works k
        (on taken (subst (λ (xs : List ℕ). IsJoining f taken outer xs c 0) (sym works_own) (alone f taken c i outer g.works (works_len len) k z p)))

  pub put_south : (outer x y : ℕ) → InFrame f c → length g.works ≡ cells_of g.frame → c.i ≡ f.i0 +ℤ pos x → c.j ≡ f.j0 +ℤ pos y → place_of f c ≡ y * f.width + x → get_or g.works (place_of f c) 0 ≡ 0
      → v ≢ 0 → (0 < v → IsSouthOf f g.works x y v)
      → (taken : Cell → Bool) → taken c ≡ true → IsJoined f taken outer g.works (place_of f c) → IsJoined f taken outer g'.works (place_of f c + 1)
  put_south outer x y c_in len col row at z ne south taken k p =
      let s = south (omega (arith, ne)) in
      let i = in_frame_true f c c_in in
      subst (λ (xs : List ℕ). IsJoined f taken outer xs (place_of f c + 1)) (sym (works_put ∙ ap (λ (n : ℕ). set g.works (place_of f c) n) s.value))
      (under f taken c i outer g.works (works_len len) s.cell (in_frame_true f s.cell s.inside) (col ∙ sym s.column) (row ∙ sym s.row) (let l = s.earlier in omega (arith, l, at))
      (λ b. s.within (border_edge f c x y col row b)) k z (omega (arith, ne, s.value)) p)

-- the cell south of a cell within the border
pub south_is : (f h : Frame) (works : List ℕ) (x y up : ℕ) (s : Cell) → f ≡ h → x < f.width → (IsEdge f x y → ⊥) → InFrame f s → s.i ≡ f.i0 +ℤ pos x → s.j ≡ f.j0 +ℤ pos (y - 1)
    → place_of f s ≡ (y - 1) * f.width + x → up ≡ get_or works (place_of h s) 0 → IsSouthOf f works x y up
south_is f h works x y up s e x_in within inside col row at read =
    let high : 0 < y = above y (λ z. within (inr (inr (inl z)))) in
    record {
      within = within;
      cell = s;
      inside = inside;
      column = col;
      row = omega (arith, ints);
      earlier = let l = less y f.width x high x_in in omega (arith, l, at);
      value = read ∙ ap (λ (g : Frame). get_or works (place_of g s) 0) (sym e);
    }
  where
    above : (n : ℕ) → n ≢ 0 → 0 < n
    above n ne = omega (arith, ne)

    less : (n w m : ℕ) → 0 < n → m < w → (n - 1) * w + m < n * w + m
    less zero w m l k = absurd (omega (arith, l))
    less (suc n) w m l k =
        let e : suc n - 1 ≡ n = omega arith in
        subst (λ (j : ℕ). j * w + m < suc n * w + m) (sym e) (omega (arith, k))

-- before any cell of the frame
module _ (f : Frame) (taken : Cell → Bool) (outer : ℕ) (works : List ℕ) (clear : (k : ℕ) → get_or works k 0 ≡ 0) (small : outer ≤ 1) where
  first_forest : IsForest (nodes outer works) (λ m. m)
  first_forest = record { low = low; up = up; step = step; own = λ m l e. refl; first = λ m l. omega arith }
    where
      low : (m : ℕ) → get_or (nodes outer works) m 0 ≤ m
      low zero = omega arith
      low (suc zero) = omega (arith, small)
      low (suc (suc k)) = omega (arith, clear k)

      up : (m : ℕ) → 0 < get_or (nodes outer works) m 0 → 0 < get_or (nodes outer works) (get_or (nodes outer works) m 0) 0
      up zero l = absurd (omega (arith, l))
      up (suc zero) l =
          let one : outer ≡ 1 = omega (arith, l, small) in
          subst (λ (j : ℕ). 0 < get_or (nodes outer works) j 0) (sym one) l
      up (suc (suc k)) l = absurd (omega (arith, l, clear k))

      step : (m : ℕ) → 0 < get_or (nodes outer works) m 0 → get_or (nodes outer works) m 0 ≡ m
      step zero l = absurd (omega (arith, l))
      step (suc zero) l = omega (arith, l, small)
      step (suc (suc k)) l = absurd (omega (arith, l, clear k))

  pub none_joined : ((a : Cell) → in_frame f a ≡ false → taken a ≡ true → outer ≢ 0) → ((a : Cell) → in_frame f a ≡ false → taken a ≡ false → outer ≡ 0)
      → ((a b : Cell) → in_frame f a ≡ false → taken a ≡ true → in_frame f b ≡ false → taken b ≡ true) → IsJoined f taken outer works 0
  none_joined out_some out_none out_all =
      let out : (a : Cell) → IsDone f taken 0 a → in_frame f a ≡ false = λ a d.
      by_bool (in_frame f a) (λ i. absurd (let l = d.before in omega (arith, l, node_inside f a i))) (λ o. o) in
      record {
        root = λ m. m;
        forest = first_forest;
        clear = λ a none. by_bool (in_frame f a)
            (λ i. points_inside f outer works a i ∙ clear (place_of f a))
            (λ o. points_outside f outer works a o ∙ by_bool (taken a)
            (λ k. absurd (none (record { taken_there = k; before = omega (arith, node_outside f a o) })))
            (λ k. out_none a o k));
        some = λ a d. let ne = out_some a (out a d) d.taken_there in omega (arith, points_outside f outer works a (out a d), ne);
        same = λ a b da db e. outside_linked f taken (λ x o. out_all a x (out a da) da.taken_there o) a b (out a da) (out b db);
        whole = λ a b da db s. node_outside f a (out a da) ∙ sym (node_outside f b (out b db));
      }

pub none_outside : (on : Bool) (f : Frame) (plane : List Bool) (a : Cell) → in_frame f a ≡ false → is_taken on f plane a ≡ false → outer_number on ≡ 0
none_outside true f plane a o k = refl
none_outside false f plane a o k = absurd (false≢true (sym k ∙ rest_outside f plane a o))

pub all_outside : (on : Bool) (f : Frame) (plane : List Bool) (a b : Cell) → in_frame f a ≡ false → is_taken on f plane a ≡ true → in_frame f b ≡ false → is_taken on f plane b ≡ true
all_outside true f plane a b o k o' = absurd (taken_outside true f plane a o k refl)
all_outside false f plane a b o k o' = rest_outside f plane b o'

pub at_most_one : (b : Bool) → outer_number b ≤ 1
at_most_one true = omega arith
at_most_one false = omega arith

module _ (start : Grid) (p : Plane) (on : Bool) (outer : ℕ) where
  -- the cells before place n are joined
  pub record IsJoinedAt (frame : Frame) (g : Grid) (n : ℕ) : Type 0 where
    pub joined : IsJoined frame (is_taken on start.frame (plane_of start p)) outer g.works n
    pub rest : ChangesNumbers start g
    pub same_frame : frame ≡ start.frame
    pub valid : IsFrame frame

  pub joined_begins : (frame : Frame) (n : ℕ) → n ≡ 0 → frame ≡ start.frame → IsFrame frame → outer ≡ outer_number on → ((k : ℕ) → get_or start.works k 0 ≡ 0) → IsJoinedAt frame start n
  joined_begins frame n z same valid e clear = record {
    joined = subst (λ (k : ℕ). IsJoined frame (is_taken on start.frame (plane_of start p)) outer start.works k) (sym z)
        (subst (λ (f : Frame). IsJoined f (is_taken on start.frame (plane_of start p)) outer start.works 0) (sym same)
        (none_joined start.frame (is_taken on start.frame (plane_of start p)) outer start.works clear (let s = at_most_one on in omega (arith, s, e))
        (λ a o k j. taken_outside on start.frame (plane_of start p) a o k (sym e ∙ j))
        (λ a o k. e ∙ none_outside on start.frame (plane_of start p) a o k)
        (all_outside on start.frame (plane_of start p))));
    rest = refl;
    same_frame = same;
    valid = valid;
  }

  pub joined_same : (frame : Frame) (g : Grid) (n n' : ℕ) → n' ≡ n → IsJoinedAt frame g n → IsJoinedAt frame g n'
  joined_same frame g n n' e q = subst (λ (k : ℕ). IsJoinedAt frame g k) (sym e) q

  module _ (frame : Frame) (g : Grid) (n : ℕ) (q : IsJoinedAt frame g n) where
    pub its_frame : frame ≡ g.frame
    its_frame = q.same_frame ∙ sym (ap (λ (h : Grid). h.frame) q.rest)

    pub its_forest : IsForested (nodes outer g.works)
    its_forest = record { root = q.joined.root; forest = q.joined.forest }

    module _ (c : Cell) (c_in : InFrame frame c) (at : place_of frame c ≡ n) where
      pub cell_free : get_or g.works (place_of frame c) 0 ≡ 0
      cell_free =
          let i = in_frame_true frame c c_in in
          sym (points_inside frame outer g.works c i)
          ∙ q.joined.clear c (λ d. let l = d.before in omega (arith, l, node_inside frame c i, at))

      taken_is : (r : Bool) → r ≡ get_or (plane_of g p) (place_of g.frame c) false → is_taken on start.frame (plane_of start p) c ≡ beq r on
      taken_is r read =
          taken_inside on start.frame (plane_of start p) c (in_frame_true start.frame c (subst (λ (h : Frame). InFrame h c) q.same_frame c_in))
          ∙ ap (λ (b : Bool). beq b on) (sym (read ∙ ap (λ (h : Frame). get_or (plane_of g p) (place_of h c) false) (sym its_frame ∙ q.same_frame)
          ∙ ap (λ (xs : List Bool). get_or xs (place_of start.frame c) false) (ap (λ (h : Grid). plane_of h p) q.rest ∙ plane_same start g p)))

      pub joined_on : (g' : Grid) (n' : ℕ) (r : Bool) → n' ≡ n + 1 → r ≡ get_or (plane_of g p) (place_of g.frame c) false → beq r on ≡ true → ChangesNumbers g g'
          → ((taken : Cell → Bool) → taken c ≡ true → IsJoined frame taken outer g.works (place_of frame c) → IsJoined frame taken outer g'.works (place_of frame c + 1)) → IsJoinedAt frame g' n'
      joined_on g' n' r next read same rest more = record {
        joined = subst (λ (k : ℕ). IsJoined frame (is_taken on start.frame (plane_of start p)) outer g'.works k) (ap (λ (k : ℕ). k + 1) at ∙ sym next)
            (more (is_taken on start.frame (plane_of start p)) (taken_is r read ∙ same)
            (subst (λ (k : ℕ). IsJoined frame (is_taken on start.frame (plane_of start p)) outer g.works k) (sym at) q.joined));
        rest = rest ∙ ap (λ (x : Grid). record x { works = g'.works; waiting = g'.waiting; put = g'.put }) q.rest;
        same_frame = q.same_frame;
        valid = q.valid;
      }

      pub joined_off : (n' : ℕ) (r : Bool) → n' ≡ n + 1 → r ≡ get_or (plane_of g p) (place_of g.frame c) false → beq r on ≡ false → IsJoinedAt frame g n'
      joined_off n' r next read other = record {
        joined = subst (λ (k : ℕ). IsJoined frame (is_taken on start.frame (plane_of start p)) outer g.works k) (ap (λ (k : ℕ). k + 1) at ∙ sym next)
            (passed_by frame (is_taken on start.frame (plane_of start p)) c (in_frame_true frame c c_in) outer g.works (taken_is r read ∙ other)
            (subst (λ (k : ℕ). IsJoined frame (is_taken on start.frame (plane_of start p)) outer g.works k) (sym at) q.joined));
        rest = q.rest;
        same_frame = q.same_frame;
        valid = q.valid;
      }

    pub all_joined : n ≡ cells_of frame → IsJoined start.frame (is_taken on start.frame (plane_of start p)) outer g.works (cells_of start.frame)
    all_joined e =
        subst (λ (f : Frame). IsJoined f (is_taken on start.frame (plane_of start p)) outer g.works (cells_of f)) q.same_frame
        (subst (λ (k : ℕ). IsJoined frame (is_taken on start.frame (plane_of start p)) outer g.works k) e q.joined)
