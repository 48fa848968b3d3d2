-- The walk over the grid.
use Rattle.std.proofs.Common.{◌≡◌, ◌≢◌, ◌↔◌, ℕ, ◌+◌, ◌-◌, ◌<◌, ◌≤◌, Bool, true, List, [], ◌∷◌, ◌++◌, take, length, set, get_or, refl, sym, ap, subst, ◌∙◌, arith}
use Rattle.std.proofs.lemmas.List.{length_push, length-take-le, get_or-take}
use Rattle.std.proofs.Math.ListN.{get_or-append}
use Rattle.std.proofs.Math.Seq.{get_or-append_seam}
use Rattle.std.specs.List.{Contains}
use Rattle.board_base.specs.declared.places.Cell.{Cell}
use Rattle.cell_grid.specs.declared.frames.Frame.{Frame}
use Rattle.cell_grid.specs.Grid.{Grid}
use Rattle.cell_grid.specs.Place.{IsFrame, InFrame, place_of}
use Rattle.cell_grid.specs.Cells.{in_frame, in_plane, number_in}
use Rattle.cell_sets.specs.Chains.{IsLinked}
use Rattle.cell_grid.proofs.CellsLaws.{in_frame_is, in_frame_true}
use Rattle.islands.specs.Ways.{neighbour_of}
use Rattle.islands.proofs.Numbers.{number_inside}
use Rattle.chain_walk.specs.Walk.{origin, entry, IsFirst, IsWalkFrom, IsWalk, IsShort}
use Rattle.chain_walk.specs.Marks.{ChangesWorks, IsFirstOpen, AreClosed, IsStartable, IsWalked, open_count}
use Rattle.chain_walk.proofs.Walking.{IsWalking, walk_begun, went_on, came_back, walk_ended, walk_closed, fresh_own, short, count_closed}

module _ (begin : Grid) (start : Cell) where
  abbrev pub taken : Cell → Bool
  taken = in_plane begin.frame begin.pass

  -- the walk of the lists
  abbrev pub OfLists : List ℕ → List Cell → List Cell → Cell → ℕ → Type 0
  OfLists works list back at last = IsWalking taken begin.frame begin.works start works (entry list) (length list) (entry back) (length back) at last

  pub record IsWalkingIn (frame : Frame) (g : Grid) (list back : List Cell) (at : Cell) (last : ℕ) : Type 0 where
    pub rest : ChangesWorks begin g
    pub same_frame : frame ≡ begin.frame
    pub valid : IsFrame frame
    pub walking : OfLists g.works list back at last

  longer_by_one : (cells : List Cell) (b : Cell) → length (cells ++ b ∷ []) ≡ length cells + 1
  longer_by_one cells b = length_push cells b

  kept_entries : (cells : List Cell) (b : Cell) (i : ℕ) → i < length cells → entry (cells ++ b ∷ []) i ≡ entry cells i
  kept_entries cells b i l = get_or-append cells (b ∷ []) origin i l

  -- only the working labels change
  written : (g g' : Grid) (works : List ℕ) → ChangesWorks begin g → g' ≡ record g { works = works } → ChangesWorks begin g'
  written g g' works r e =
      let f : ◌≡◌ {A = Grid} g' (record begin { works = works }) = e ∙ ap (λ (x : Grid). record x { works = works }) r in
      f ∙ ap (λ (w : List ℕ). record begin { works = w }) (sym (ap (λ (x : Grid). x.works) f))

  pub grids_begun : (frame : Frame) (g : Grid) (list back : List Cell) → IsStartable taken begin.frame begin.works start → frame ≡ begin.frame → IsFrame frame
      → g ≡ record begin { works = set begin.works (place_of begin.frame start) 0 } → list ≡ start ∷ [] → back ≡ start ∷ [] → IsWalkingIn frame g list back start 1
  grids_begun frame g list back r same valid e p q = record {
    rest = written begin g _ refl e;
    same_frame = same;
    valid = valid;
    walking =
        subst (λ (x : List Cell). OfLists g.works x back start 1) (sym p)
        (subst (λ (x : List Cell). OfLists g.works (start ∷ []) x start 1) (sym q)
        (walk_begun taken begin.frame begin.works start g.works (entry (start ∷ [])) (entry (start ∷ [])) r (ap (λ (x : Grid). x.works) e) refl refl));
  }

  -- the frames of the grid and of the walk
  pub grid_frame : (frame : Frame) (g : Grid) (list back : List Cell) (at : Cell) (last : ℕ) → IsWalkingIn frame g list back at last → frame ≡ g.frame
  grid_frame frame g list back at last w = w.same_frame ∙ sym (ap (λ (x : Grid). x.frame) w.rest)

  pub at_inside : (frame : Frame) (g : Grid) (list back : List Cell) (at : Cell) (last : ℕ) → IsWalkingIn frame g list back at last → InFrame frame at
  at_inside frame g list back at last w = in_frame_is frame at (subst (λ (f : Frame). in_frame f at ≡ true) (sym w.same_frame) w.walking.at_in)

  pub next_inside : (frame : Frame) (g : Grid) (list back : List Cell) (at b : Cell) (last : ℕ) → IsWalkingIn frame g list back at last → IsFirstOpen frame g.works at b → InFrame g.frame b
  next_inside frame g list back at b last w n = subst (λ (f : Frame). InFrame f b) (grid_frame frame g list back at last w) (in_frame_is frame b n.inside)

  its_first : (frame : Frame) (g : Grid) (list back : List Cell) (at b : Cell) (last : ℕ) → IsWalkingIn frame g list back at last → IsFirstOpen frame g.works at b → IsFirstOpen begin.frame g.works at b
  its_first frame g list back at b last w n = subst (λ (f : Frame). IsFirstOpen f g.works at b) w.same_frame n

  its_works : (frame : Frame) (g g' : Grid) (list back : List Cell) (at b : Cell) (last : ℕ) → IsWalkingIn frame g list back at last → g' ≡ record g { works = set g.works (place_of g.frame b) 0 }
      → g'.works ≡ set g.works (place_of begin.frame b) 0
  its_works frame g g' list back at b last w e = ap (λ (x : Grid). x.works) e ∙ ap (λ (f : Frame). set g.works (place_of f b) 0) (ap (λ (x : Grid). x.frame) w.rest)

  pub grids_on : (frame : Frame) (g g' : Grid) (list list' back back' : List Cell) (at b : Cell) (last : ℕ) → IsWalkingIn frame g list back at last → IsFirstOpen frame g.works at b
      → g' ≡ record g { works = set g.works (place_of g.frame b) 0 } → list' ≡ list ++ b ∷ [] → back' ≡ back ++ b ∷ [] → IsWalkingIn frame g' list' back' b (length list')
  grids_on frame g g' list list' back back' at b last w n e p q = record {
    rest = written g g' _ w.rest e;
    same_frame = w.same_frame;
    valid = w.valid;
    walking =
        subst (λ (x : List Cell). OfLists g'.works x back' b (length x)) (sym p)
        (subst (λ (x : List Cell). OfLists g'.works (list ++ b ∷ []) x b (length (list ++ b ∷ []))) (sym q)
        (subst (λ (m : ℕ). IsWalking taken begin.frame begin.works start g'.works (entry (list ++ b ∷ [])) m (entry (back ++ b ∷ [])) (length (back ++ b ∷ [])) b m) (sym (longer_by_one list b))
        (subst (λ (m : ℕ). IsWalking taken begin.frame begin.works start g'.works (entry (list ++ b ∷ [])) (length list + 1) (entry (back ++ b ∷ [])) m b (length list + 1)) (sym (longer_by_one back b))
        (went_on taken begin.frame begin.works start g.works g'.works (entry list) (entry (list ++ b ∷ [])) (length list) (entry back) (entry (back ++ b ∷ [])) (length back) at last b w.walking
        (its_first frame g list back at b last w n) (its_works frame g g' list back at b last w e)
        (λ i l. kept_entries list b i l) (get_or-append_seam list b [] origin) (λ i l. kept_entries back b i l) (get_or-append_seam back b [] origin)))));
  }

  -- one cell fewer is open
  pub fewer_open : (frame : Frame) (g g' : Grid) (list back : List Cell) (at b : Cell) (last : ℕ) → IsWalkingIn frame g list back at last → IsFirstOpen frame g.works at b
      → g' ≡ record g { works = set g.works (place_of g.frame b) 0 } → open_count g'.works + 1 ≡ open_count g.works
  fewer_open frame g g' list back at b last w n e =
      let f = its_first frame g list back at b last w n in
      ap (λ (x : List ℕ). open_count x + 1) (its_works frame g g' list back at b last w e) ∙ count_closed begin.frame g.works b w.walking.len f.inside f.open_there

  pub grids_back : (frame : Frame) (g : Grid) (list list' back back' : List Cell) (at at' : Cell) (last : ℕ) → IsWalkingIn frame g list back at last → AreClosed frame g.works at 8 → 2 ≤ length back
      → at' ≡ entry back (length back - 2) → list' ≡ list ++ at' ∷ [] → back' ≡ take (length back - 1) back → IsWalkingIn frame g list' back' at' last
  grids_back frame g list list' back back' at at' last w n two e p q =
      let depth : length back ≡ length back - 2 + 2 = omega (arith, two) in
      let v = subst (λ (m : ℕ). IsWalking taken begin.frame begin.works start g.works (entry list) (length list) (entry back) m at last) depth w.walking in
      let cut : length back - 1 ≡ length back - 2 + 1 = omega (arith, two) in
      let len : length back' ≡ length back - 2 + 1 = ap length q ∙ length-take-le (length back - 1) back (omega arith) ∙ cut in
      let same : (i : ℕ) → i < length back - 2 + 1 → entry back' i ≡ entry back i = λ i l. ap (λ (x : List Cell). entry x i) q ∙ get_or-take (length back - 1) back i origin (omega (arith, l, cut)) in
      record {
        rest = w.rest;
        same_frame = w.same_frame;
        valid = w.valid;
        walking =
            subst (λ (x : List Cell). OfLists g.works x back' at' last) (sym p)
            (subst (λ (m : ℕ). IsWalking taken begin.frame begin.works start g.works (entry (list ++ at' ∷ [])) m (entry back') (length back') at' last) (sym (longer_by_one list at'))
            (subst (λ (m : ℕ). IsWalking taken begin.frame begin.works start g.works (entry (list ++ at' ∷ [])) (length list + 1) (entry back') m at' last) (sym len)
            (subst (λ (x : Cell). IsWalking taken begin.frame begin.works start g.works (entry (list ++ at' ∷ [])) (length list + 1) (entry back') (length back - 2 + 1) x last) (sym e)
            (came_back taken begin.frame begin.works start g.works (entry list) (entry (list ++ at' ∷ [])) (length list) (entry back) (entry back') (length back - 2) at last v
            (subst (λ (f : Frame). AreClosed f g.works at 8) w.same_frame n)
            (λ i l. kept_entries list at' i l) (get_or-append_seam list at' [] origin ∙ e) same))));
      }

  -- what the walk ends with
  pub record IsEnded (g : Grid) (cells : List Cell) : Type 0 where
    pub walk : IsWalk taken cells
    pub short : IsShort taken cells
    pub starts : entry cells 0 ≡ start
    pub walked : IsWalked taken begin.frame begin.works g.works start

  pub grids_ended : (frame : Frame) (g : Grid) (list list' back : List Cell) (at : Cell) (last : ℕ) → IsWalkingIn frame g list back at last → length back ≡ 1 → AreClosed frame g.works at 8
      → list' ≡ take last list → IsEnded g list'
  grids_ended frame g list list' back at last w one n e =
      let v = subst (λ (m : ℕ). IsWalking taken begin.frame begin.works start g.works (entry list) (length list) (entry back) m at last) one w.walking in
      let closed = subst (λ (f : Frame). AreClosed f g.works at 8) w.same_frame n in
      let len : length list' ≡ last = ap length e ∙ length-take-le last list v.last_in in
      let same : (i : ℕ) → i < last → entry list' i ≡ entry list i = λ i l. ap (λ (x : List Cell). entry x i) e ∙ get_or-take last list i origin l in
      let walk = walk_ended taken begin.frame begin.works start g.works (entry list) (length list) (entry back) at last v closed (entry list') same in
      let first : entry list' 0 ≡ start = walk.starts in
      record {
        walk = record {
          begins = subst (IsFirst taken) (sym first) v.ready.begins;
          goes = subst (λ (x : Cell). IsWalkFrom taken x (entry list') (length list')) (sym first) (subst (IsWalkFrom taken start (entry list')) (sym len) walk);
        };
        short = record {
          cells = v.fresh;
          each = λ c. subst (λ (x : Cell). Contains v.fresh c ↔ IsLinked taken x c) (sym first) (fresh_own taken begin.frame begin.works start g.works (entry list) (length list) (entry back) at last v closed c);
          once = v.fresh_once;
          short = omega (arith, len, short taken begin.frame begin.works start g.works (entry list) (length list) (entry back) at last v closed);
        };
        starts = first;
        walked = walk_closed taken begin.frame begin.works start g.works (entry list) (length list) (entry back) at last v closed;
      }

-- a neighbour that is open, where none before it is
pub first_at : (f h : Frame) (works : List ℕ) (at b : Cell) (way n : ℕ) → f ≡ h → b ≡ neighbour_of at way → InFrame f b → way < 8 → n ≡ get_or works (place_of h b) 0 → n ≢ 0 → AreClosed f works at way → IsFirstOpen f works at b
first_at f h works at b way n same is inside way_in read some closed = record {
  way = way;
  way_in = way_in;
  is = is;
  inside = in_frame_true f b inside;
  open_there = (let e : number_in f 0 works b ≡ n = number_inside f 0 works b (in_frame_true f b inside) ∙ sym (read ∙ ap (λ (x : Frame). get_or works (place_of x b) 0) (sym same)) in omega (arith, e, some));
  first = λ other less. closed other less;
}
