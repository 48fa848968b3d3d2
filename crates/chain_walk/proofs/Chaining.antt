-- The walks of the components before a place.
use Rattle.std.proofs.Common.{Vec, Global, ◌≡◌, ◌≢◌, ℕ, ◌+◌, ◌<◌, ◌≤◌, Bool, true, false, List, [], ◌∷◌, ◌++◌, length, get_or, inl, inr, sym, ap, subst, ◌∙◌, arith}
use Rattle.std.proofs.lemmas.List.{length_push}
use Rattle.std.proofs.Math.ListN.{get_or-append}
use Rattle.std.proofs.Math.Seq.{get_or-append_seam}
use Rattle.std.proofs.lemmas.Bool.{cases_eq, cases_lt}
use borrow.Author.Differences.{ints}
use Rattle.number_laws.proofs.Tests.{by_bool}
use Rattle.board_base.specs.declared.places.Cell.{Cell}
use Rattle.cell_grid.specs.declared.frames.Frame.{Frame}
use Rattle.cell_grid.specs.Grid.{Grid}
use Rattle.cell_grid.specs.Place.{IsFrame, InFrame, place_of, cells_of}
use Rattle.cell_grid.specs.Cells.{in_frame, in_plane, number_in}
use Rattle.cell_sets.specs.Chains.{IsBefore, IsLinked}
use Rattle.cell_sets.specs.Islands.{AreIslands}
use Rattle.cell_grid.proofs.PlaceLaws.{place_below, place_same}
use Rattle.cell_grid.proofs.CellsLaws.{in_frame_is, in_frame_true, before}
use Rattle.islands.specs.Floods.{ChangesNumbers}
use Rattle.islands.proofs.Numbers.{number_inside, number_outside}
use Rattle.cell_sets.proofs.Links.{IsFree, linked_sym, linked_trans, linked_self, linked_start}
use Rattle.chain_walk.specs.Walk.{entry, IsWalk, IsShort, AreWalks}
use Rattle.chain_walk.specs.Marks.{ChangesWorks, IsStartable, IsWalked}
use Rattle.chain_walk.proofs.Entries.{each_push, steps_push}

pub not_both : (a b : Cell) → IsBefore a b → IsBefore b a → ⊥
not_both a b (inl x) (inl y) = omega (arith, ints)
not_both a b (inl x) (inr y) = omega (arith, ints, y.0)
not_both a b (inr x) (inl y) = omega (arith, ints, x.0)
not_both a b (inr x) (inr y) = omega (arith, ints, x.1, y.1)

-- an earlier cell has a smaller place
pub earlier_place : (f : Frame) (a b : Cell) → InFrame f a → InFrame f b → IsBefore a b → place_of f a < place_of f b
earlier_place f a b a_in b_in h =
    elim (cases_lt (place_of f a) (place_of f b)) as (λ _. place_of f a < place_of f b) [
      | inl less ↦ less
      | inr more ↦ elim (cases_lt (place_of f b) (place_of f a)) as (λ _. place_of f a < place_of f b) [
        | inl after ↦ absurd (not_both a b h (before f b a b_in a_in after))
        | inr same ↦ (
            let e : a ≡ b = place_same f a b a_in b_in (omega (arith, more, same)) in
            absurd (not_both b b (subst (λ (x : Cell). IsBefore x b) e h) (subst (λ (x : Cell). IsBefore x b) e h)))
      ]
    ]

module _ (begin : Grid) where
  abbrev taken : Cell → Bool
  taken = in_plane begin.frame begin.pass

  abbrev num : List ℕ → Cell → ℕ
  num works c = number_in begin.frame 0 works c

  abbrev start_of : List (List Cell) → ℕ → Cell
  start_of walks k = entry (get_or walks k []) 0

  -- the walks of all components with a cell before place n, whose cells are closed
  pub record IsChaining (works : List ℕ) (walks : List (List Cell)) (n : ℕ) : Type 0 where
    pub len : length works ≡ cells_of begin.frame
    pub open_taken : (c : Cell) → 0 < num works c → taken c ≡ true
    pub known : (c : Cell) → taken c ≡ true → num works c ≡ 0 → (k : ℕ) × ((k < length walks) × IsLinked taken (start_of walks k) c)
    pub early : (c : Cell) → InFrame begin.frame c → place_of begin.frame c < n → num works c ≡ 0
    pub closed : (a b : Cell) → num works a ≡ 0 → IsLinked taken a b → num works b ≡ 0
    pub each : (k : ℕ) → k < length walks → IsWalk taken (get_or walks k [])
    pub short : (k : ℕ) → k < length walks → IsShort taken (get_or walks k [])
    pub inside : (k : ℕ) → k < length walks → InFrame begin.frame (start_of walks k)
    pub below : (k : ℕ) → k < length walks → place_of begin.frame (start_of walks k) < n
    pub order : (k : ℕ) → k + 1 < length walks → IsBefore (start_of walks k) (start_of walks (k + 1))

  -- a cell with a number is in the frame
  open_inside : (works : List ℕ) (c : Cell) → 0 < num works c → InFrame begin.frame c
  open_inside works c o =
      by_bool (in_frame begin.frame c)
      (λ (i : in_frame begin.frame c ≡ true). in_frame_is begin.frame c i)
      (λ (i : in_frame begin.frame c ≡ false). absurd (omega (arith, o, number_outside begin.frame 0 works c i)))

  none_chained : (works : List ℕ) (count : ℕ) → length works ≡ cells_of begin.frame → AreIslands taken (num works) count → IsChaining works [] 0
  none_chained works count len q = record {
    len = len;
    open_taken = λ c o. by_bool (taken c) (λ (t : taken c ≡ true). t) (λ (t : taken c ≡ false). absurd (omega (arith, o, q.clear c t)));
    known = λ c t z. absurd (omega (arith, z, q.some c t));
    early = λ c i l. absurd (omega (arith, l));
    closed = λ a b z j. absurd (omega (arith, z, q.some a (linked_start (IsFree taken) a b j)));
    each = λ k l. absurd (omega (arith, l));
    short = λ k l. absurd (omega (arith, l));
    inside = λ k l. absurd (omega (arith, l));
    below = λ k l. absurd (omega (arith, l));
    order = λ k l. absurd (omega (arith, l));
  }

  -- the component of an open cell is open
  whole_open : (works : List ℕ) (walks : List (List Cell)) (n : ℕ) (s c : Cell) → IsChaining works walks n → 0 < num works s → IsLinked taken s c → 0 < num works c
  whole_open works walks n s c q o j =
      elim (cases_lt 0 (num works c)) as (λ _. 0 < num works c) [
        | inl some ↦ some
        | inr none ↦ (let z : num works c ≡ 0 = omega (arith, none) in absurd (omega (arith, o, q.closed c s z (linked_sym (IsFree taken) s c j))))
      ]

  startable : (works : List ℕ) (walks : List (List Cell)) (n : ℕ) (s : Cell) → IsChaining works walks n → InFrame begin.frame s → place_of begin.frame s ≡ n → 0 < num works s → IsStartable taken begin.frame works s
  startable works walks n s q s_in at_n o = record {
    len = q.len;
    inside = in_frame_true begin.frame s s_in;
    begins = record {
      taken_there = q.open_taken s o;
      earliest = λ c j h. (
          let oc = whole_open works walks n s c q o j in
          let c_in = open_inside works c oc in
          let less = earlier_place begin.frame c s c_in s_in h in
          omega (arith, oc, q.early c c_in (omega (arith, less, at_n))));
    };
    opened = λ c j. whole_open works walks n s c q o j;
    open_taken = q.open_taken;
  }

  module _ (works works' : List ℕ) (walks : List (List Cell)) (n : ℕ) (s : Cell) (walk : List Cell) (q : IsChaining works walks n) where
    more : length (walks ++ walk ∷ []) ≡ length walks + 1
    more = length_push walks walk

    was : (k : ℕ) → k < length walks → get_or (walks ++ walk ∷ []) k [] ≡ get_or walks k []
    was k l = get_or-append walks (walk ∷ []) [] k l

    seam : get_or (walks ++ walk ∷ []) (length walks) [] ≡ walk
    seam = get_or-append_seam walks walk [] []

    next_chained : InFrame begin.frame s → place_of begin.frame s ≡ n → 0 < num works s → IsWalk taken walk → IsShort taken walk → entry walk 0 ≡ s → IsWalked taken begin.frame works works' s
        → IsChaining works' (walks ++ walk ∷ []) (n + 1)
    next_chained s_in at_n o w sh first v = record {
      len = v.len;
      open_taken = λ c oc. elim (cases_lt 0 (num works c)) as (λ _. taken c ≡ true) [
        | inl some ↦ q.open_taken c some
        | inr none ↦ (let z : num works c ≡ 0 = omega (arith, none) in absurd (omega (arith, oc, v.stays c z)))
      ];
      known = λ c t z. elim (v.others c z) as (λ _. (k : ℕ) × ((k < length (walks ++ walk ∷ [])) × IsLinked taken (start_of (walks ++ walk ∷ []) k) c)) [
        | inl y ↦ (
            let found = q.known c t y in
            (found.0, (omega (arith, found.1.0, more), subst (λ (x : List Cell). IsLinked taken (entry x 0) c) (sym (was found.0 found.1.0)) found.1.1)))
        | inr j ↦ (length walks, (omega (arith, more), subst (λ (x : List Cell). IsLinked taken (entry x 0) c) (sym seam) (subst (λ (x : Cell). IsLinked taken x c) (sym first) j)))
      ];
      early = λ c c_in l. elim (cases_eq (place_of begin.frame c) n) as (λ _. num works' c ≡ 0) [
        | inl z ↦ v.component c (subst (IsLinked taken s) (place_same begin.frame s c s_in c_in (at_n ∙ sym z)) (linked_self (IsFree taken) s (q.open_taken s o)))
        | inr ne ↦ v.stays c (q.early c c_in (omega (arith, ne, l)))
      ];
      closed = λ a b z j. elim (v.others a z) as (λ _. num works' b ≡ 0) [
        | inl y ↦ v.stays b (q.closed a b y j)
        | inr i ↦ v.component b (linked_trans (IsFree taken) s a b i j)
      ];
      each = each_push (IsWalk taken) [] walks walk q.each w;
      short = each_push (IsShort taken) [] walks walk q.short sh;
      inside = each_push (λ x. InFrame begin.frame (entry x 0)) [] walks walk q.inside (subst (InFrame begin.frame) (sym first) s_in);
      below = each_push (λ x. place_of begin.frame (entry x 0) < n + 1) [] walks walk (λ k l. (let b = q.below k l in omega (arith, b))) (let e : place_of begin.frame (entry walk 0) ≡ n = ap (place_of begin.frame) first ∙ at_n in omega (arith, e));
      order = steps_push (λ x y. IsBefore (entry x 0) (entry y 0)) [] walks walk q.order (λ k z. (
          let k_in : k < length walks = omega (arith, z) in
          let less : place_of begin.frame (start_of walks k) < place_of begin.frame s = (let b = q.below k k_in in omega (arith, b, at_n)) in
          subst (IsBefore (start_of walks k)) (sym first) (before begin.frame (start_of walks k) s (q.inside k k_in) s_in less)));
    }

  not_chained : (works : List ℕ) (walks : List (List Cell)) (n : ℕ) (s : Cell) → IsChaining works walks n → InFrame begin.frame s → place_of begin.frame s ≡ n → num works s ≡ 0 → IsChaining works walks (n + 1)
  not_chained works walks n s q s_in at_n none = record {
    len = q.len;
    open_taken = q.open_taken;
    known = q.known;
    early = λ c c_in l. elim (cases_eq (place_of begin.frame c) n) as (λ _. num works c ≡ 0) [
      | inl z ↦ ap (num works) (place_same begin.frame c s c_in s_in (z ∙ sym at_n)) ∙ none
      | inr ne ↦ q.early c c_in (omega (arith, ne, l))
    ];
    closed = q.closed;
    each = q.each;
    short = q.short;
    inside = q.inside;
    below = λ k l. (let b = q.below k l in omega (arith, b));
    order = q.order;
  }

  all_chained : (works : List ℕ) (walks : List (List Cell)) (n : ℕ) → IsChaining works walks n → cells_of begin.frame ≤ n → AreWalks taken walks
  all_chained works walks n q past = record {
    each = q.each;
    short = q.short;
    order = q.order;
    whole = λ c t. q.known c t (
        by_bool (in_frame begin.frame c)
        (λ (i : in_frame begin.frame c ≡ true). (let l = place_below begin.frame c (in_frame_is begin.frame c i) in q.early c (in_frame_is begin.frame c i) (omega (arith, l, past))))
        (λ (i : in_frame begin.frame c ≡ false). number_outside begin.frame 0 works c i));
  }

  -- ---- over the grid

  pub record IsAtPlace (frame : Frame) (g : Grid) (walks : List (List Cell)) (n : ℕ) : Type 0 where
    pub chaining : IsChaining g.works walks n
    pub rest : ChangesNumbers begin g
    pub same_frame : frame ≡ begin.frame
    pub valid : IsFrame frame

  frame_is : (g : Grid) → ChangesNumbers begin g → g.frame ≡ begin.frame
  frame_is g r = ap (λ (x : Grid). x.frame) r

  pass_is : (g : Grid) → ChangesNumbers begin g → g.pass ≡ begin.pass
  pass_is g r = ap (λ (x : Grid). x.pass) r

  -- what holds of the frame and of Pass
  carried : (P : Frame → List Bool → Type 0) (g : Grid) → ChangesNumbers begin g → P begin.frame begin.pass → P g.frame g.pass
  carried P g r h = subst (λ (x : Frame). P x g.pass) (sym (frame_is g r)) (subst (λ (x : List Bool). P begin.frame x) (sym (pass_is g r)) h)

  carried_back : (P : Frame → List Bool → Type 0) (g : Grid) → ChangesNumbers begin g → P g.frame g.pass → P begin.frame begin.pass
  carried_back P g r h = subst (λ (x : List Bool). P begin.frame x) (pass_is g r) (subst (λ (x : Frame). P x g.pass) (frame_is g r) h)

  pub at_start : (frame : Frame) (g : Grid) (walks : List (List Cell)) (n count : ℕ) → n ≡ 0 → walks ≡ [] → ChangesNumbers begin g → AreIslands taken (num g.works) count → frame ≡ g.frame → IsFrame frame
      → length g.works ≡ cells_of g.frame → IsAtPlace frame g walks n
  at_start frame g walks n count z e r q same valid len =
      subst (λ (m : ℕ). IsAtPlace frame g walks m) (sym z) (subst (λ (x : List (List Cell)). IsAtPlace frame g x 0) (sym e) (record {
        chaining = none_chained g.works count (len ∙ ap cells_of (frame_is g r)) q;
        rest = r;
        same_frame = same ∙ frame_is g r;
        valid = valid;
      }))

  pub in_grid : (frame : Frame) (g : Grid) (walks : List (List Cell)) (n : ℕ) (c : Cell) → IsAtPlace frame g walks n → InFrame frame c → InFrame g.frame c
  in_grid frame g walks n c q h = subst (λ (x : Frame). InFrame x c) (q.same_frame ∙ sym (frame_is g q.rest)) h

  its_number : (frame : Frame) (g : Grid) (walks : List (List Cell)) (n v : ℕ) (c : Cell) → IsAtPlace frame g walks n → InFrame frame c → v ≡ get_or g.works (place_of g.frame c) 0 → num g.works c ≡ v
  its_number frame g walks n v c q h e =
      number_inside begin.frame 0 g.works c (in_frame_true begin.frame c (subst (λ (x : Frame). InFrame x c) q.same_frame h)) ∙ sym (e ∙ ap (λ (x : Frame). get_or g.works (place_of x c) 0) (frame_is g q.rest))

  some_of : (n v : ℕ) → n ≡ v → v ≢ 0 → 0 < n
  some_of n v e ne = omega (arith, e, ne)

  pub start_at : (frame : Frame) (g : Grid) (walks : List (List Cell)) (n v : ℕ) (c : Cell) → IsAtPlace frame g walks n → InFrame frame c → place_of frame c ≡ n → v ≡ get_or g.works (place_of g.frame c) 0 → v ≢ 0
      → IsStartable (in_plane g.frame g.pass) g.frame g.works c
  start_at frame g walks n v c q h at_n e ne =
      carried (λ x y. IsStartable (in_plane x y) x g.works c) g q.rest
      (startable g.works walks n c q.chaining (subst (λ (x : Frame). InFrame x c) q.same_frame h) (ap (λ (x : Frame). place_of x c) (sym q.same_frame) ∙ at_n) (some_of _ v (its_number frame g walks n v c q h e) ne))

  -- only numbers and the queue change where only working labels do
  pub further : (g g' : Grid) → ChangesNumbers begin g → ChangesWorks g g' → ChangesNumbers begin g'
  further g g' r e =
      let z : ◌≡◌ {A = Grid} g' (record begin { works = g'.works; waiting = g.waiting; put = g.put }) = e ∙ ap (λ (x : Grid). record x { works = g'.works }) r in
      z ∙ ap2 (λ (w : List Cell) (p : ℕ). record begin { works = g'.works; waiting = w; put = p }) (sym (ap (λ (x : Grid). x.waiting) e)) (sym (ap (λ (x : Grid). x.put) e))
    where
      ap2 : {A B C : Type 0} (f : A → B → C) {a a' : A} {b b' : B} → a ≡ a' → b ≡ b' → f a b ≡ f a' b'
      ap2 f {a} {a'} {b} {b'} e k = ap (λ x. f x b) e ∙ ap (f a') k

  pub walk_at : (frame : Frame) (g g' : Grid) (walks walks' : List (List Cell)) (n n' v : ℕ) (c : Cell) (walk : List Cell) → IsAtPlace frame g walks n → InFrame frame c → place_of frame c ≡ n → n' ≡ n + 1
      → v ≡ get_or g.works (place_of g.frame c) 0 → v ≢ 0 → ChangesWorks g g' → IsWalk (in_plane g.frame g.pass) walk → IsShort (in_plane g.frame g.pass) walk → entry walk 0 ≡ c
      → IsWalked (in_plane g.frame g.pass) g.frame g.works g'.works c → walks' ≡ walks ++ walk ∷ [] → IsAtPlace frame g' walks' n'
  walk_at frame g g' walks walks' n n' v c walk q h at_n next e ne r w sh first wd more =
      subst (λ (m : ℕ). IsAtPlace frame g' walks' m) (sym next) (subst (λ (x : List (List Cell)). IsAtPlace frame g' x (n + 1)) (sym more) (record {
        chaining =
            next_chained g.works g'.works walks n c walk q.chaining (subst (λ (x : Frame). InFrame x c) q.same_frame h) (ap (λ (x : Frame). place_of x c) (sym q.same_frame) ∙ at_n)
            (some_of _ v (its_number frame g walks n v c q h e) ne)
            (carried_back (λ x y. IsWalk (in_plane x y) walk) g q.rest w) (carried_back (λ x y. IsShort (in_plane x y) walk) g q.rest sh) first
            (carried_back (λ x y. IsWalked (in_plane x y) x g.works g'.works c) g q.rest wd);
        rest = further g g' q.rest r;
        same_frame = q.same_frame;
        valid = q.valid;
      }))

  pub none_at : (frame : Frame) (g : Grid) (walks : List (List Cell)) (n n' v : ℕ) (c : Cell) → IsAtPlace frame g walks n → InFrame frame c → place_of frame c ≡ n → n' ≡ n + 1
      → v ≡ get_or g.works (place_of g.frame c) 0 → v ≡ 0 → IsAtPlace frame g walks n'
  none_at frame g walks n n' v c q h at_n next e z =
      subst (λ (m : ℕ). IsAtPlace frame g walks m) (sym next) (record {
        chaining = not_chained g.works walks n c q.chaining (subst (λ (x : Frame). InFrame x c) q.same_frame h) (ap (λ (x : Frame). place_of x c) (sym q.same_frame) ∙ at_n) (its_number frame g walks n v c q h e ∙ z);
        rest = q.rest;
        same_frame = q.same_frame;
        valid = q.valid;
      })

  pub at_same : (frame : Frame) (g g' : Grid) (walks walks' : Vec (List Cell) Global) (n : ℕ) → g' ≡ g → walks' ≡ walks → IsAtPlace frame g walks.items n → IsAtPlace frame g' walks'.items n
  at_same frame g g' walks walks' n a b q =
      subst (λ (x : Grid). IsAtPlace frame x walks'.items n) (sym a) (subst (λ (x : Vec (List Cell) Global). IsAtPlace frame g x.items n) (sym b) q)

  pub all_at : (frame : Frame) (g : Grid) (walks : List (List Cell)) (n : ℕ) → IsAtPlace frame g walks n → n ≡ cells_of frame → AreWalks taken walks
  all_at frame g walks n q e = all_chained g.works walks n q.chaining (let z : cells_of frame ≡ cells_of begin.frame = ap cells_of q.same_frame in omega (arith, e, z))
