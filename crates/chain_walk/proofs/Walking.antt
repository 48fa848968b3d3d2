-- What the walk of a component keeps: entries, the way back, and which cells are closed.
use Rattle.std.proofs.Common.{◌≡◌, ◌≢◌, ◌↔◌, ℕ, zero, suc, ◌+◌, ◌-◌, ◌*◌, ◌<◌, ◌≤◌, cond, Bool, true, List, [], ◌∷◌, ◌++◌, length, set, get_or, ◌⊎◌, inl, inr, sym, ap, subst, ◌∙◌, arith}
use Rattle.std.specs.Prelude.{nat_lt}
use Rattle.std.specs.List.{Contains}
use Rattle.std.proofs.lemmas.List.{length-set, length_push}
use Rattle.std.proofs.lemmas.List.Elements.{Contains-push, Contains-push_cases, Contains-append_left}
use Rattle.std.proofs.lemmas.List.Sums.{sum_by-set}
use Rattle.std.proofs.lemmas.Bool.{cases_eq, cases_lt, lt-ltb}
use Rattle.board_base.specs.declared.places.Cell.{Cell}
use Rattle.cell_grid.specs.declared.frames.Frame.{Frame}
use Rattle.cell_grid.specs.Place.{place_of, cells_of}
use Rattle.cell_grid.specs.Cells.{in_frame, number_in}
use Rattle.cell_sets.specs.Chains.{IsLinked, Chain}
use Rattle.cell_grid.proofs.PlaceLaws.{place_below}
use Rattle.cell_grid.proofs.CellsLaws.{in_frame_is}
use Rattle.islands.specs.Ways.{neighbour_of}
use Rattle.islands.proofs.Numbers.{number_inside, written_here, written_else, here_or_else}
use Rattle.cell_sets.proofs.Links.{IsFree, linked_trans, linked_self, linked_step, linked_end}
use Rattle.islands.proofs.Links.{beside_neighbour, neighbours}
use Rattle.chain_walk.proofs.Entries.{IsChild, AreOnce, once_push, among, among_back, goes, child, longer}
use Rattle.chain_walk.specs.Walk.{IsAmong, GoesOn, GoesBack, IsWalkFrom}
use Rattle.chain_walk.specs.Marks.{IsFirstOpen, AreClosed, IsStartable, IsWalked, open_count}

-- W has n entries, `depth` cells lead back from the last entry to the start by K, entry last - 1 is the last new one, and
-- `fresh` lists the cells that W has
pub record IsWalking (taken : Cell → Bool) (f : Frame) (old : List ℕ) (start : Cell) (works : List ℕ) (W : ℕ → Cell) (n : ℕ) (K : ℕ → Cell) (depth : ℕ) (at : Cell) (last : ℕ) : Type 0 where
  pub ready : IsStartable taken f old start
  pub len : length works ≡ cells_of f
  pub at_in : in_frame f at ≡ true
  pub some : 0 < n
  pub starts : W 0 ≡ start
  pub here : (k : ℕ) → k + 1 ≡ n → W k ≡ at
  pub steps : (k : ℕ) → k + 1 < n → GoesOn taken W k ⊎ GoesBack taken W k
  pub known : (c : Cell) → number_in f 0 works c ≡ 0 → (number_in f 0 old c ≡ 0) ⊎ IsAmong W last c
  pub seen : (i : ℕ) → i < n → number_in f 0 works (W i) ≡ 0
  pub stays : (c : Cell) → number_in f 0 old c ≡ 0 → number_in f 0 works c ≡ 0
  pub joined : (i : ℕ) → i < n → IsLinked taken start (W i)
  pub last_some : 0 < last
  pub last_in : last ≤ n
  pub last_new : (k : ℕ) → k + 1 ≡ last → IsAmong W k (W k) → ⊥
  pub deep : 0 < depth
  pub top : (p : ℕ) → p + 1 ≡ depth → K p ≡ at
  pub stack_in : (p : ℕ) → p < depth → in_frame f (K p) ≡ true
  pub stack : (p : ℕ) → p + 1 < depth → IsChild W n (K p) (K (p + 1))
  pub done : (i : ℕ) → i < n → ((p : ℕ) × ((p < depth) × (K p ≡ W i))) ⊎ AreClosed f works (W i) 8
  pub fresh : List Cell
  pub fresh_each : (c : Cell) → Contains fresh c ↔ IsAmong W last c
  pub fresh_once : AreOnce fresh
  pub fresh_count : n + depth ≡ 2 * length fresh

abbrev one : Bool → ℕ
one t = cond t 1 0

one_above : (n : ℕ) → 0 < n → one (nat_lt 0 n) ≡ 1
one_above n h = ap one (lt-ltb 0 n h)

-- one cell fewer is open
pub count_closed : (f : Frame) (works : List ℕ) (b : Cell) → length works ≡ cells_of f → in_frame f b ≡ true → 0 < number_in f 0 works b → open_count (set works (place_of f b) 0) + 1 ≡ open_count works
count_closed f works b len inside open_there =
    let b_in : place_of f b < length works = (let l = place_below f b (in_frame_is f b inside) in omega (arith, l, len)) in
    let all = sum_by-set (λ (x : ℕ). one (nat_lt 0 x)) works (place_of f b) 0 0 b_in in
    let some : 0 < get_or works (place_of f b) 0 = omega (arith, open_there, number_inside f 0 works b inside) in
    let was : one (nat_lt 0 (get_or works (place_of f b) 0)) ≡ 1 = one_above (get_or works (place_of f b) 0) some in
    omega (arith, all, was)

module _ (taken : Cell → Bool) (f : Frame) (old : List ℕ) (start : Cell) where
  abbrev Walking : List ℕ → (ℕ → Cell) → ℕ → (ℕ → Cell) → ℕ → Cell → ℕ → Type 0
  Walking works W n K depth at last = IsWalking taken f old start works W n K depth at last

  -- a taken neighbour of a cell of the component is in the component
  beyond : (c : Cell) (way : ℕ) → IsLinked taken start c → taken (neighbour_of c way) ≡ true → IsLinked taken start (neighbour_of c way)
  beyond c way j t = linked_trans (IsFree taken) start c (neighbour_of c way) j (linked_step (IsFree taken) c (neighbour_of c way) (linked_end (IsFree taken) start c j) (beside_neighbour c way) t)

  -- a closed cell of the component stands in the walk
  closed_among : (works : List ℕ) (W : ℕ → Cell) (n : ℕ) (K : ℕ → Cell) (depth : ℕ) (at : Cell) (last : ℕ) (c : Cell) → Walking works W n K depth at last → IsLinked taken start c → number_in f 0 works c ≡ 0 → IsAmong W last c
  closed_among works W n K depth at last c p j z =
      elim (p.known c z) as (λ _. IsAmong W last c) [ inl o ↦ absurd (omega (arith, o, p.ready.opened c j)) | inr m ↦ m ]

  -- an open cell is taken
  open_is_taken : (works : List ℕ) (W : ℕ → Cell) (n : ℕ) (K : ℕ → Cell) (depth : ℕ) (at : Cell) (last : ℕ) (c : Cell) → Walking works W n K depth at last → 0 < number_in f 0 works c → taken c ≡ true
  open_is_taken works W n K depth at last c p o =
      elim (cases_lt 0 (number_in f 0 old c)) as (λ _. taken c ≡ true) [
        | inl some ↦ p.ready.open_taken c some
        | inr none ↦ (let z : number_in f 0 old c ≡ 0 = omega (arith, none) in absurd (omega (arith, o, p.stays c z)))
      ]

  pub walk_begun : (works : List ℕ) (W K : ℕ → Cell) → IsStartable taken f old start → works ≡ set old (place_of f start) 0 → W 0 ≡ start → K 0 ≡ start → Walking works W 1 K 1 start 1
  walk_begun works W K r e y g =
      let self : IsLinked taken start start = linked_self (IsFree taken) start r.begins.taken_there in
      let own : number_in f 0 works start ≡ 0 = ap (λ (x : List ℕ). number_in f 0 x start) e ∙ written_here f 0 old start 0 r.inside r.len in
      let others : (c : Cell) → c ≢ start → number_in f 0 works c ≡ number_in f 0 old c = λ c ne. ap (λ (x : List ℕ). number_in f 0 x c) e ∙ written_else f 0 old start 0 r.inside r.len c ne in
      let at_zero : (i : ℕ) → i < 1 → W i ≡ start = λ i l. (let z : i ≡ 0 = omega arith in ap W z ∙ y) in
      let k_zero : (i : ℕ) → i < 1 → K i ≡ start = λ i l. (let z : i ≡ 0 = omega arith in ap K z ∙ g) in
      record {
        ready = r;
        len = ap length e ∙ simp length-set r.len;
        at_in = r.inside;
        some = omega arith;
        starts = y;
        here = λ k z. at_zero k (omega arith);
        steps = λ k l. absurd (omega (arith, l));
        known = λ c z. elim (here_or_else f 0 old start 0 r.inside r.len c) as (λ _. (number_in f 0 old c ≡ 0) ⊎ IsAmong W 1 c) [
          | inl s ↦ inr (record { at = 0; early = omega arith; is = y ∙ sym s })
          | inr ne ↦ inl (sym (others c ne) ∙ z)
        ];
        seen = λ i l. ap (number_in f 0 works) (at_zero i l) ∙ own;
        stays = λ c o. elim (here_or_else f 0 old start 0 r.inside r.len c) as (λ _. number_in f 0 works c ≡ 0) [ inl s ↦ ap (number_in f 0 works) s ∙ own | inr ne ↦ others c ne ∙ o ];
        joined = λ i l. subst (IsLinked taken start) (sym (at_zero i l)) self;
        last_some = omega arith;
        last_in = omega arith;
        last_new = λ k z m. omega (arith, m.early, z);
        deep = omega arith;
        top = λ p z. k_zero p (omega arith);
        stack_in = λ p l. ap (in_frame f) (k_zero p l) ∙ r.inside;
        stack = λ p l. absurd (omega (arith, l));
        done = λ i l. inl (0, (omega arith, g ∙ sym (at_zero i l)));
        fresh = start ∷ [];
        fresh_each = λ c. (
          (λ m. record { at = 0; early = omega arith; is = y ∙ only c m }),
          (λ m. (0, omega arith, sym (at_zero m.at m.early) ∙ m.is)),
        );
        fresh_once = λ i j l k. absurd (omega (arith, l, k));
        fresh_count = omega arith;
      }
    where
      only : (c : Cell) → Contains (start ∷ []) c → start ≡ c
      only c (zero, l, e) = e
      only c (suc k, l, e) = absurd (omega (arith, l))

  -- the walk goes on to a new cell
  pub went_on : (works works' : List ℕ) (W W' : ℕ → Cell) (n : ℕ) (K K' : ℕ → Cell) (depth : ℕ) (at : Cell) (last : ℕ) (b : Cell) → Walking works W n K depth at last → IsFirstOpen f works at b
      → works' ≡ set works (place_of f b) 0 → ((i : ℕ) → i < n → W' i ≡ W i) → W' n ≡ b → ((i : ℕ) → i < depth → K' i ≡ K i) → K' depth ≡ b
      → Walking works' W' (n + 1) K' (depth + 1) b (n + 1)
  went_on works works' W W' n K K' depth at last b p q e same new ksame knew =
      let own : number_in f 0 works' b ≡ 0 = ap (λ (x : List ℕ). number_in f 0 x b) e ∙ written_here f 0 works b 0 q.inside p.len in
      let others : (c : Cell) → c ≢ b → number_in f 0 works' c ≡ number_in f 0 works c = λ c ne. ap (λ (x : List ℕ). number_in f 0 x c) e ∙ written_else f 0 works b 0 q.inside p.len c ne in
      let either : (c : Cell) → (c ≡ b) ⊎ (c ≢ b) = here_or_else f 0 works b 0 q.inside p.len in
      let keeps : (c : Cell) → number_in f 0 works c ≡ 0 → number_in f 0 works' c ≡ 0 = λ c z. elim (either c) as (λ _. number_in f 0 works' c ≡ 0) [ inl s ↦ ap (number_in f 0 works') s ∙ own | inr ne ↦ others c ne ∙ z ] in
      let fresh_b : (k : ℕ) → k ≤ n → IsAmong W' k b → ⊥ = λ k l m. (
      let early : m.at < n = omega (arith, m.early, l) in
      let z : number_in f 0 works b ≡ 0 = ap (number_in f 0 works) (sym (sym (same m.at early) ∙ m.is)) ∙ p.seen m.at early in
      omega (arith, z, q.open_there)) in
      let prev : (k : ℕ) → k + 1 ≡ n → W' k ≡ at = λ k z. same k (omega arith) ∙ p.here k z in
      record {
        ready = p.ready;
        len = ap length e ∙ simp length-set p.len;
        at_in = q.inside;
        some = omega arith;
        starts = same 0 p.some ∙ p.starts;
        here = λ k z. (let y : k ≡ n = omega arith in ap W' y ∙ new);
        steps = λ k l. elim (cases_eq (k + 1) n) as (λ _. GoesOn taken W' k ⊎ GoesBack taken W' k) [
          | inl z ↦ inl (on_step k z)
          | inr ne ↦ goes W W' n same taken k (omega arith) (p.steps k (omega arith))
        ];
        known = λ c z. elim (either c) as (λ _. (number_in f 0 old c ≡ 0) ⊎ IsAmong W' (n + 1) c) [
          | inl s ↦ inr (record { at = n; early = omega arith; is = new ∙ sym s })
          | inr ne ↦ elim (p.known c (sym (others c ne) ∙ z)) as (λ _. (number_in f 0 old c ≡ 0) ⊎ IsAmong W' (n + 1) c) [
            | inl o ↦ inl o
            | inr m ↦ inr (longer W' last (n + 1) c (omega (arith, p.last_in)) (among W W' n same last c p.last_in m))
          ]
        ];
        seen = λ i l. elim (cases_eq i n) as (λ _. number_in f 0 works' (W' i) ≡ 0) [
          | inl z ↦ ap (number_in f 0 works') (ap W' z ∙ new) ∙ own
          | inr ne ↦ (let lt : i < n = omega arith in ap (number_in f 0 works') (same i lt) ∙ keeps (W i) (p.seen i lt))
        ];
        stays = λ c o. keeps c (p.stays c o);
        joined = λ i l. elim (cases_eq i n) as (λ _. IsLinked taken start (W' i)) [
          | inl z ↦ subst (IsLinked taken start) (sym (ap W' z ∙ new)) joined_b
          | inr ne ↦ (let lt : i < n = omega arith in subst (IsLinked taken start) (sym (same i lt)) (p.joined i lt))
        ];
        last_some = omega arith;
        last_in = omega arith;
        last_new = λ k z m. (let y : k ≡ n = omega arith in fresh_b k (omega (arith, y)) (subst (λ (x : Cell). IsAmong W' k x) (ap W' y ∙ new) m));
        deep = omega arith;
        top = λ t z. (let y : t ≡ depth = omega arith in ap K' y ∙ knew);
        stack_in = λ t l. elim (cases_eq t depth) as (λ _. in_frame f (K' t) ≡ true) [
          | inl z ↦ ap (in_frame f) (ap K' z ∙ knew) ∙ q.inside
          | inr ne ↦ (let lt : t < depth = omega arith in ap (in_frame f) (ksame t lt) ∙ p.stack_in t lt)
        ];
        stack = λ t l. elim (cases_eq (t + 1) depth) as (λ _. IsChild W' (n + 1) (K' t) (K' (t + 1))) [
          | inl z ↦ (
              let lt : n - 1 + 1 ≡ n = omega (arith, p.some) in
              record {
                from = n - 1;
                early = omega (arith, lt);
                parent = prev (n - 1) lt ∙ sym (ksame t (omega (arith, z)) ∙ p.top t z);
                child = ap W' lt ∙ new ∙ sym (ap K' z ∙ knew);
                first = λ m. fresh_b (n - 1 + 1) (omega (arith, lt)) (subst (λ (x : Cell). IsAmong W' (n - 1 + 1) x) (ap K' z ∙ knew) m);
              })
          | inr ne ↦ (
              let lt : t + 1 < depth = omega arith in
              subst (λ (x : Cell). IsChild W' (n + 1) x (K' (t + 1))) (sym (ksame t (omega (arith, lt))))
              (subst (λ (x : Cell). IsChild W' (n + 1) (K t) x) (sym (ksame (t + 1) lt)) (child W W' n same (K t) (K (t + 1)) (p.stack t lt))))
        ];
        done = λ i l. elim (cases_eq i n) as (λ _. ((t : ℕ) × ((t < depth + 1) × (K' t ≡ W' i))) ⊎ AreClosed f works' (W' i) 8) [
          | inl z ↦ inl (depth, (omega arith, knew ∙ sym (ap W' z ∙ new)))
          | inr ne ↦ (
              let lt : i < n = omega arith in
              elim (p.done i lt) as (λ _. ((t : ℕ) × ((t < depth + 1) × (K' t ≡ W' i))) ⊎ AreClosed f works' (W' i) 8) [
                | inl t ↦ inl (t.0, (omega (arith, t.1.0), ksame t.0 t.1.0 ∙ t.1.1 ∙ sym (same i lt)))
                | inr d ↦ inr (λ way way_in. keeps (neighbour_of (W' i) way) (subst (λ (x : Cell). number_in f 0 works (neighbour_of x way) ≡ 0) (sym (same i lt)) (d way way_in)))
              ])
        ];
        fresh = p.fresh ++ b ∷ [];
        fresh_each = λ c. (
          (λ m. elim (Contains-push_cases p.fresh b c m) as (λ _. IsAmong W' (n + 1) c) [
            | inl was ↦ longer W' last (n + 1) c (omega (arith, p.last_in)) (among W W' n same last c p.last_in ((p.fresh_each c).0 was))
            | inr here ↦ record { at = n; early = omega arith; is = new ∙ here }
          ]),
          (λ m. elim (cases_eq m.at n) as (λ _. Contains (p.fresh ++ b ∷ []) c) [
            | inl z ↦ subst (Contains (p.fresh ++ b ∷ [])) (sym (ap W' z ∙ new) ∙ m.is) (Contains-push p.fresh b)
            | inr ne ↦ (
                let lt : m.at < n = omega (arith, m.early, ne) in
                let is : W m.at ≡ c = sym (same m.at lt) ∙ m.is in
                Contains-append_left p.fresh (b ∷ []) c ((p.fresh_each c).1 (subst (IsAmong W last) is (closed_among works W n K depth at last (W m.at) p (p.joined m.at lt) (p.seen m.at lt)))))
          ]),
        );
        fresh_once = once_push p.fresh b p.fresh_once (λ m. fresh_b last p.last_in (among W W' n same last b p.last_in ((p.fresh_each b).0 m)));
        fresh_count = omega (arith, p.fresh_count, length_push p.fresh b);
      }
    where
      joined_at : IsLinked taken start at
      joined_at = let z : n - 1 + 1 ≡ n = omega (arith, p.some) in subst (IsLinked taken start) (p.here (n - 1) z) (p.joined (n - 1) (omega (arith, z)))

      taken_b : taken b ≡ true
      taken_b = open_is_taken works W n K depth at last b p q.open_there

      joined_b : IsLinked taken start b
      joined_b = subst (IsLinked taken start) (sym q.is) (beyond at q.way joined_at (ap taken (sym q.is) ∙ taken_b))

      on_step : (k : ℕ) → k + 1 ≡ n → GoesOn taken W' k
      on_step k z =
          let at_k : W' k ≡ at = same k (omega (arith, z)) ∙ p.here k z in
          let next : W' (k + 1) ≡ b = ap W' z ∙ new in
          record {
            way = q.way;
            way_in = q.way_in;
            step = next ∙ q.is ∙ ap (λ (x : Cell). neighbour_of x q.way) (sym at_k);
            taken_there = ap taken next ∙ taken_b;
            new = λ m. (
                let early : m.at < n = omega (arith, m.early, z) in
                let y : number_in f 0 works b ≡ 0 = ap (number_in f 0 works) (sym (sym (same m.at early) ∙ m.is ∙ next)) ∙ p.seen m.at early in
                omega (arith, y, q.open_there));
            first = λ other less t. (
                let t_at : taken (neighbour_of at other) ≡ true = subst (λ (x : Cell). taken (neighbour_of x other) ≡ true) at_k t in
                let m = closed_among works W n K depth at last (neighbour_of at other) p (beyond at other joined_at t_at) (q.first other less) in
                subst (λ (x : Cell). IsAmong W' (k + 1) (neighbour_of x other)) (sym at_k)
                (longer W' last (k + 1) (neighbour_of at other) (omega (arith, p.last_in, z)) (among W W' n same last (neighbour_of at other) p.last_in m)));
          }

  -- the walk steps back
  pub came_back : (works : List ℕ) (W W' : ℕ → Cell) (n : ℕ) (K K' : ℕ → Cell) (depth : ℕ) (at : Cell) (last : ℕ) → Walking works W n K (depth + 2) at last → AreClosed f works at 8
      → ((i : ℕ) → i < n → W' i ≡ W i) → W' n ≡ K depth → ((i : ℕ) → i < depth + 1 → K' i ≡ K i)
      → Walking works W' (n + 1) K' (depth + 1) (K depth) last
  came_back works W W' n K K' depth at last p q same new ksame =
      let g = p.stack depth (omega arith) in
      let top : K (depth + 1) ≡ at = p.top (depth + 1) (omega arith) in
      record {
        ready = p.ready;
        len = p.len;
        at_in = p.stack_in depth (omega arith);
        some = omega arith;
        starts = same 0 p.some ∙ p.starts;
        here = λ k z. (let y : k ≡ n = omega arith in ap W' y ∙ new);
        steps = λ k l. elim (cases_eq (k + 1) n) as (λ _. GoesOn taken W' k ⊎ GoesBack taken W' k) [
          | inl z ↦ inr (back_step k z)
          | inr ne ↦ goes W W' n same taken k (omega arith) (p.steps k (omega arith))
        ];
        known = λ c z. elim (p.known c z) as (λ _. (number_in f 0 old c ≡ 0) ⊎ IsAmong W' last c) [ inl o ↦ inl o | inr m ↦ inr (among W W' n same last c p.last_in m) ];
        seen = λ i l. elim (cases_eq i n) as (λ _. number_in f 0 works (W' i) ≡ 0) [
          | inl z ↦ ap (number_in f 0 works) (ap W' z ∙ new ∙ sym g.parent) ∙ p.seen g.from (omega (arith, g.early))
          | inr ne ↦ (let lt : i < n = omega arith in ap (number_in f 0 works) (same i lt) ∙ p.seen i lt)
        ];
        stays = p.stays;
        joined = λ i l. elim (cases_eq i n) as (λ _. IsLinked taken start (W' i)) [
          | inl z ↦ subst (IsLinked taken start) (sym (ap W' z ∙ new ∙ sym g.parent)) (p.joined g.from (omega (arith, g.early)))
          | inr ne ↦ (let lt : i < n = omega arith in subst (IsLinked taken start) (sym (same i lt)) (p.joined i lt))
        ];
        last_some = p.last_some;
        last_in = omega (arith, p.last_in);
        last_new = λ k z m. (
            let k_in : k < n = omega (arith, z, p.last_in) in
            p.last_new k z (subst (λ (x : Cell). IsAmong W k x) (same k k_in) (among_back W W' n same k (W' k) (omega (arith, k_in)) m)));
        deep = omega arith;
        top = λ t z. (let y : t ≡ depth = omega arith in ksame t (omega (arith, y)) ∙ ap K y);
        stack_in = λ t l. ap (in_frame f) (ksame t l) ∙ p.stack_in t (omega (arith, l));
        stack = λ t l.
            subst (λ (x : Cell). IsChild W' (n + 1) x (K' (t + 1))) (sym (ksame t (omega (arith, l))))
            (subst (λ (x : Cell). IsChild W' (n + 1) (K t) x) (sym (ksame (t + 1) l)) (child W W' n same (K t) (K (t + 1)) (p.stack t (omega (arith, l)))));
        done = λ i l. elim (cases_eq i n) as (λ _. ((t : ℕ) × ((t < depth + 1) × (K' t ≡ W' i))) ⊎ AreClosed f works (W' i) 8) [
          | inl z ↦ inl (depth, (omega arith, ksame depth (omega arith) ∙ sym (ap W' z ∙ new)))
          | inr ne ↦ (
              let lt : i < n = omega arith in
              elim (p.done i lt) as (λ _. ((t : ℕ) × ((t < depth + 1) × (K' t ≡ W' i))) ⊎ AreClosed f works (W' i) 8) [
                | inl t ↦ elim (cases_eq t.0 (depth + 1)) as (λ _. ((t : ℕ) × ((t < depth + 1) × (K' t ≡ W' i))) ⊎ AreClosed f works (W' i) 8) [
                  | inl z ↦ inr (subst (λ (x : Cell). AreClosed f works x 8) (sym (same i lt ∙ sym t.1.1 ∙ ap K z ∙ top)) q)
                  | inr other ↦ (let less : t.0 < depth + 1 = omega (arith, t.1.0, other) in inl (t.0, (less, ksame t.0 less ∙ t.1.1 ∙ sym (same i lt))))
                ]
                | inr d ↦ inr (subst (λ (x : Cell). AreClosed f works x 8) (sym (same i lt)) d)
              ])
        ];
        fresh = p.fresh;
        fresh_each = λ c. ((λ m. among W W' n same last c p.last_in ((p.fresh_each c).0 m)), (λ m. (p.fresh_each c).1 (among_back W W' n same last c p.last_in m)));
        fresh_once = p.fresh_once;
        fresh_count = omega (arith, p.fresh_count);
      }
    where
      joined_at : IsLinked taken start at
      joined_at = let z : n - 1 + 1 ≡ n = omega (arith, p.some) in subst (IsLinked taken start) (p.here (n - 1) z) (p.joined (n - 1) (omega (arith, z)))

      back_step : (k : ℕ) → k + 1 ≡ n → GoesBack taken W' k
      back_step k z =
          let g = p.stack depth (omega arith) in
          let top : K (depth + 1) ≡ at = p.top (depth + 1) (omega arith) in
          let at_k : W' k ≡ at = same k (omega (arith, z)) ∙ p.here k z in
          record {
            none = λ way way_in t. (
                let t_at : taken (neighbour_of at way) ≡ true = subst (λ (x : Cell). taken (neighbour_of x way) ≡ true) at_k t in
                let m = closed_among works W n K (depth + 2) at last (neighbour_of at way) p (beyond at way joined_at t_at) (q way way_in) in
                subst (λ (x : Cell). IsAmong W' (k + 1) (neighbour_of x way)) (sym at_k)
                (longer W' last (k + 1) (neighbour_of at way) (omega (arith, p.last_in, z)) (among W W' n same last (neighbour_of at way) p.last_in m)));
            from = g.from;
            early = omega (arith, g.early, z);
            occurs = same (g.from + 1) g.early ∙ g.child ∙ top ∙ sym at_k;
            first = λ m. g.first (subst (λ (x : Cell). IsAmong W (g.from + 1) x) (at_k ∙ sym top) (among_back W W' n same (g.from + 1) (W' k) (omega (arith, g.early)) m));
            back = ap W' z ∙ new ∙ sym (same g.from (omega (arith, g.early)) ∙ g.parent);
          }

  -- the walk is back at its start, and no neighbour there is open
  module _ (works : List ℕ) (W : ℕ → Cell) (n : ℕ) (K : ℕ → Cell) (at : Cell) (last : ℕ) (p : Walking works W n K 1 at last) (q : AreClosed f works at 8) where
    closed : (i : ℕ) → i < n → AreClosed f works (W i) 8
    closed i l =
        elim (p.done i l) as (λ _. AreClosed f works (W i) 8) [
          | inl t ↦ (let z : t.0 + 1 ≡ 1 = omega (arith, t.1.0) in subst (λ (x : Cell). AreClosed f works x 8) (sym (sym t.1.1 ∙ p.top t.0 z)) q)
          | inr d ↦ d
        ]

    first_entry : IsAmong W last start
    first_entry = record { at = 0; early = p.last_some; is = p.starts }

    found : (c : Cell) (k : ℕ) → Chain (λ b. taken b ≡ true) start c k → IsAmong W last c
    found c zero h = subst (IsAmong W last) h.0 first_entry
    found c (suc k) h =
        let m = found h.0 k h.1.0 in
        elim (neighbours h.0 c h.1.1) as (λ _. IsAmong W last c) [
          | inl same ↦ subst (IsAmong W last) same m
          | inr b ↦ (
              let i_in : m.at < n = omega (arith, m.early, p.last_in) in
              let z : number_in f 0 works (neighbour_of (W m.at) b.way) ≡ 0 = closed m.at i_in b.way b.way_in in
              let is : neighbour_of (W m.at) b.way ≡ c = ap (λ (x : Cell). neighbour_of x b.way) m.is ∙ sym b.is in
              closed_among works W n K 1 at last c p (record { steps = suc k; chain = h }) (ap (number_in f 0 works) (sym is) ∙ z))
        ]

    pub walk_ended : (W' : ℕ → Cell) → ((i : ℕ) → i < last → W' i ≡ W i) → IsWalkFrom taken start W' last
    walk_ended W' same = record {
      some = p.last_some;
      starts = same 0 p.last_some ∙ p.starts;
      steps = λ k l. goes W W' last same taken k l (p.steps k (omega (arith, l, p.last_in)));
      all = λ c j. among W W' last same last c (omega arith) (found c j.steps j.chain);
      last = λ k z m. (let lt : k < last = omega (arith, z) in p.last_new k z (subst (λ (x : Cell). IsAmong W k x) (same k lt) (among_back W W' last same k (W' k) (omega (arith, lt)) m)));
    }

    pub walk_closed : IsWalked taken f old works start
    walk_closed = record {
      len = p.len;
      component = λ c j. (let m = found c j.steps j.chain in ap (number_in f 0 works) (sym m.is) ∙ p.seen m.at (omega (arith, m.early, p.last_in)));
      others = λ c z. elim (p.known c z) as (λ _. (number_in f 0 old c ≡ 0) ⊎ IsLinked taken start c) [
        | inl o ↦ inl o
        | inr m ↦ inr (subst (IsLinked taken start) m.is (p.joined m.at (omega (arith, m.early, p.last_in))))
      ];
      stays = p.stays;
    }

    pub fresh_own : (c : Cell) → Contains p.fresh c ↔ IsLinked taken start c
    fresh_own c = (
      (λ m. (let a = (p.fresh_each c).0 m in subst (IsLinked taken start) a.is (p.joined a.at (omega (arith, a.early, p.last_in))))),
      (λ j. (p.fresh_each c).1 (found c j.steps j.chain)),
    )

    pub short : last + 1 ≤ 2 * length p.fresh
    short = omega (arith, p.fresh_count, p.last_in)
