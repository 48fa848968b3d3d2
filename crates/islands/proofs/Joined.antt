-- One more cell is joined.
use Rattle.std.proofs.Common.{◌≡◌, ◌≢◌, ℕ, suc, ℤ, pos, ◌+◌, ◌<◌, ◌+ℤ◌, Bool, true, false, List, length, set, get_or, ◌⊎◌, inl, inr, refl, sym, ap, subst, ◌∙◌, arith, get_or-set_same, get_or-set_other}
use Rattle.std.proofs.lemmas.Bool.{false≢true}
use borrow.Author.Differences.{ints}
use Rattle.number_laws.proofs.Tests.{by_bool}
use Rattle.board_base.specs.declared.places.Cell.{Cell}
use Rattle.board_base.specs.Lattice.{IsBeside}
use Rattle.cell_grid.specs.declared.frames.Frame.{Frame}
use Rattle.cell_grid.specs.Place.{place_of, cells_of}
use Rattle.cell_grid.specs.Cells.{in_frame, IsOnBorder}
use Rattle.cell_sets.specs.Chains.{IsLinked, IsBefore}
use Rattle.cell_grid.proofs.PlaceLaws.{place_below, place_same}
use Rattle.cell_grid.proofs.CellsLaws.{in_frame_is, before}
use Rattle.islands.specs.Forests.{nodes, node_of, IsForest, IsForested, IsDone, IsJoined, IsJoining}
use Rattle.std.proofs.lemmas.Int.{by_lt_z}
use Rattle.cell_sets.proofs.CellLaws.{cell}
use Rattle.cell_sets.proofs.CellLaws.{beside_sym}
use Rattle.cell_sets.proofs.Links.{IsFree, linked_self, linked_sym, linked_trans, linked_step}
use Rattle.islands.proofs.Links.{neighbours}
use Rattle.islands.proofs.Borders.{border_of}
use Rattle.islands.proofs.ForestLaws.{by_eq, with_root, with_here, with_else, begun_alone, begun_under}
use Rattle.islands.proofs.JoinLaws.{node_inside, node_outside, points_inside, done_of}

-- the node of a cell of the frame stands for it
pub node_same : (f : Frame) (a c : Cell) → in_frame f c ≡ true → node_of f a ≡ node_of f c → a ≡ c
node_same f a c i e =
    by_bool (in_frame f a)
    (λ j. place_same f a c (in_frame_is f a j) (in_frame_is f c i) (omega (arith, node_inside f a j, node_inside f c i, e)))
    (λ o. absurd (omega (arith, node_outside f a o, node_inside f c i, e)))

pub later_done : (f : Frame) (taken : Cell → Bool) (n : ℕ) (a : Cell) → IsDone f taken n a → IsDone f taken (n + 1) a
later_done f taken n a d = record { taken_there = d.taken_there; before = let l = d.before in omega (arith, l) }

module _ (f : Frame) (taken : Cell → Bool) (c : Cell) (i : in_frame f c ≡ true) where
  pub split_done : (a : Cell) → IsDone f taken (place_of f c + 1) a → (a ≡ c) ⊎ IsDone f taken (place_of f c) a
  split_done a d =
      by_eq ((a ≡ c) ⊎ IsDone f taken (place_of f c) a) (node_of f a) (node_of f c)
      (λ e. inl (node_same f a c i e))
      (λ ne. inr (record { taken_there = d.taken_there; before = let l = d.before in omega (arith, l, ne, node_inside f c i) }))

  pub earlier : (a : Cell) → IsDone f taken (place_of f c) a → node_of f a < node_of f c
  earlier a d = let l = d.before in omega (arith, l, node_inside f c i)

  pub other : (a : Cell) → IsDone f taken (place_of f c) a → node_of f a ≢ node_of f c
  other a d e = let l = earlier a d in omega (arith, l, e)

  pub own_done : taken c ≡ true → IsDone f taken (place_of f c + 1) c
  own_done k = record { taken_there = k; before = omega (arith, node_inside f c i) }

  -- a cell that isn't taken is passed
  pub passed_by : (outer : ℕ) (works : List ℕ) → taken c ≡ false → IsJoined f taken outer works (place_of f c) → IsJoined f taken outer works (place_of f c + 1)
  passed_by outer works free p =
      let old : (a : Cell) → IsDone f taken (place_of f c + 1) a → IsDone f taken (place_of f c) a = λ a d.
      elim (split_done a d) as (λ _. IsDone f taken (place_of f c) a) [ inl e ↦ absurd (false≢true (sym free ∙ ap taken (sym e) ∙ d.taken_there)) | inr k ↦ k ] in
      record {
        root = p.root;
        forest = p.forest;
        clear = λ a none. p.clear a (λ d. none (later_done f taken (place_of f c) a d));
        some = λ a d. p.some a (old a d);
        same = λ a b da db e. p.same a b (old a da) (old b db) e;
        whole = λ a b da db s. p.whole a b (old a da) (old b db) s;
      }

  -- a cell that is joined in all ways is joined
  pub joined_all : (outer : ℕ) (works : List ℕ) → taken c ≡ true → IsJoining f taken outer works c 8 → IsJoined f taken outer works (place_of f c + 1)
  joined_all outer works k p =
      let c_ok = own_done k in
      let to : (b : Cell) → IsDone f taken (place_of f c + 1) b → IsBeside c b → p.root (node_of f c) ≡ p.root (node_of f b) = λ b d s.
      elim (neighbours c b s) as (λ _. p.root (node_of f c) ≡ p.root (node_of f b)) [
        | inl e ↦ ap (λ (x : Cell). p.root (node_of f x)) e
        | inr w ↦
            let points = p.some b d in
            p.met w.way w.way_in (subst (λ (x : Cell). 0 < get_or (nodes outer works) (node_of f x) 0) w.is points) ∙ ap (λ (x : Cell). p.root (node_of f x)) (sym w.is)
      ] in
      record {
        root = p.root;
        forest = p.forest;
        clear = p.clear;
        some = p.some;
        same = p.same;
        whole = λ a b da db s. elim (split_done a da) as (λ _. p.root (node_of f a) ≡ p.root (node_of f b)) [
          | inl e ↦ ap (λ (x : Cell). p.root (node_of f x)) e ∙ to b db (subst (λ (x : Cell). IsBeside x b) e s)
          | inr ka ↦ elim (split_done b db) as (λ _. p.root (node_of f a) ≡ p.root (node_of f b)) [
            | inl e ↦ sym (to a da (beside_sym a c (subst (λ (x : Cell). IsBeside a x) e s))) ∙ ap (λ (x : Cell). p.root (node_of f x)) (sym e)
            | inr kb ↦ p.whole a b ka kb s
          ]
        ];
      }

  module _ (outer : ℕ) (works : List ℕ) (len : length works ≡ cells_of f) where
    node_below : node_of f c < length (nodes outer works)
    node_below = let l = place_below f c (in_frame_is f c i) in omega (arith, l, len, node_inside f c i)

    pub nodes_now : (v : ℕ) → nodes outer (set works (place_of f c) v) ≡ set (nodes outer works) (node_of f c) v
    nodes_now v = ap (λ (m : ℕ). set (nodes outer works) m v) (suc_is (place_of f c) (node_of f c) (node_inside f c i))
      where
        suc_is : (k m : ℕ) → m ≡ k + 2 → suc (suc k) ≡ m
        suc_is k m e = omega (arith, e)

    pub node_free : get_or works (place_of f c) 0 ≡ 0 → get_or (nodes outer works) (node_of f c) 0 ≡ 0
    node_free z = points_inside f outer works c i ∙ z

    -- the nodes lead to roots once the cell points to itself
    pub alone_forested : IsForested (nodes outer works) → get_or works (place_of f c) 0 ≡ 0 → IsForested (nodes outer (set works (place_of f c) (node_of f c)))
    alone_forested p z =
        subst IsForested (sym (nodes_now (node_of f c))) (record {
          root = with_root p.root (node_of f c) (node_of f c);
          forest = begun_alone (nodes outer works) (node_of f c) (node_of f c) p.root p.forest node_below (node_free z) (omega (arith, node_inside f c i)) refl;
        })

    pub alone_points : 0 < get_or (nodes outer (set works (place_of f c) (node_of f c))) (node_of f c) 0
    alone_points =
        subst (λ (xs : List ℕ). 0 < get_or xs (node_of f c) 0) (sym (nodes_now (node_of f c))) (omega (arith, get_or-set_same (nodes outer works) (node_of f c) (node_of f c) 0 node_below, node_inside f c i))

    module _ (k : taken c ≡ true) (p : IsJoined f taken outer works (place_of f c)) (v r : ℕ) (some : 0 < v)
        (forest : IsForest (set (nodes outer works) (node_of f c) v) (with_root p.root (node_of f c) r)) where
      now_here : get_or (set (nodes outer works) (node_of f c) v) (node_of f c) 0 ≡ v
      now_here = get_or-set_same (nodes outer works) (node_of f c) v 0 node_below

      now_else : (a : Cell) → node_of f a ≢ node_of f c → get_or (set (nodes outer works) (node_of f c) v) (node_of f a) 0 ≡ get_or (nodes outer works) (node_of f a) 0
      now_else a ne = get_or-set_other (nodes outer works) (node_of f c) (node_of f a) v 0 ne

      root_else : (a : Cell) → IsDone f taken (place_of f c) a → with_root p.root (node_of f c) r (node_of f a) ≡ p.root (node_of f a)
      root_else a d = with_else p.root (node_of f c) r (node_of f a) (other a d)

      pub root_here : with_root p.root (node_of f c) r (node_of f c) ≡ r
      root_here = with_here p.root (node_of f c) r (node_of f c) refl

      pub still_clear : (a : Cell) → (IsDone f taken (place_of f c + 1) a → ⊥) → get_or (set (nodes outer works) (node_of f c) v) (node_of f a) 0 ≡ 0
      still_clear a none =
          let ne : node_of f a ≢ node_of f c = λ e. none (subst (IsDone f taken (place_of f c + 1)) (sym (node_same f a c i e)) (own_done k)) in
          now_else a ne ∙ p.clear a (λ d. none (later_done f taken (place_of f c) a d))

      pub still_some : (a : Cell) → IsDone f taken (place_of f c + 1) a → 0 < get_or (set (nodes outer works) (node_of f c) v) (node_of f a) 0
      still_some a d = elim (split_done a d) as (λ _. 0 < get_or (set (nodes outer works) (node_of f c) v) (node_of f a) 0) [
        | inl e ↦ subst (λ (x : Cell). 0 < get_or (set (nodes outer works) (node_of f c) v) (node_of f x) 0) (sym e) (omega (arith, now_here, some))
        | inr o ↦ let l = p.some a o in omega (arith, now_else a (other a o), l)
      ]

      -- where the done cells with the root r are linked to the cell, all with one root are linked
      pub still_same : ((b : Cell) → IsDone f taken (place_of f c) b → r ≡ p.root (node_of f b) → IsLinked taken c b)
          → (a b : Cell) → IsDone f taken (place_of f c + 1) a → IsDone f taken (place_of f c + 1) b
          → with_root p.root (node_of f c) r (node_of f a) ≡ with_root p.root (node_of f c) r (node_of f b) → IsLinked taken a b
      still_same near a b da db e =
          elim (split_done a da) as (λ _. IsLinked taken a b) [
            | inl ea ↦ elim (split_done b db) as (λ _. IsLinked taken a b) [
              | inl eb ↦ subst (λ (x : Cell). IsLinked taken x b) (sym ea) (subst (λ (x : Cell). IsLinked taken c x) (sym eb) (linked_self (IsFree taken) c k))
              | inr ob ↦ subst (λ (x : Cell). IsLinked taken x b) (sym ea)
                  (near b ob (sym root_here ∙ ap (λ (x : Cell). with_root p.root (node_of f c) r (node_of f x)) (sym ea) ∙ e ∙ root_else b ob))
            ]
            | inr oa ↦ elim (split_done b db) as (λ _. IsLinked taken a b) [
              | inl eb ↦ subst (λ (x : Cell). IsLinked taken a x) (sym eb)
                  (linked_sym (IsFree taken) c a (near a oa (sym root_here ∙ ap (λ (x : Cell). with_root p.root (node_of f c) r (node_of f x)) (sym eb) ∙ sym e ∙ root_else a oa)))
              | inr ob ↦ p.same a b oa ob (sym (root_else a oa) ∙ e ∙ root_else b ob)
            ]
          ]

      pub still_whole : (a b : Cell) → IsDone f taken (place_of f c) a → IsDone f taken (place_of f c) b → IsBeside a b
          → with_root p.root (node_of f c) r (node_of f a) ≡ with_root p.root (node_of f c) r (node_of f b)
      still_whole a b da db s = root_else a da ∙ p.whole a b da db s ∙ sym (root_else b db)

    -- the cell points to itself
    pub alone : taken c ≡ true → get_or works (place_of f c) 0 ≡ 0 → IsJoined f taken outer works (place_of f c) → IsJoining f taken outer (set works (place_of f c) (node_of f c)) c 0
    alone k z p =
        let x = node_of f c in
        let some : 0 < x = omega (arith, node_inside f c i) in
        let q = begun_alone (nodes outer works) x x p.root p.forest node_below (node_free z) some refl in
        let e = sym (nodes_now x) in
        record {
          root = with_root p.root x x;
          forest = subst (λ (xs : List ℕ). IsForest xs (with_root p.root x x)) e q;
          clear = λ a none. subst (λ (xs : List ℕ). get_or xs (node_of f a) 0 ≡ 0) e (still_clear k p x x some q a none);
          some = λ a d. subst (λ (xs : List ℕ). 0 < get_or xs (node_of f a) 0) e (still_some k p x x some q a d);
          same = still_same k p x x some q (λ b d at. absurd (let l = earlier b d in let s = p.some b d in let low = p.forest.first (node_of f b) s in omega (arith, l, low, at)));
          whole = still_whole k p x x some q;
          met = λ way l. absurd (omega (arith, l));
        }

    -- the cell points where an earlier one beside it points, which all earlier ones beside the cell are joined to
    pub hung_on : (s : Cell) → in_frame f s ≡ true → IsBeside c s → place_of f s < place_of f c → (k : taken c ≡ true) → get_or works (place_of f c) 0 ≡ 0 → 0 < get_or works (place_of f s) 0
        → (p : IsJoined f taken outer works (place_of f c)) → ((b : Cell) → IsDone f taken (place_of f c) b → IsBeside c b → p.root (node_of f s) ≡ p.root (node_of f b))
        → IsJoined f taken outer (set works (place_of f c) (get_or works (place_of f s) 0)) (place_of f c + 1)
    hung_on s j s_beside less k z some p reach =
        let x = node_of f c in
        let v = get_or works (place_of f s) 0 in
        let r = p.root (node_of f s) in
        let at = points_inside f outer works s j in
        let points : 0 < get_or (nodes outer works) (node_of f s) 0 = omega (arith, at, some) in
        let before_c : node_of f s < x = omega (arith, node_inside f s j, node_inside f c i, less) in
        let q = begun_under (nodes outer works) x v p.root p.forest node_below (node_free z) some (node_of f s) points before_c (sym at) in
        let e = sym (nodes_now v) in
        let s_ok = done_of f taken (place_of f c) (get_or (nodes outer works) (node_of f s) 0) s (p.clear s) points in
        let link = linked_step (IsFree taken) c s k s_beside s_ok.taken_there in
        let to : (b : Cell) → IsDone f taken (place_of f c) b → IsBeside c b → with_root p.root x r (node_of f c) ≡ with_root p.root x r (node_of f b) = λ b d t.
        root_here k p v r some q ∙ reach b d t ∙ sym (root_else k p v r some q b d) in
        record {
          root = with_root p.root x r;
          forest = subst (λ (xs : List ℕ). IsForest xs (with_root p.root x r)) e q;
          clear = λ a none. subst (λ (xs : List ℕ). get_or xs (node_of f a) 0 ≡ 0) e (still_clear k p v r some q a none);
          some = λ a d. subst (λ (xs : List ℕ). 0 < get_or xs (node_of f a) 0) e (still_some k p v r some q a d);
          same = still_same k p v r some q (λ b d one. linked_trans (IsFree taken) c s b link (p.same s b s_ok d one));
          whole = λ a b da db t. elim (split_done a da) as (λ _. with_root p.root x r (node_of f a) ≡ with_root p.root x r (node_of f b)) [
            | inl ea ↦ ap (λ (y : Cell). with_root p.root x r (node_of f y)) ea ∙ (elim (split_done b db) as (λ _. with_root p.root x r (node_of f c) ≡ with_root p.root x r (node_of f b)) [
              | inl eb ↦ ap (λ (y : Cell). with_root p.root x r (node_of f y)) (sym eb)
              | inr ob ↦ to b ob (subst (λ (y : Cell). IsBeside y b) ea t)
            ])
            | inr oa ↦ elim (split_done b db) as (λ _. with_root p.root x r (node_of f a) ≡ with_root p.root x r (node_of f b)) [
              | inl eb ↦ sym (to a oa (beside_sym a c (subst (λ (y : Cell). IsBeside a y) eb t))) ∙ ap (λ (y : Cell). with_root p.root x r (node_of f y)) (sym eb)
              | inr ob ↦ still_whole k p v r some q a b oa ob t
            ]
          ];
        }

    -- an earlier cell beside one that isn't on the border stands before it in the order of rows
    earlier_beside : (b : Cell) → (IsOnBorder f c → ⊥) → IsDone f taken (place_of f c) b → IsBeside c b → IsBefore b c
    earlier_beside b within d t =
        by_bool (in_frame f b)
        (λ b_in. before f b c (in_frame_is f b b_in) (in_frame_is f c i) (let l = earlier b d in omega (arith, l, node_inside f b b_in, node_inside f c i)))
        (λ out. absurd (within (border_of f c b (in_frame_is f c i) out t)))

    done_here : (s : Cell) → in_frame f s ≡ true → 0 < get_or works (place_of f s) 0 → IsJoined f taken outer works (place_of f c) → IsDone f taken (place_of f c) s
    done_here s j some p =
        done_of f taken (place_of f c) (get_or (nodes outer works) (node_of f s) 0) s (p.clear s) (omega (arith, points_inside f outer works s j, some))

    -- the cell points where the one south of it points
    pub under : (s : Cell) → in_frame f s ≡ true → c.i ≡ s.i → c.j ≡ s.j +ℤ pos 1 → place_of f s < place_of f c → (IsOnBorder f c → ⊥) → taken c ≡ true → get_or works (place_of f c) 0 ≡ 0
        → 0 < get_or works (place_of f s) 0 → IsJoined f taken outer works (place_of f c) → IsJoined f taken outer (set works (place_of f c) (get_or works (place_of f s) 0)) (place_of f c + 1)
    under s j same_i same_j less within k z some p =
        hung_on s j (record { west = omega (arith, ints); east = omega (arith, ints); south = omega (arith, ints); north = omega (arith, ints) }) less k z some p
        (λ b d t. p.whole s b (done_here s j some p) d (beside_sym b s (south_too b t (earlier_beside b within d t))))
      where
        south_too : (b : Cell) → IsBeside c b → IsBefore b c → IsBeside b s
        south_too b t early = elim early as (λ _. IsBeside b s) [
          | inl l ↦ record { west = omega (arith, ints); east = omega (arith, ints); south = omega (arith, ints); north = omega (arith, ints) }
          | inr l ↦ record { west = omega (arith, ints); east = omega (arith, ints); south = omega (arith, ints); north = omega (arith, ints) }
        ]

    -- the cell points where the one west of it points
    pub beside_west : (u s : Cell) → in_frame f u ≡ true → c.i ≡ u.i +ℤ pos 1 → c.j ≡ u.j → c.i ≡ s.i → c.j ≡ s.j +ℤ pos 1 → place_of f u < place_of f c → (IsOnBorder f c → ⊥)
        → ((b : Cell) → IsDone f taken (place_of f c) b → b.i ≡ s.i +ℤ pos 1 → b.j ≡ s.j → IsDone f taken (place_of f c) s)
        → taken c ≡ true → get_or works (place_of f c) 0 ≡ 0 → 0 < get_or works (place_of f u) 0 → IsJoined f taken outer works (place_of f c)
        → IsJoined f taken outer (set works (place_of f c) (get_or works (place_of f u) 0)) (place_of f c + 1)
    beside_west u s j ui uj si sj less within corner k z some p =
        hung_on u j (record { west = omega (arith, ints); east = omega (arith, ints); south = omega (arith, ints); north = omega (arith, ints) }) less k z some p
        (λ b d t. reach b d t (earlier_beside b within d t))
      where
        u_ok : IsDone f taken (place_of f c) u
        u_ok = done_here u j some p

        is_u : (b : Cell) → b.j ≡ c.j → b.i ≡ u.i → u ≡ b
        is_u b e g = ap (λ (x : ℤ). cell x u.j) (sym g) ∙ ap (λ (y : ℤ). cell b.i y) (sym uj ∙ sym e)

        reach : (b : Cell) → IsDone f taken (place_of f c) b → IsBeside c b → IsBefore b c → p.root (node_of f u) ≡ p.root (node_of f b)
        reach b d t early = elim early as (λ _. p.root (node_of f u) ≡ p.root (node_of f b)) [
          | inl l ↦ by_lt_z c.i b.i
              (λ right.
              let s_ok = corner b d (omega (arith, ints)) (omega (arith, ints)) in
              p.whole u s u_ok s_ok (record { west = omega (arith, ints); east = omega (arith, ints); south = omega (arith, ints); north = omega (arith, ints) })
              ∙ p.whole s b s_ok d (record { west = omega (arith, ints); east = omega (arith, ints); south = omega (arith, ints); north = omega (arith, ints) }))
              (λ left. p.whole u b u_ok d (record { west = omega (arith, ints); east = omega (arith, ints); south = omega (arith, ints); north = omega (arith, ints) }))
          | inr l ↦ ap (λ (x : Cell). p.root (node_of f x)) (is_u b l.0 (omega (arith, ints)))
        ]
