-- What going a way does to the marks and the edges.
use Rattle.std.proofs.Common.{◌≡◌, ◌≢◌, ℕ, ◌+◌, ◌*◌, ◌/◌, ◌<◌, ◌≤◌, Bool, true, false, not, cond, eqb, ◌⊎◌, inl, inr, List, [], ◌∷◌, ◌++◌, length, get_or, set, refl, sym, ap, ◌∙◌, subst, arith, get_or-set_same, get_or-set_other, Err}
use Rattle.std.proofs.Math.ListN.{length-set}
use Rattle.std.specs.List.{count_by}
use Rattle.std.specs.List.Sorted.{IsBinarySearchResult}
use Rattle.std.specs.Ordering.{nat_cmp}
use Rattle.std.proofs.lemmas.Bool.Decides.{Decides-eqb}
use Rattle.std.proofs.lemmas.List.Elements.{All-append, All-cons, All-nil, All-get_or}
use Rattle.std.proofs.lemmas.List.Sums.{sum_by-append, sum_by-cons, sum_by-set}
use Rattle.std.proofs.lemmas.List.Sorted.{searched}
use Rattle.board_base.specs.Places.{IsPlace}
use Rattle.poly_area.specs.declared.edges.Edge.{Edge}
use Rattle.poly_area.specs.Crossing.{xor}
use Rattle.outline_loops.specs.Segments.{joins, are_ends}
pub use Rattle.std.proofs.lemmas.Bool.{cases_eq as same_or_not}
use Rattle.outline_loops.specs.Ways.{IsWay, from_of, to_of, back_of}
use Rattle.outline_loops.specs.Traced.{ArePaired, IsAlong, one_if, is_gone, Goes, AreMarks, IsOpen, AreEven}
use Rattle.outline_loops.proofs.PointLaws.{ends_are, are_there, are_back, one_way, back_from, back_to}

-- ---- numbers that are equal or not

eqb_same : (i j : ℕ) → i ≡ j → eqb i j ≡ true
eqb_same i j e = (Decides-eqb i j).1 e

eqb_other : (i j : ℕ) → i ≢ j → eqb i j ≡ false
eqb_other i j ne = by (eqb i j) (Decides-eqb i j).0
  where
    by : (t : Bool) → (t ≡ true → i ≡ j) → t ≡ false
    by true f = absurd (ne (f refl))
    by false f = refl

-- ---- ways

module _ (ways : List ℕ) (p : ArePaired ways) where
  abbrev w : ℕ → ℕ
  w i = get_or ways i 0

  pub small : (i : ℕ) → i < length ways → w i < 1329227995784915872903807060280344576
  small i inside = (All-get_or IsWay ways i 0 inside p.places).small

  -- each way stands once
  pub one_place : (i j : ℕ) → i < length ways → j < length ways → w i ≡ w j → i ≡ j
  one_place i j i_in j_in e = by (same_or_not i j)
    where
      rise : (a b : ℕ) → a < b → a ≡ b → ⊥
      rise a b h e = omega arith

      by : (i ≡ j) ⊎ (i ≢ j) → i ≡ j
      by (inl s) = s
      by (inr ne) = elim (order i j ne) as (λ _. i ≡ j) [ inl h ↦ absurd (rise (w i) (w j) (p.rising i j h j_in) e) | inr h ↦ absurd (rise (w j) (w i) (p.rising j i h i_in) (sym e)) ]
        where
          order : (i j : ℕ) → i ≢ j → (i < j) ⊎ (j < i)
          order i j ne = grind arith

  -- the way back of a way is another
  pub not_back : (i j : ℕ) → i < length ways → j < length ways → w j ≡ back_of (w i) → i ≢ j
  not_back i j i_in j_in e = λ s. p.apart i i_in (ap from_of (ap w s ∙ e) ∙ back_from (w i) (small i i_in))

  -- the way back of the way back is the way
  pub back_again : (i j : ℕ) → i < length ways → j < length ways → w j ≡ back_of (w i) → w i ≡ back_of (w j)
  back_again i j i_in j_in e =
      one_way (w i) (back_of (w j))
      (sym (back_from (w j) (small j j_in) ∙ ap to_of e ∙ back_to (w i) (small i i_in)))
      (sym (back_to (w j) (small j j_in) ∙ ap from_of e ∙ back_from (w i) (small i i_in)))

  pub not_missing : (x k j : ℕ) → IsBinarySearchResult (λ y. nat_cmp y x) ways (Err k) → j < length ways → w j ≡ x → ⊥
  not_missing x k j found j_in e =
      let f = searched ways x (Err k) found level in by (k_or j k) f.1 f.2
    where
      level : (i j : ℕ) → i ≤ j → j < length ways → w i ≤ w j
      level i j h j_in = by (same_or_not i j)
        where
          by : (i ≡ j) ⊎ (i ≢ j) → w i ≤ w j
          by (inl s) = subst (λ t. w i ≤ w t) s (omega arith)
          by (inr ne) = let r = p.rising i j (omega (arith, h)) j_in in omega (arith, r)

      k_or : (j k : ℕ) → (j < k) ⊎ (k ≤ j)
      k_or j k = grind arith

      by : (j < k) ⊎ (k ≤ j) → ((i : ℕ) → i < k → w i < x) → ((i : ℕ) → k ≤ i → i < length ways → x < w i) → ⊥
      by (inl h) f g = let r = f j h in omega (arith, r, e)
      by (inr h) f g = let r = g j h j_in in omega (arith, r, e)

  -- ---- marks

  -- what is marked in a way and its way back
  abbrev pub marked : List Bool → ℕ → ℕ → List Bool
  marked gone at back = set (set gone at true) back true

  pub marked_back : (gone : List Bool) (at back : ℕ) → back < length gone → is_gone (marked gone at back) back ≡ true
  marked_back gone at back h = let l : back < length (set gone at true) = omega (arith, length-set gone at true) in get_or-set_same (set gone at true) back true false l

  pub marked_at : (gone : List Bool) (at back : ℕ) → at < length gone → is_gone (marked gone at back) at ≡ true
  marked_at gone at back h = by (same_or_not at back)
    where
      by : (at ≡ back) ⊎ (at ≢ back) → is_gone (marked gone at back) at ≡ true
      by (inl s) = subst (λ t. is_gone (marked gone at back) t ≡ true) (sym s) (marked_back gone at back (subst (λ t. t < length gone) s h))
      by (inr ne) = get_or-set_other (set gone at true) back at true false ne ∙ get_or-set_same gone at true false h

  pub marked_other : (gone : List Bool) (at back i : ℕ) → i ≢ at → i ≢ back → is_gone (marked gone at back) i ≡ is_gone gone i
  marked_other gone at back i n m = get_or-set_other (set gone at true) back i true false m ∙ get_or-set_other gone at i true false n

  pub stays_marked : (gone : List Bool) (at back i : ℕ) → at < length gone → back < length gone → is_gone gone i ≡ true → is_gone (marked gone at back) i ≡ true
  stays_marked gone at back i at_in back_in e = by (same_or_not i at) (same_or_not i back)
    where
      by : (i ≡ at) ⊎ (i ≢ at) → (i ≡ back) ⊎ (i ≢ back) → is_gone (marked gone at back) i ≡ true
      by (inl s) u = subst (λ t. is_gone (marked gone at back) t ≡ true) (sym s) (marked_at gone at back at_in)
      by (inr n) (inl s) = subst (λ t. is_gone (marked gone at back) t ≡ true) (sym s) (marked_back gone at back back_in)
      by (inr n) (inr m) = marked_other gone at back i n m ∙ e

  length-marked : (gone : List Bool) (at back : ℕ) → length (marked gone at back) ≡ length gone
  length-marked gone at back = length-set (set gone at true) back true ∙ length-set gone at true

  module _ (gone : List Bool) (marks : AreMarks ways gone) (at back : ℕ) (at_in : at < length ways) (back_in : back < length ways) (is_back : w back ≡ back_of (w at)) where
    at_mark : at < length gone
    at_mark = let e = marks.same_len in omega (arith, e, at_in)

    back_mark : back < length gone
    back_mark = let e = marks.same_len in omega (arith, e, back_in)

    pub still_marks : AreMarks ways (marked gone at back)
    still_marks = record {
      same_len = length-marked gone at back ∙ marks.same_len;
      twins = λ i j i_in j_in e. by i j i_in j_in e (same_or_not i at) (same_or_not i back);
    }
      where
        by : (i j : ℕ) → i < length ways → j < length ways → w j ≡ back_of (w i) → (i ≡ at) ⊎ (i ≢ at) → (i ≡ back) ⊎ (i ≢ back) → is_gone (marked gone at back) j ≡ is_gone (marked gone at back) i
        by i j i_in j_in e (inl s) u =
            let other : j ≡ back = one_place j back j_in back_in (e ∙ ap back_of (ap w s) ∙ sym is_back) in
            ap (is_gone (marked gone at back)) other ∙ marked_back gone at back back_mark ∙ sym (ap (is_gone (marked gone at back)) s ∙ marked_at gone at back at_mark)
        by i j i_in j_in e (inr n) (inl s) =
            let other : j ≡ at = one_place j at j_in at_in (e ∙ ap back_of (ap w s) ∙ sym (back_again at back at_in back_in is_back)) in
            ap (is_gone (marked gone at back)) other ∙ marked_at gone at back at_mark ∙ sym (ap (is_gone (marked gone at back)) s ∙ marked_back gone at back back_mark)
        by i j i_in j_in e (inr n) (inr m) =
            let not_at : j ≢ at = λ s. m (one_place i back i_in back_in (back_again i j i_in j_in e ∙ ap back_of (ap w s) ∙ sym is_back)) in
            let not_back_is : j ≢ back = λ s. n (one_place i at i_in at_in (back_again i j i_in j_in e ∙ ap back_of (ap w s) ∙ sym (back_again at back at_in back_in is_back))) in
            marked_other gone at back j not_at not_back_is ∙ marks.twins i j i_in j_in e ∙ sym (marked_other gone at back i n m)

    back_new : is_gone gone at ≡ false → is_gone gone back ≡ false
    back_new new = marks.twins at back at_in back_in is_back ∙ new

    -- ---- one edge more

    -- the edge joins the ends of these ways and of no others
    joins_at : (e : Edge) → e.from ≡ from_of (w at) → e.to ≡ to_of (w at) → (i : ℕ) → i < length ways → (i ≡ at) ⊎ (i ≡ back) → joins (from_of (w i)) (to_of (w i)) e ≡ true
    joins_at e from to i i_in (inl s) =
        subst (λ t. are_ends (from_of (w t)) (to_of (w t)) e.from e.to ≡ true) (sym s)
        (subst (λ u. are_ends (from_of (w at)) (to_of (w at)) u e.to ≡ true) (sym from)
        (subst (λ v. are_ends (from_of (w at)) (to_of (w at)) (from_of (w at)) v ≡ true) (sym to) (are_there (from_of (w at)) (to_of (w at)))))
    joins_at e from to i i_in (inr s) =
        subst (λ t. are_ends (from_of (w t)) (to_of (w t)) e.from e.to ≡ true) (sym s)
        (subst (λ t. are_ends (from_of t) (to_of t) e.from e.to ≡ true) (sym is_back)
        (subst (λ a. are_ends a (to_of (back_of (w at))) e.from e.to ≡ true) (sym (back_from (w at) (small at at_in)))
        (subst (λ b. are_ends (to_of (w at)) b e.from e.to ≡ true) (sym (back_to (w at) (small at at_in)))
        (subst (λ u. are_ends (to_of (w at)) (from_of (w at)) u e.to ≡ true) (sym from)
        (subst (λ v. are_ends (to_of (w at)) (from_of (w at)) (from_of (w at)) v ≡ true) (sym to) (are_back (to_of (w at)) (from_of (w at))))))))

    joins_no_other : (e : Edge) → e.from ≡ from_of (w at) → e.to ≡ to_of (w at) → (i : ℕ) → i < length ways → i ≢ at → i ≢ back → joins (from_of (w i)) (to_of (w i)) e ≡ false
    joins_no_other e from to i i_in n m = by (joins (from_of (w i)) (to_of (w i)) e) (λ h. found (ends_are (from_of (w i)) (to_of (w i)) e.from e.to h))
      where
        found : ((from_of (w i) ≡ e.from) × (to_of (w i) ≡ e.to)) ⊎ ((from_of (w i) ≡ e.to) × (to_of (w i) ≡ e.from)) → ⊥
        found (inl (f, g)) = n (one_place i at i_in at_in (one_way (w i) (w at) (f ∙ from) (g ∙ to)))
        found (inr (f, g)) =
            m (one_place i back i_in back_in (one_way (w i) (w back)
            (f ∙ to ∙ sym (ap from_of is_back ∙ back_from (w at) (small at at_in)))
            (g ∙ from ∙ sym (ap to_of is_back ∙ back_to (w at) (small at at_in)))))

        by : (t : Bool) → (t ≡ true → ⊥) → t ≡ false
        by true f = absurd (f refl)
        by false f = refl

    count_more : (test : Edge → Bool) (edges : List Edge) (e : Edge) → count_by test (edges ++ e ∷ []) ≡ count_by test edges + one_if (test e)
    count_more test edges e = sum_by-append (λ x. one_if (test x)) edges (e ∷ []) ∙ ap (λ n. count_by test edges + n) (sum_by-cons (λ x. one_if (test x)) e [] ∙ zero_right (one_if (test e)))
      where
        zero_right : (n : ℕ) → n + 0 ≡ n
        zero_right n = omega arith

    pub goes_on : (before : List Bool) (edges : List Edge) (e : Edge) → Goes ways before gone edges → is_gone gone at ≡ false → e.from ≡ from_of (w at) → e.to ≡ to_of (w at)
        → Goes ways before (marked gone at back) (edges ++ e ∷ [])
    goes_on before edges e goes new from to = record {
      same_len = length-marked gone at back ∙ goes.same_len;
      counted = λ i i_in. by i i_in (same_or_not i at) (same_or_not i back);
      along = All-append (IsAlong ways) edges (e ∷ []) goes.along (All-cons (IsAlong ways) e [] (record { at = at; inside = at_in; from = from; to = to }) (All-nil (IsAlong ways)));
    }
      where
        test : ℕ → Edge → Bool
        test i = joins (from_of (w i)) (to_of (w i))

        gone_now : (n m b : ℕ) (j u v : Bool) → n ≡ m + one_if j → j ≡ true → m + b ≡ one_if u → u ≡ false → v ≡ true → n + b ≡ one_if v
        gone_now n m b j u v e f g h k = let x = ap one_if f in let y = ap one_if h in let z = ap one_if k in omega (arith, e, x, g, y, z)

        as_before : (n m b : ℕ) (j u v : Bool) → n ≡ m + one_if j → j ≡ false → m + b ≡ one_if u → v ≡ u → n + b ≡ one_if v
        as_before n m b j u v e f g h = let x = ap one_if f in let y = ap one_if h in omega (arith, e, x, g, y)

        by : (i : ℕ) → i < length ways → (i ≡ at) ⊎ (i ≢ at) → (i ≡ back) ⊎ (i ≢ back)
            → count_by (joins (from_of (w i)) (to_of (w i))) (edges ++ e ∷ []) + one_if (is_gone before i) ≡ one_if (is_gone (marked gone at back) i)
        by i i_in (inl s) u =
            gone_now _ (count_by (joins (from_of (w i)) (to_of (w i))) edges) (one_if (is_gone before i)) (joins (from_of (w i)) (to_of (w i)) e) (is_gone gone i) (is_gone (marked gone at back) i)
            (count_more (joins (from_of (w i)) (to_of (w i))) edges e) (joins_at e from to i i_in (inl s)) (goes.counted i i_in) (ap (is_gone gone) s ∙ new)
            (ap (is_gone (marked gone at back)) s ∙ marked_at gone at back at_mark)
        by i i_in (inr n) (inl s) =
            gone_now _ (count_by (joins (from_of (w i)) (to_of (w i))) edges) (one_if (is_gone before i)) (joins (from_of (w i)) (to_of (w i)) e) (is_gone gone i) (is_gone (marked gone at back) i)
            (count_more (joins (from_of (w i)) (to_of (w i))) edges e) (joins_at e from to i i_in (inr s)) (goes.counted i i_in) (ap (is_gone gone) s ∙ back_new new)
            (ap (is_gone (marked gone at back)) s ∙ marked_back gone at back back_mark)
        by i i_in (inr n) (inr m) =
            as_before _ (count_by (joins (from_of (w i)) (to_of (w i))) edges) (one_if (is_gone before i)) (joins (from_of (w i)) (to_of (w i)) e) (is_gone gone i) (is_gone (marked gone at back) i)
            (count_more (joins (from_of (w i)) (to_of (w i))) edges e) (joins_no_other e from to i i_in n m) (goes.counted i i_in)
            (marked_other gone at back i n m)

    -- ---- fewer are left

    pub fewer : is_gone gone at ≡ false → count_by not (marked gone at back) < count_by not gone
    fewer new =
        let one = sum_by-set (λ b. cond (not b) 1 0) gone at true false at_mark in
        let l : back < length (set gone at true) = omega (arith, length-set gone at true, back_mark) in
        let two = sum_by-set (λ b. cond (not b) 1 0) (set gone at true) back true false l in
        by (count_by not (marked gone at back)) (count_by not (set gone at true)) (count_by not gone) (cond (not (get_or (set gone at true) back false)) 1 0) (is_gone gone at) new two one
      where
        by : (a b c d : ℕ) (t : Bool) → t ≡ false → a + d ≡ b + 0 → b + cond (not t) 1 0 ≡ c + 0 → a < c
        by a b c d true e f g = absurd (cc)
        by a b c d false e f g = omega (arith, f, g)

-- ---- pairs

not_is : (b : Bool) → not b ≡ xor b true
not_is true = refl
not_is false = refl

same_is : (b : Bool) → b ≡ xor b false
same_is true = refl
same_is false = refl

first_set : (a b u v t : Bool) → a ≡ true → b ≡ v → u ≡ false → t ≡ true → xor a b ≡ xor (xor u v) t
first_set true b false v true e f g h = ap not f ∙ not_is v
first_set true b false v false e f g h = absurd (cc)
first_set true b true v t e f g h = absurd (cc)
first_set false b u v t e f g h = absurd (cc)

second_set : (a b u v t : Bool) → a ≡ u → b ≡ true → v ≡ false → t ≡ true → xor a b ≡ xor (xor u v) t
second_set a true u false true e f g h = ap (λ (x : Bool). xor x true) (e ∙ same u)
  where
    same : (u : Bool) → u ≡ xor u false
    same true = refl
    same false = refl
second_set a true u false false e f g h = absurd (cc)
second_set a true u true t e f g h = absurd (cc)
second_set a false u v t e f g h = absurd (cc)

none_set : (a b u v t : Bool) → a ≡ u → b ≡ v → t ≡ false → xor a b ≡ xor (xor u v) t
none_set a b u v false e f g = ap (λ (x : Bool). xor x b) e ∙ ap (xor u) f ∙ same_is (xor u v)
none_set a b u v true e f g = absurd (cc)

-- a mark more turns its pair
turned : (gone : List Bool) (at g : ℕ) → at < length gone → is_gone gone at ≡ false
    → xor (is_gone (set gone at true) (2 * g)) (is_gone (set gone at true) (2 * g + 1)) ≡ xor (xor (is_gone gone (2 * g)) (is_gone gone (2 * g + 1))) (eqb g (at / 2))
turned gone at g inside new = by (same_or_not at (2 * g)) (same_or_not at (2 * g + 1))
  where
    here : (at g : ℕ) → at ≡ 2 * g → g ≡ at / 2
    here at g e = omega (arith, e)

    next : (at g : ℕ) → at ≡ 2 * g + 1 → g ≡ at / 2
    next at g e = omega (arith, e)

    elsewhere : (at g : ℕ) → at ≢ 2 * g → at ≢ 2 * g + 1 → g ≢ at / 2
    elsewhere at g n m = λ e. grind (arith, n, m, e)

    up : (at g : ℕ) → at ≡ 2 * g → 2 * g + 1 ≢ at
    up at g e = λ f. omega (arith, e, f)

    down : (at g : ℕ) → at ≡ 2 * g + 1 → 2 * g ≢ at
    down at g e = λ f. omega (arith, e, f)

    by : (at ≡ 2 * g) ⊎ (at ≢ 2 * g) → (at ≡ 2 * g + 1) ⊎ (at ≢ 2 * g + 1)
        → xor (is_gone (set gone at true) (2 * g)) (is_gone (set gone at true) (2 * g + 1)) ≡ xor (xor (is_gone gone (2 * g)) (is_gone gone (2 * g + 1))) (eqb g (at / 2))
    by (inl s) u =
        first_set _ _ (is_gone gone (2 * g)) (is_gone gone (2 * g + 1)) (eqb g (at / 2)) (subst (λ t. is_gone (set gone at true) t ≡ true) s (get_or-set_same gone at true false inside))
        (get_or-set_other gone at (2 * g + 1) true false (up at g s)) (subst (λ t. is_gone gone t ≡ false) s new) (eqb_same g (at / 2) (here at g s))
    by (inr n) (inl s) =
        second_set _ _ (is_gone gone (2 * g)) (is_gone gone (2 * g + 1)) (eqb g (at / 2)) (get_or-set_other gone at (2 * g) true false (down at g s))
        (subst (λ t. is_gone (set gone at true) t ≡ true) s (get_or-set_same gone at true false inside)) (subst (λ t. is_gone gone t ≡ false) s new) (eqb_same g (at / 2) (next at g s))
    by (inr n) (inr m) =
        none_set _ _ (is_gone gone (2 * g)) (is_gone gone (2 * g + 1)) (eqb g (at / 2)) (get_or-set_other gone at (2 * g) true false (λ e. n (sym e)))
        (get_or-set_other gone at (2 * g + 1) true false (λ e. m (sym e))) (eqb_other g (at / 2) (elsewhere at g n m))

away : (a b c : Bool) → xor (xor (xor a b) b) c ≡ xor a c
away true true c = refl
away true false c = refl
away false true c = refl
away false false c = refl

alone : (a : Bool) → xor a a ≡ false
alone true = refl
alone false = refl

-- going a way of the open pair opens the pair of its way back
pub opens : (gone : List Bool) (start at back : ℕ) → IsOpen gone start at → at < length gone → back < length gone → is_gone gone at ≡ false → is_gone gone back ≡ false → back ≢ at
    → IsOpen (set (set gone at true) back true) start back
opens gone start at back is_open at_in back_in new back_new apart = λ g g_in.
    let l : back < length (set gone at true) = omega (arith, length-set gone at true, back_in) in
    let n : is_gone (set gone at true) back ≡ false = get_or-set_other gone at back true false apart ∙ back_new in
    let k : 2 * g + 1 < length gone = omega (arith, length-set (set gone at true) back true, length-set gone at true, g_in) in
    turned (set gone at true) back g l n
    ∙ ap (λ (x : Bool). xor x (eqb g (back / 2))) (turned gone at g at_in new ∙ ap (λ (x : Bool). xor x (eqb g (at / 2))) (is_open g k))
    ∙ away (eqb g (start / 2)) (eqb g (at / 2)) (eqb g (back / 2))

pub even_open : (gone : List Bool) (start : ℕ) → AreEven gone → IsOpen gone start start
even_open gone start even = λ g g_in. even g g_in ∙ sym (alone (eqb g (start / 2)))

pub open_even : (gone : List Bool) (start at : ℕ) → IsOpen gone start at → at / 2 ≡ start / 2 → AreEven gone
open_even gone start at is_open e = λ g g_in. is_open g g_in ∙ ap (λ (h : ℕ). xor (eqb g (start / 2)) (eqb g h)) e ∙ alone (eqb g (start / 2))

-- the other way of the open pair isn't gone
pub other_new : (gone : List Bool) (start at other : ℕ) → IsOpen gone start at → at / 2 ≢ start / 2 → other / 2 ≡ at / 2 → other ≢ at → at < length gone → other < length gone → is_gone gone at ≡ true → is_gone gone other ≡ false
other_new gone start at other is_open apart pair differs at_in other_in there =
    by (same_or_not at (2 * (at / 2)))
    (is_open (at / 2) (within at other (length gone) pair differs at_in other_in) ∙ ap (λ (x : Bool). xor x (eqb (at / 2) (at / 2))) (eqb_other (at / 2) (start / 2) apart) ∙ eqb_same (at / 2) (at / 2) refl)
  where
    within : (at other n : ℕ) → other / 2 ≡ at / 2 → other ≢ at → at < n → other < n → 2 * (at / 2) + 1 < n
    within at other n e ne h k = grind (arith, e, ne, h, k)

    first : (a b : Bool) → xor a b ≡ true → a ≡ true → b ≡ false
    first true true e f = sym e
    first true false e f = refl
    first false b e f = absurd (cc)

    second : (a b : Bool) → xor a b ≡ true → b ≡ true → a ≡ false
    second true true e f = sym e
    second false b e f = refl
    second true false e f = absurd (cc)

    upper : (at other : ℕ) → at ≡ 2 * (at / 2) → other / 2 ≡ at / 2 → other ≢ at → other ≡ 2 * (at / 2) + 1
    upper at other s e ne = grind (arith, s, e, ne)

    odd : (at : ℕ) → at ≢ 2 * (at / 2) → at ≡ 2 * (at / 2) + 1
    odd at n = grind (arith, n)

    lower : (at other : ℕ) → at ≡ 2 * (at / 2) + 1 → other / 2 ≡ at / 2 → other ≢ at → other ≡ 2 * (at / 2)
    lower at other s e ne = grind (arith, s, e, ne)

    by : (at ≡ 2 * (at / 2)) ⊎ (at ≢ 2 * (at / 2)) → xor (is_gone gone (2 * (at / 2))) (is_gone gone (2 * (at / 2) + 1)) ≡ true → is_gone gone other ≡ false
    by (inl s) e =
        ap (is_gone gone) (upper at other s pair differs)
        ∙ first (is_gone gone (2 * (at / 2))) (is_gone gone (2 * (at / 2) + 1)) e (sym (ap (is_gone gone) s) ∙ there)
    by (inr n) e =
        ap (is_gone gone) (lower at other (odd at n) pair differs)
        ∙ second (is_gone gone (2 * (at / 2))) (is_gone gone (2 * (at / 2) + 1)) e (sym (ap (is_gone gone) (odd at n)) ∙ there)

-- where a way between places begins
pub place_at : (ways : List ℕ) → ArePaired ways → (i : ℕ) → i < length ways → IsPlace (from_of (get_or ways i 0))
place_at ways p i inside = (All-get_or IsWay ways i 0 inside p.places).from_in
