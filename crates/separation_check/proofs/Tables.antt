-- Tables of islands and of classes, and the groups that they give.
use Rattle.std.proofs.Common.{Vec, Global, ◌≡◌, ◌≢◌, ℕ, zero, suc, ◌+◌, ◌-◌, ◌<◌, ◌≤◌, Bool, true, false, List, [], ◌∷◌, ◌++◌, length, map, set, replicate, get_or, inl, inr, refl, sym, ap, subst, ◌∙◌, arith, get_or-set_same, get_or-set_other}
use Rattle.std.proofs.lemmas.List.{get_or_past, length_push, length-map, map-append}
use Rattle.std.proofs.Math.ListN.{get_or-append}
use Rattle.std.proofs.Math.Seq.{get_or-append_seam}
use Rattle.std.proofs.lemmas.List.Elements.{Contains-push, Contains-push_cases, Contains-append_left}
use Rattle.std.proofs.lemmas.Grind.{get_or_default_zero}
use Rattle.std.proofs.lemmas.Bool.{false≢true, cases_eq, cases_lt}
use Rattle.std.specs.List.{Contains}
use Rattle.std.specs.List.Sorted.{IsStrictlyIncreasing}
use Rattle.separation_check.specs.declared.meetings.Meeting.{Meeting}
use Rattle.separation_check.specs.Meetings.{islands_of, classes_of}
use Rattle.separation_check.specs.Grouping.{at, is_on, IsTable, IsListed, AreFirsts, AreInOrder, AreSeen, IsMembers}

off : (n i : ℕ) → get_or (replicate n false) i false ≡ false
off zero i = refl
off (suc n) zero = refl
off (suc n) (suc i) = off n i

pub table_clear : (number class : List ℕ) (k : ℕ) (table : List Bool) (n : ℕ) → table ≡ replicate n false → IsTable number class k table 0
table_clear number class k table n e = record {
  sound = λ u on. absurd (false≢true (sym (off n u) ∙ sym (ap (λ (x : List Bool). is_on x u) e) ∙ on));
  whole = λ a l. absurd (omega (arith, l));
}

pub table_on : (number class : List ℕ) (k : ℕ) (table : List Bool) (n : ℕ) → IsTable number class k table n → at number n < length table → 0 < at number n → at class n ≡ k → IsTable number class k (set table (at number n) true) (n + 1)
table_on number class k table n p inside some own =
    let u = at number n in
    let here : is_on (set table u true) u ≡ true = get_or-set_same table u true false inside in
    record {
      sound = λ x on. elim (cases_eq x u) as (λ _. (a : ℕ) × (0 < at number a × at class a ≡ k × at number a ≡ x)) [
        | inl e ↦ (n, (some, own, sym e))
        | inr ne ↦ p.sound x (sym (get_or-set_other table u x true false ne) ∙ on)
      ];
      whole = λ a l s c. elim (cases_eq (at number a) u) as (λ _. is_on (set table u true) (at number a) ≡ true) [
        | inl e ↦ ap (is_on (set table u true)) e ∙ here
        | inr ne ↦ elim (cases_eq a n) as (λ _. is_on (set table u true) (at number a) ≡ true) [
          | inl e ↦ absurd (ne (ap (at number) e))
          | inr other ↦ get_or-set_other table u (at number a) true false ne ∙ p.whole a (omega arith) s c
        ]
      ];
    }

pub table_off : (number class : List ℕ) (k : ℕ) (table : List Bool) (n : ℕ) → IsTable number class k table n → (0 < at number n → at class n ≢ k) → IsTable number class k table (n + 1)
table_off number class k table n p none = record {
  sound = p.sound;
  whole = λ a l s c. elim (cases_eq a n) as (λ _. is_on table (at number a) ≡ true) [
    | inl e ↦ absurd (none (subst (λ (x : ℕ). 0 < at number x) e s) (ap (at class) (sym e) ∙ c))
    | inr other ↦ p.whole a (omega arith) s c
  ];
}

-- a number above all others goes at the end
pub rising_push : (xs : List ℕ) (y : ℕ) → IsStrictlyIncreasing xs → ((x : ℕ) → Contains xs x → x < y) → IsStrictlyIncreasing (xs ++ y ∷ [])
rising_push xs y p above k l =
    let len : length (xs ++ y ∷ []) ≡ length xs + 1 = length_push xs y in
    let k_in : k < length xs = omega (arith, l, len) in
    let at_k : get_or (xs ++ y ∷ []) k 0 ≡ get_or xs k 0 = get_or-append xs (y ∷ []) 0 k k_in in
    elim (cases_eq (k + 1) (length xs)) as (λ _. get_or (xs ++ y ∷ []) k 0 < get_or (xs ++ y ∷ []) (k + 1) 0) [
      | inl e ↦
          let last : get_or (xs ++ y ∷ []) (k + 1) 0 ≡ y = ap (λ (i : ℕ). get_or (xs ++ y ∷ []) i 0) e ∙ get_or-append_seam xs y [] 0 in
          let less : get_or xs k 0 < y = above (get_or xs k 0) (k, k_in, get_or_default_zero xs k (get_or xs k 0) k_in) in
          omega (arith, at_k, last, less)
      | inr ne ↦
          let next_in : k + 1 < length xs = omega (arith, ne, k_in) in
          let at_next : get_or (xs ++ y ∷ []) (k + 1) 0 ≡ get_or xs (k + 1) 0 = get_or-append xs (y ∷ []) 0 (k + 1) next_in in
          let less : get_or xs k 0 < get_or xs (k + 1) 0 = p k next_in in
          omega (arith, at_k, at_next, less)
    ]

pub none_in : (x : ℕ) → Contains [] x → ⊥
none_in x m = omega (arith, m.1)

pub listed_none : (table : List Bool) (xs : List ℕ) → xs ≡ [] → IsListed table 0 xs
listed_none table xs e = subst (IsListed table 0) (sym e) (record {
  ascending = λ k l. absurd (omega (arith, l));
  sound = λ u m. absurd (none_in u m);
  whole = λ u s l. absurd (omega (arith, l));
})

pub listed_on : (table : List Bool) (n : ℕ) (xs xs' : List ℕ) → IsListed table n xs → is_on table n ≡ true → xs' ≡ xs ++ n ∷ [] → IsListed table (n + 1) xs'
listed_on table n xs xs' p on e = subst (IsListed table (n + 1)) (sym e) (record {
  ascending = rising_push xs n p.ascending (λ x m. (p.sound x m).0);
  sound = λ u m. elim (Contains-push_cases xs n u m) as (λ _. u < n + 1 × is_on table u ≡ true) [
    | inl was ↦ let s = p.sound u was in (omega (arith, s.0), s.1)
    | inr here ↦ (omega (arith, here), ap (is_on table) (sym here) ∙ on)
  ];
  whole = λ u s l k. elim (cases_eq u n) as (λ _. Contains (xs ++ n ∷ []) u) [
    | inl here ↦ subst (Contains (xs ++ n ∷ [])) (sym here) (Contains-push xs n)
    | inr other ↦ Contains-append_left xs (n ∷ []) u (p.whole u s (omega arith) k)
  ];
})

pub listed_off : (table : List Bool) (n : ℕ) (xs : List ℕ) → IsListed table n xs → (0 < n → is_on table n ≡ false) → IsListed table (n + 1) xs
listed_off table n xs p none = record {
  ascending = p.ascending;
  sound = λ u m. let s = p.sound u m in (omega (arith, s.0), s.1);
  whole = λ u s l k. elim (cases_eq u n) as (λ _. Contains xs u) [
    | inl here ↦ absurd (false≢true (sym (none (subst (λ (x : ℕ). 0 < x) here s)) ∙ ap (is_on table) (sym here) ∙ k))
    | inr other ↦ p.whole u s (omega arith) k
  ];
}

-- the walk over the places, with its table of classes
pub record IsFinding (number class : List ℕ) (seen : List Bool) (firsts : List ℕ) (n : ℕ) : Type 0 where
  pub marks : AreSeen number class seen n
  pub found : AreFirsts number class firsts n

pub finding_begun : (number class : List ℕ) (seen : List Bool) (firsts : List ℕ) (m : ℕ) → seen ≡ replicate m false → firsts ≡ [] → IsFinding number class seen firsts 0
finding_begun number class seen firsts m e f = subst (λ (x : List ℕ). IsFinding number class seen x 0) (sym f) (record {
  marks = record {
    sound = λ k on. absurd (false≢true (sym (off m k) ∙ sym (ap (λ (x : List Bool). is_on x k) e) ∙ on));
    whole = λ b l. absurd (omega (arith, l));
  };
  found = record {
    ascending = λ k l. absurd (omega (arith, l));
    below = λ a m. absurd (none_in a m);
    island = λ a m. absurd (none_in a m);
    in_class = λ a m. absurd (none_in a m);
    earliest = λ a b m. absurd (none_in a m);
    whole = λ b l. absurd (omega (arith, l));
  };
})

pub finding_on : (number class : List ℕ) (seen : List Bool) (firsts firsts' : List ℕ) (n : ℕ) → IsFinding number class seen firsts n → 0 < at number n → 0 < at class n → at class n < length seen → is_on seen (at class n) ≡ false
    → firsts' ≡ firsts ++ n ∷ [] → IsFinding number class (set seen (at class n) true) firsts' (n + 1)
finding_on number class seen firsts firsts' n p some open_there inside new e = subst (λ (x : List ℕ). IsFinding number class (set seen (at class n) true) x (n + 1)) (sym e) (record {
  marks = record {
    sound = λ x on. elim (cases_eq x k) as (λ _. (b : ℕ) × (b < n + 1 × 0 < at number b × at class b ≡ x)) [
      | inl here ↦ (n, (omega arith, some, sym here))
      | inr ne ↦ let q = p.marks.sound x (sym (get_or-set_other seen k x true false ne) ∙ on) in (q.0, (omega (arith, q.1.0), q.1.1, q.1.2))
    ];
    whole = λ b l s o. elim (cases_eq (at class b) k) as (λ _. is_on (set seen k true) (at class b) ≡ true) [
      | inl same ↦ ap (is_on (set seen k true)) same ∙ get_or-set_same seen k true false inside
      | inr ne ↦ elim (cases_eq b n) as (λ _. is_on (set seen k true) (at class b) ≡ true) [
        | inl here ↦ absurd (ne (ap (at class) here))
        | inr other ↦ get_or-set_other seen k (at class b) true false ne ∙ p.marks.whole b (omega arith) s o
      ]
    ];
  };
  found = record {
    ascending = rising_push firsts n f.ascending f.below;
    below = λ a m. elim (Contains-push_cases firsts n a m) as (λ _. a < n + 1) [ inl was ↦ omega (arith, f.below a was) | inr here ↦ omega (arith, here) ];
    island = λ a m. elim (Contains-push_cases firsts n a m) as (λ _. 0 < at number a) [ inl was ↦ f.island a was | inr here ↦ subst (λ (x : ℕ). 0 < at number x) here some ];
    in_class = λ a m. elim (Contains-push_cases firsts n a m) as (λ _. 0 < at class a) [ inl was ↦ f.in_class a was | inr here ↦ subst (λ (x : ℕ). 0 < at class x) here open_there ];
    earliest = λ a b m s c. elim (Contains-push_cases firsts n a m) as (λ _. a ≤ b) [
      | inl was ↦ f.earliest a b was s c
      | inr here ↦ elim (cases_lt b n) as (λ _. a ≤ b) [
        | inl less ↦
            let same : at class b ≡ k = c ∙ ap (at class) (sym here) in
            absurd (false≢true (sym new ∙ ap (is_on seen) (sym same) ∙ p.marks.whole b less s (subst (λ (x : ℕ). 0 < x) (sym same) open_there)))
        | inr late ↦ omega (arith, late, here)
      ]
    ];
    whole = λ b l s o. elim (cases_eq b n) as (λ _. (a : ℕ) × (Contains (firsts ++ n ∷ []) a × at class a ≡ at class b)) [
      | inl here ↦ (n, (Contains-push firsts n, ap (at class) (sym here)))
      | inr other ↦ let q = f.whole b (omega arith) s o in (q.0, (Contains-append_left firsts (n ∷ []) q.0 q.1.0, q.1.1))
    ];
  };
})
  where
    k : ℕ
    k = at class n

    f : AreFirsts number class firsts n
    f = p.found

pub finding_off : (number class : List ℕ) (seen : List Bool) (firsts : List ℕ) (n : ℕ) → IsFinding number class seen firsts n → (0 < at number n → 0 < at class n → is_on seen (at class n) ≡ true) → IsFinding number class seen firsts (n + 1)
finding_off number class seen firsts n p none = record {
  marks = record {
    sound = λ x on. let q = p.marks.sound x on in (q.0, (omega (arith, q.1.0), q.1.1, q.1.2));
    whole = λ b l s o. elim (cases_eq b n) as (λ _. is_on seen (at class b) ≡ true) [
      | inl here ↦ ap (λ (x : ℕ). is_on seen (at class x)) here ∙ none (subst (λ (x : ℕ). 0 < at number x) here s) (subst (λ (x : ℕ). 0 < at class x) here o)
      | inr other ↦ p.marks.whole b (omega arith) s o
    ];
  };
  found = record {
    ascending = p.found.ascending;
    below = λ a m. omega (arith, p.found.below a m);
    island = p.found.island;
    in_class = p.found.in_class;
    earliest = p.found.earliest;
    whole = λ b l s o. elim (cases_eq b n) as (λ _. (a : ℕ) × (Contains firsts a × at class a ≡ at class b)) [
      | inl here ↦
          let q = p.marks.sound (at class n) (none (subst (λ (x : ℕ). 0 < at number x) here s) (subst (λ (x : ℕ). 0 < at class x) here o)) in
          let r = p.found.whole q.0 q.1.0 q.1.1 (subst (λ (x : ℕ). 0 < x) (sym (q.1.2 ∙ ap (at class) (sym here))) o) in
          (r.0, (r.1.0, r.1.1 ∙ q.1.2 ∙ ap (at class) (sym here)))
      | inr other ↦ p.found.whole b (omega arith) s o
    ];
  };
}

-- numbers that rise from each to the next rise from each to all later ones
rises : (xs : List ℕ) → IsStrictlyIncreasing xs → (j n : ℕ) → j + n + 1 < length xs → at xs j < at xs (j + n + 1)
rises xs p j zero l = let e : j + 0 + 1 ≡ j + 1 = omega arith in subst (λ (x : ℕ). at xs j < at xs x) (sym e) (p j (omega (arith, l)))
rises xs p j (suc n) l =
    let before : at xs j < at xs (j + n + 1) = rises xs p j n (omega (arith, l)) in
    let step : at xs (j + n + 1) < at xs (j + n + 1 + 1) = p (j + n + 1) (omega (arith, l)) in
    let e : j + suc n + 1 ≡ j + n + 1 + 1 = omega arith in
    subst (λ (x : ℕ). at xs j < at xs x) (sym e) (omega (arith, before, step))

pub rise : (xs : List ℕ) → IsStrictlyIncreasing xs → (j i : ℕ) → j < i → i < length xs → at xs j < at xs i
rise xs p j i l k = let e : j + (i - j - 1) + 1 ≡ i = omega (arith, l) in subst (λ (x : ℕ). at xs j < at xs x) e (rises xs p j (i - j - 1) (omega (arith, e, k)))

pub members_listed : (number class : List ℕ) (k : ℕ) (table : List Bool) (n : ℕ) (xs : List ℕ) → IsTable number class k table n → ((a : ℕ) → 0 < at number a → a < n) → ((a : ℕ) → at number a < length table) → IsListed table (length table) xs → IsMembers number class k xs
members_listed number class k table n xs t all few q = record {
  ascending = q.ascending;
  sound = λ u m. t.sound u (q.sound u m).1;
  whole = λ b s c. q.whole (at number b) s (few b) (t.whole b (all b s) s c);
}

-- the walk over the meetings, with its table and its list of classes
pub record IsWalking (number class : List ℕ) (seen : List Bool) (list : List ℕ) (n : ℕ) : Type 0 where
  pub firsts : List ℕ
  pub list_is : list ≡ map (λ a. at class a) firsts
  pub finding : IsFinding number class seen firsts n

pub walking_begun : (number class : List ℕ) (seen : List Bool) (list : List ℕ) (m : ℕ) → seen ≡ replicate m false → list ≡ [] → IsWalking number class seen list 0
walking_begun number class seen list m e f = record { firsts = []; list_is = f; finding = finding_begun number class seen [] m e refl }

pub walking_on : (number class : List ℕ) (seen seen' : List Bool) (list list' : List ℕ) (n k : ℕ) → IsWalking number class seen list n → 0 < at number n → 0 < at class n → at class n < length seen
    → at class n ≡ k → is_on seen k ≡ false → seen' ≡ set seen k true → list' ≡ list ++ k ∷ [] → IsWalking number class seen' list' (n + 1)
walking_on number class seen seen' list list' n k p some open_there inside own new e f = record {
  firsts = p.firsts ++ n ∷ [];
  list_is = f ∙ ap (λ (x : List ℕ). x ++ k ∷ []) p.list_is ∙ ap (λ (x : ℕ). map (λ a. at class a) p.firsts ++ x ∷ []) (sym own) ∙ sym (map-append (λ (a : ℕ). at class a) p.firsts (n ∷ []));
  finding =
      subst (λ (x : List Bool). IsFinding number class x (p.firsts ++ n ∷ []) (n + 1)) (ap (λ (x : ℕ). set seen x true) own ∙ sym e)
      (finding_on number class seen p.firsts (p.firsts ++ n ∷ []) n p.finding some open_there inside (ap (is_on seen) own ∙ new) refl);
}

pub walking_off : (number class : List ℕ) (seen seen' : List Bool) (list list' : List ℕ) (n k : ℕ) → IsWalking number class seen list n → at class n ≡ k → is_on seen k ≡ true → seen' ≡ seen
    → list' ≡ list → IsWalking number class seen' list' (n + 1)
walking_off number class seen seen' list list' n k p own on e f = record {
  firsts = p.firsts;
  list_is = f ∙ p.list_is;
  finding = subst (λ (x : List Bool). IsFinding number class x p.firsts (n + 1)) (sym e) (finding_off number class seen p.firsts n p.finding (λ s o. ap (is_on seen) own ∙ on));
}

pub walking_ended : (number class : List ℕ) (seen : List Bool) (list : List ℕ) (n m : ℕ) → IsWalking number class seen list n → n ≡ m → AreInOrder number class list m
walking_ended number class seen list n m p e = subst (AreInOrder number class list) e (record { firsts = p.firsts; list_is = p.list_is; are = p.finding.found })

-- a table by the number that is marked
pub table_put : (number class : List ℕ) (k : ℕ) (table table' : List Bool) (n u : ℕ) → IsTable number class k table n → at number n < length table → 0 < at number n → at class n ≡ k → at number n ≡ u
    → table' ≡ set table u true → IsTable number class k table' (n + 1)
table_put number class k table table' n u p inside some own is e =
    subst (λ (x : List Bool). IsTable number class k x (n + 1)) (ap (λ (x : ℕ). set table x true) is ∙ sym e) (table_on number class k table n p inside some own)

pub table_kept : (number class : List ℕ) (k : ℕ) (table table' : List Bool) (n : ℕ) → IsTable number class k table n → at class n ≢ k → table' ≡ table → IsTable number class k table' (n + 1)
table_kept number class k table table' n p other e = subst (λ (x : List Bool). IsTable number class k x (n + 1)) (sym e) (table_off number class k table n p (λ s. other))

-- one number more is below an end
pub end_on : (xs : List ℕ) (n end end' : ℕ) → ((k : ℕ) → k < n → at xs k < end) → end ≤ end' → at xs n < end' → (k : ℕ) → k < n + 1 → at xs k < end'
end_on xs n end end' p le last k l =
    elim (cases_eq k n) as (λ _. at xs k < end') [ inl e ↦ subst (λ (x : ℕ). at xs x < end') (sym e) last | inr ne ↦ omega (arith, le, p k (omega (arith, l, ne))) ]

-- all numbers are below it
pub end_of : (xs : List ℕ) (n end : ℕ) → ((k : ℕ) → k < n → at xs k < end) → 0 < end → length xs ≤ n → (k : ℕ) → at xs k < end
end_of xs n end p some all k =
    elim (cases_lt k (length xs)) as (λ _. at xs k < end) [ inl l ↦ p k (omega (arith, l, all)) | inr past ↦ omega (arith, some, get_or_past xs k 0 past) ]

pub island_in : (number : List ℕ) (a : ℕ) → 0 < at number a → a < length number
island_in number a s = elim (cases_lt a (length number)) as (λ _. a < length number) [ inl l ↦ l | inr past ↦ absurd (omega (arith, s, get_or_past number a 0 past)) ]

pub listed_renamed : (table : List Bool) (n : ℕ) (v v' : Vec ℕ Global) → v' ≡ v → IsListed table n v.items → IsListed table n v'.items
listed_renamed table n v v' e p = subst (λ (x : Vec ℕ Global). IsListed table n x.items) (sym e) p

-- a meeting as the lists of islands and of classes have it
pub islands_len : (ms : List Meeting) → length (islands_of ms) ≡ length ms
islands_len ms = length-map ms (λ (m : Meeting). m.island)

pub classes_len : (ms : List Meeting) → length (classes_of ms) ≡ length ms
classes_len ms = length-map ms (λ (m : Meeting). m.class)

read_map : (f : Meeting → ℕ) (ms : List Meeting) (a : ℕ) (d : Meeting) → get_or (map f ms) a (f d) ≡ f (get_or ms a d)
read_map f [] a d = refl
read_map f (m ∷ ms) zero d = refl
read_map f (m ∷ ms) (suc a) d = read_map f ms a d

pub island_at : (ms : List Meeting) (a : ℕ) → at (islands_of ms) a ≡ (get_or ms a (record { island = 0; class = 0 })).island
island_at ms a = read_map (λ (m : Meeting). m.island) ms a (record { island = 0; class = 0 })

pub class_at : (ms : List Meeting) (a : ℕ) → at (classes_of ms) a ≡ (get_or ms a (record { island = 0; class = 0 })).class
class_at ms a = read_map (λ (m : Meeting). m.class) ms a (record { island = 0; class = 0 })
