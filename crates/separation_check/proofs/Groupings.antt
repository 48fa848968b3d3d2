-- The groups of the classes of a list, one class after another.
use Rattle.std.proofs.Common.{◌≡◌, ◌≢◌, ℕ, zero, suc, ◌+◌, ◌<◌, ◌≤◌, List, [], ◌∷◌, ◌++◌, length, map, get_or, inl, inr, refl, sym, ap, subst, ◌∙◌, arith}
use Rattle.std.proofs.lemmas.List.{length_push, length-map, get_or-map, map-append}
use Rattle.std.proofs.Math.ListN.{get_or-append}
use Rattle.std.proofs.Math.Seq.{get_or-append_seam}
use Rattle.std.proofs.lemmas.List.Elements.{Contains-push, Contains-push_cases, Contains-append_left}
use Rattle.std.proofs.lemmas.Grind.{get_or_default_zero}
use Rattle.std.proofs.lemmas.Bool.{cases_eq}
use Rattle.std.specs.List.{Contains}
use Rattle.separation_check.specs.Grouping.{at, AreFirsts, AreInOrder, Found, IsFound, IsMembers, IsRising, AreAllFound}
use Rattle.separation_check.proofs.Tables.{rise}

-- two numbers of a list are two entries
two_apart : (xs : List ℕ) (x y : ℕ) → Contains xs x → Contains xs y → x ≢ y → 2 ≤ length xs
two_apart xs x y p q ne =
    elim (cases_eq p.0 q.0) as (λ _. 2 ≤ length xs) [
      | inl e ↦
          let u : get_or xs p.0 0 ≡ x = sym (get_or_default_zero xs p.0 x p.1) ∙ p.2 in
          let v : get_or xs q.0 0 ≡ y = sym (get_or_default_zero xs q.0 y q.1) ∙ q.2 in
          absurd (ne (sym u ∙ ap (λ (i : ℕ). get_or xs i 0) e ∙ v))
      | inr apart ↦ omega (arith, p.1, q.1, apart)
    ]

-- the groups of the first i classes
pub record IsGrouping (number class firsts : List ℕ) (groups : List Found) (i : ℕ) : Type 0 where
  pub each : (g : Found) → Contains groups g → IsFound number class g.first g.islands
  pub early : (g : Found) → Contains groups g → (j : ℕ) × (j < i × at firsts j ≡ g.first)
  pub rising : IsRising groups
  pub whole : (j a b : ℕ) → j < i → 0 < at number a → 0 < at number b → at number a ≢ at number b → at class a ≡ at class (at firsts j) → at class b ≡ at class (at firsts j)
      → (g : Found) × (Contains groups g × g.first ≡ at firsts j)

none_there : (g : Found) → Contains [] g → ⊥
none_there g m = omega (arith, m.1)

pub grouping_begun : (number class firsts : List ℕ) (groups : List Found) → groups ≡ [] → IsGrouping number class firsts groups 0
grouping_begun number class firsts groups e = subst (λ (x : List Found). IsGrouping number class firsts x 0) (sym e) (record {
  each = λ g m. absurd (none_there g m);
  early = λ g m. absurd (none_there g m);
  rising = λ k d l. absurd (omega (arith, l));
  whole = λ j a b l. absurd (omega (arith, l));
})

contains_at : (xs : List ℕ) (i : ℕ) → i < length xs → Contains xs (at xs i)
contains_at xs i l = (i, l, get_or_default_zero xs i (get_or xs i 0) l)

group_at : (xs : List Found) (i : ℕ) (d : Found) → i < length xs → Contains xs (get_or xs i d)
group_at xs i d l = (i, l, same_default xs i (get_or xs i d) d l)
  where
    same_default : (xs : List Found) (i : ℕ) (d e : Found) → i < length xs → get_or xs i d ≡ get_or xs i e
    same_default [] i d e l = absurd (omega (arith, l))
    same_default (x ∷ xs) zero d e l = refl
    same_default (x ∷ xs) (suc i) d e l = same_default xs i d e (omega (arith, l))

pub first_in : (number class firsts : List ℕ) (n i : ℕ) → AreFirsts number class firsts n → i < length firsts → at firsts i < n
first_in number class firsts n i p l = p.below (at firsts i) (contains_at firsts i l)

module _ (number class firsts : List ℕ) (n : ℕ) (f : AreFirsts number class firsts n) (groups : List Found) (i : ℕ) (p : IsGrouping number class firsts groups i) (i_in : i < length firsts)
    (xs : List ℕ) (q : IsMembers number class (at class (at firsts i)) xs) where
  a_group : 2 ≤ length xs → IsFound number class (at firsts i) xs
  a_group two = record {
    island = f.island (at firsts i) (contains_at firsts i i_in);
    in_class = f.in_class (at firsts i) (contains_at firsts i i_in);
    earliest = λ b s c. f.earliest (at firsts i) b (contains_at firsts i i_in) s c;
    ascending = q.ascending;
    sound = q.sound;
    whole = q.whole;
    two = two;
  }

  pub grouping_on : (g : Found) (groups' : List Found) → 2 ≤ length xs → g.first ≡ at firsts i → g.islands ≡ xs → groups' ≡ groups ++ g ∷ [] → IsGrouping number class firsts groups' (i + 1)
  grouping_on g groups' two e k same = subst (λ (x : List Found). IsGrouping number class firsts x (i + 1)) (sym same) (record {
    each = λ d c. elim (Contains-push_cases groups g d c) as (λ _. IsFound number class d.first d.islands) [
      | inl was ↦ p.each d was
      | inr here ↦ subst (λ (x : Found). IsFound number class x.first x.islands) here
          (subst (λ (x : ℕ). IsFound number class x g.islands) (sym e) (subst (IsFound number class (at firsts i)) (sym k) (a_group two)))
    ];
    early = λ d c. elim (Contains-push_cases groups g d c) as (λ _. (j : ℕ) × (j < i + 1 × at firsts j ≡ d.first)) [
      | inl was ↦ let r = p.early d was in (r.0, (omega (arith, r.1.0), r.1.1))
      | inr here ↦ (i, (omega arith, sym e ∙ ap (λ (x : Found). x.first) here))
    ];
    rising = λ a d l.
        let len : length (groups ++ g ∷ []) ≡ length groups + 1 = length_push groups g in
        let a_in : a < length groups = omega (arith, l, len) in
        let at_a : get_or (groups ++ g ∷ []) a d ≡ get_or groups a d = get_or-append groups (g ∷ []) d a a_in in
        elim (cases_eq (a + 1) (length groups)) as (λ _. (get_or (groups ++ g ∷ []) a d).first < (get_or (groups ++ g ∷ []) (a + 1) d).first) [
          | inl z ↦
              let last : get_or (groups ++ g ∷ []) (a + 1) d ≡ g = ap (λ (x : ℕ). get_or (groups ++ g ∷ []) x d) z ∙ get_or-append_seam groups g [] d in
              let r = p.early (get_or groups a d) (group_at groups a d a_in) in
              let less : at firsts r.0 < at firsts i = rise firsts f.ascending r.0 i r.1.0 i_in in
              let u : (get_or (groups ++ g ∷ []) a d).first ≡ at firsts r.0 = ap (λ (x : Found). x.first) at_a ∙ sym r.1.1 in
              let v : (get_or (groups ++ g ∷ []) (a + 1) d).first ≡ at firsts i = ap (λ (x : Found). x.first) last ∙ e in
              omega (arith, less, u, v)
          | inr ne ↦
              let next_in : a + 1 < length groups = omega (arith, ne, a_in) in
              let u : (get_or (groups ++ g ∷ []) a d).first ≡ (get_or groups a d).first = ap (λ (x : Found). x.first) at_a in
              let v : (get_or (groups ++ g ∷ []) (a + 1) d).first ≡ (get_or groups (a + 1) d).first = ap (λ (x : Found). x.first) (get_or-append groups (g ∷ []) d (a + 1) next_in) in
              let less : (get_or groups a d).first < (get_or groups (a + 1) d).first = p.rising a d next_in in
              omega (arith, less, u, v)
        ];
    whole = λ j a b l sa sb ne ca cb. elim (cases_eq j i) as (λ _. (d : Found) × (Contains (groups ++ g ∷ []) d × d.first ≡ at firsts j)) [
      | inl here ↦ (g, (Contains-push groups g, e ∙ ap (at firsts) (sym here)))
      | inr other ↦ let r = p.whole j a b (omega arith) sa sb ne ca cb in (r.0, (Contains-append_left groups (g ∷ []) r.0 r.1.0, r.1.1))
    ];
  })

  pub grouping_off : length xs < 2 → IsGrouping number class firsts groups (i + 1)
  grouping_off short = record {
    each = p.each;
    early = λ d c. let r = p.early d c in (r.0, (omega (arith, r.1.0), r.1.1));
    rising = p.rising;
    whole = λ j a b l sa sb ne ca cb. elim (cases_eq j i) as (λ _. (d : Found) × (Contains groups d × d.first ≡ at firsts j)) [
      | inl here ↦ absurd (
          let e : at class (at firsts j) ≡ at class (at firsts i) = ap (λ (x : ℕ). at class (at firsts x)) here in
          let two = two_apart xs (at number a) (at number b) (q.whole a sa (ca ∙ e)) (q.whole b sb (cb ∙ e)) ne in
          omega (arith, two, short))
      | inr other ↦ p.whole j a b (omega arith) sa sb ne ca cb
    ];
  }

-- the classes before index i of a list in order, and the lists of their groups
pub record IsListing (number class list : List ℕ) (n : ℕ) (groups : List (List ℕ)) (i : ℕ) : Type 0 where
  pub order : AreInOrder number class list n
  pub found : List Found
  pub lists : groups ≡ map (λ g. g.islands) found
  pub grouping : IsGrouping number class order.firsts found i

pub listing_begun : (number class list : List ℕ) (n : ℕ) (groups : List (List ℕ)) → AreInOrder number class list n → groups ≡ [] → IsListing number class list n groups 0
listing_begun number class list n groups o e = record { order = o; found = []; lists = e; grouping = grouping_begun number class o.firsts [] refl }

found_of : ℕ → List ℕ → Found
found_of first xs = record { first = first; islands = xs }

-- class i of the list is that of its first meeting
in_order : (number class list : List ℕ) (n i : ℕ) (o : AreInOrder number class list n) → i < length list → (i < length o.firsts) × (at list i ≡ at class (at o.firsts i))
in_order number class list n i o l =
    let len : length list ≡ length o.firsts = ap length o.list_is ∙ length-map o.firsts (λ (a : ℕ). at class a) in
    let i_in : i < length o.firsts = omega (arith, l, len) in
    (i_in, ap (λ (x : List ℕ). at x i) o.list_is ∙ get_or-map (λ (a : ℕ). at class a) o.firsts i 0 0 i_in)

pub listing_on : (number class list : List ℕ) (n : ℕ) (groups groups' : List (List ℕ)) (i k : ℕ) (xs : List ℕ) → IsListing number class list n groups i → i < length list → k ≡ at list i
    → IsMembers number class k xs → 2 ≤ length xs → groups' ≡ groups ++ xs ∷ [] → IsListing number class list n groups' (i + 1)
unfolding found_of
listing_on number class list n groups groups' i k xs p l own q two e =
    let o = in_order number class list n i p.order l in
    let g = found_of (at p.order.firsts i) xs in
    record {
      order = p.order;
      found = p.found ++ g ∷ [];
      lists = e ∙ ap (λ (x : List (List ℕ)). x ++ xs ∷ []) p.lists ∙ sym (map-append (λ (x : Found). x.islands) p.found (g ∷ []));
      grouping = grouping_on number class p.order.firsts n p.order.are p.found i p.grouping o.0 xs (subst (λ (x : ℕ). IsMembers number class x xs) (own ∙ o.1) q) g (p.found ++ g ∷ []) two refl refl refl;
    }

pub listing_off : (number class list : List ℕ) (n : ℕ) (groups groups' : List (List ℕ)) (i k : ℕ) (xs : List ℕ) → IsListing number class list n groups i → i < length list → k ≡ at list i
    → IsMembers number class k xs → length xs < 2 → groups' ≡ groups → IsListing number class list n groups' (i + 1)
listing_off number class list n groups groups' i k xs p l own q short e =
    let o = in_order number class list n i p.order l in
    record {
      order = p.order;
      found = p.found;
      lists = e ∙ p.lists;
      grouping = grouping_off number class p.order.firsts n p.order.are p.found i p.grouping o.0 xs (subst (λ (x : ℕ). IsMembers number class x xs) (own ∙ o.1) q) short;
    }

pub listing_ended : (number class list : List ℕ) (n : ℕ) (groups : List (List ℕ)) (i : ℕ) → ((a : ℕ) → 0 < at number a → a < n) → IsListing number class list n groups i → length list ≤ i
    → AreAllFound number class groups
listing_ended number class list n groups i all p past =
    let f = p.order.are in
    let firsts = p.order.firsts in
    let len : length list ≡ length firsts = ap length p.order.list_is ∙ length-map firsts (λ (a : ℕ). at class a) in
    record {
      found = p.found;
      lists = p.lists;
      each = p.grouping.each;
      rising = p.grouping.rising;
      whole = λ a b sa sb ne oa cb.
          let r = f.whole a (all a sa) sa oa in
          let k = r.1.0 in
          let e : at firsts k.0 ≡ r.0 = sym (get_or_default_zero firsts k.0 r.0 k.1) ∙ k.2 in
          let same : at class (at firsts k.0) ≡ at class a = ap (at class) e ∙ r.1.1 in
          let g = p.grouping.whole k.0 a b (omega (arith, k.1, past, len)) sa sb ne (sym same) (cb ∙ sym same) in
          (g.0, (g.1.0, ap (at class) g.1.1 ∙ same));
    }
