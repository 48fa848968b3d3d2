-- A file has one drill list.
use Rattle.std.proofs.Common.{◌≡◌, refl, ℤ, List, [], ◌∷◌, map, ◌↔◌, inl, inr, sym, ap, subst, ◌∙◌}
use Rattle.std.specs.List.{All, AllByRecursion}
use Rattle.std.specs.List.Sorted.{IsStrictlySortedBy}
use Rattle.std.specs.declared.cmp.Ordering.{Ordering}
use Rattle.std.specs.declared.cmp.Ordering.TheVariants.{Less, Greater}
use Rattle.std.specs.Ordering.{int_cmp, ordering_reverse}
use Rattle.std.specs.Cmp.{IsTotalOrder}
use Rattle.std.proofs.lemmas.Cmp.{int_cmp_total, then_total}
use Rattle.board_base.specs.declared.places.Point.{Point}
use Rattle.excellon.specs.declared.file.DrillFile.{DrillFile}
use Rattle.path_order.specs.Orders.{point_at}
use Rattle.path_order.specs.Tours.{IsImproved}
use Rattle.path_order.proofs.Unique.{one_tour}
use Rattle.drill_plan.specs.Sets.{Has, IsAscending}
use Rattle.drill_plan.specs.Entries.{by_rows, by_columns, by_ends, tools_of, places_of, slots_of}
use Rattle.drill_plan.specs.Plan.{IsTour, IsToolPlan}
use Rattle.drill_plan.specs.Laws.{OnePlan}
use Rattle.drill_plan.specs.declared.plans.ToolPlan.{ToolPlan}
use Rattle.drill_plan.proofs.SetLaws.{all_head, all_tail}

-- an order of what is made of the items is one of them
total_by : {X K : Type 0} (f : X → K) {cmp : K → K → Ordering} → IsTotalOrder cmp → IsTotalOrder (λ (a b : X). cmp (f a) (f b))
total_by f o = record { antisymm = λ x y. o.antisymm (f x) (f y); trans = λ x y z. o.trans (f x) (f y) (f z); congr = λ x y z. o.congr (f x) (f y) (f z) }

pub rows_total : IsTotalOrder by_rows
rows_total = then_total (total_by (λ (p : Point). p.y) int_cmp_total) (total_by (λ (p : Point). p.x) int_cmp_total)

pub columns_total : IsTotalOrder by_columns
columns_total = then_total (total_by (λ (p : Point). p.x) int_cmp_total) (total_by (λ (p : Point). p.y) int_cmp_total)

pub ends_total : IsTotalOrder by_ends
ends_total = then_total (total_by (λ (e : Point × Point). e.0) columns_total) (total_by (λ (e : Point × Point). e.1) columns_total)

module _ {X : Type 0} (cmp : X → X → Ordering) (total : IsTotalOrder cmp) where
  not_both : (a b : X) → cmp a b ≡ Less → cmp b a ≡ Less → ⊥
  not_both a b h k = absurd (turned (sym h ∙ total.antisymm a b ∙ ap ordering_reverse k))
    where
      turned : Less ≡ Greater → ⊥
      turned e = absurd cc

  -- an item behind the first is above it
  above : (x : X) (xs : List X) (z : X) → AllByRecursion (λ y. cmp x y ≡ Less) xs → Has xs z → cmp x z ≡ Less
  above x (y ∷ xs) z a (inl same) = subst (λ (z : X). cmp x z ≡ Less) same a.0
  above x (y ∷ xs) z a (inr h) = above x xs z a.1 h
  above x [] z a none = absurd none

  same_head : (x y : X) (xs ys : List X) → AllByRecursion (λ z. cmp x z ≡ Less) xs → AllByRecursion (λ z. cmp y z ≡ Less) ys → Has (y ∷ ys) x → Has (x ∷ xs) y → x ≡ y
  same_head x y xs ys a b (inl same) k = sym same
  same_head x y xs ys a b (inr h) (inl same) = same
  same_head x y xs ys a b (inr h) (inr k) = absurd (not_both x y (above x xs y a k) (above y ys x b h))

  -- an item of the one rest is one of the other
  behind : (x y : X) (xs ys : List X) → x ≡ y → AllByRecursion (λ z. cmp x z ≡ Less) xs → (z : X) → Has xs z → Has (y ∷ ys) z → Has ys z
  behind x y xs ys e a z h (inl same) = let self : cmp x x ≡ Less = subst (λ (w : X). cmp x w ≡ Less) (sym (e ∙ same)) (above x xs z a h) in absurd (not_both x x self self)
  behind x y xs ys e a z h (inr k) = k

  one_rising : (xs ys : List X) → IsStrictlySortedBy cmp xs → IsStrictlySortedBy cmp ys → ((z : X) → Has xs z ↔ Has ys z) → xs ≡ ys
  unfolding IsStrictlySortedBy
  one_rising [] [] r s same = refl
  one_rising [] (y ∷ ys) r s same = absurd ((same y).1 (inl refl))
  one_rising (x ∷ xs) [] r s same = absurd ((same x).0 (inl refl))
  one_rising (x ∷ xs) (y ∷ ys) r s same =
      let head : x ≡ y = same_head x y xs ys r.0 s.0 ((same x).0 (inl refl)) ((same y).1 (inl refl)) in
      let rest : xs ≡ ys = one_rising xs ys r.1 s.1 (λ z. ((λ h. behind x y xs ys head r.0 z h ((same z).0 (inr h))), (λ h. behind y x ys xs (sym head) s.0 z h ((same z).1 (inr h))))) in
      λ t. head t ∷ rest t

  pub one_ascending : (given xs ys : List X) → IsAscending cmp given xs → IsAscending cmp given ys → xs ≡ ys
  one_ascending given xs ys a b = one_rising xs ys a.rising b.rising (λ z. ((λ h. (b.same z).0 ((a.same z).1 h)), (λ h. (a.same z).0 ((b.same z).1 h))))

same_tour : (places one other : List Point) → IsTour places one → IsTour places other → one ≡ other
same_tour places one other a b =
    let sorted : a.sorted ≡ b.sorted = one_ascending by_rows rows_total places a.sorted b.sorted a.ascending b.ascending in
    let both = one_tour a.sorted a.order b.order a.sweeps b.sweeps a.improved (subst (λ (s : List Point). IsImproved s b.order b.sweeps) (sym sorted) b.improved) in
    a.points_are ∙ ap (map (point_at a.sorted)) both.0 ∙ ap (λ (s : List Point). map (point_at s) b.order) sorted ∙ sym b.points_are

module _ (file : DrillFile) (available : List ℤ) where
  same_tool : (one other : ToolPlan) → one.diameter ≡ other.diameter → IsToolPlan file available one → IsToolPlan file available other → one ≡ other
  same_tool one other e a b =
      let holes : one.holes ≡ other.holes = same_tour (places_of file available one.diameter) one.holes other.holes a.holes (subst (λ (d : ℤ). IsTour (places_of file available d) other.holes) (sym e) b.holes) in
      let slots : one.slots ≡ other.slots =
      one_ascending by_ends ends_total (slots_of file available one.diameter) one.slots other.slots a.slots (subst (λ (d : ℤ). IsAscending by_ends (slots_of file available d) other.slots) (sym e) b.slots) in
      λ t. record { diameter = e t; holes = holes t; slots = slots t }

  same_tools : (one other : List ToolPlan) → map (λ (t : ToolPlan). t.diameter) one ≡ map (λ (t : ToolPlan). t.diameter) other → All (IsToolPlan file available) one → All (IsToolPlan file available) other → one ≡ other
  same_tools [] [] e a b = refl
  same_tools [] (u ∷ other) e a b = absurd cc
  same_tools (t ∷ one) [] e a b = absurd cc
  same_tools (t ∷ one) (u ∷ other) e a b =
      let head : t.diameter ≡ u.diameter = cc in
      let tail : map (λ (t : ToolPlan). t.diameter) one ≡ map (λ (t : ToolPlan). t.diameter) other = cc in
      let first : t ≡ u = same_tool t u head (all_head (IsToolPlan file available) t one a) (all_head (IsToolPlan file available) u other b) in
      let rest : one ≡ other = same_tools one other tail (all_tail (IsToolPlan file available) t one a) (all_tail (IsToolPlan file available) u other b) in
      λ i. first i ∷ rest i

pub one_plan : OnePlan
one_plan file available one other a b =
    same_tools file available one other (one_ascending int_cmp int_cmp_total (tools_of file available) (map (λ (t : ToolPlan). t.diameter) one) (map (λ (t : ToolPlan). t.diameter) other) a.tools b.tools) a.each b.each
