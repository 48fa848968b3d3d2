-- The numbers of islands have one list of groups.
use Rattle.std.proofs.Common.{◌≡◌, ◌≢◌, ℕ, ◌+◌, ◌<◌, List, [], length, get_or, sym, ap, subst, ◌∙◌, arith}
use Rattle.std.specs.List.{Contains}
use Rattle.std.proofs.lemmas.List.{get_or_default, same_lists}
use Rattle.std.proofs.lemmas.List.Elements.{Contains-get_or}
use Rattle.board_base.specs.declared.places.Cell.{Cell}
use Rattle.cell_sets.specs.Chains.{IsBefore, IsLinkedOver}
use Rattle.cell_sets.specs.Groups.{IsGroup, AreGroups}
use Rattle.cell_sets.proofs.Links.{linked_sym, linked_trans}
use Rattle.chain_walk.specs.Walk.{origin}
use Rattle.chain_walk.proofs.Chaining.{not_both}
use Rattle.chain_walk.proofs.OneRuns.{one_list, rising, before_trans}
use Rattle.one_programs.proofs.CellOrder.{one_cell}

not_less : (u v : ℕ) → u < v → v < u → ⊥
not_less u v h k = omega (arith, h, k)

less_on : (u v w : ℕ) → u < v → v < w → u < w
less_on u v w h k = omega (arith, h, k)

module _ (Free : Cell → Type 0) (number : Cell → ℕ) where
  -- each number of a group is one of the other
  among : (first : Cell) (one other : List ℕ) → IsGroup Free number first one → IsGroup Free number first other → (u : ℕ) → Contains one u → Contains other u
  among first one other a b u there = let c = a.sound u there in subst (Contains other) c.1.2 (b.whole c.0 c.1.0 c.1.1)

  -- a class has one group
  one_group : (first : Cell) (one other : List ℕ) → IsGroup Free number first one → IsGroup Free number first other → one ≡ other
  one_group first one other a b =
      one_list (λ (u v : ℕ). u < v) not_less one other (rising (λ (u v : ℕ). u < v) not_less less_on 0 one a.ascending) (rising (λ (u v : ℕ). u < v) not_less less_on 0 other b.ascending)
      (among first one other a b) (among first other one b a)

  -- the first cell of a group is among the first cells of any list of groups
  found : (first : Cell) (group : List ℕ) (groups : List (List ℕ)) → IsGroup Free number first group → (g : AreGroups Free number groups) → Contains g.firsts first
  found first group groups a g =
      let less : get_or group 0 0 < get_or group 1 0 = a.ascending 0 (omega (arith, a.two)) in
      let x = a.sound (get_or group 0 0) (Contains-get_or group 0 0 (omega (arith, a.two))) in
      let y = a.sound (get_or group 1 0) (Contains-get_or group 1 0 (omega (arith, a.two))) in
      let differ : number x.0 ≢ number y.0 = λ e. omega (arith, less, x.1.2, y.1.2, e) in
      let linked : IsLinkedOver Free x.0 y.0 = linked_trans Free x.0 first y.0 (linked_sym Free first x.0 x.1.1) y.1.1 in
      let class = g.all x.0 y.0 x.1.0 y.1.0 differ linked in
      let home : Cell = get_or g.firsts class.0 first in
      let b : IsGroup Free number home (get_or groups class.0 []) = g.each class.0 first class.1.0 in
      let there : IsLinkedOver Free home first = linked_trans Free home x.0 first (class.1.1 first) (linked_sym Free first x.0 x.1.1) in
      (class.0, (omega (arith, class.1.0, g.same_length)), one_cell home first (λ h. a.earliest home b.island (linked_sym Free home first there) h) (λ h. b.earliest first a.island there h))

  module _ (groups others : List (List ℕ)) (a : AreGroups Free number groups) (b : AreGroups Free number others) where
    each_found : (x : Cell) → Contains a.firsts x → Contains b.firsts x
    each_found x (k, l, e) =
        let inside : k < length groups = omega (arith, l, a.same_length) in
        found x (get_or groups k []) others (subst (λ (c : Cell). IsGroup Free number c (get_or groups k [])) e (a.each k x inside)) b

  in_rows : (groups : List (List ℕ)) (a : AreGroups Free number groups) (k : ℕ) → k + 1 < length a.firsts → IsBefore (get_or a.firsts k origin) (get_or a.firsts (k + 1) origin)
  in_rows groups a k l = a.order k origin (omega (arith, l, a.same_length))

  pub one_grouping : (groups others : List (List ℕ)) → AreGroups Free number groups → AreGroups Free number others → groups ≡ others
  one_grouping groups others a b =
      let firsts : a.firsts ≡ b.firsts =
      one_list IsBefore not_both a.firsts b.firsts (rising IsBefore not_both before_trans origin a.firsts (in_rows groups a)) (rising IsBefore not_both before_trans origin b.firsts (in_rows others b))
      (each_found groups others a b) (each_found others groups b a) in
      let size : length groups ≡ length others = sym a.same_length ∙ ap (λ (cells : List Cell). length cells) firsts ∙ b.same_length in
      same_lists groups others size
      (λ k d l. (let inside : k < length others = omega (arith, l, size) in
      get_or_default groups k d [] l
      ∙ one_group (get_or a.firsts k origin) (get_or groups k []) (get_or others k []) (a.each k origin l) (subst (λ (cells : List Cell). IsGroup Free number (get_or cells k origin) (get_or others k [])) (sym firsts) (b.each k origin inside))
      ∙ get_or_default others k [] d inside))
