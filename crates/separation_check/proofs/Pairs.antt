-- A pair of islands is listed exactly where a chain joins it.
use Rattle.std.proofs.Common.{◌≡◌, ◌≢◌, ◌↔◌, ℕ, ◌<◌, pos, true, List, [], get_or, sym, subst, ◌∙◌}
use Rattle.std.specs.List.{Contains}
use Rattle.board_base.specs.declared.places.Cell.{Cell}
use Rattle.cell_sets.specs.Groups.{AreGroups, IsListedPair, AreJoined}
use Rattle.separation_check.specs.Laws.{PairLaw}
use Rattle.cell_sets.proofs.Links.{linked_sym, linked_trans}

-- any cell
some_cell : Cell
some_cell = record { i = pos 0; j = pos 0 }

module _ (Free : Cell → Type 0) (number : Cell → ℕ) (groups : List (List ℕ)) (g : AreGroups Free number groups) where
  listed_joined : (u v : ℕ) → IsListedPair groups u v → (d : Cell) → AreJoined Free number u v
  listed_joined u v k d =
      let one = g.each k.0 d k.1.0 in
      let a = one.sound u k.1.1.0 in
      let b = one.sound v k.1.1.1 in
      (a.0, b.0, (a.1.2, b.1.2, linked_trans Free a.0 (get_or g.firsts k.0 d) b.0 (linked_sym Free (get_or g.firsts k.0 d) a.0 a.1.1) b.1.1))

  joined_listed : (u v : ℕ) → 0 < u → 0 < v → u ≢ v → AreJoined Free number u v → IsListedPair groups u v
  joined_listed u v su sv ne r =
      let a = r.0 in
      let b = r.1 in
      let ea = r.2.0 in
      let eb = r.2.1 in
      let j = r.2.2 in
      let sa : 0 < number a = subst (λ (n : ℕ). 0 < n) (sym ea) su in
      let sb : 0 < number b = subst (λ (n : ℕ). 0 < n) (sym eb) sv in
      let k = g.all a b sa sb (λ z. ne (sym ea ∙ z ∙ eb)) j in
      let one = g.each k.0 a k.1.0 in
      let link = k.1.1 a in (
        k.0,
        (
          k.1.0,
          (
            subst (Contains (get_or groups k.0 [])) ea (one.whole a sa link),
            subst (Contains (get_or groups k.0 [])) eb (one.whole b sb (linked_trans Free (get_or g.firsts k.0 a) a b link j)),
          ),
        ),
      )

-- for any free cells
pub pair_law_holds : (Free : Cell → Type 0) (number : Cell → ℕ) (groups : List (List ℕ)) → AreGroups Free number groups → (u v : ℕ) → 0 < u → 0 < v → u ≢ v
    → IsListedPair groups u v ↔ AreJoined Free number u v
pair_law_holds Free number groups g u v su sv ne = (λ k. listed_joined Free number groups g u v k some_cell, joined_listed Free number groups g u v su sv ne)

pub pair_law_of_tests : PairLaw
pair_law_of_tests free number groups = pair_law_holds (λ c. free c ≡ true) number groups
