-- The groups of the meetings are the groups of the plane.
use Rattle.std.proofs.Common.{◌≡◌, inl, inr, ℕ, zero, suc, ◌+◌, ◌<◌, ◌≤◌, Bool, true, List, [], ◌∷◌, length, map, get_or, refl, sym, ap, subst, ◌∙◌, arith}
use Rattle.std.proofs.lemmas.List.{get_or-map, length-map}
use Rattle.std.proofs.lemmas.Bool.{cases_eq}
use Rattle.std.specs.List.{Contains}
use Rattle.number_laws.proofs.Tests.{by_bool, cond_false}
use Rattle.board_base.specs.declared.places.Cell.{Cell}
use Rattle.cell_grid.specs.declared.frames.Frame.{Frame}
use Rattle.cell_grid.specs.Grid.{Grid}
use Rattle.cell_grid.specs.Place.{place_of, cell_of_place, cells_of}
use Rattle.cell_grid.specs.Cells.{in_frame}
use Rattle.cell_sets.specs.Chains.{IsBefore, IsLinked, IsClasses}
use Rattle.cell_sets.specs.Groups.{IsGroup, AreGroups}
use Rattle.cell_grid.proofs.PlaceLaws.{place_below}
use Rattle.cell_grid.proofs.CellsLaws.{in_frame_is, before}
use Rattle.separation_check.specs.Unswept.{island_of}
use Rattle.separation_check.specs.Meetings.{IsMet, IsNoted, AreMeetings}
use Rattle.separation_check.specs.Grouping.{at, AreSome, Found, IsFound, AreAllFound}
use Rattle.cell_sets.proofs.Links.{chain_start, chain_end}
use Rattle.separation_check.proofs.Rows.{before_less}
use Rattle.separation_check.proofs.Tables.{rise, island_in}

-- an entry of a list, whatever the default
record IsPicked (xs : List Found) (k : ℕ) : Type 0 where
  pub group : Found
  pub is : (d : Found) → get_or xs k d ≡ group

pick : (xs : List Found) (k : ℕ) → k < length xs → IsPicked xs k
pick [] k l = absurd (omega (arith, l))
pick (x ∷ xs) zero l = record { group = x; is = λ d. refl }
pick (x ∷ xs) (suc k) l = let p = pick xs k (omega (arith, l)) in record { group = p.group; is = p.is }

module _ (f : Frame) (free : Cell → Bool) (number class : Cell → ℕ) (islands classes : List ℕ) (n : ℕ) (p : AreMeetings f free number class islands classes n) where
  pub some_islands : AreSome islands
  some_islands a l = (p.each a (omega (arith, l, p.same_islands))).some

  pub some_classes : IsClasses free class → AreSome classes
  some_classes q a l =
      let m = p.each a (omega (arith, l, p.same_classes)) in
      omega (arith, q.some (cell_of_place f (at p.places a)) m.free_there, m.class_is)

  in_places : (a : ℕ) → 0 < at islands a → a < length p.places
  in_places a s = omega (arith, island_in islands a s, p.same_islands)

  home : ℕ → Cell
  home a = cell_of_place f (at p.places a)

  met : (a : ℕ) → 0 < at islands a → IsMet f free number class (at p.places a) (at islands a) (at classes a)
  met a s = p.each a (in_places a s)

  free_home : (a : ℕ) → free (cell_of_place f (at p.places a)) ≡ true → free (home a) ≡ true
  unfolding home
  free_home a e = e

  class_home : (a k : ℕ) → class (cell_of_place f (at p.places a)) ≡ k → class (home a) ≡ k
  unfolding home
  class_home a k e = e

  home_before : (a b : ℕ) → 0 < at islands a → 0 < at islands b → a < b → IsBefore (home a) (home b)
  unfolding home
  home_before a b sa sb less =
      let ma = met a sa in
      let mb = met b sb in
      let up = rise p.places p.ascending a b less (in_places b sb) in
      before f (home a) (home b) (in_frame_is f (home a) ma.inside) (in_frame_is f (home b) mb.inside) (omega (arith, up, ma.place_is, mb.place_is))

  -- the places of later meetings aren't earlier
  place_rises : (a b : ℕ) → a ≤ b → b < length p.places → at p.places a ≤ at p.places b
  place_rises a b l b_in =
      elim (cases_eq a b) as (λ _. at p.places a ≤ at p.places b) [
        | inl e ↦ omega (arith, ap (at p.places) e)
        | inr ne ↦ omega (arith, rise p.places p.ascending a b (omega (arith, l, ne)) b_in)
      ]

  module _ (q : IsClasses free class) (all : n ≡ cells_of f) (numbered : (c : Cell) → 0 < number c → in_frame f c ≡ true) where
    noted : (c : Cell) → 0 < number c → free c ≡ true → IsNoted f number class p.places islands classes c
    noted c s fr = let h = in_frame_is f c (numbered c s) in p.whole c h (omega (arith, place_below f c h, all)) fr s

    linked_free : (a c : Cell) → IsLinked free a c → free c ≡ true
    linked_free a c j = chain_end (λ x. free x ≡ true) a c j.steps j.chain

    one_group : (first : ℕ) (group : List ℕ) → IsFound islands classes first group → IsGroup (λ c. free c ≡ true) number (home first) group
    unfolding home
    one_group first group g =
        let m = met first g.island in
        let class_same : (c : Cell) (s : 0 < number c) (j : IsLinked free (home first) c) → at classes (noted c s (linked_free (home first) c j)).at ≡ at classes first =
        λ c s j. (noted c s (linked_free (home first) c j)).of_class ∙ sym (q.whole (home first) c j) ∙ m.class_is in
        let island_there : (c : Cell) (s : 0 < number c) (j : IsLinked free (home first) c) → 0 < at islands (noted c s (linked_free (home first) c j)).at =
        λ c s j. omega (arith, s, (noted c s (linked_free (home first) c j)).island) in
        record {
          island = omega (arith, m.number_is, g.island);
          free_there = m.free_there;
          earliest = λ c s j b.
              let r = noted c s (linked_free (home first) c j) in
              let least = g.earliest r.at (island_there c s j) (class_same c s j) in
              let up = place_rises first r.at least r.at_in in
              let less = before_less f c (home first) (in_frame_is f c (numbered c s)) (in_frame_is f (home first) m.inside) b in
              omega (arith, up, r.early, less, m.place_is);
          ascending = g.ascending;
          sound = λ u k.
              let b = g.sound u k in
              let mb = met b.0 b.1.0 in
              (home b.0, (omega (arith, mb.number_is, b.1.0), q.same (home first) (home b.0) m.free_there (m.class_is ∙ sym b.1.1 ∙ sym mb.class_is), mb.number_is ∙ b.1.2));
          whole = λ c s j.
              let r = noted c s (linked_free (home first) c j) in
              subst (Contains group) r.island (g.whole r.at (island_there c s j) (class_same c s j));
          two = g.two;
        }

    pub lifted : (groups : List (List ℕ)) → AreAllFound islands classes groups → AreGroups (λ c. free c ≡ true) number groups
    lifted groups g =
        let found = g.found in
        let cells : List Cell = map (λ (x : Found). home x.first) found in
        let len : length groups ≡ length found = ap length g.lists ∙ length-map found (λ (x : Found). x.islands) in
        let first_at : (k : ℕ) (d : Cell) (l : k < length found) → get_or (map (λ (x : Found). home x.first) found) k d ≡ home (pick found k l).group.first =
        λ k d l. let r = pick found k l in get_or-map (λ (x : Found). home x.first) found k r.group d l ∙ ap (λ (x : Found). home x.first) (r.is r.group) in
        let list_at : (k : ℕ) (l : k < length found) → get_or groups k [] ≡ (pick found k l).group.islands =
        λ k l. let r = pick found k l in ap (λ (x : List (List ℕ)). get_or x k []) g.lists ∙ get_or-map (λ (x : Found). x.islands) found k r.group [] l ∙ ap (λ (x : Found). x.islands) (r.is r.group) in
        let found_at : (k : ℕ) (l : k < length found) → IsFound islands classes (pick found k l).group.first (pick found k l).group.islands =
        λ k l. let r = pick found k l in g.each r.group (k, l, r.is r.group) in
        record {
          firsts = cells;
          same_length = length-map found (λ (x : Found). home x.first) ∙ sym len;
          each = λ k d l.
              let l' : k < length found = omega (arith, l, len) in
              let r = pick found k l' in
              subst (λ (c : Cell). IsGroup (λ x. free x ≡ true) number c (get_or groups k [])) (sym (first_at k d l'))
              (subst (IsGroup (λ x. free x ≡ true) number (home r.group.first)) (sym (list_at k l')) (one_group r.group.first r.group.islands (found_at k l')));
          order = λ k d l.
              let lk : k < length found = omega (arith, l, len) in
              let ln : k + 1 < length found = omega (arith, l, len) in
              let a = pick found k lk in
              let b = pick found (k + 1) ln in
              let less : a.group.first < b.group.first =
              subst (λ (x : Found). x.first < b.group.first) (a.is a.group) (subst (λ (x : Found). (get_or found k a.group).first < x.first) (b.is a.group) (g.rising k a.group ln)) in
              subst (λ (c : Cell). IsBefore c (get_or (map (λ (x : Found). home x.first) found) (k + 1) d)) (sym (first_at k d lk))
              (subst (IsBefore (home a.group.first)) (sym (first_at (k + 1) d ln)) (home_before a.group.first b.group.first (found_at k lk).island (found_at (k + 1) ln).island less));
          all = λ a b sa sb ne j.
              let ra = noted a sa (chain_start (λ x. free x ≡ true) a b j.steps j.chain) in
              let rb = noted b sb (linked_free a b j) in
              let ia : 0 < at islands ra.at = omega (arith, sa, ra.island) in
              let ib : 0 < at islands rb.at = omega (arith, sb, rb.island) in
              let ma = met ra.at ia in
              let ca : 0 < at classes ra.at = omega (arith, q.some (home ra.at) (free_home ra.at ma.free_there), class_home ra.at (at classes ra.at) ma.class_is) in
              let same : at classes rb.at ≡ at classes ra.at = rb.of_class ∙ sym (q.whole a b j) ∙ sym ra.of_class in
              let r = g.whole ra.at rb.at ia ib (λ z. ne (sym ra.island ∙ z ∙ rb.island)) ca same in
              let k = r.1.0 in
              let l : k.0 < length found = k.1 in
              let t = pick found k.0 l in
              let e : t.group ≡ r.0 = sym (t.is r.0) ∙ k.2 in
              let one = found_at k.0 l in
              let m = met t.group.first one.island in
              let there : class (home t.group.first) ≡ class a = class_home t.group.first (at classes t.group.first) m.class_is ∙ ap (λ (x : Found). at classes x.first) e ∙ r.1.1 ∙ ra.of_class in
              let link = q.same (home t.group.first) a (free_home t.group.first m.free_there) there in
              (k.0, (omega (arith, l, len), λ d. subst (λ (c : Cell). IsLinked free c a) (sym (first_at k.0 d l)) link));
        }

-- a cell that has an island lies in the frame
pub island_inside : (g : Grid) (c : Cell) → 0 < island_of g c → in_frame g.frame c ≡ true
island_inside g c s = by_bool (in_frame g.frame c) (λ e. e) (λ out. absurd (omega (arith, s, cond_false (in_frame g.frame c) (at g.labels (place_of g.frame c)) 0 out)))
